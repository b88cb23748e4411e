use Rattle.std.proofs.Common.{◌≡◌, ◌/◌, true, ap, sym, ◌∙◌}
use Rattle.elf_load.specs.Image.{word_in_ram, ram_byte}
use Rattle.rv_isa.proofs.Memory.{given_load}
use Rattle.rv_isa.proofs.arch.Arch.given.Goals as goal

pub returns-in-Loads : goal.returns-in-Loads
returns-in-Loads c =
    let image = c.args.self.now.image in
    let memory = ram_byte image c.args.self.now.memory in
    let seen = ap (λ arch. word_in_ram arch.image (c.in-Loads.address / 4)) c.self.view_is in
    let there : word_in_ram image (c.in-Loads.address / 4) ≡ true = sym seen ∙ sym c.word_in_ram.ensures ∙ c.if-word_in_ram.true in
    rw c.in-Loads.is
    (c.loaded.ensures
    ∙ given_load image c.in-Loads.kind c.in-Loads.rd c.in-Loads.address c.word.result memory there c.word.ensures.word c.word.ensures.bytes)
