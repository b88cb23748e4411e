use Rattle.std.proofs.Common.{ℕ, ◌%◌, sym, ◌∙◌, ap}
use Rattle.elf_load.specs.Image.{ram_byte}
use Rattle.rv_table.specs.Accesses.{byte_of, loaded}
use Rattle.eval_mask.specs.Aftermaths.{stored_over}
use Rattle.eval_mask.proofs.Completed.{load_by_bytes}
use Rattle.eval_mask.proofs.completing.load.Goals as goal

pub returns : goal.returns
returns c =
    let before = ram_byte c.args.arch.now.image c.args.arch.now.memory in
    c.loaded.ensures
    ∙ ap (λ (word : ℕ). loaded c.args.kind c.args.address (λ p. byte_of word (p % 4))) c.from_le_bytes-word.ensures
    ∙ load_by_bytes c.args.kind c.args.address (stored_over c.args.under.now before)
    c.byte_over.result c.byte_over-2.result c.byte_over-3.result c.byte_over-4.result
    (sym (c.byte_over.ensures before (sym c.byte.ensures)))
    (sym (c.byte_over-2.ensures before (sym c.byte-2.ensures)))
    (sym (c.byte_over-3.ensures before (sym c.byte-3.ensures)))
    (sym (c.byte_over-4.ensures before (sym c.byte-4.ensures)))
    c.byte_over.type_inv c.byte_over-2.type_inv c.byte_over-3.type_inv c.byte_over-4.type_inv
