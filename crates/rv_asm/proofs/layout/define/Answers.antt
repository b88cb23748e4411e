use Rattle.std.proofs.Common.{◌≡◌, ◌∙◌, Some, None, sym}
use Rattle.std.proofs.lemmas.Map.Text.{hash_map_updates_str}
use Rattle.rv_asm.specs.Labels.{found}
use Rattle.rv_asm.proofs.LayingOut.{added}
use Rattle.rv_asm.proofs.layout.define.Goals as goal

pub returns-in_ok-insert-in-None : goal.returns-in_ok-insert-in-None
returns-in_ok-insert-in-None c = λ q.
    let missing : found c.args.labels.now c.args.name.now ≡ None = sym c.in-None.ensures in
    hash_map_updates_str c.args.name.now c.args.labels.now c.insert.new.self (Some c.args.place) c.in_ok-insert-in-None.ensures.updates q
    ∙ added c.args.name.now q c.args.place (found c.args.labels.now) missing
