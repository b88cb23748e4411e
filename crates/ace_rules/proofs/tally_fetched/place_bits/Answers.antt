use Rattle.std.proofs.Common.{Bool, not, ap, ◌∙◌}
use Rattle.std.specs.Prelude.{if◌then◌else◌}
use Rattle.ace_rules.specs.declared.tally_fetched.TheConstants.{SLOT_PLACE, SLOT_VALID}
use Rattle.ace_rules.proofs.FetchedMarks.{place-set}
use Rattle.ace_rules.proofs.tally_fetched.place_bits.Goals as goal

pub returns : goal.returns
returns c = λ b place l at.
    place-set c.args.note.now c.args.slot b place l at c.when-held.result c.when-idle.result c.when.result
    (c.when-held.ensures ∙ ap (λ (b : Bool). if b then SLOT_PLACE else 0) c.is_on_path.ensures)
    (c.when-idle.ensures ∙ ap (λ (b : Bool). if not b then c.when.result else 0) c.is_waiting.ensures)
    (c.when.ensures ∙ ap (λ (b : Bool). if not b then SLOT_VALID else 0) c.is_zero_next.ensures)
