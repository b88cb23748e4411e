use Rattle.std.proofs.Common.{Bool, not, ap, ◌∙◌}
use Rattle.std.specs.Prelude.{if◌then◌else◌}
use Rattle.ace_rules.specs.declared.tally_fetched.TheConstants.{SLOT_UNUSED}
use Rattle.ace_rules.proofs.FetchedMarks.{fetched-marked}
use Rattle.ace_rules.proofs.tally_fetched.slot_masks.Goals as goal

pub returns : goal.returns
returns c = λ b place l at.
    fetched-marked c.args.note.now c.args.slot b place l at c.args.words.now c.args.quiet c.when-empty.result c.when.result c.when-off_path.result
    c.wrong_bits.result c.when-2.result c.place_bits.result c.when-3.result c.masked_bits.result
    (c.when-empty.ensures ∙ ap (λ (b : Bool). if not b then SLOT_UNUSED else 0) c.is_waiting.ensures) c.when.ensures
    (c.when-off_path.ensures ∙ ap (λ (b : Bool). if b then c.wrong_bits.result else 0) c.is_off_path.ensures) (c.wrong_bits.ensures b place l at)
    c.when-2.ensures (c.place_bits.ensures b place l at) c.when-3.ensures (c.masked_bits.ensures b place l at)
