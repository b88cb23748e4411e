use Rattle.std.proofs.Common.{ℕ, ◌==◌, ap, ◌∙◌}
use Rattle.std.specs.Prelude.{if◌then◌else◌}
use Rattle.ace_rules.specs.FetchedTests.{number_of_slot}
use Rattle.ace_rules.proofs.FetchedMarks.{wrong-set}
use Rattle.ace_rules.proofs.tally_fetched.wrong_bits.Goals as goal

pub returns : goal.returns
returns c = λ b place l at.
    let note = c.args.note.now in
    wrong-set note c.args.slot b place l at c.next_bits.result c.when-next.result c.without.result (c.next_bits.ensures b)
    (c.when-next.ensures ∙ ap (λ (n : ℕ). if n == c.from.result then c.next_bits.result else 0) c.number_of_slot.ensures
    ∙ ap (λ (n : ℕ). if number_of_slot note c.args.slot == n then c.next_bits.result else 0) c.from.ensures)
    c.without.ensures
