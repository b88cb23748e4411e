use Rattle.std.proofs.Common.{ℕ, ◌+◌, ◌*◌, ◌%◌, ◌^◌, ◌<◌, Bool, ap, ◌∙◌, arith}
use Rattle.std.specs.Prelude.{if◌then◌else◌}
use Rattle.ace_rules.proofs.FetchedMarks.{masked-set}
use Rattle.ace_rules.proofs.tally_fetched.masked_bits.Goals as goal

pub returns : goal.returns
returns c = λ b place l at.
    let note = c.args.note.now in
    let x = note.executed + c.number_of_slot.result in
    let small : c.word_mask.result < 2 ^ 32 = omega arith in
    masked-set note c.args.slot b place l at c.args.words.now x c.word_mask.result (c.from.result * 2 ^ 32 % 2 ^ 128) c.when.result
    (ap (λ (n : ℕ). note.executed + n) c.number_of_slot.ensures) c.word_mask.ensures small
    (ap (λ (n : ℕ). n * 2 ^ 32 % 2 ^ 128) c.from.ensures)
    (c.when.ensures ∙ ap (λ (b : Bool). if b then c.from.result * 2 ^ 32 % 2 ^ 128 else 0) c.is_on_path.ensures)
