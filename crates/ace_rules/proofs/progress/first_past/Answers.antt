use Rattle.std.proofs.Common.{◌≡◌, ◌≤◌, ◌<◌, ℕ, true, false, leb, length, get_or, arith, rules, subst}
use Rattle.std.proofs.lemmas.Bool.Decides.{nat_tests}
use Rattle.std.proofs.lemmas.List.Sorted.{IsPartitionPoint-from_clause, IsPartitionedBy-leb}
use Rattle.ace_rules.specs.Asked.{retired_by}
use Rattle.ace_rules.specs.declared.note.Note.{Note}
use Rattle.ace_rules.proofs.KeptFacts.{note-at}
use Rattle.ace_rules.proofs.LineDataClass.{get-within}
use Rattle.ace_rules.proofs.progress.first_past.Goals as goal

passes : (n m : ℕ) → leb n m ≡ true → n ≤ m
passes n m h = grind (arith, nat_tests)

fails : (n m : ℕ) → leb n m ≡ false → m < n
fails n m h = grind (arith, nat_tests)

pub returns-clause-before : goal.returns-clause-before
returns-clause-before c t note below get =
    let point = IsPartitionPoint-from_clause (λ x. leb (retired_by x) c.args.instruction) c.args.notes.now _ c.partition_point.ensures.partitioned
    (IsPartitionedBy-leb retired_by c.args.notes.now c.args.instruction c.requires.rising) (λ a r q k. search rules) in
    let there = note-at c.args.notes.now t note (omega (arith, below, c.partition_point.ensures.bound)) in
    let same : get_or c.args.notes.now t note ≡ note = cc in
    subst (λ (note : Note). retired_by note ≤ c.args.instruction) same
    (passes (retired_by (get_or c.args.notes.now t note)) c.args.instruction (point.0 t note (omega arith) below))

pub returns-clause-past : goal.returns-clause-past
returns-clause-past c note get =
    let point = IsPartitionPoint-from_clause (λ x. leb (retired_by x) c.args.instruction) c.args.notes.now _ c.partition_point.ensures.partitioned
    (IsPartitionedBy-leb retired_by c.args.notes.now c.args.instruction c.requires.rising) (λ a r q k. search rules) in
    let within : c.partition_point.result < length c.args.notes.now = get-within c.args.notes.now c.partition_point.result note get in
    let there = note-at c.args.notes.now c.partition_point.result note within in
    let same : get_or c.args.notes.now c.partition_point.result note ≡ note = cc in
    subst (λ (note : Note). c.args.instruction < retired_by note) same
    (fails (retired_by (get_or c.args.notes.now c.partition_point.result note)) c.args.instruction
    (point.1 c.partition_point.result note (omega arith) within))
