-- The machine's count of instructions that have left EX is that of the instruction set's run, which doesn't wrap.
use Rattle.std.proofs.Common.{◌≡◌, ℕ, zero, suc, ◌+◌, ◌^◌, ◌≤◌, ◌<◌, List, [], ◌∷◌, length, length-append, arith, refl, ap, ◌∙◌}
use Rattle.std.specs.Prelude.{Option, Some, None}
use Rattle.rv_isa.specs.Instruction.{State as Arch, next_count}
use Rattle.rv_isa.specs.Runs.{after, reset as started}
use Rattle.cyc_machine.specs.Run.{cycle_if, issues, issues_after, state_after, with_one}
use Rattle.cyc_machine.specs.State.{State, reset}
use Rattle.need_pass.specs.Tables.{Needs}
use Rattle.ace_law.specs.Moments.{IsTold, Moment, executed, state, trace}
use Rattle.ace_law.proofs.Told.{facts, running-below, trace-next}
use Rattle.ace_law.proofs.Masked.Operations.{counted-next}

most_one : (xs : List ℕ) (o : Option ℕ) → length (with_one xs o) ≤ length xs + 1
most_one xs (Some x) = let more = length-append xs (x ∷ []) in omega (arith, more)
most_one xs None = omega arith

-- at most one instruction leaves EX in a cycle
issues-most : (n : ℕ) (s : State) → length (issues_after n s) ≤ n
unfolding issues_after
issues-most zero s = omega arith
issues-most (suc n) s =
    let before = issues-most n s in
    let more = most_one (issues_after n s) (cycle_if (issues (state_after n s)) (state_after n s)) in
    omega (arith, before, more)

module _ (a : Moment) (table : Needs) (told : IsTold a.r a.run table) (below : a.t < a.r.cycles) where
  count-is : (i : ℕ) → i ≤ executed a → i < 2 ^ 32 → (trace a i).count ≡ i
  unfolding after started
  count-is zero l h = refl
  count-is (suc i) l h =
      let before = count-is i (omega arith) (omega arith) in
      let running = (facts a table told below).running i (omega arith) in
      let next = trace-next a table told i (running-below a table told i running) in
      ap (λ (z : Arch). z.count) next ∙ counted-next a (trace a i) ∙ ap next_count before ∙ omega arith

  pub issued-is : (state a).issued ≡ executed a
  issued-is =
      let most : executed a ≤ a.t = issues-most a.t (reset a.r.image a.r.shape) in
      let short = told.short in
      ap (λ (z : Arch). z.count) (facts a table told below).position ∙ count-is (executed a) (omega arith) (omega arith)
