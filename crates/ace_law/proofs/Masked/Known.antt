-- What more is known of a moment: the instructions from the first on that hasn't left EX.
use Rattle.std.proofs.Common.{◌≡◌, ◌⊎◌, inl, inr, ℕ, ◌+◌, ◌≤◌, ◌<◌, true, false, arith, ap, subst, ◌∙◌}
use Rattle.std.specs.List.{All}
use Rattle.std.specs.Prelude.{Some, None}
use Rattle.std.proofs.lemmas.Bool.{cases_lt}
use Rattle.avf_base.specs.declared.end.End.{End}
use Rattle.elf_load.specs.Image.{LoadedImage}
use Rattle.rv_table.specs.Actions.{is_clocked}
use Rattle.rv_isa.specs.Effects.{retired_at}
use Rattle.rv_isa.specs.Instruction.{instruction, op_at}
use Rattle.rv_isa.specs.Runs.{reset as started}
use Rattle.rv_isa.proofs.RunSteps.{after-stays}
use Rattle.inst_buf.specs.Buffer.{entries}
use Rattle.cyc_machine.specs.Pipeline.{fetched}
use Rattle.need_pass.specs.Tables.{Needs}
use Rattle.flush_view.specs.RunFacts.{HoldsNext}
use Rattle.flush_view.proofs.Run.FromReset.{Kept, kept-at}
use Rattle.flush_view.proofs.Run.RunFacts.{latch-holds}
use Rattle.ace_law.specs.Moments.{IsQuiet, IsTold, Moment, executed, state, trace}
use Rattle.ace_law.proofs.Alike.{count_of}
use Rattle.ace_law.proofs.Told.{done, facts, get-entry, later, running-below, state-image, trace-next}

module _ (a : Moment) (table : Needs) (told : IsTold a.r a.run table) where
  pub step : (i : ℕ) → (trace a i).stop ≡ None → trace a (i + 1) ≡ instruction a.r.image (trace a i)
  step i h = ap (trace a) (omega arith) ∙ trace-next a table told i (running-below a table told i h)

  -- a state that has ended stands behind the last instruction
  pub behind-last : (i : ℕ) (end : End) → (trace a i).stop ≡ Some end → count_of a ≤ i
  behind-last i end h = go (cases_lt i (count_of a))
    where
      go : (i < count_of a) ⊎ (count_of a ≤ i) → count_of a ≤ i
      go (inl l) = let none = told.traced.running i l in absurd cc
      go (inr m) = m

  pub at-end : (i : ℕ) → count_of a ≤ i → trace a i ≡ trace a (count_of a)
  at-end i m = after-stays a.r.image (count_of a) i (started a.r.image a.r.clocks) a.run.end m told.traced.ends

  -- no instruction that hasn't left EX reads the cycle counter
  pub unclocked : IsQuiet a → (i : ℕ) → executed a ≤ i → (trace a i).stop ≡ None → is_clocked (op_at a.r.image (trace a i).pc) ≡ false
  unfolding retired_at
  unclocked quiet i from h = quiet i (retired_at a.r.image (trace a i)) from (get-entry a table told i (running-below a table told i h))

  module _ (below : a.t < a.r.cycles) where
    pub waiting-fetched : All (λ entry. entry ≡ fetched a.r.image entry.pc) (entries (state a).buffer)
    waiting-fetched =
        subst (λ (image : LoadedImage). All (λ entry. entry ≡ fetched image entry.pc) (entries (state a).buffer)) (state-image a table told)
        (facts a table told below).words

    -- an occupied ID/EX at the address of the first instruction that hasn't left EX holds it
    pub holds : (state a).d.valid ≡ true → (state a).d.pc ≡ (trace a (executed a)).pc → HoldsNext (state a) (trace a (executed a))
    holds v e =
        let kept : Kept (state a) = kept-at a.r.image a.r.shape told.image told.recorded.fits a.t in
        let follows = facts a table told below in
        latch-holds (state a) (trace a (executed a)) (later a) (done a) kept.sound v e follows.position
