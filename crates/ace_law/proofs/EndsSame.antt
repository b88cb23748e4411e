-- Strikes after which the run ends in the same cycle as the recorded one.
use Rattle.std.proofs.Common.{◌≡◌, ◌<◌, ◌+◌, ◌-◌, ◌++◌, ℕ, zero, suc, List, arith, refl, ap, sym, subst, ◌∙◌}
use Rattle.std.specs.Prelude.{Option}
use Rattle.avf_base.specs.declared.end.End.{End}
use Rattle.cyc_machine.specs.Cycle.{put_in}
use Rattle.cyc_machine.specs.Reports.{SameReport}
use Rattle.cyc_machine.specs.Run.{EndsIn, output_after, output_below, state_after, with_one}
use Rattle.cyc_machine.specs.State.{State, reset}
use Rattle.cyc_machine.proofs.RunsOn.{ended-on, output-on}
use Rattle.need_pass.specs.Tables.{Needs}
use Rattle.run_record.specs.Verdict.{HasSame}
use Rattle.ace_law.specs.Moments.{IsTold, Moment, state}
use Rattle.ace_law.proofs.Told.{cycles-bound}

-- a run that ends as the recorded one after as many cycles
pub ends-same : (a : Moment) (table : Needs) (k : ℕ) (u : State) → IsTold a.r a.run table → a.r.cycles ≡ suc (a.t + k) → EndsIn u k a.r.end
    → output_below a.r.image a.r.shape a.t ++ output_after (suc k) u ≡ a.r.output → HasSame a.r a.t u
ends-same a table k u told last ends output =
    let bound = cycles-bound a table told in
    let n : k + 1 ≡ suc k = omega arith in
    record {
      cycles = a.t + k + 1;
      same = record {
        last = k;
        counted = refl;
        within = omega (arith, bound, last);
        ends = ends;
        output = ap (λ i. output_below a.r.image a.r.shape a.t ++ output_after i u) n ∙ output;
      };
    }

-- ---- the same reports

module _ (s u : State) (same : (i : ℕ) → SameReport (state_after i s) (state_after i u)) where
  output-same : (n : ℕ) → output_after n u ≡ output_after n s
  unfolding output_after
  output-same zero = refl
  output-same (suc n) =
      ap (λ (xs : List ℕ). with_one xs (put_in (state_after n u))) (output-same n)
      ∙ ap (λ (o : Option ℕ). with_one (output_after n s) o) (sym (same n).put)

  ends-alike : (k : ℕ) (end : End) → EndsIn s k end → EndsIn u k end
  ends-alike k end ends = record { running = λ i l. sym (same i).end ∙ ends.running i l; ends = sym (same k).end ∙ ends.ends }

-- a run whose every cycle is reported as the recorded one
pub reports-same : (a : Moment) (table : Needs) (u : State) → IsTold a.r a.run table → a.t < a.r.cycles
    → ((i : ℕ) → SameReport (state_after i (state a)) (state_after i u)) → HasSame a.r a.t u
reports-same a table u told below same =
    let cycles = told.recorded.cycles in
    let k : ℕ = told.recorded.last - a.t in
    let sum : k + a.t ≡ told.recorded.last = omega (arith, cycles, below) in
    let last : a.r.cycles ≡ suc (a.t + k) = omega (arith, cycles, sum) in
    let whole : suc k + a.t ≡ a.r.cycles = omega (arith, cycles, sum) in
    let recorded : EndsIn (reset a.r.image a.r.shape) told.recorded.last a.r.end =
    record { running = told.recorded.running; ends = told.recorded.ends } in
    let ends : EndsIn (state a) k a.r.end =
    ended-on k a.t (reset a.r.image a.r.shape) a.r.end (subst (λ n. EndsIn (reset a.r.image a.r.shape) n a.r.end) (sym sum) recorded) in
    ends-same a table k u told last (ends-alike (state a) u same k a.r.end ends)
    (ap (λ (xs : List ℕ). output_below a.r.image a.r.shape a.t ++ xs) (output-same (state a) u same (suc k))
    ∙ sym (output-on (suc k) a.t (reset a.r.image a.r.shape))
    ∙ ap (output_below a.r.image a.r.shape) whole
    ∙ sym told.recorded.output)
