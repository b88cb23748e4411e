-- Cycles that are seen alike do the same.
use Rattle.std.proofs.Common.{ℕ, zero, suc, ◌+◌, refl, sym, ◌∙◌, ap, arith}
use Rattle.std.specs.Prelude.{List, if◌then◌else◌}
use Rattle.avf_base.specs.declared.end.End.{End}
use Rattle.rv_isa.specs.Instruction.{Log, logged}
use Rattle.cyc_machine.specs.Cycle.{done_in, event_in, put_in, retires}
use Rattle.cyc_machine.specs.Run.{EndsIn, events_after, log_after, output_after, retired_after, state_after, with_one}
use Rattle.cyc_machine.specs.State.{State}
use Rattle.clean_lines.specs.CleanCycle.{SameCycle}
use Rattle.clean_lines.specs.CleanLaw.{DoesAlike}
use Rattle.clean_lines.specs.CleanRun.{SameCycles}

pub does-alike : (n : ℕ) (s u : State) → SameCycles n s u → DoesAlike n s u
unfolding output_after events_after retired_after log_after
does-alike zero s u h = record { output = refl; events = refl; retired = refl; log = λ log. refl; running = λ r i l. absurd (omega arith) }
does-alike (suc n) s u h =
    let before : DoesAlike n s u = does-alike n s u (λ i l. h i (omega arith)) in
    let here : SameCycle (state_after n s) (state_after n u) = h n (omega arith) in
    record {
      output = ap (λ o. with_one (output_after n u) o) (sym here.report.put) ∙ ap (λ (xs : List ℕ). with_one xs (put_in (state_after n s))) before.output;
      events = ap (λ o. with_one (events_after n u) o) (sym here.report.event) ∙ ap (λ xs. with_one xs (event_in (state_after n s))) before.events;
      retired =
          ap (λ b. if b then retired_after n u + 1 else retired_after n u) (sym here.report.retired)
          ∙ ap (λ m. if retires (state_after n s) then m + 1 else m) before.retired;
      log = λ log. ap (λ a. logged (log_after n u log) a) (sym here.done) ∙ ap (λ (g : Log). logged g (done_in (state_after n s))) (before.log log);
      running = λ r i l. sym (h i l).report.end ∙ r i l;
    }

pub ends-alike : (n : ℕ) (s u : State) (end : End) → SameCycles (suc n) s u → EndsIn s n end → EndsIn u n end
ends-alike n s u end h is = record {
  running = λ i l. sym (h i (omega arith)).report.end ∙ is.running i l;
  ends = sym (h n (omega arith)).report.end ∙ is.ends;
}
