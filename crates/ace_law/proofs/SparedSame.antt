-- A strike after which the flush is alike is harmless: within the bound the run has the recorded output and end.
use Rattle.std.proofs.Common.{◌≡◌, ◌≤◌, ◌<◌, ◌+◌, ◌*◌, ◌++◌, ℕ, Bool, List, [], length, arith, refl, ap, sym, subst, ◌∙◌}
use Rattle.rv_isa.specs.Instruction.{Log}
use Rattle.cyc_machine.specs.Run.{EndsIn, output_after, output_below}
use Rattle.cyc_machine.specs.State.{State}
use Rattle.need_pass.specs.Tables.{Needs}
use Rattle.flush_view.specs.Avoids.{AvoidsAll}
use Rattle.run_record.specs.Verdict.{HasSame}
use Rattle.ace_law.specs.Moments.{IsQuiet, IsTold, Moment, executed}
use Rattle.ace_law.proofs.Alike.{count_of}
use Rattle.ace_law.proofs.Harmless.{IsHeldAlike, held-lasts}
use Rattle.ace_law.proofs.Lasting.{EndsBy, lasting, last-puts, log-puts}
use Rattle.ace_law.proofs.Spared.{IsSpared}
use Rattle.ace_law.proofs.Told.{count-same, end-same, output-same}

-- a log that restarts: the output so far, and no actions
abbrev pub fresh : List ℕ → Log
fresh output = record { output = output; actions = [] }

-- the run from a strike before cycle a.t on has the recorded output and end, so many cycles on
pub same-by : (a : Moment) (table : Needs) (last : ℕ) (u : State) → IsTold a.r a.run table
    → last < 256 * (a.r.instructions + 8) → EndsIn u last a.run.end
    → output_below a.r.image a.r.shape a.t ++ output_after last u ≡ a.run.output → HasSame a.r a.t u
same-by a table last u told within ends puts =
    let same : EndsIn u last a.r.end = subst (EndsIn u last) (end-same a table told) ends in
    record {
      cycles = a.t + last + 1;
      same = record {
        last = last;
        counted = refl;
        within = omega (arith, within);
        ends = same;
        output =
            ap (λ (xs : List ℕ). output_below a.r.image a.r.shape a.t ++ xs) (last-puts last u a.r.end same.ends) ∙ puts ∙ output-same a table told;
      };
    }

-- Behind a log of no more actions than have left EX, two actions more than the recorded run has are enough: those of the strike.
abbrev pub budget_of : Moment → ℕ
budget_of a = count_of a + 2

-- the spared state, behind a log with the output so far
pub spared-held : (a : Moment) (out : ℕ → Bool) (u : State) (log : Log) → IsSpared a out u → log.output ≡ output_below a.r.image a.r.shape a.t
    → AvoidsAll out log.actions → length log.actions ≤ executed a → IsHeldAlike a out (budget_of a) u log
spared-held a out u log spared puts avoids l = record {
  image = spared.image;
  steady = spared.steady;
  coherent = spared.coherent;
  alike = spared.alike log (budget_of a) puts avoids (omega (arith, l));
}

pub spared-same : (a : Moment) (table : Needs) (out : ℕ → Bool) (u : State) → IsTold a.r a.run table → a.t < a.r.cycles → IsQuiet a
    → IsSpared a out u → HasSame a.r a.t u
spared-same a table out u told below quiet spared =
    let log : Log = fresh (output_below a.r.image a.r.shape a.t) in
    let held : IsHeldAlike a out (budget_of a) u log = spared-held a out u log spared refl tt (omega arith) in
    let count = count-same a table told in
    let ends : EndsBy (256 * (count_of a + 3)) u log a.run.output a.run.end =
    lasting (IsHeldAlike a out (budget_of a)) (budget_of a) a.run.output a.run.end (held-lasts a table told out (budget_of a) quiet spared.alone)
    (count_of a + 3) u log held (omega arith) in
    let within = ends.within in
    same-by a table ends.last u told (omega (arith, count, within)) ends.ends (sym (log-puts ends.last u log) ∙ ends.puts)
