-- A run that does for some cycles as the recorded one, and is then spared: the bound counts from the strike.
use Rattle.std.proofs.Common.{◌≡◌, ◌≤◌, ◌<◌, ◌+◌, ◌*◌, ◌-◌, ◌++◌, ℕ, Bool, true, false, List, [], ◌∷◌, length, arith, refl, ap, sym, subst}
use Rattle.std.proofs.Common.{◌∙◌}
use Rattle.std.specs.Prelude.{Option, None, Some, nat_lt}
use Rattle.std.proofs.lemmas.Bool.Decides.{nat_tests}
use Rattle.rv_table.specs.declared.action.Action.{Action}
use Rattle.rv_isa.specs.Accesses.{address_of}
use Rattle.rv_isa.specs.Instruction.{Log}
use Rattle.cyc_machine.specs.Run.{RunsFor, log_after, output_after, output_below, retired_after, retired_below, state_after}
use Rattle.cyc_machine.specs.Sizes.{IsSteady}
use Rattle.cyc_machine.specs.State.{State, reset}
use Rattle.cyc_machine.proofs.RunsOn.{ends-on, log-on, output-on, retired-on}
use Rattle.need_pass.specs.Tables.{Needs}
use Rattle.flush_view.specs.Avoids.{AvoidsAll, IsOutside}
use Rattle.flush_view.specs.RunFacts.{no_line}
use Rattle.flush_view.proofs.Run.RunCounts.{retired-left}
use Rattle.run_record.specs.Verdict.{HasSame}
use Rattle.ace_law.specs.Moments.{IsQuiet, IsTold, Moment, executed, moved, state}
use Rattle.ace_law.proofs.Alike.{count_of}
use Rattle.ace_law.proofs.Harmless.{IsHeldAlike, held-lasts}
use Rattle.ace_law.proofs.Lasting.{EndsBy, lasting, log-counts, log-puts, retired-enough}
use Rattle.ace_law.proofs.Spared.{IsSpared}
use Rattle.ace_law.proofs.SparedSame.{budget_of, fresh, same-by, spared-held}
use Rattle.ace_law.proofs.Told.{count-same, executed-within}

avoids-none : (actions : List Action) → AvoidsAll no_line actions
avoids-none [] = tt
avoids-none (done ∷ actions) = (go (address_of done), avoids-none actions)
  where
    go : (o : Option ℕ) → IsOutside no_line o
    go None = tt
    go (Some x) = refl

-- ---- the recorded run, k cycles on

output-moved : (a : Moment) (k : ℕ) → output_below a.r.image a.r.shape a.t ++ output_after k (state a) ≡ output_below a.r.image a.r.shape (a.t + k)
output-moved a k =
    let n : k + a.t ≡ a.t + k = omega arith in
    sym (output-on k a.t (reset a.r.image a.r.shape)) ∙ ap (output_below a.r.image a.r.shape) n

retired-moved : (a : Moment) (k : ℕ) → retired_after k (state a) ≤ executed (moved a (a.t + k))
retired-moved a k =
    let n : k + a.t ≡ a.t + k = omega arith in
    let parts = retired-on k a.t (reset a.r.image a.r.shape) in
    let whole : retired_below a.r.image a.r.shape (k + a.t) ≡ retired_below a.r.image a.r.shape (a.t + k) =
    ap (retired_below a.r.image a.r.shape) n in
    let left = retired-left a.r.image a.r.shape (a.t + k) in
    omega (arith, parts, whole, left)

-- ---- the run from the strike

-- not many more cycles than instructions that were done
few-cycles : (k : ℕ) (s : State) → IsSteady s → k < 256 * (retired_after k s + 1)
few-cycles k s is = go (nat_lt k (256 * (retired_after k s + 1))) refl
  where
    go : (b : Bool) → nat_lt k (256 * (retired_after k s + 1)) ≡ b → k < 256 * (retired_after k s + 1)
    go true e = grind (arith, nat_tests)
    go false e =
        let l : 256 * (retired_after k s + 1) ≤ k = grind (arith, nat_tests) in
        let enough = retired-enough (retired_after k s + 1) k s is l in
        absurd (omega (arith, enough))

-- what both parts of the run put
both-put : (last k : ℕ) (from : State) (start : Log) (output : List ℕ)
    → (log_after last (state_after k from) (log_after k from start)).output ≡ output
    → start.output ++ output_after (last + k) from ≡ output
both-put last k from start output e =
    sym (log-puts (last + k) from start) ∙ ap (λ (l : Log). l.output) (log-on last k from start) ∙ e

-- the log of the cycles since the strike
abbrev log_since : Moment → ℕ → State → Log
log_since a k from = log_after k from (fresh (output_below a.r.image a.r.shape a.t))

since-puts : (a : Moment) (k : ℕ) (log : Log) → log ≡ log_since a k (state a) → log.output ≡ output_below a.r.image a.r.shape (a.t + k)
since-puts a k log e =
    ap (λ (l : Log). l.output) e ∙ log-puts k (state a) (fresh (output_below a.r.image a.r.shape a.t)) ∙ output-moved a k

since-few : (a : Moment) (k : ℕ) (log : Log) → log ≡ log_since a k (state a) → length log.actions ≤ executed (moved a (a.t + k))
since-few a k log e =
    let counted = log-counts k (state a) (fresh (output_below a.r.image a.r.shape a.t)) in
    let most = retired-moved a k in
    subst (λ (l : Log). length l.actions ≤ executed (moved a (a.t + k))) (sym e) (omega (arith, counted, most))

-- from the later cycle on, whatever the log says
ends-later : (b : Moment) (table : Needs) (u : State) (log : Log) (left : ℕ) → IsTold b.r b.run table → IsQuiet b → IsSpared b no_line u
    → log.output ≡ output_below b.r.image b.r.shape b.t → length log.actions ≤ executed b → left + length log.actions ≡ count_of b + 3
    → EndsBy (256 * left) u log b.run.output b.run.end
ends-later b table u log left told quiet spared puts few sum =
    lasting (IsHeldAlike b no_line (budget_of b)) (budget_of b) b.run.output b.run.end
    (held-lasts b table told no_line (budget_of b) quiet spared.alone) left u
    log (spared-held b no_line u log spared puts (avoids-none log.actions) few) (omega (arith, sum))

pub later-spared : (a : Moment) (table : Needs) (k : ℕ) (from : State) → IsTold a.r a.run table → a.t + k < a.r.cycles → IsQuiet (moved a (a.t + k))
    → IsSteady from → RunsFor k from → ((log : Log) → log_after k from log ≡ log_after k (state a) log)
    → IsSpared (moved a (a.t + k)) no_line (state_after k from) → HasSame a.r a.t from
later-spared a table k from told below quiet steady running logs spared =
    let same = logs (fresh (output_below a.r.image a.r.shape a.t)) in
    let counts = log-counts k from (fresh (output_below a.r.image a.r.shape a.t)) in
    let cycles = few-cycles k from steady in
    let few = since-few a k (log_since a k from) same in
    let within = executed-within (moved a (a.t + k)) table told below in
    let left : ℕ = count_of a + 3 - length (log_since a k from).actions in
    let sum : left + length (log_since a k from).actions ≡ count_of a + 3 = omega (arith, few, within) in
    let ends =
    ends-later (moved a (a.t + k)) table (state_after k from) (log_since a k from) left told quiet spared
    (since-puts a k (log_since a k from) same) few
    sum in
    let soon = ends.within in
    let count = count-same a table told in
    same-by a table (ends.last + k) from told (omega (arith, soon, sum, counts, cycles, count)) (ends-on ends.last k from a.run.end running ends.ends)
    (both-put ends.last k from (fresh (output_below a.r.image a.r.shape a.t)) a.run.output ends.puts)
