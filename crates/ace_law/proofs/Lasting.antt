-- Runs that are bound to end: what every cycle keeps, and what bounds the actions that are done, gives the end within so many cycles.
use Rattle.std.proofs.Common.{◌≡◌, ◌≤◌, ◌<◌, ◌+◌, ◌*◌, ◌-◌, ◌++◌, ℕ, zero, suc, Bool, true, false, List, length, arith, refl, ap, sym, ◌∙◌}
use Rattle.std.proofs.Common.{append-nil}
use Rattle.std.specs.Prelude.{Option, None, Some, nat_lt, if◌then◌else◌}
use Rattle.std.proofs.lemmas.Bool.Decides.{nat_tests}
use Rattle.avf_base.specs.declared.end.End.{End}
use Rattle.rv_table.specs.Effects.{byte_put}
use Rattle.rv_table.specs.declared.action.Action.{Action}
use Rattle.rv_table.specs.declared.action.Action.TheVariants.{Nothing, Writes, Loads, Stores, Puts, Exits, Traps}
use Rattle.rv_isa.specs.Instruction.{Log, end_of, logged, with_byte}
use Rattle.cyc_machine.specs.Cycle.{action_in_m, cycle, done_in, end_in, put_in, retires}
use Rattle.cyc_machine.specs.Run.{EndsIn, RunsFor, log_after, output_after, retired_after, state_after, with_one}
use Rattle.cyc_machine.specs.Sizes.{IsSteady}
use Rattle.cyc_machine.specs.State.{State}
use Rattle.cyc_machine.proofs.RunsOn.{ends-on, log-on, retired-on}
use Rattle.cyc_machine.proofs.Sizes.Lasting.{steady-after}
use Rattle.flush_view.specs.Progress.{LeavesWithin}
use Rattle.flush_view.proofs.Flush.Counts.{flush-leaves}
use Rattle.flush_view.proofs.Progress.ProgressLaw.{progress}
use Rattle.flush_view.proofs.Run.RunCounts.{put_by}
use Rattle.run_record.proofs.Noted.{with_behind}

-- ---- the log of so many cycles

one_more : (b : Bool) (m n r : ℕ) → m ≡ n + r → m + (if b then 1 else 0) ≡ n + (if b then r + 1 else r)
one_more true m n r e = omega (arith, e)
one_more false m n r e = omega (arith, e)

pub log-counts : (n : ℕ) (s : State) (log : Log) → length (log_after n s log).actions ≡ length log.actions + retired_after n s
unfolding log_after retired_after
log-counts zero s log = omega arith
log-counts (suc n) s log =
    flush-leaves (state_after n s) (log_after n s log)
    ∙ one_more (retires (state_after n s)) (length (log_after n s log).actions) (length log.actions) (retired_after n s) (log-counts n s log)

pub log-puts : (n : ℕ) (s : State) (log : Log) → (log_after n s log).output ≡ log.output ++ output_after n s
unfolding log_after output_after
log-puts zero s log = sym (append-nil log.output)
log-puts (suc n) s log =
    ap (λ (xs : List ℕ). with_byte xs (byte_put (done_in (state_after n s)))) (log-puts n s log)
    ∙ put_by (state_after n s).image (action_in_m (state_after n s)) _ _ (log.output ++ output_after n s)
    ∙ with_behind log.output (output_after n s) (put_in (state_after n s))

-- an ending cycle puts nothing
no_byte : (m : Action) (end : End) → end_of m ≡ Some end → byte_put m ≡ None
no_byte Nothing end h = refl
no_byte (Writes rd value) end h = refl
no_byte (Loads kind rd x) end h = refl
no_byte (Stores kind x y) end h = refl
no_byte (Puts value) end h = absurd cc
no_byte (Exits value) end h = refl
no_byte (Traps cause) end h = refl

pub last-puts : (last : ℕ) (s : State) (end : End) → end_in (state_after last s) ≡ Some end → output_after (last + 1) s ≡ output_after last s
unfolding output_after
last-puts last s end h =
    let n : last + 1 ≡ suc last = omega arith in
    ap (λ k. output_after k s) n ∙ ap (with_one (output_after last s)) (no_byte (action_in_m (state_after last s)) end h)

-- ---- how many instructions are done with in so many cycles

pub retired-one : (waits : ℕ) (s : State) → retires (state_after waits s) ≡ true → 1 ≤ retired_after (suc waits) s
unfolding retired_after
retired-one waits s h = rw h (omega arith)

pub retired-enough : (n k : ℕ) (s : State) → IsSteady s → 256 * n ≤ k → n ≤ retired_after k s
retired-enough zero k s is l = omega arith
retired-enough (suc n) k s is l =
    let soon : LeavesWithin 256 s = progress s is in
    let within : soon.waits < 256 = soon.within in
    let left : ℕ = k - suc soon.waits in
    let sum : left + suc soon.waits ≡ k = omega (arith, l, within) in
    let one = retired-one soon.waits s soon.leaves in
    let rest = retired-enough n left (state_after (suc soon.waits) s) (steady-after (suc soon.waits) s is) (omega (arith, l, within)) in
    let parts = retired-on left (suc soon.waits) s in
    let whole : retired_after (left + suc soon.waits) s ≡ retired_after k s = ap (λ j. retired_after j s) sum in
    omega (arith, one, rest, parts, whole)

-- ---- an invariant with a budget of actions

pub record Lasting (I : State → Log → Type 0) (budget : ℕ) (output : List ℕ) (end : End) : Type 0 where
  pub steady : (s : State) (log : Log) → I s log → IsSteady s
  pub bounded : (s : State) (log : Log) → I s log → length log.actions ≤ budget
  pub ends : (s : State) (log : Log) (last : End) → I s log → end_in s ≡ Some last → (end_in s ≡ Some end) × (log.output ≡ output)
  pub next : (s : State) (log : Log) → I s log → end_in s ≡ None → I (cycle s) (logged log (done_in s))

-- the run from s ends so in one of its first n cycles
pub record EndsBy (n : ℕ) (s : State) (log : Log) (output : List ℕ) (end : End) : Type 0 where
  pub last : ℕ
  pub within : last < n
  pub ends : EndsIn s last end
  pub puts : (log_after last s log).output ≡ output

runs-more : (k : ℕ) (s : State) → RunsFor k s → end_in (state_after k s) ≡ None → RunsFor (suc k) s
runs-more k s running h i l = go (nat_lt i k) refl
  where
    go : (b : Bool) → nat_lt i k ≡ b → end_in (state_after i s) ≡ None
    go true e = running i (grind (arith, nat_tests))
    go false e =
        let m : k ≤ i = grind (arith, nat_tests) in
        let same : i ≡ k = omega (arith, l, m) in
        ap (λ j. end_in (state_after j s)) same ∙ h

module _ (I : State → Log → Type 0) (budget : ℕ) (output : List ℕ) (end : End) (lasts : Lasting I budget output end) where
  held-after : (k : ℕ) (s : State) (log : Log) → I s log → RunsFor k s → I (state_after k s) (log_after k s log)
  unfolding state_after log_after
  held-after zero s log h running = h
  held-after (suc k) s log h running =
      lasts.next (state_after k s) (log_after k s log) (held-after k s log h (λ i l. running i (omega (arith, l)))) (running k (omega arith))

  -- EX/MEM is left; the run ends there, or it goes on with one action more
  left-once : (left : ℕ) (s : State) (log : Log) → I s log → budget < suc left + length log.actions → LeavesWithin 256 s
      → ((u : State) (later : Log) → I u later → budget < left + length later.actions → EndsBy (256 * left) u later output end)
      → EndsBy (256 * suc left) s log output end
  left-once left s log h b soon more = go (end_in (state_after soon.waits s)) refl
    where
      held : I (state_after soon.waits s) (log_after soon.waits s log)
      held = held-after soon.waits s log h soon.running

      go : (o : Option End) → end_in (state_after soon.waits s) ≡ o → EndsBy (256 * suc left) s log output end
      go (Some f) e =
          let last = lasts.ends (state_after soon.waits s) (log_after soon.waits s log) f held e in
          record {
            last = soon.waits;
            within = let within = soon.within in omega (arith, within);
            ends = record { running = soon.running; ends = last.0 };
            puts = last.1;
          }
      go None e =
          let next : ℕ = suc soon.waits in
          let running : RunsFor next s = runs-more soon.waits s soon.running e in
          let counts = log-counts next s log in
          let one = retired-one soon.waits s soon.leaves in
          let rest : EndsBy (256 * left) (state_after next s) (log_after next s log) output end =
          more (state_after next s) (log_after next s log) (held-after next s log h running) (omega (arith, b, counts, one)) in
          record {
            last = rest.last + next;
            within = let within = soon.within in let after = rest.within in omega (arith, within, after);
            ends = ends-on rest.last next s end running rest.ends;
            puts = ap (λ (l : Log). l.output) (log-on rest.last next s log) ∙ rest.puts;
          }

  pub lasting : (left : ℕ) (s : State) (log : Log) → I s log → budget < left + length log.actions → EndsBy (256 * left) s log output end
  lasting zero s log h b = let most = lasts.bounded s log h in absurd (omega (arith, b, most))
  lasting (suc left) s log h b = left-once left s log h b (progress s (lasts.steady s log h)) (lasting left)
