-- What is known of a cycle of a recorded run: where it stands in the instruction set's run, and that both runs end alike.
use Rattle.std.proofs.Common.{◌≡◌, ◌≤◌, ◌<◌, ◌+◌, ◌*◌, ◌++◌, ℕ, zero, suc, Bool, true, false, List, [], ◌∷◌, length, arith, refl, ap, sym, subst, ◌∙◌}
use Rattle.std.specs.Prelude.{Option, None, Some, filter, nat_le, nat_lt, slice_get}
use Rattle.std.proofs.lemmas.Bool.Decides.{nat_tests}
use Rattle.avf_base.specs.declared.end.End.{End}
use Rattle.rv_isa.specs.Effects.{retired_at}
use Rattle.rv_isa.specs.Instruction.{State as Arch, Log, instruction}
use Rattle.rv_isa.specs.Runs.{reset, trace_at}
use Rattle.rv_isa.specs.Words.{IsWords}
use Rattle.rv_isa.specs.declared.effect.Retired.{Retired}
use Rattle.rv_isa.proofs.RunSteps.{after-next, after-stays}
use Rattle.rv_isa.proofs.WordsLaws.{law as words-law}
use Rattle.cyc_machine.specs.Facts.{IsMachine}
use Rattle.cyc_machine.specs.Run.{IsRunning, clocks_below, output_below, retired_below}
use Rattle.cyc_machine.specs.Sizes.{IsSteady}
use Rattle.cyc_machine.proofs.RunsOn.{runs-law}
use Rattle.cyc_machine.proofs.Sizes.Words.{machine-at}
use Rattle.cyc_machine.proofs.Sizes.Lasting.{machine-steady}
use Rattle.need_pass.specs.Tables.{Needs}
use Rattle.flush_view.specs.Positions.{done_below}
use Rattle.flush_view.specs.RunFacts.{RunFacts}
use Rattle.flush_view.specs.RunLaw.{EndsAfter}
use Rattle.flush_view.proofs.Run.RunCounts.{done-output}
use Rattle.flush_view.proofs.Run.RunFacts.{facts-at}
use Rattle.flush_view.proofs.Run.RunLaw.{run-ends, run-goes-on}
use Rattle.run_record.proofs.Timed.{record_timed}
use Rattle.ace_law.specs.Moments.{IsTold, Moment, executed, retired, state, trace}
use Rattle.ace_law.proofs.Alike.{count_of}

-- the clock values that the cycles from this one on give
abbrev pub later : Moment → List ℕ
later a = filter (λ clock. nat_le a.t clock) a.r.clocks

-- the log of the cycles before it
abbrev pub done : Moment → Log
done a = done_below a.r.image a.r.shape a.t

at_most : (n m : ℕ) (p : Option End) (end : End) → (n < m → p ≡ None) → p ≡ Some end → m ≤ n
at_most n m p end running ends = go (nat_lt n m) refl
  where
    go : (b : Bool) → nat_lt n m ≡ b → m ≤ n
    go true e = let none : p ≡ None = running (grind (arith, nat_tests)) in absurd cc
    go false e = grind (arith, nat_tests)

pub entry_within : (xs : List Retired) (i : ℕ) (entry : Retired) → slice_get xs i ≡ Some entry → i < length xs
entry_within [] i entry h = absurd cc
entry_within (x ∷ xs) zero entry h = omega arith
entry_within (x ∷ xs) (suc i) entry h = let l = entry_within xs i entry h in omega (arith, l)

-- what holds in any cycle, the end of the run or not
module _ (a : Moment) (table : Needs) (told : IsTold a.r a.run table) where
  -- ---- the machine's state

  pub state-cycle : (state a).cycle ≡ a.t
  state-cycle = runs-law.cycle_at a.r.image a.r.shape a.t

  pub state-image : (state a).image ≡ a.r.image
  state-image = runs-law.image_at a.r.image a.r.shape a.t

  pub state-shape : (state a).cache.shape ≡ a.r.shape
  state-shape = runs-law.shape_at a.r.image a.r.shape a.t

  pub state-machine : a.t < a.r.cycles → IsMachine (state a)
  state-machine below = let short = told.short in machine-at a.r.image a.r.shape a.t told.image told.recorded.fits (omega (arith, short))

  pub state-steady : a.t < a.r.cycles → IsSteady (state a)
  state-steady below = machine-steady (state a) (state-machine below)

  -- no end has come
  pub state-running : a.t < a.r.cycles → IsRunning a.r.image a.r.shape a.t
  state-running below k l = let last = told.recorded.cycles in told.recorded.running k (omega (arith, last))

  -- ---- the clock values

  pub clocks-split : a.t < a.r.cycles → a.r.clocks ≡ clocks_below a.r.image a.r.shape a.t ++ later a
  clocks-split below = (record_timed a.r told.recorded).split a.t (omega arith)

  -- ---- where it stands

  facts_by : (clocks : List ℕ) → a.r.clocks ≡ clocks → RunFacts (state a) (done a) (later a) (trace_at a.r.image clocks) (retired a) (executed a)
      → RunFacts (state a) (done a) (later a) (trace a) (retired a) (executed a)
  facts_by clocks e facts = subst (λ clocks. RunFacts (state a) (done a) (later a) (trace_at a.r.image clocks) (retired a) (executed a)) (sym e) facts

  pub facts : a.t < a.r.cycles → RunFacts (state a) (done a) (later a) (trace a) (retired a) (executed a)
  facts below =
      facts_by (clocks_below a.r.image a.r.shape a.t ++ later a) (clocks-split below)
      (facts-at a.r.image a.r.shape told.image told.recorded.fits a.t (state-running below) (later a))

  -- the bytes so far
  pub done-puts : (done a).output ≡ output_below a.r.image a.r.shape a.t
  done-puts = done-output a.r.image a.r.shape a.t

  pub retired-puts : a.t < a.r.cycles → (trace a (retired a)).log.output ≡ output_below a.r.image a.r.shape a.t
  retired-puts below = sym (ap (λ (log : Log). log.output) (facts below).done) ∙ done-puts

  -- the clock values that the instructions from those that have left EX on take
  pub executed-clocks : a.t < a.r.cycles → (trace a (executed a)).clocks ≡ later a
  executed-clocks below = sym (ap (λ (at : Arch). at.clocks) (facts below).position)

  -- ---- the instruction set's run

  pub trace-words : (i : ℕ) → IsWords (trace a i)
  trace-words i = words-law.runs a.r.image i (reset a.r.image a.r.clocks) told.image (words-law.reset a.r.image a.r.clocks told.image told.clocks)

  pub trace-next : (i : ℕ) → i < count_of a → trace a (suc i) ≡ instruction a.r.image (trace a i)
  trace-next i l = after-next a.r.image i (reset a.r.image a.r.clocks) (told.traced.running i l)

  pub get-entry : (i : ℕ) → i < count_of a → slice_get a.run.entries i ≡ Some (retired_at a.r.image (trace a i))
  get-entry i l = told.traced.retired i l

  pub entry-below : (i : ℕ) (entry : Retired) → slice_get a.run.entries i ≡ Some entry → i < count_of a
  entry-below i entry h = entry_within a.run.entries i entry h

  pub entry-is : (i : ℕ) (entry : Retired) → slice_get a.run.entries i ≡ Some entry → entry ≡ retired_at a.r.image (trace a i)
  entry-is i entry h = let other = get-entry i (entry-below i entry h) in cc

  -- it has ended after its instructions, and not before
  pub running-below : (i : ℕ) → (trace a i).stop ≡ None → i < count_of a
  running-below i h = go (nat_lt i (count_of a)) refl
    where
      go : (b : Bool) → nat_lt i (count_of a) ≡ b → i < count_of a
      go true e = grind (arith, nat_tests)
      go false e =
          let stays : trace a i ≡ trace a (count_of a) =
          after-stays a.r.image (count_of a) i (reset a.r.image a.r.clocks) a.run.end (grind (arith, nat_tests)) told.traced.ends in
          let stop : (trace a i).stop ≡ Some a.run.end = ap (λ (at : Arch). at.stop) stays ∙ told.traced.ends in
          absurd cc

  pub executed-within : a.t < a.r.cycles → executed a ≤ count_of a
  executed-within below =
      at_most (count_of a) (executed a) (trace a (count_of a)).stop a.run.end ((facts below).running (count_of a)) told.traced.ends

  -- ---- both runs end alike

  ends_by : (last : ℕ) → a.r.cycles ≡ suc last
      → EndsAfter a.r.image (clocks_below a.r.image a.r.shape (suc last)) (retired_below a.r.image a.r.shape (suc last))
      a.r.end (output_below a.r.image a.r.shape (suc last)) → EndsAfter a.r.image a.r.clocks a.r.instructions a.r.end a.r.output
  ends_by last e h = rw (told.recorded.clocks, told.recorded.instructions, told.recorded.output, e) h

  pub run-ends-after : EndsAfter a.r.image a.r.clocks a.r.instructions a.r.end a.r.output
  run-ends-after =
      let last = told.recorded.cycles in
      ends_by told.recorded.last (omega (arith, last)) (run-ends a.r.image a.r.shape told.image told.recorded.fits told.recorded.last a.r.end
      told.recorded.running told.recorded.ends)

  pub count-same : count_of a ≡ a.r.instructions
  count-same =
      let there =
      at_most (count_of a) a.r.instructions (trace a (count_of a)).stop a.run.end (run-ends-after.running (count_of a)) told.traced.ends in
      let here =
      at_most a.r.instructions (count_of a) (trace a a.r.instructions).stop a.r.end (told.traced.running a.r.instructions) run-ends-after.ends in
      omega (arith, there, here)

  pub end-same : a.run.end ≡ a.r.end
  end-same =
      let machine : (trace a (count_of a)).stop ≡ Some a.r.end = ap (λ i. (trace a i).stop) count-same ∙ run-ends-after.ends in
      let trace = told.traced.ends in
      cc

  pub output-same : a.run.output ≡ a.r.output
  output-same = sym told.traced.puts ∙ ap (λ i. (trace a i).log.output) count-same ∙ run-ends-after.puts

  -- an instruction ends within so many cycles
  goes_by : (clocks : List ℕ) (n : ℕ) → clocks ≡ a.r.clocks → (trace_at a.r.image clocks n).stop ≡ None → (trace a n).stop ≡ None
  goes_by clocks n e h = subst (λ clocks. (trace_at a.r.image clocks n).stop ≡ None) e h

  pub cycles-bound : a.r.cycles ≤ 256 * a.r.instructions
  cycles-bound = go (nat_lt (256 * a.r.instructions) a.r.cycles) refl
    where
      go : (b : Bool) → nat_lt (256 * a.r.instructions) a.r.cycles ≡ b → a.r.cycles ≤ 256 * a.r.instructions
      go false e = grind (arith, nat_tests)
      go true e =
          let l : 256 * a.r.instructions < a.r.cycles = grind (arith, nat_tests) in
          let last : a.r.cycles ≡ told.recorded.last + 1 = told.recorded.cycles in
          let within : told.recorded.last ≤ a.r.cycles = omega (arith, last) in
          let rest : List ℕ = filter (λ clock. nat_le told.recorded.last clock) a.r.clocks in
          let split : a.r.clocks ≡ clocks_below a.r.image a.r.shape told.recorded.last ++ rest =
          (record_timed a.r told.recorded).split told.recorded.last within in
          let goes : (trace a a.r.instructions).stop ≡ None =
          goes_by (clocks_below a.r.image a.r.shape told.recorded.last ++ rest) a.r.instructions (sym split)
          (run-goes-on a.r.image a.r.shape told.image told.recorded.fits told.recorded.last a.r.instructions told.recorded.running
          (omega (arith, last, l)) rest) in
          let ends = run-ends-after.ends in
          absurd cc
