-- The machine's run of an image from reset is the instruction set's run.
use Rattle.std.proofs.Common.{◌≡◌, ℕ, zero, suc, ◌+◌, ◌-◌, ◌*◌, ◌≤◌, ◌<◌, Bool, true, false, List, [], ◌++◌, arith, refl, ap, sym, ◌∙◌, append-nil}
use Rattle.std.specs.Prelude.{Option, Some, None, ◌&&◌, if◌then◌else◌}
use Rattle.std.proofs.lemmas.Bool.Decides.{nat_tests}
use Rattle.avf_base.specs.declared.end.End.{End}
use Rattle.bit_field.specs.Shapes.{IsShape}
use Rattle.bit_field.specs.declared.shapes.Shape.{Shape}
use Rattle.elf_load.specs.Image.{LoadedImage, IsImage}
use Rattle.rv_table.specs.Effects.{byte_put}
use Rattle.rv_table.specs.declared.action.Action.{Action}
use Rattle.rv_table.specs.declared.action.Action.TheVariants.{Nothing, Writes, Loads, Stores, Puts, Exits, Traps}
use Rattle.rv_isa.specs.Instruction.{State as Arch, end_of, with_byte}
use Rattle.pipe_latch.specs.Latches.{ExecutedLatch}
use Rattle.pipe_latch.specs.LatchedActions.{action_of}
use Rattle.pipe_latch.proofs.Latches.{action_of-invalid}
use Rattle.store_buf.specs.Entry.{Entry}
use Rattle.cyc_machine.specs.Cycle.{action_in_m, cycle, end_in, retires, served_m}
use Rattle.cyc_machine.specs.Memory.{served}
use Rattle.cyc_machine.specs.Run.{IsRunning, clocks_below, output_after, output_below, retired_after, retired_below, state_after, state_at, with_one}
use Rattle.cyc_machine.specs.State.{State}
use Rattle.flush_view.specs.Flush.{fed}
use Rattle.flush_view.specs.Positions.{done_below, left_execute, left_memory}
use Rattle.rv_isa.specs.Runs.{trace_at}
use Rattle.flush_view.specs.Progress.{LeavesWithin}
use Rattle.flush_view.specs.RunLaw.{EndsAfter, RunLaw}
use Rattle.flush_view.specs.Views.{view}
use Rattle.flush_view.proofs.Run.RunCounts.{clocks-next, done-output, left-retired, retired-left}
use Rattle.flush_view.proofs.Run.FromReset.{FollowedAt, followed-at, kept-at}
use Rattle.flush_view.proofs.Run.Followed.{followed-stop}
use Rattle.flush_view.proofs.Flush.MachinePipe.{piped}
use Rattle.flush_view.proofs.Progress.ProgressLaw.{progress}
use Rattle.flush_view.proofs.Run.RunFacts.{facts-at}

-- ---- the cycle that ends the run

served-end : (image : LoadedImage) (m : Action) (es : List Entry) (read : Option ℕ) (end : End) → end_of m ≡ Some end
    → (served image m es read).goes ≡ true
unfolding served
served-end image Nothing es read end h = refl
served-end image (Writes rd value) es read end h = refl
served-end image (Loads kind rd x) es read end h = absurd cc
served-end image (Stores kind x y) es read end h = absurd cc
served-end image (Puts value) es read end h = refl
served-end image (Exits value) es read end h = refl
served-end image (Traps cause) es read end h = refl

occupied-end : (m : ExecutedLatch) (end : End) → end_of (action_of m) ≡ Some end → m.valid ≡ true
occupied-end m end h = go m.valid refl
  where
    go : (v : Bool) → m.valid ≡ v → v ≡ true
    go true e = refl
    go false e =
        let none : end_of (action_of m) ≡ None = ap end_of (action_of-invalid m e) in
        absurd cc

one-more : (v l : Bool) (r x : ℕ) → v ≡ true → l ≡ true → x ≡ r + (if v then 1 else 0) → (if v && l then r + 1 else r) ≡ x
one-more v l r x e f h = grind (arith, nat_tests)

same_put : (xs : List ℕ) (o : Option ℕ) → with_byte xs o ≡ with_one xs o
same_put xs (Some byte) = refl
same_put xs None = refl

ends-as : (image : LoadedImage) (clocks fed : List ℕ) (n x : ℕ) (end : End) (output : List ℕ) → clocks ≡ fed → n ≡ x
    → EndsAfter image fed x end output
    → EndsAfter image clocks n end output
ends-as image clocks fed n x end output e f h = rw (e, f) h

module _ (image : LoadedImage) (shape : Shape) (is : IsImage image) (fits : IsShape shape) where
  abbrev at : ℕ → State
  at t = state_at image shape t

  retired-end : (t : ℕ) (end : End) → end_in (at t) ≡ Some end → retired_below image shape (suc t) ≡ left_execute image shape t
  unfolding retired_after
  retired-end t end h =
      one-more (at t).m.valid (served_m (at t)).goes (retired_below image shape t) (left_execute image shape t) (occupied-end (at t).m end h)
      (served-end (at t).image (action_in_m (at t)) _ _ end h)
      (left-retired image shape t)

  output-end : (t : ℕ) → with_byte (done_below image shape t).output (byte_put (action_in_m (at t))) ≡ output_below image shape (suc t)
  unfolding output_after
  output-end t =
      ap (λ (xs : List ℕ). with_byte xs (byte_put (action_in_m (at t)))) (done-output image shape t)
      ∙ same_put (output_below image shape t) (byte_put (action_in_m (at t)))

  ends-after : (t : ℕ) (end : End) → end_in (at t) ≡ Some end → FollowedAt image shape is fits t (fed (at t) [])
      → EndsAfter image (clocks_below image shape t ++ fed (at t) []) (left_execute image shape t) end (output_below image shape (suc t))
  ends-after t end h f = record {
    running = f.running;
    ends = ap (λ (z : Arch). z.stop) (sym f.position) ∙ h;
    puts = ap (λ (z : Arch). z.log.output) (sym f.position) ∙ output-end t;
  }

  pub run-ends : (t : ℕ) (end : End) → IsRunning image shape t → end_in (state_at image shape t) ≡ Some end
      → EndsAfter image (clocks_below image shape (suc t)) (retired_below image shape (suc t)) end (output_below image shape (suc t))
  run-ends t end running h =
      ends-as image _ (clocks_below image shape t ++ fed (at t) []) _ (left_execute image shape t) end (output_below image shape (suc t))
      (sym (append-nil (clocks_below image shape (suc t))) ∙ clocks-next image shape t [])
      (retired-end t end h)
      (ends-after t end h (followed-at image shape is fits t running (fed (at t) [])))

  -- ---- the run goes on

  -- the trace hasn't ended before any instruction up to the one that is done next
  pub trace-running : (t : ℕ) → IsRunning image shape t → (later : List ℕ) (i : ℕ) → i ≤ left_memory image shape t
      → (trace_at image (clocks_below image shape t ++ later) i).stop ≡ None
  trace-running t running later i l =
      followed-stop (trace_at image (clocks_below image shape t ++ later)) (piped (at t)) (view (at t)) later (done_below image shape t)
      (left_memory image shape t) (left_execute image shape t)
      (followed-at image shape is fits t running later) i l

  -- the state k cycles on
  state-on : (k t u : ℕ) → u ≡ k + t → state_after k (at t) ≡ at u
  unfolding state_after
  state-on zero t u e = ap at (omega arith)
  state-on (suc k) t zero e = absurd (omega arith)
  state-on (suc k) t (suc u) e = ap cycle (state-on k t u (omega arith))

  no_fewer : (b : Bool) (n : ℕ) → n ≤ (if b then n + 1 else n)
  no_fewer true n = omega arith
  no_fewer false n = omega arith

  retired-more : (k t u : ℕ) → u ≡ k + t → retired_below image shape t ≤ retired_below image shape u
  unfolding retired_after
  retired-more zero t u e =
      let same : retired_below image shape t ≡ retired_below image shape u = ap (retired_below image shape) (omega arith) in omega (arith, same)
  retired-more (suc k) t zero e = absurd (omega arith)
  retired-more (suc k) t (suc u) e =
      let before = retired-more k t u (omega arith) in
      let one = no_fewer (retires (at u)) (retired_below image shape u) in
      omega (arith, before, one)

  retired-now : (u : ℕ) → retires (at u) ≡ true → retired_below image shape (suc u) ≡ retired_below image shape u + 1
  unfolding retired_after
  retired-now u h = rw h refl

  soon : (t u : ℕ) → u ≡ t + 256 → retired_below image shape t + 1 ≤ retired_below image shape u
  soon t u e =
      let law : LeavesWithin 256 (at t) = progress (at t) (kept-at image shape is fits t).steady in
      let there : retires (at (law.waits + t)) ≡ true = sym (ap retires (state-on law.waits t (law.waits + t) refl)) ∙ law.leaves in
      let now = retired-now (law.waits + t) there in
      let before = retired-more law.waits t (law.waits + t) refl in
      let within : law.waits < 256 = law.within in
      let after = retired-more (u - suc (law.waits + t)) (suc (law.waits + t)) u (omega arith) in
      omega (arith, now, before, after)

  -- an instruction in 256 cycles
  pub retired-enough : (n t : ℕ) → 256 * n ≤ t → n ≤ retired_below image shape t
  retired-enough zero t h = omega arith
  retired-enough (suc n) t h =
      let before = retired-enough n (t - 256) (omega arith) in
      let one = soon (t - 256) t (omega arith) in
      omega (arith, before, one)

  pub run-goes-on : (t n : ℕ) → IsRunning image shape t → 256 * n ≤ t → (later : List ℕ)
      → (trace_at image (clocks_below image shape t ++ later) n).stop ≡ None
  run-goes-on t n running h later =
      let enough = retired-enough n t h in
      let same = retired-left image shape t in
      trace-running t running later n (omega (arith, enough, same))

  -- the whole law
  pub run-law : RunLaw image shape
  run-law = record {
    facts = λ t running later. facts-at image shape is fits t running later;
    ends = run-ends;
    goes_on = run-goes-on;
  }
