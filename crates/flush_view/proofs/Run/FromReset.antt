-- The facts of each state of a run from reset: it follows the instruction set's run.
use Rattle.std.proofs.Common.{◌≡◌, inl, ℕ, zero, suc, List, [], ◌++◌, arith, refl, ap, sym, subst}
use Rattle.std.specs.Prelude.{None, if◌then◌else◌}
use Rattle.std.proofs.Math.Path.{fun_ext}
use Rattle.std.proofs.lemmas.List.Elements.{All-nil}
use Rattle.bit_field.specs.Shapes.{IsShape}
use Rattle.bit_field.specs.declared.shapes.Shape.{Shape}
use Rattle.elf_load.specs.Image.{LoadedImage, IsImage, ram_byte}
use Rattle.rv_table.specs.declared.action.Action.TheVariants.{Nothing}
use Rattle.rv_isa.specs.Instruction.{State as Arch, Log, logged}
use Rattle.rv_isa.specs.Runs.{after, reset as started, trace_at}
use Rattle.rv_isa.proofs.RunSteps.{after-next}
use Rattle.pipe_latch.proofs.Latches.{action_of-no_executed}
use Rattle.inst_buf.specs.Buffer.{entries, packed}
use Rattle.cyc_machine.specs.Cycle.{cycle, cycled, end_in, fate, served_m, done_in}
use Rattle.cyc_machine.specs.Pipeline.{fetched, register}
use Rattle.cyc_machine.specs.Run.{IsRunning, clocks_after, clocks_below, issues_after, log_after, state_after, state_at}
use Rattle.cyc_machine.specs.State.{State, reset}
use Rattle.flush_view.specs.Coherence.{IsCoherent}
use Rattle.flush_view.specs.Flush.{fed}
use Rattle.flush_view.specs.MemoryLaw.{MemoryLaw}
use Rattle.flush_view.specs.Positions.{done_below, left_execute, left_memory}
use Rattle.flush_view.specs.RunFacts.{no_line}
use Rattle.flush_view.specs.Views.{view}
use Rattle.flush_view.proofs.Run.RunCounts.{clocks-next, image-kept, left-next, memory-next}
use Rattle.flush_view.proofs.Run.Followed.{Followed, Steps, count_after, followed-next}
use Rattle.flush_view.proofs.Memory.MemoryLaw.{memory-law}
use Rattle.flush_view.proofs.Flush.MachinePipe.{piped, piped-next, waiting-after}
use Rattle.flush_view.proofs.Flush.Pipes.{Pipe}
use Rattle.flush_view.proofs.Run.Reset.{coherent-reset, registers-reset, view-reset}
use Rattle.flush_view.proofs.Run.Sound.{Sound, empty-sound, sound-next}
use Rattle.cyc_machine.proofs.Sizes.Lasting.{steady-next, steady-reset}
use Rattle.cyc_machine.specs.Sizes.{IsSteady}

-- ---- what every cycle keeps, the end of the run or not

pub record Kept (s : State) : Type 0 where
  pub steady : IsSteady s
  pub sound : Sound (piped s)
  pub in_order : s.buffer ≡ packed (entries s.buffer)
  pub coherent : IsCoherent no_line s

sound-after : (s : State) → IsSteady s → Sound (piped s) → Sound (piped (cycle s))
sound-after s is h = subst Sound (sym (piped-next s is)) (sound-next (fate s) (served_m s).goes (served_m s).value (cycle s).pc (piped s) h)

order-after : (s : State) → (cycle s).buffer ≡ packed (entries (cycle s).buffer)
unfolding cycled
order-after s = ap packed (sym (waiting-after s.image (fate s) s.pc s.buffer))

pub kept-next : (s : State) → Kept s → Kept (cycle s)
kept-next s k =
    let law : MemoryLaw s (cycle s) = memory-law s k.steady in
    record {
      steady = steady-next s k.steady;
      sound = sound-after s k.steady k.sound;
      in_order = order-after s;
      coherent = law.coherent no_line k.coherent;
    }

sound-reset : (image : LoadedImage) (shape : Shape) → Sound (piped (reset image shape))
unfolding reset
sound-reset image shape = record { waiting = All-nil (λ entry. entry ≡ fetched image entry.pc); latch = empty-sound image _ _ _ _ refl }

order-reset : (image : LoadedImage) (shape : Shape) → (reset image shape).buffer ≡ packed (entries (reset image shape).buffer)
unfolding reset
order-reset image shape = refl

-- ---- one cycle

-- the run goes on, and nothing has ended it
pub followed-cycle : (trace : ℕ → Arch) (s : State) (later : List ℕ) (log : Log) (e x : ℕ) → Steps s.image trace → Kept s → end_in s ≡ None
    → Followed trace (piped s) (view s) (fed s later) log e x
    → Followed trace (piped (cycle s)) (view (cycle s)) later (logged log (done_in s)) (if (served_m s).goes then x else e) (count_after (fate s) x)
followed-cycle trace s later log e x steps k h f =
    let law : MemoryLaw s (cycle s) = memory-law s k.steady in
    subst (λ (p : Pipe). Followed trace p (view (cycle s)) later (logged log (done_in s)) (if (served_m s).goes then x else e) (count_after (fate s) x))
    (sym (piped-next s k.steady))
    (followed-next trace (piped s) (view s) later log e x (served_m s).goes (served_m s).value (cycle s).pc (view (cycle s)) steps k.sound law.value
    (fun_ext (λ p. law.seen no_line k.coherent p refl)) h f)

-- ---- reset

latched-reset : (image : LoadedImage) (shape : Shape) (clocks : List ℕ) (registers memory : ℕ → ℕ) → registers ≡ (λ r. 0)
    → memory ≡ ram_byte image image.ram
    → Followed (trace_at image clocks) (record (piped (reset image shape)) { registers = registers; m = Nothing }) memory clocks
    (record { output = []; actions = [] }) 0 0
unfolding reset after started
latched-reset image shape clocks registers memory r m = record {
  registers = r;
  seen = m;
  done = refl;
  position = rw (r, m) refl;
  running = λ i l. absurd (omega arith);
  due = inl (refl, refl);
}

followed-reset : (image : LoadedImage) (shape : Shape) (clocks : List ℕ)
    → Followed (trace_at image clocks) (piped (reset image shape)) (view (reset image shape)) clocks (record { output = []; actions = [] }) 0 0
unfolding reset
followed-reset image shape clocks =
    subst (λ a. Followed (trace_at image clocks) (record (piped (reset image shape)) { m = a }) (view (reset image shape)) clocks
    (record { output = []; actions = [] }) 0 0) (sym action_of-no_executed)
    (latched-reset image shape clocks (register (reset image shape).registers) (view (reset image shape)) registers-reset (view-reset image shape))

-- ---- the run

module _ (image : LoadedImage) (shape : Shape) (is : IsImage image) (fits : IsShape shape) where
  abbrev at : ℕ → State
  at t = state_at image shape t

  pub kept-at : (t : ℕ) → Kept (state_at image shape t)
  unfolding state_after
  kept-at zero = record {
    steady = steady-reset image shape is fits;
    sound = sound-reset image shape;
    in_order = order-reset image shape;
    coherent = coherent-reset image shape no_line;
  }
  kept-at (suc t) = kept-next (at t) (kept-at t)

  abbrev pub FollowedAt : ℕ → List ℕ → Type 0
  FollowedAt t later =
      Followed (trace_at image (clocks_below image shape t ++ later)) (piped (at t)) (view (at t)) later (done_below image shape t)
      (left_memory image shape t) (left_execute image shape t)

  next_by : (t : ℕ) (later clocks : List ℕ) (e x : ℕ) → clocks_below image shape (suc t) ++ later ≡ clocks → left_memory image shape (suc t) ≡ e
      → left_execute image shape (suc t) ≡ x → Followed (trace_at image clocks) (piped (cycle (at t))) (view (cycle (at t))) later
      (logged (done_below image shape t) (done_in (at t))) e x → FollowedAt (suc t) later
  unfolding state_after log_after
  next_by t later clocks e x c f g h = rw (c, f, g) h

  pub steps-at : (t : ℕ) (clocks : List ℕ) → Steps (at t).image (trace_at image clocks)
  steps-at t clocks =
      subst (λ (im : LoadedImage). Steps im (trace_at image clocks)) (sym (image-kept image shape t)) (λ i h. after-next image i (started image clocks) h)

  pub followed-at : (t : ℕ) → IsRunning image shape t → (later : List ℕ) → FollowedAt t later
  unfolding state_after clocks_after log_after issues_after reset
  followed-at zero running later = followed-reset image shape later
  followed-at (suc t) running later =
      next_by t later (clocks_below image shape t ++ fed (at t) later) _ _
      (clocks-next image shape t later)
      (memory-next image shape t)
      (left-next image shape t)
      (followed-cycle (trace_at image (clocks_below image shape t ++ fed (at t) later)) (at t) later (done_below image shape t) (left_memory image shape t)
      (left_execute image shape t)
      (steps-at t (clocks_below image shape t ++ fed (at t) later)) (kept-at t) (running t (omega arith))
      (followed-at t (λ u l. running u (omega arith)) (fed (at t) later)))
