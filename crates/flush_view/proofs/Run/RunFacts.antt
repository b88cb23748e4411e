-- A state that follows the instruction set's run has the facts of a recorded run.
use Rattle.std.proofs.Common.{◌≡◌, ◌⊎◌, inl, inr, ℕ, suc, ◌+◌, Bool, true, false, List, ◌∷◌, ◌++◌, arith, refl, ap, ◌∙◌}
use Rattle.std.specs.Prelude.{◌≢◌, ◌==◌, ◌&&◌, is_none, map, nat_lt, if◌then◌else◌}
use Rattle.std.proofs.lemmas.Bool.Decides.{nat_tests}
use Rattle.bit_field.specs.Shapes.{IsShape}
use Rattle.bit_field.specs.declared.shapes.Shape.{Shape}
use Rattle.elf_load.specs.Image.{LoadedImage, IsImage}
use Rattle.rv_table.specs.declared.action.Action.{Action}
use Rattle.rv_table.specs.declared.action.Action.TheVariants.{Nothing}
use Rattle.rv_isa.specs.Instruction.{State as Arch, Log, op_at, reg}
use Rattle.inst_buf.specs.Buffer.{entries}
use Rattle.cyc_machine.specs.Cycle.{action_in_m}
use Rattle.cyc_machine.specs.Pipeline.{register}
use Rattle.cyc_machine.specs.Run.{IsRunning, clocks_below, state_at}
use Rattle.cyc_machine.specs.State.{State}
use Rattle.rv_isa.specs.Accesses.{next_action}
use Rattle.flush_view.specs.Flush.{item_of_entry, latched}
use Rattle.flush_view.specs.Positions.{done_below, is_latch_on_path, left_execute, left_memory, on_path}
use Rattle.rv_isa.specs.Runs.{trace_at}
use Rattle.flush_view.specs.RunFacts.{HoldsNext, RunFacts}
use Rattle.cyc_machine.specs.InFlight.{Item, item_of_latch}
use Rattle.cyc_machine.specs.Busy.{WorksForMiss}
use Rattle.flush_view.specs.Views.{view}
use Rattle.flush_view.proofs.Run.BusyPort.{busy-at}
use Rattle.flush_view.proofs.Run.FromReset.{Kept, followed-at, kept-at, steps-at}
use Rattle.flush_view.proofs.Run.Followed.{Followed, HoldsDue, Steps}
use Rattle.flush_view.proofs.Run.OnPath.{flush-on_path}
use Rattle.flush_view.proofs.Flush.MachinePipe.{piped}
use Rattle.flush_view.proofs.Run.Sound.{Sound, held-operand}

-- ---- ID/EX on path

first_at : (trace : ℕ → Arch) (x : ℕ) (item : Item) (items : List Item) → nat_lt 0 (on_path trace x (item ∷ items)) ≡ true → item.pc ≡ (trace x).pc
unfolding on_path
first_at trace x item items h = go (is_none (trace x).stop) (item.pc == (trace x).pc) refl h
  where
    go : (a b : Bool) → (item.pc == (trace x).pc) ≡ b → nat_lt 0 (if a && b then on_path trace (x + 1) items + 1 else 0) ≡ true
        → item.pc ≡ (trace x).pc
    go true true e h = grind (arith, nat_tests)
    go true false e h = absurd cc
    go false b e h = absurd cc

latch_first : (v : Bool) (trace : ℕ → Arch) (x : ℕ) (item : Item) (items : List Item)
    → v && nat_lt 0 (on_path trace x (if v then item ∷ items else items)) ≡ true → (v ≡ true) × (item.pc ≡ (trace x).pc)
latch_first true trace x item items h = (refl, first_at trace x item items h)
latch_first false trace x item items h = absurd cc

latch-pc : (s : State) (trace : ℕ → Arch) (x : ℕ) → is_latch_on_path s trace x ≡ true → (s.d.valid ≡ true) × (s.d.pc ≡ (trace x).pc)
latch-pc s trace x on =
    latch_first s.d.valid trace x (item_of_latch s.image (action_in_m s) s.w (view s) s.d) (map item_of_entry (entries s.buffer)) on

-- an occupied ID/EX at the address of the state that W and M completed give holds the next instruction
pub latch-holds : (s : State) (at : Arch) (clocks : List ℕ) (log : Log) → Sound (piped s) → s.d.valid ≡ true → s.d.pc ≡ at.pc
    → latched s clocks log ≡ at → HoldsNext s at
latch-holds s at clocks log sound v e p = record {
  op = sound.latch.op v ∙ ap (op_at s.image) e;
  a =
      held-operand s.image (action_in_m s) s.w (view s) (register s.registers) s.d.rs1 s.d.a (sound.latch.a v)
      ∙ ap (λ (z : Arch). reg z.registers s.d.rs1) p;
  b =
      held-operand s.image (action_in_m s) s.w (view s) (register s.registers) s.d.rs2 s.d.b (sound.latch.b v)
      ∙ ap (λ (z : Arch). reg z.registers s.d.rs2) p;
}

-- ---- all of them

held_as : (image : LoadedImage) (m : Action) (at : Arch) (e x : ℕ) → HoldsDue image m at e x
    → ((m ≡ Nothing) × (x ≡ e)) ⊎ ((m ≡ next_action image at) × (x ≡ suc e))
held_as image m at e x (inl none) = inl none
held_as image m at e x (inr due) = inr (due.0, due.1)

pub facts-from : (s : State) (log : Log) (later : List ℕ) (trace : ℕ → Arch) (e x : ℕ) → Steps s.image trace → Kept s
    → Followed trace (piped s) (view s) later log e x → (s.port.count ≢ 0 → WorksForMiss s) → RunFacts s log later trace e x
facts-from s log later trace e x steps k f busy = record {
  in_order = k.in_order;
  words = k.sound.waiting;
  coherent = k.coherent;
  registers = f.registers;
  memory = f.seen;
  done = f.done;
  held = held_as s.image (action_in_m s) (trace e) e x f.due;
  position = f.position;
  running = f.running;
  decoded = λ on. let first = latch-pc s trace x on in latch-holds s (trace x) later log k.sound first.0 first.1 f.position;
  flushed = flush-on_path s log later trace x steps k.sound.waiting (λ v p. latch-holds s (trace x) later log k.sound v p f.position) f.position;
  busy = busy;
}

-- of each state of a run from reset
pub facts-at : (image : LoadedImage) (shape : Shape) → IsImage image → IsShape shape → (t : ℕ) → IsRunning image shape t → (later : List ℕ)
    → RunFacts (state_at image shape t) (done_below image shape t) later (trace_at image (clocks_below image shape t ++ later)) (left_memory image shape t)
    (left_execute image shape t)
facts-at image shape is fits t running later =
    facts-from (state_at image shape t) (done_below image shape t) later (trace_at image (clocks_below image shape t ++ later)) (left_memory image shape t)
    (left_execute image shape t)
    (steps-at image shape is fits t (clocks_below image shape t ++ later)) (kept-at image shape is fits t) (followed-at image shape is fits t running later)
    (busy-at image shape t)
