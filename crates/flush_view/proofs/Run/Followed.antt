-- How the pipeline and memory follow a run of the instruction set, and that a cycle keeps it: MEM/WB completed is the state before
-- instruction e, EX/MEM after it that before instruction x.
use Rattle.std.proofs.Common.{◌≡◌, ◌⊎◌, inl, inr, ℕ, suc, ◌<◌, ◌≤◌, Bool, true, false, List, arith, refl, ap, sym, ◌∙◌}
use Rattle.std.specs.Prelude.{None, ◌==◌, if◌then◌else◌}
use Rattle.std.proofs.lemmas.Bool.{eqb-true}
use Rattle.std.proofs.lemmas.Bool.Decides.{nat_tests}
use Rattle.elf_load.specs.Image.{LoadedImage}
use Rattle.rv_table.specs.Actions.{with_counter}
use Rattle.rv_table.specs.Effects.{written_register}
use Rattle.rv_table.specs.declared.op.Op.{Op}
use Rattle.rv_table.specs.declared.action.Action.{Action}
use Rattle.rv_table.specs.declared.action.Action.TheVariants.{Nothing}
use Rattle.rv_isa.specs.Instruction.{State as Arch, Log, action_in, end_of, first_clock, given, instruction, logged, memory_after, op_at, put_reg, reg}
use Rattle.pipe_latch.specs.Forwarding.{operand, settled}
use Rattle.pipe_latch.specs.Latches.{DecodedLatch, no_result, op_of_latch}
use Rattle.inst_buf.specs.Entry.{Entry}
use Rattle.pipe_latch.specs.declared.forward.Forwarded.TheVariants.{Value}
use Rattle.cyc_machine.specs.declared.fate.Fate.{Fate}
use Rattle.cyc_machine.specs.declared.fate.Fate.TheVariants.{Absent, Dropped, Stays, Goes}
use Rattle.cyc_machine.specs.Pipeline.{counted, issued_after, npc_after, operand_b}
use Rattle.rv_isa.specs.Accesses.{next_action}
use Rattle.cyc_machine.specs.InFlight.{completed_item, item_of_latch}
use Rattle.flush_view.proofs.Flush.Operands.{clock-taken}
use Rattle.flush_view.proofs.Flush.Path.{completed_op}
use Rattle.flush_view.proofs.Flush.PipeLaw.{base, fate-goes, fate_pipe, fed_pipe, goes-completed, not_both}
use Rattle.flush_view.proofs.Flush.Pipes.{Pipe, action_next, completed_with, latched_pipe, next_pipe}
use Rattle.flush_view.proofs.Run.Sound.{Sound, held-operand}

-- EX/MEM is empty, and as many instructions have left EX as are done, or it holds what the next instruction does
abbrev pub HoldsDue : LoadedImage → Action → Arch → ℕ → ℕ → Type 0
HoldsDue image m at e x =
    ((m ≡ Nothing) × (x ≡ e)) ⊎ ((m ≡ next_action image at) × (x ≡ suc e) × (at.stop ≡ None))

pub record Followed (trace : ℕ → Arch) (p : Pipe) (memory : ℕ → ℕ) (clocks : List ℕ) (log : Log) (e x : ℕ) : Type 0 where
  pub registers : put_reg p.w.rd p.w.value p.registers ≡ (trace e).registers
  pub seen : memory ≡ (trace e).memory
  pub done : log ≡ (trace e).log
  pub position : latched_pipe p memory clocks log ≡ trace x
  pub running : (i : ℕ) → i < x → (trace i).stop ≡ None
  pub due : HoldsDue p.image p.m (trace e) e x

-- where no end has come, one instruction more
abbrev pub Steps : LoadedImage → (ℕ → Arch) → Type 0
Steps image trace = (i : ℕ) → (trace i).stop ≡ None → trace (suc i) ≡ instruction image (trace i)

-- ---- D, which leaves EX

latched-base : (p : Pipe) (memory : ℕ → ℕ) (clocks : List ℕ) (log : Log) → end_of p.m ≡ None
    → latched_pipe p memory clocks log ≡ base p memory p.npc p.issued clocks log
latched-base p memory clocks log h = ap (λ o. record (base p memory p.npc p.issued clocks log) { stop = o }) h

-- with the registers that W and M give it is the next instruction
latch-next : (p : Pipe) (memory : ℕ → ℕ) (clocks : List ℕ) (log : Log) → Sound p → p.d.valid ≡ true → p.d.pc ≡ p.npc
    → completed_item p.image (item_of_latch p.image p.m p.w memory p.d) (base p memory p.npc p.issued clocks log)
    ≡ instruction p.image (base p memory p.npc p.issued clocks log)
unfolding instruction
latch-next p memory clocks log h v e =
    completed_with p.image (op_of_latch p.d) p.d.pc _ _ _ _ at
    (held-operand p.image p.m p.w memory p.registers p.d.rs1 p.d.a (h.latch.a v))
    (held-operand p.image p.m p.w memory p.registers p.d.rs2 p.d.b (h.latch.b v))
    ∙ completed_op p.image (op_of_latch p.d) (op_at p.image p.npc) p.d.pc p.npc at (h.latch.op v ∙ ap (op_at p.image) e) e
  where
    at : Arch
    at = base p memory p.npc p.issued clocks log

-- and EX/MEM gets what the next instruction does
action-as : (image : LoadedImage) (op other : Op) (pc place a c clock count : ℕ) (registers : ℕ → ℕ) → a ≡ reg registers op.rs1
    → c ≡ with_counter op clock count (reg registers op.rs2) → op ≡ other → pc ≡ place
    → action_in image op pc a c ≡ action_in image other place (reg registers other.rs1) (with_counter other clock count (reg registers other.rs2))
action-as image op other pc place a c clock count registers e f g h = rw (e, f, g, h) refl

counted-next : (p : Pipe) (memory : ℕ → ℕ) (a b : ℕ) (clocks : List ℕ) → Sound p → p.d.valid ≡ true → operand_b p.d p.m p.w ≡ Value b
    → counted p.d p.cycle p.issued b ≡ with_counter (op_of_latch p.d) (first_clock (fed_pipe (Goes a b) p clocks)) p.issued
    (reg (put_reg (written_register p.m) (given p.image p.m memory) (put_reg p.w.rd p.w.value p.registers)) p.d.rs2)
unfolding counted operand_b
counted-next p memory a b clocks h v f =
    sym (clock-taken (op_of_latch p.d) (operand p.m p.w p.d.rs2 p.d.b) p.cycle p.issued (given p.image p.m memory) b clocks f)
    ∙ ap (with_counter (op_of_latch p.d) (first_clock (fed_pipe (Goes a b) p clocks)) p.issued)
    (held-operand p.image p.m p.w memory p.registers p.d.rs2 p.d.b (h.latch.b v))

action-due : (p : Pipe) (memory : ℕ → ℕ) (a b : ℕ) (clocks : List ℕ) (log : Log) → Sound p → p.d.valid ≡ true → p.d.pc ≡ p.npc
    → operand p.m p.w p.d.rs1 p.d.a ≡ Value a → operand_b p.d p.m p.w ≡ Value b
    → action_next (Goes a b) true p ≡ next_action p.image (base p memory p.npc p.issued (fed_pipe (Goes a b) p clocks) log)
action-due p memory a b clocks log h v e r1 r2 =
    action-as p.image (op_of_latch p.d) (op_at p.image p.npc) p.d.pc p.npc a (counted p.d p.cycle p.issued b)
    (first_clock (fed_pipe (Goes a b) p clocks)) p.issued at.registers
    (ap (λ o. settled o (given p.image p.m memory)) (sym r1) ∙ held-operand p.image p.m p.w memory p.registers p.d.rs1 p.d.a (h.latch.a v))
    (counted-next p memory a b clocks h v r2)
    (h.latch.op v ∙ ap (op_at p.image) e)
    e
  where
    at : Arch
    at = base p memory p.npc p.issued (fed_pipe (Goes a b) p clocks) log

-- ---- one cycle

-- how many have left EX after the cycle
abbrev pub count_after : Fate → ℕ → ℕ
count_after (Goes a b) x = suc x
count_after _ x = x

module _ (trace : ℕ → Arch) (p : Pipe) (memory : ℕ → ℕ) (clocks : List ℕ) (log : Log) (e x : ℕ) where
  abbrev Before : Fate → Type 0
  Before f = Followed trace p memory (fed_pipe f p clocks) log e x

  -- EX/MEM is done
  abbrev Done : Fate → ℕ → Type 0
  Done f pc =
      Followed trace (next_pipe f true (given p.image p.m memory) pc p) (memory_after p.image p.m memory) clocks (logged log p.m) x (count_after f x)

  done-goes : (a b pc : ℕ) → Steps p.image trace → Sound p → fate_pipe p true ≡ Goes a b → end_of p.m ≡ None → Before (Goes a b) → Done (Goes a b) pc
  unfolding npc_after issued_after
  done-goes a b pc steps sound fate h k =
      let parts = fate-goes p true a b fate in
      let fed : List ℕ = fed_pipe (Goes a b) p clocks in
      let reached : p.d.pc ≡ p.npc = eqb-true p.d.pc p.npc parts.1 in
      let here : base p memory p.npc p.issued fed log ≡ trace x = sym (latched-base p memory fed log h) ∙ k.position in
      let stop : (trace x).stop ≡ None = ap (λ (z : Arch). z.stop) (sym here) in
      record {
        registers = ap (λ (z : Arch). z.registers) k.position;
        seen = ap (λ (z : Arch). z.memory) k.position;
        done = ap (λ (z : Arch). z.log) k.position;
        position =
            sym (goes-completed p memory clocks log a b parts.3 parts.4)
            ∙ latch-next p memory fed log sound parts.0 reached
            ∙ ap (instruction p.image) here
            ∙ sym (steps x stop);
        running = λ i l. so_far i l stop (i == x) refl k.running;
        due = inr (action-due p memory a b clocks log sound parts.0 reached parts.3 parts.4 ∙ ap (next_action p.image) here, refl, stop);
      }
    where
      so_far : (i : ℕ) → i < suc x → (trace x).stop ≡ None → (t : Bool) → (i == x) ≡ t → ((j : ℕ) → j < x → (trace j).stop ≡ None)
          → (trace i).stop ≡ None
      so_far i l stop true q before = ap (λ j. (trace j).stop) (eqb-true i x q) ∙ stop
      so_far i l stop false q before = before i (grind (arith, nat_tests))

  -- nothing takes its place
  emptied : (pc cycle : ℕ) (waiting : List Entry) (d : DecodedLatch) → end_of p.m ≡ None → Followed trace p memory clocks log e x
      → Followed trace
      (record p {
        pc = pc;
        waiting = waiting;
        d = d;
        m = Nothing;
        w = record { rd = written_register p.m; value = given p.image p.m memory };
        registers = put_reg p.w.rd p.w.value p.registers;
        cycle = cycle;
      }) (memory_after p.image p.m memory) clocks (logged log p.m) x x
  emptied pc cycle waiting d h k = record {
    registers = ap (λ (z : Arch). z.registers) k.position;
    seen = ap (λ (z : Arch). z.memory) k.position;
    done = ap (λ (z : Arch). z.log) k.position;
    position = sym (latched-base p memory clocks log h) ∙ k.position;
    running = k.running;
    due = inl (refl, refl);
  }

  pub done-next : (f : Fate) (pc : ℕ) → Steps p.image trace → Sound p → fate_pipe p true ≡ f → end_of p.m ≡ None → Before f → Done f pc
  unfolding npc_after issued_after
  done-next Absent pc steps sound fate h k = emptied pc _ _ _ h k
  done-next Dropped pc steps sound fate h k = emptied pc _ _ _ h k
  done-next Stays pc steps sound fate h k = emptied pc _ _ _ h k
  done-next (Goes a b) pc steps sound fate h k = done-goes a b pc steps sound fate h k

  -- EX/MEM waits
  waited : (pc cycle : ℕ) (waiting : List Entry) (d : DecodedLatch) → Followed trace p memory clocks log e x
      → Followed trace (record p { pc = pc; waiting = waiting; d = d; w = no_result; registers = put_reg p.w.rd p.w.value p.registers; cycle = cycle })
      memory clocks log e x
  waited pc cycle waiting d k =
      record { registers = k.registers; seen = k.seen; done = k.done; position = k.position; running = k.running; due = k.due }

  pub waits-next : (f : Fate) (value pc : ℕ) → fate_pipe p false ≡ f → Before f
      → Followed trace (next_pipe f false value pc p) memory clocks log e (count_after f x)
  unfolding npc_after issued_after
  waits-next Absent value pc fate k = waited pc _ _ _ k
  waits-next Dropped value pc fate k = waited pc _ _ _ k
  waits-next Stays value pc fate k = waited pc _ _ _ k
  waits-next (Goes a b) value pc fate k = absurd (not_both (p.d.count == 0) (fate-goes p false a b fate).2)

  -- What memory does is what EX/MEM does.
  pub followed-next : (goes : Bool) (value pc : ℕ) (after : ℕ → ℕ) → Steps p.image trace → Sound p → (goes ≡ true → value ≡ given p.image p.m memory)
      → after ≡ memory_after p.image (if goes then p.m else Nothing) memory → end_of p.m ≡ None → Before (fate_pipe p goes)
      → Followed trace (next_pipe (fate_pipe p goes) goes value pc p) after clocks (logged log (if goes then p.m else Nothing)) (if goes then x else e)
      (count_after (fate_pipe p goes) x)
  followed-next true value pc after steps sound v m h k = rw (v refl, m) (done-next (fate_pipe p true) pc steps sound refl h k)
  followed-next false value pc after steps sound v m h k = rw m (waits-next (fate_pipe p false) value pc refl k)

-- No end comes up to the instruction that is done next.
pub followed-stop : (trace : ℕ → Arch) (p : Pipe) (memory : ℕ → ℕ) (clocks : List ℕ) (log : Log) (e x : ℕ) → Followed trace p memory clocks log e x
    → (i : ℕ) → i ≤ e → (trace i).stop ≡ None
followed-stop trace p memory clocks log e x k i l = by k.due
  where
    last_by : p.m ≡ Nothing → i < suc x → (t : Bool) → (i == x) ≡ t → (trace i).stop ≡ None
    last_by empty below true q =
        ap (λ j. (trace j).stop) (eqb-true i x q) ∙ ap (λ (z : Arch). z.stop) (sym k.position) ∙ ap end_of empty
    last_by empty below false q = k.running i (grind (arith, nat_tests))

    by : HoldsDue p.image p.m (trace e) e x → (trace i).stop ≡ None
    by (inl h) = last_by h.0 (omega (arith, h.1)) (i == x) refl
    by (inr h) = k.running i (omega (arith, h.1))
