-- States that are those of the recorded run but for clock values and log: how the recorded state's own entries lead from one to the next.
use Rattle.std.proofs.Common.{◌≡◌, ℕ, ◌+◌, ◌≤◌, ◌<◌, Bool, true, false, List, [], ◌∷◌, length, arith, refl, ap, sym, subst, ◌∙◌}
use Rattle.std.specs.Prelude.{Option, Some, None, if◌then◌else◌}
use Rattle.rv_table.specs.Actions.{is_clocked}
use Rattle.rv_table.specs.Effects.{byte_put}
use Rattle.rv_table.specs.declared.op.Op.{Op}
use Rattle.rv_isa.specs.Accesses.{address_of}
use Rattle.rv_isa.specs.Effects.{operated}
use Rattle.rv_table.specs.declared.action.Action.{Action}
use Rattle.rv_isa.specs.Instruction.{State as Arch, Log, instruction, logged, op_at, reg, with_byte}
use Rattle.cyc_machine.specs.Cycle.{action_in_m}
use Rattle.cyc_machine.specs.Run.{output_below}
use Rattle.eval_mask.specs.Seems.{under}
use Rattle.eval_mask.proofs.UnderLog.{IsUnder, completed_under}
use Rattle.need_pass.specs.Tables.{Needs}
use Rattle.flush_view.specs.Avoids.{AvoidsAll, IsOutside}
use Rattle.flush_view.specs.Flush.{latched}
use Rattle.flush_view.specs.RunFacts.{no_line}
use Rattle.flush_view.proofs.Flush.Counts.{completed-logged, latch-logged}
use Rattle.ace_law.specs.Moments.{IsQuiet, IsTold, Moment, executed, state, trace}
use Rattle.ace_law.proofs.Alike.{count_of, spare}
use Rattle.ace_law.proofs.Told.{done-puts, facts}
use Rattle.ace_law.proofs.Masked.Known.{step, unclocked}

-- the recorded state before instruction i, with no clock value taken and some log
pub record Stands (a : Moment) (i : ℕ) (at : Arch) (budget : ℕ) : Type 0 where
  pub same : at ≡ under spare at.log (trace a i)
  pub puts : at.log.output ≡ (trace a i).log.output
  pub count : count_of a + length at.log.actions ≤ i + budget

-- every action avoids the empty set of lines
pub avoids-none : (actions : List Action) → AvoidsAll no_line actions
avoids-none [] = tt
avoids-none (done ∷ actions) = (outside (address_of done), avoids-none actions)
  where
    outside : (o : Option ℕ) → IsOutside no_line o
    outside (Some x) = refl
    outside None = tt

-- an operation that reads no cycle counter, at such a state
pub operated-under : (a : Moment) (i budget : ℕ) (at : Arch) (op : Op) → is_clocked op ≡ false → Stands a i at budget
    → IsUnder spare [] (operated a.r.image op at) (operated a.r.image op (trace a i))
operated-under a i budget at op unread stands =
    subst (λ (z : Arch). IsUnder spare [] (operated a.r.image op z) (operated a.r.image op (trace a i))) (sym stands.same)
    (completed_under a.r.image op (trace a i).pc (reg (trace a i).registers op.rs1) (reg (trace a i).registers op.rs2) spare []
    at.log (trace a i) unread
    stands.puts)

is-under : (at base : Arch) → IsUnder spare [] at base → at ≡ under spare at.log base
is-under at base is = λ j. record {
  registers = is.stands.registers j;
  memory = is.stands.memory j;
  pc = is.stands.pc j;
  count = is.stands.count j;
  clocks = is.left j;
  log = at.log;
  stop = is.stands.stop j;
}

module _ (a : Moment) (table : Needs) (told : IsTold a.r a.run table) (quiet : IsQuiet a) where
  -- the next instruction
  pub stands-next : (i budget : ℕ) (at : Arch) → executed a ≤ i → (trace a i).stop ≡ None → Stands a i at budget
      → Stands a (i + 1) (instruction a.r.image at) budget
  unfolding instruction
  stands-next i budget at from running stands =
      let pc : at.pc ≡ (trace a i).pc = ap (λ (z : Arch). z.pc) stands.same in
      let op : Op = op_at a.r.image at.pc in
      let unread : is_clocked op ≡ false = ap (λ (p : ℕ). is_clocked (op_at a.r.image p)) pc ∙ unclocked a table told quiet i from running in
      let under_next : IsUnder spare [] (operated a.r.image op at) (operated a.r.image op (trace a i)) =
      operated-under a i budget at op unread stands in
      let next : operated a.r.image op (trace a i) ≡ trace a (i + 1) =
      ap (λ (p : ℕ). operated a.r.image (op_at a.r.image p) (trace a i)) pc ∙ sym (step a table told i running) in
      let reached : IsUnder spare [] (operated a.r.image op at) (trace a (i + 1)) =
      subst (λ (z : Arch). IsUnder spare [] (operated a.r.image op at) z) next under_next in
      record {
        same = is-under (operated a.r.image op at) (trace a (i + 1)) reached;
        puts = reached.stands.output;
        count =
            let more = completed-logged a.r.image op at.pc (reg at.registers op.rs1) (reg at.registers op.rs2) at in
            let before = stands.count in
            omega arith;
      }

  -- MEM/WB and EX/MEM completed stand before the first instruction that hasn't left EX
  pub stands-latched : (below : a.t < a.r.cycles) (log : Log) (budget : ℕ) → log.output ≡ output_below a.r.image a.r.shape a.t
      → count_of a + (length log.actions + 2) ≤ executed a + budget → Stands a (executed a) (latched (state a) spare log) budget
  stands-latched below log budget output within =
      let f = facts a table told below in
      record {
        same = ap (under spare (logged log (action_in_m (state a)))) f.position;
        puts =
            ap (λ (bytes : List ℕ). with_byte bytes (byte_put (action_in_m (state a)))) (output ∙ sym (done-puts a table told))
            ∙ ap (λ (z : Arch). z.log.output) f.position;
        count =
            let more = latch-logged log.actions (state a).m in
            let most = flag (state a).m.valid in
            omega arith;
      }
    where
      flag : (b : Bool) → (if b then 1 else 0) ≤ 1
      flag true = omega arith
      flag false = omega arith
