-- An operation that does the same as the instruction in whose place it stands leaves a state that does the same.
use Rattle.std.proofs.Common.{◌≡◌, ℕ, List, ◌+◌, ◌^◌, ◌≤◌, ◌<◌, [], arith, refl, ap, sym, subst, ◌∙◌}
use Rattle.std.specs.Prelude.{None}
use Rattle.rv_table.specs.declared.op.Op.{Op}
use Rattle.rv_isa.specs.Effects.{operated}
use Rattle.rv_isa.specs.Instruction.{State as Arch, completed, instruction, next_count, reg}
use Rattle.rv_isa.specs.Words.{IsWords}
use Rattle.rv_isa.proofs.Ranges.{operand_below, words_completed}
use Rattle.need_pass.specs.ProgramBits.{ProgramBit, Register, Byte, bit_of}
use Rattle.need_pass.specs.Tables.{Needs}
use Rattle.eval_mask.specs.Seems.{StandsAt, under}
use Rattle.eval_mask.proofs.UnderLog.{IsUnder}
use Rattle.flush_view.proofs.Flush.Counts.{completed-logged}
use Rattle.ace_law.specs.Agreements.{OperationAgrees}
use Rattle.ace_law.specs.Moments.{IsTold, Moment, executed, trace}
use Rattle.ace_law.proofs.Alike.{spare}
use Rattle.ace_law.proofs.Told.{running-below, trace-words}
use Rattle.ace_law.proofs.Masked.Does.{Does, spare-below, spare-bit}
use Rattle.ace_law.proofs.Masked.Known.{step}
use Rattle.ace_law.proofs.Masked.Stands.{Stands, operated-under}

pub stands-bit : (before : List ℕ) (at base : Arch) (p : ProgramBit) → StandsAt before at base → bit_of at p ≡ bit_of base p
stands-bit before at base (Register r k) s = ap (λ (f : ℕ → ℕ). bit_of (record base { registers = f }) (Register r k)) s.registers
stands-bit before at base (Byte p k) s = ap (λ (f : ℕ → ℕ). bit_of (record base { memory = f }) (Byte p k)) s.memory

counted : (a : Moment) (op : Op) (at : Arch) → (operated a.r.image op at).count ≡ next_count at.count
unfolding completed
counted a op at = refl

pub counted-next : (a : Moment) (at : Arch) → (instruction a.r.image at).count ≡ next_count at.count
unfolding completed instruction
counted-next a at = refl

module _ (a : Moment) (table : Needs) (told : IsTold a.r a.run table) (i budget : ℕ) (at : Arch) (from : executed a ≤ i)
    (running : (trace a i).stop ≡ None) (stands : Stands a i at budget) (op : Op) (imm : op.imm < 2 ^ 32) (agrees : OperationAgrees a i op) where
  abbrev struck : Arch
  struck = operated a.r.image op (trace a i)

  over : IsUnder spare [] (operated a.r.image op at) struck
  over = operated-under a i budget at op agrees.unread stands

  next : instruction a.r.image (trace a i) ≡ trace a (i + 1)
  next = sym (step a table told i running)

  words-at : IsWords at
  words-at =
      let recorded = trace-words a table told i in
      let same : under spare at.log (trace a i) ≡ at = sym stands.same in
      subst IsWords same (record { registers = recorded.registers; memory = recorded.memory; count = recorded.count; clocks = spare-below })

  pub operation-does : Does a (i + 1) (operated a.r.image op at) budget
  operation-does = record {
    unread = over.left;
    puts = over.stands.output ∙ agrees.same.output ∙ ap (λ (z : Arch). z.log.output) next;
    stop = over.stands.stop ∙ agrees.same.stop ∙ ap (λ (z : Arch). z.stop) next;
    agrees =
        λ none.
        let stops : struck.stop ≡ None = agrees.same.stop ∙ ap (λ (z : Arch). z.stop) next ∙ none in
        let same = agrees.same.next stops in
        record {
          pc = over.stands.pc ∙ same.0 ∙ ap (λ (z : Arch). z.pc) next;
          count =
              over.stands.count ∙ counted a op (trace a i) ∙ sym (counted-next a (trace a i)) ∙ ap (λ (z : Arch). z.count) next;
          clocks = over.left;
          bits = λ p need.
              stands-bit [] (operated a.r.image op at) struck p over.stands
              ∙ same.1 p need
              ∙ ap (λ (z : Arch). bit_of z p) next
              ∙ sym (spare-bit (trace a (i + 1)) p);
        };
    words =
        words_completed a.r.image op at.pc (reg at.registers op.rs1) (reg at.registers op.rs2) at
        (operand_below at.registers op.rs1 words-at.registers)
        (operand_below at.registers op.rs2 words-at.registers) imm words-at;
    going = λ none.
        let more = completed-logged a.r.image op at.pc (reg at.registers op.rs1) (reg at.registers op.rs2) at in
        let before = stands.count in
        omega arith;
    ended = λ last.
        let more = completed-logged a.r.image op at.pc (reg at.registers op.rs1) (reg at.registers op.rs2) at in
        let before = stands.count in
        let here = running-below a table told i running in
        omega arith;
  }
