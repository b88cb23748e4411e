-- Which bits are needed: those on which what is seen of a run depends.
use Rattle.std.specs.Prelude.{◌≡◌, ℕ, ◌%◌, ◌<◌, ◌⊎◌, List, [], ◌∷◌}
use Rattle.rv_isa.specs.declared.effect.Retired.{Retired}
use Rattle.rv_isa.specs.Instruction.{State}
use Rattle.rv_table.specs.Operations.{operation_of}
use Rattle.rv_table.specs.declared.op.Op.{Op}
use Rattle.rv_table.specs.declared.operation.Operation.{Operation}
use Rattle.rv_table.specs.declared.operation.Operation.TheVariants.{Jalr, Branch, Load, Store, Ecall}
use Rattle.need_pass.specs.Links.{Link}
use Rattle.need_pass.specs.ProgramBits.{ProgramBit, Register, Byte, IsProgramBit, bit_of}

-- Bit k of rs1 is a root of a load, a store, a branch and a system call (whose rs1 is register 17), and of JALR, whose target drops
-- bit 0: there that bit counts only through the carry of an odd immediate.
abbrev pub RootA : Operation → Op → ℕ → Type 0
RootA (Load kind) op k = Unit {0}
RootA (Store kind) op k = Unit {0}
RootA (Branch kind) op k = Unit {0}
RootA Jalr op k = (0 < k) ⊎ (op.imm % 2 ≡ 1)
RootA Ecall op k = Unit {0}
RootA _ op k = ⊥

-- Bit k of rs2 is a root of a branch, and where a system call (whose rs2 is register 10) puts or ends, of the byte that it gives.
abbrev pub RootB : Operation → ℕ → ℕ → Type 0
RootB (Branch kind) a k = Unit {0}
RootB Ecall a k = (k < 8) × ((a ≡ 1) ⊎ (a ≡ 93))
RootB _ a k = ⊥

-- the bits on which what is seen of instruction i depends
unfoldable pub Root : Retired → ProgramBit → Type 0
Root i (Register r k) =
    ((r ≡ i.op.rs1) × RootA (operation_of i.op.code) i.op k) ⊎ ((r ≡ i.op.rs2) × RootB (operation_of i.op.code) i.a k)
Root i (Byte p k) = ⊥

-- A bit is needed before the first of these instructions where it is a root of it, or a link of it leads to a bit that
-- the others need.
unfoldable pub Needed : List Retired → ProgramBit → Type 0
Needed [] p = ⊥
Needed (i ∷ later) p = IsProgramBit p × (Root i p ⊎ ((q : ProgramBit) × Link i p q × Needed later q))

-- A state agrees with the recorded one, before these instructions of the recorded run, where its address, count and clock values
-- are the same and each bit that they need is the same.
pub record Agrees (later : List Retired) (recorded at : State) : Type 0 where
  pub pc : at.pc ≡ recorded.pc
  pub count : at.count ≡ recorded.count
  pub clocks : at.clocks ≡ recorded.clocks
  pub bits : (p : ProgramBit) → Needed later p → bit_of at p ≡ bit_of recorded p
