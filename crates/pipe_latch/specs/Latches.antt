-- What the pipeline's latches hold, whatever that is.
use Rattle.std.specs.Prelude.{ℕ, Bool, false}
use Rattle.rv_table.specs.declared.op.Op.{Op}

-- ID/EX: a decoded instruction on its way into EX
pub record DecodedLatch : Type 0 where
  pub valid : Bool
  pub pc : ℕ  -- word address
  pub op : ℕ  -- the instruction's code
  pub rd : ℕ  -- the register that it writes, 0 for none
  pub rs1 : ℕ  -- the register of its first operand
  pub rs2 : ℕ  -- and of its second
  pub a : ℕ  -- the value held for rs1
  pub b : ℕ  -- the value held for rs2
  pub imm : ℕ  -- the immediate, in two's complement
  pub count : ℕ  -- cycles that it must still wait

-- EX/MEM: what EX asks of the memory stage
pub record ExecutedLatch : Type 0 where
  pub valid : Bool
  pub kind : ℕ  -- the number of what it asks
  pub rd : ℕ  -- the register that it writes, 0 for none
  pub x : ℕ  -- result or byte address
  pub y : ℕ  -- value to store
  pub cause : ℕ  -- of a trap

-- MEM/WB: what is written into the register file; rd 0 is none
pub record ResultLatch : Type 0 where
  pub rd : ℕ  -- the register that is written
  pub value : ℕ  -- what is written into it

-- the empty latches are all zero
abbrev pub no_decoded : DecodedLatch
no_decoded = record { valid = false; pc = 0; op = 0; rd = 0; rs1 = 0; rs2 = 0; a = 0; b = 0; imm = 0; count = 0 }

abbrev pub no_executed : ExecutedLatch
no_executed = record { valid = false; kind = 0; rd = 0; x = 0; y = 0; cause = 0 }

abbrev pub no_result : ResultLatch
no_result = record { rd = 0; value = 0 }

-- the instruction that ID/EX holds
abbrev pub op_of_latch : DecodedLatch → Op
op_of_latch d = record { code = d.op; rd = d.rd; rs1 = d.rs1; rs2 = d.rs2; imm = d.imm }
