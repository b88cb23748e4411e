-- The links of an instruction, by its recorded operands: from which bits before it which bits after it come.
-- The rows of the table are those of the operations. In them a and b are the values of rs1 and rs2, k is a bit of an
-- operand and j a bit of the result. Logical masking is that of Mukherjee et al. (MICRO 2003).
use Rattle.std.specs.Prelude.{◌≡◌, ℕ, ◌+◌, ◌-◌, ◌*◌, ◌%◌, ◌<◌, ◌≤◌, ◌==◌, ◌&&◌, ◌⊎◌, Bool, true, false, nat_le, nat_lt, Option, Some, None}
use Rattle.std.specs.Int.{bit_at}
use Rattle.rv_isa.specs.declared.effect.Retired.{Retired}
use Rattle.rv_table.specs.Operations.{operation_of}
use Rattle.rv_table.specs.declared.op.Op.{Op}
use Rattle.rv_table.specs.declared.operation.AluKind.{AluKind}
use Rattle.rv_table.specs.declared.operation.AluKind.TheVariants.{Add, Sub, Sll, Xor, Srl, Sra, Or, And, Mul}
use Rattle.rv_table.specs.declared.operation.LoadKind.{LoadKind}
use Rattle.rv_table.specs.declared.operation.LoadKind.TheVariants.{Lb, Lh}
use Rattle.rv_table.specs.declared.operation.Operation.{Operation}
use Rattle.rv_table.specs.declared.operation.Operation.TheVariants.{Load, AluImmediate, Alu}
use Rattle.need_pass.specs.ProgramBits.{ProgramBit, Register, Byte}

-- From bit k of a to bit j of the result of two registers. An operand bit of AND and OR that the other masks has no link;
-- where both could mask, it is a that counts. Sums carry upwards only. A shift moves its bits, and SRA spreads bit 31. In
-- comparisons, high words of products, quotients and remainders every bit has a link to every bit.
abbrev pub FromA : AluKind → ℕ → ℕ → ℕ → ℕ → Type 0
FromA Add a b k j = k ≤ j
FromA Sub a b k j = k ≤ j
FromA Mul a b k j = k ≤ j
FromA Xor a b k j = k ≡ j
FromA And a b k j = (k ≡ j) × ((bit_at a k ≡ 0) ⊎ (bit_at b k ≡ 1))
FromA Or a b k j = (k ≡ j) × ((bit_at a k ≡ 1) ⊎ (bit_at b k ≡ 0))
FromA Sll a b k j = j ≡ k + b % 32
FromA Srl a b k j = k ≡ j + b % 32
FromA Sra a b k j = (k ≡ j + b % 32) ⊎ ((k ≡ 31) × (31 < j + b % 32))
FromA _ a b k j = Unit {0}

-- From bit k of b to bit j of the result of two registers. The five bits of a shift's amount have a link to every bit.
abbrev pub FromB : AluKind → ℕ → ℕ → ℕ → ℕ → Type 0
FromB Add a b k j = k ≤ j
FromB Sub a b k j = k ≤ j
FromB Mul a b k j = k ≤ j
FromB Xor a b k j = k ≡ j
FromB And a b k j = (k ≡ j) × (bit_at a k ≡ 1)
FromB Or a b k j = (k ≡ j) × (bit_at a k ≡ 0)
FromB Sll a b k j = k < 5
FromB Srl a b k j = k < 5
FromB Sra a b k j = k < 5
FromB _ a b k j = Unit {0}

-- from bit k of a to bit j of the result of a and an immediate n
abbrev pub FromImmediate : AluKind → ℕ → ℕ → ℕ → ℕ → Type 0
FromImmediate And a n k j = (k ≡ j) × (bit_at n k ≡ 1)
FromImmediate Or a n k j = (k ≡ j) × (bit_at n k ≡ 0)
FromImmediate kind a n k j = FromA kind a n k j

-- from bit k of the loaded bytes to bit j of the register: itself, and from the sign bit of LB and LH all above
abbrev pub FromLoaded : LoadKind → ℕ → ℕ → Type 0
FromLoaded Lb k j = (k ≡ j) ⊎ ((k ≡ 7) × (7 < j))
FromLoaded Lh k j = (k ≡ j) ⊎ ((k ≡ 15) × (15 < j))
FromLoaded _ k j = k ≡ j

-- the same by the operation; LUI, AUIPC, JAL, JALR and the counter reads have no link to their result
abbrev pub LinkA : Operation → Op → ℕ → ℕ → ℕ → ℕ → Type 0
LinkA (AluImmediate kind) op a b k j = FromImmediate kind a op.imm k j
LinkA (Alu kind) op a b k j = FromA kind a b k j
LinkA _ op a b k j = ⊥

abbrev pub LinkB : Operation → ℕ → ℕ → ℕ → ℕ → Type 0
LinkB (Alu kind) a b k j = FromB kind a b k j
LinkB _ a b k j = ⊥

abbrev pub LinkLoaded : Operation → ℕ → ℕ → Type 0
LinkLoaded (Load kind) k j = FromLoaded kind k j
LinkLoaded _ k j = ⊥

-- whether it writes register r
abbrev pub is_register : Option (ℕ × ℕ) → ℕ → Bool
is_register (Some write) r = r == write.0
is_register None r = false

abbrev pub writes : Retired → ℕ → Bool
writes i r = is_register i.effect.write r

-- an access by its byte address and its length in bytes: whether it has byte p, and which of its bytes that is
abbrev pub has_byte : Option (ℕ × ℕ) → ℕ → Bool
has_byte (Some access) p = nat_le access.0 p && nat_lt p (access.0 + access.1)
has_byte None p = false

abbrev pub byte_number : Option (ℕ × ℕ) → ℕ → ℕ
byte_number (Some access) p = p - access.0
byte_number None p = 0

-- where it stores, without the value
abbrev pub stored_bytes : Option (ℕ × ℕ × ℕ) → Option (ℕ × ℕ)
stored_bytes (Some store) = Some (store.0, store.1)
stored_bytes None = None

abbrev pub loads : Retired → ℕ → Bool
loads i p = has_byte i.effect.load p

abbrev pub stores : Retired → ℕ → Bool
stores i p = has_byte (stored_bytes i.effect.store) p

-- from bit k of register r, read as an operand, to bit j of the result
abbrev pub LinkOperand : Retired → ℕ → ℕ → ℕ → Type 0
LinkOperand i r k j =
    ((r ≡ i.op.rs1) × LinkA (operation_of i.op.code) i.op i.a i.b k j)
    ⊎ ((r ≡ i.op.rs2) × LinkB (operation_of i.op.code) i.a i.b k j)

-- A link of instruction i from a bit before it to one after it: what isn't written stays, a written register comes from
-- the operands or the loaded bytes, and a stored byte from rs2. An instruction that traps writes nothing.
unfoldable pub Link : Retired → ProgramBit → ProgramBit → Type 0
Link i (Register r k) (Register s j) =
    ((writes i s ≡ false) × (r ≡ s) × (k ≡ j)) ⊎ ((writes i s ≡ true) × LinkOperand i r k j)
Link i (Byte p k) (Register s j) =
    (writes i s ≡ true) × (loads i p ≡ true) × LinkLoaded (operation_of i.op.code) (8 * byte_number i.effect.load p + k) j
Link i (Register r k) (Byte p j) =
    (stores i p ≡ true) × (r ≡ i.op.rs2) × (k ≡ 8 * byte_number (stored_bytes i.effect.store) p + j)
Link i (Byte p k) (Byte q j) = (stores i q ≡ false) × (p ≡ q) × (k ≡ j)
