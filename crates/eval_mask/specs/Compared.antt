-- Registers, memories and aftermaths that are the same where it is needed.
use Rattle.std.specs.Prelude.{◌≡◌, ◌⊎◌, ℕ, ◌+◌, ◌<◌, ◌≤◌, ◌^◌, ◌&&◌, Bool, true, false, nat_lt, Option, Some, None, if◌then◌else◌}
use Rattle.std.specs.Int.{bit_at}
use Rattle.rv_table.specs.Accesses.{accesses, store_size}
use Rattle.need_pass.specs.Tables.{Needs, byte_need, reg_need}
use Rattle.eval_mask.specs.Aftermaths.{memory_after, registers_after}
use Rattle.eval_mask.specs.declared.compare.Known.{Known}
use Rattle.eval_mask.specs.declared.completing.Aftermath.{Aftermath}
use Rattle.eval_mask.specs.declared.completing.Store.{Store}
use Rattle.eval_mask.specs.declared.completing.Write.{Write}

-- the needed bits of register r before instruction j; none of a number that names none
abbrev pub need_at : Needs → ℕ → ℕ → ℕ
need_at needs r j = if nat_lt 0 r && nat_lt r 32 then reg_need needs r j else 0

-- the masks are the needs of those registers
pub record IsKnown (needs : Needs) (j : ℕ) (known : Known) : Type 0 where
  pub first : known.first.mask ≡ need_at needs known.first.r j
  pub below : known.below.mask ≡ need_at needs known.below.r j
  pub above : known.above.mask ≡ need_at needs known.above.r j

-- two numbers have the same bits, of n, where a mask has one
pub record SameWhere (n mask a b : ℕ) : Type 0 where
  pub same : (k : ℕ) → k < n → bit_at mask k ≡ 1 → bit_at a k ≡ bit_at b k

-- register r, 1 to 31, is the same where it is needed before instruction j
pub record SameRegister (needs : Needs) (j : ℕ) (f g : ℕ → ℕ) (r : ℕ) : Type 0 where
  pub same : 0 < r → r < 32 → SameWhere 32 (reg_need needs r j) (f r) (g r)

pub record SameRegisters (needs : Needs) (j : ℕ) (f g : ℕ → ℕ) : Type 0 where
  pub same : (r : ℕ) → SameRegister needs j f g r

-- the byte at address p likewise
pub record SameByte (needs : Needs) (j : ℕ) (f g : ℕ → ℕ) (p : ℕ) : Type 0 where
  pub same : p < 2 ^ 32 → SameWhere 8 (byte_need needs p j) (f p) (g p)

pub record SameBytes (needs : Needs) (j : ℕ) (f g : ℕ → ℕ) : Type 0 where
  pub same : (p : ℕ) → SameByte needs j f g p

-- so many bytes from an address on
pub record SameRun (needs : Needs) (j : ℕ) (f g : ℕ → ℕ) (from count : ℕ) : Type 0 where
  pub same : (p : ℕ) → from ≤ p → p < from + count → SameByte needs j f g p

-- whether a store writes byte p
abbrev pub covers : Option Store → ℕ → Bool
covers None p = false
covers (Some store) p = accesses (store_size store.kind) store.address p

-- the bytes of a store are the same where they are needed
pub record SameCovered (needs : Needs) (j : ℕ) (f g : ℕ → ℕ) (store : Option Store) : Type 0 where
  pub same : (p : ℕ) → covers store p ≡ true → SameByte needs j f g p

-- two writes, one under either registers, are the same, or the registers that they write are the same where they are needed
pub record SameWritten (needs : Needs) (j : ℕ) (f g : ℕ → ℕ) (a b : Write) : Type 0 where
  pub same : (a ≡ b) ⊎ (SameRegister needs j f g a.rd × SameRegister needs j f g b.rd)

-- two stores likewise
pub record SameStored (needs : Needs) (j : ℕ) (f g : ℕ → ℕ) (a b : Option Store) : Type 0 where
  pub same : (a ≡ b) ⊎ (SameCovered needs j f g a × SameCovered needs j f g b)

-- two aftermaths of the same registers and memory go on alike
pub record SameNext (needs : Needs) (j : ℕ) (registers memory : ℕ → ℕ) (left other : Aftermath) : Type 0 where
  pub pc : left.pc ≡ other.pc
  pub written : SameRegisters needs j (registers_after left registers) (registers_after other registers)
  pub stored : SameBytes needs j (memory_after left memory) (memory_after other memory)

-- of two bytes that may be put one after the other, the first that is and the second
abbrev pub first_of : Option ℕ → Option ℕ → Option ℕ
first_of (Some byte) above = Some byte
first_of None above = above

abbrev pub second_of : Option ℕ → Option ℕ → Option ℕ
second_of (Some byte) above = above
second_of None above = None
