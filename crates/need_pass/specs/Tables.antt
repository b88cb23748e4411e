-- The needs of a whole run, as the program keeps them, and what they promise.
use Rattle.std.specs.Prelude.{◌≡◌, ◌↔◌, ℕ, ◌-◌, ◌%◌, ◌^◌, ◌<◌, List, [], Option, length, drop, slice_index_or}
use Rattle.std.specs.Int.{bit_at}
use Rattle.rv_isa.specs.declared.effect.Retired.{Retired}
use Rattle.need_pass.specs.Histories.{changes_of, mask_at, until_at}
use Rattle.need_pass.specs.Needed.{Needed}
use Rattle.need_pass.specs.ProgramBits.{ProgramBit, Register, Byte}
use Rattle.need_pass.specs.declared.history.Change.{Change}

-- the mask of register r before instruction i, from the changes of registers 1 to 31
abbrev pub register_mask : List (List Change) → ℕ → ℕ → ℕ
register_mask registers r i = mask_at (slice_index_or registers (r - 1) []) i

-- the mask of the byte at address p before instruction i, from the changes by address
abbrev pub byte_mask : List (ℕ × List Change) → ℕ → ℕ → ℕ
byte_mask bytes p i = mask_at (changes_of bytes p) i

-- a bit in these masks
abbrev pub need_bit : List (List Change) → List (ℕ × List Change) → ProgramBit → ℕ → ℕ
need_bit registers bytes (Register r k) i = bit_at (register_mask registers r i) k
need_bit registers bytes (Byte p k) i = bit_at (byte_mask bytes p i) k

-- The needs of a run of so many instructions.
pub record Needs : Type 0 where
  pub count : ℕ
  pub registers : List (List Change)
  pub bytes : List (ℕ × List Change)

-- the needed bits of register r, 1 to 31, before instruction i
unfoldable pub reg_need : Needs → ℕ → ℕ → ℕ
reg_need needs r i = register_mask needs.registers r i

-- the needed bits of the byte at address p before instruction i
unfoldable pub byte_need : Needs → ℕ → ℕ → ℕ
byte_need needs p i = byte_mask needs.bytes p i % 2 ^ 8

-- the last instruction up to and with which they stay those before instruction i, none where they stay for ever
abbrev pub byte_until : Needs → ℕ → ℕ → Option ℕ
byte_until needs p i = until_at (changes_of needs.bytes p) i

-- The needs are those of the run with these instructions: a bit is set exactly where it is needed by the instructions from i on.
-- Nothing is needed after the last.
pub record IsNeedOf (entries : List Retired) (needs : Needs) : Type 0 where
  pub count : needs.count ≡ length entries
  pub register : (r k i : ℕ) → 0 < r → r < 32 → k < 32 → (bit_at (reg_need needs r i) k ≡ 1) ↔ Needed (drop i entries) (Register r k)
  pub byte : (p k i : ℕ) → p < 2 ^ 32 → k < 8 → (bit_at (byte_need needs p i) k ≡ 1) ↔ Needed (drop i entries) (Byte p k)
