-- What one instruction makes of the needs behind it.
use Rattle.std.specs.Prelude.{◌≡◌, ◌↔◌, ℕ, ◌^◌, ◌<◌, ◌≤◌, ◌⊎◌, List}
use Rattle.rv_isa.specs.declared.effect.Retired.{Retired}
use Rattle.need_pass.specs.Links.{Link}
use Rattle.need_pass.specs.Needed.{Root}
use Rattle.need_pass.specs.ProgramBits.{ProgramBit, IsProgramBit}
use Rattle.need_pass.specs.Tables.{register_mask, byte_mask, need_bit}
use Rattle.need_pass.specs.declared.history.Change.{Change}

-- Before every instruction up to `at` the needs are the same.
pub record IsSettled (registers : List (List Change)) (bytes : List (ℕ × List Change)) (at : ℕ) : Type 0 where
  pub register : (r i : ℕ) → 0 < r → r < 32 → i ≤ at → register_mask registers r i ≡ register_mask registers r 0
  pub byte : (p i : ℕ) → p < 2 ^ 32 → i ≤ at → byte_mask bytes p i ≡ byte_mask bytes p 0

-- From the needs after instruction `at`, which is `entry`, to those before it, as far as the first instruction.
pub record StepsBack (entry : Retired) (at : ℕ) (registers : List (List Change)) (bytes : List (ℕ × List Change)) (registers' : List (List Change)) (bytes' : List (ℕ × List Change)) : Type 0 where
  pub later : (p : ProgramBit) (i : ℕ) → IsProgramBit p → at < i → need_bit registers' bytes' p i ≡ need_bit registers bytes p i
  pub settled : IsSettled registers bytes at → IsSettled registers' bytes' at
  pub now : (p : ProgramBit) → IsProgramBit p → (need_bit registers' bytes' p 0 ≡ 1) ↔ (Root entry p ⊎ ((q : ProgramBit) × IsProgramBit q × Link entry p q × (need_bit registers bytes q 0 ≡ 1)))
