-- An instruction told by its effect.
use Rattle.std.proofs.Common.{◌≡◌, ℕ, ◌*◌, ◌/◌, Bool, true, false, refl, sym, arith}
use Rattle.std.specs.Prelude.{◌==◌, slice_index, Some, None, if◌then◌else◌}
use Rattle.elf_load.specs.Image.{LoadedImage}
use Rattle.rv_table.specs.Actions.{next_address}
use Rattle.rv_table.specs.Effects.{written_register}
use Rattle.rv_table.specs.declared.action.Action.{Action}
use Rattle.rv_table.specs.declared.action.Action.TheVariants.{Stores}
use Rattle.rv_table.specs.declared.op.Op.{Op}
use Rattle.rv_table.specs.declared.operation.StoreKind.{StoreKind}
use Rattle.rv_table.specs.declared.operation.StoreKind.TheVariants.{Sb, Sh, Sw}
use Rattle.rv_isa.specs.Architecture.{ArchState, state_of}
use Rattle.rv_isa.specs.Effects.{effect_by, effect_of, operand_b, operated, store_of}
use Rattle.rv_isa.specs.Instruction.{action_in, completed, given, memory_after as after_action, put_reg, reg}
use Rattle.rv_isa.specs.declared.effect.Effect.{Effect}
use Rattle.rv_isa.proofs.Stores.{store_allowed}
use Rattle.eval_mask.specs.Aftermaths.{Tells, stored_over, written}
use Rattle.eval_mask.specs.Effects.{aftermath_by, store_told, write_by}

-- a write to register 0 is none
write_told : (rd v : ℕ) (f : ℕ → ℕ) (t : Bool) → t ≡ (rd == 0) → put_reg rd v f ≡ written (write_by (if t then None else Some (rd, v))) f
write_told rd v f true e = rw (sym e) refl
write_told rd v f false e = refl

-- a store that is allowed is in RAM
store_by_size : (image : LoadedImage) (op : Op) (pc a b : ℕ) (kind : StoreKind) (x y : ℕ) (memory : ℕ → ℕ)
    → action_in image op pc a b ≡ Stores kind x y
    → after_action image (Stores kind x y) memory ≡ stored_over (store_told (store_of (Stores kind x y))) memory
store_by_size image op pc a b Sb x y memory e = rw (store_allowed image op pc a b Sb x y e).1 refl
store_by_size image op pc a b Sh x y memory e = rw (store_allowed image op pc a b Sh x y e).1 refl
store_by_size image op pc a b Sw x y memory e = rw (store_allowed image op pc a b Sw x y e).1 refl

stores_told : (image : LoadedImage) (op : Op) (pc a b : ℕ) (memory : ℕ → ℕ) (done : Action) → action_in image op pc a b ≡ done
    → after_action image done memory ≡ stored_over (store_told (store_of done)) memory
stores_told image op pc a b memory (Stores kind x y) e = store_by_size image op pc a b kind x y memory e
stores_told image op pc a b memory _ e = refl

quarter : (n : ℕ) → n ≡ 4 * n / 4
quarter n = omega arith

effect_told : (arch : ArchState) (op : Op)
    → Tells (aftermath_by (effect_of arch.image op (state_of arch))) (slice_index arch.registers) (state_of arch).memory (operated arch.image op (state_of arch))
unfolding aftermath_by effect_of effect_by completed
effect_told arch op =
    let at = state_of arch in
    let a = reg at.registers op.rs1 in
    let b = operand_b op at in
    let done = action_in arch.image op at.pc a b in
    record {
      written = write_told (written_register done) (given arch.image done at.memory) at.registers (written_register done == 0) refl;
      stored = stores_told arch.image op at.pc a b at.memory done refl;
      put = refl;
      goes = quarter (next_address op at.pc a b);
      ends = refl;
    }

pub operated_told : (arch : ArchState) (op : Op) (effect : Effect) → effect ≡ effect_of arch.image op (state_of arch)
    → Tells (aftermath_by effect) (slice_index arch.registers) (state_of arch).memory (operated arch.image op (state_of arch))
operated_told arch op effect e = rw e (effect_told arch op)
