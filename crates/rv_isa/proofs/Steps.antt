-- An effect can be committed, and committing it is the step of its operation.
use Rattle.std.proofs.Common.{◌≡◌, ℕ, ◌*◌, ◌/◌, ◌%◌, ◌<◌, ◌==◌, Bool, true, false, Some, None, refl, sym, subst, arith, if◌then◌else◌}
use Rattle.std.proofs.lemmas.Bool.Decides.{nat_tests}
use Rattle.std.specs.Option.{ForSome}
use Rattle.elf_load.specs.Image.{LoadedImage, word_in_ram}
use Rattle.rv_table.specs.Accesses.{store_size}
use Rattle.rv_table.specs.Actions.{next_address}
use Rattle.rv_table.specs.Effects.{written_register}
use Rattle.rv_table.specs.declared.op.Op.{Op}
use Rattle.rv_table.specs.declared.action.Action.{Action}
use Rattle.rv_table.specs.declared.operation.StoreKind.{StoreKind}
use Rattle.rv_table.specs.declared.action.Action.TheVariants.{Stores}
use Rattle.rv_isa.proofs.Stores.{store_allowed, register_below, store_in_ram, stored_there}
use Rattle.rv_isa.specs.Effects.{CanCommit, IsInRam, IsStep, committed, effect_by, effect_of, operand_b, store_of, with_store, with_write, write_of}
use Rattle.rv_isa.specs.Instruction.{State, action_in, completed, given, memory_after, put_reg, reg}

-- what holds of each store that memory allowed
pub StoresAllowed : LoadedImage → Action → Type 0
StoresAllowed image done = (kind : StoreKind) (x y : ℕ) → done ≡ Stores kind x y → (x % store_size kind ≡ 0) × (word_in_ram image (x / 4) ≡ true)

stores_are : (image : LoadedImage) (done : Action) → StoresAllowed image done → ForSome (store_of done) (λ store. IsInRam image store.0 store.1)
unfolding StoresAllowed
stores_are image (Stores kind x y) allowed store e =
    let same : (x, store_size kind, y) ≡ store = cc in
    subst (λ s. IsInRam image s.0 s.1) same (store_in_ram image kind x (allowed kind x y refl).0 (allowed kind x y refl).1)
stores_are image _ allowed store e = absurd cc

memory_stored : (image : LoadedImage) (done : Action) (memory : ℕ → ℕ) → StoresAllowed image done → with_store (store_of done) memory ≡ memory_after image done memory
unfolding StoresAllowed
memory_stored image (Stores kind x y) memory allowed =
    rw (allowed kind x y refl).1 (sym (stored_there kind x y memory (allowed kind x y refl).0))
memory_stored image _ memory allowed = refl

written_by : (b : Bool) (rd value : ℕ) (registers : ℕ → ℕ) → (rd == 0) ≡ b → with_write (if b then None else Some (rd, value)) registers ≡ put_reg rd value registers
written_by true rd value registers e = rw e refl
written_by false rd value registers e = refl

register_written : (image : LoadedImage) (done : Action) (memory registers : ℕ → ℕ) → with_write (write_of image done memory) registers ≡ put_reg (written_register done) (given image done memory) registers
register_written image done memory registers = written_by (written_register done == 0) _ _ registers refl

writes_below : (image : LoadedImage) (done : Action) (memory : ℕ → ℕ) → written_register done < 32 → ForSome (write_of image done memory) (λ write. (0 < write.0) × (write.0 < 32))
writes_below image done memory h write e = grind (arith, nat_tests)

pub effect_can_commit : (image : LoadedImage) (op : Op) (before : State) → op.rd < 32 → CanCommit image (effect_of image op before)
unfolding effect_of effect_by
effect_can_commit image op before h =
    let a = reg before.registers op.rs1 in
    let b = operand_b op before in
    record {
      next = grind arith;
      write = writes_below image (action_in image op before.pc a b) before.memory (register_below image op before.pc a b h);
      store = stores_are image (action_in image op before.pc a b) (unfold StoresAllowed in store_allowed image op before.pc a b);
    }

next_word_of : (n : ℕ) → 4 * n / 4 ≡ n
next_word_of n = omega arith

pub effect_is_step : (image : LoadedImage) (op : Op) (before : State) → IsStep image op (effect_of image op before) before
unfolding effect_of effect_by committed completed StoresAllowed
effect_is_step image op before =
    let a = reg before.registers op.rs1 in
    let b = operand_b op before in
    let done = action_in image op before.pc a b in
    record {
      commits = rw (register_written image done before.memory before.registers, memory_stored image done before.memory (store_allowed image op before.pc a b), next_word_of (next_address op before.pc a b)) refl;
      puts = refl;
    }
