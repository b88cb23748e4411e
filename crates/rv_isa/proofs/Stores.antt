-- The stores and the registers that an operation asks for.
use Rattle.std.proofs.Common.{◌≡◌, ℕ, ◌/◌, ◌%◌, ◌<◌, true, Some, refl, arith, inl, inr}
use Rattle.std.proofs.Math.Path.{fun_ext}
use Rattle.std.proofs.lemmas.Bool.Decides.{nat_tests}
use Rattle.elf_load.specs.Image.{LoadedImage, in_ram, executable, word_in_ram}
use Rattle.rv_table.specs.Accesses.{accesses, store_size, stored}
use Rattle.rv_table.specs.Actions.{action, asked, asked_by, judged}
use Rattle.rv_table.specs.Effects.{written_register}
use Rattle.rv_table.specs.Operations.{operation_of}
use Rattle.rv_table.specs.declared.op.Op.{Op}
use Rattle.rv_table.specs.declared.operation.Operation.{Operation}
use Rattle.rv_table.specs.declared.action.Action.{Action}
use Rattle.rv_table.specs.declared.action.Action.TheVariants.{Stores}
use Rattle.rv_table.specs.declared.operation.StoreKind.{StoreKind}
use Rattle.rv_table.specs.declared.operation.StoreKind.TheVariants.{Sb, Sh, Sw}
use Rattle.rv_isa.specs.Effects.{IsInRam, with_store}
use Rattle.rv_isa.specs.Instruction.{action_in}

-- a store that is asked for is aligned
pub asked_by-aligned : (o : Operation) (op : Op) (pc a b : ℕ) (kind : StoreKind) (x y : ℕ) → asked_by o op pc a b ≡ Stores kind x y → x % store_size kind ≡ 0
unfolding asked_by
asked_by-aligned o op pc a b kind x y e = grind (arith, nat_tests)

pub judged-store : (image : LoadedImage) (done : Action) (kind : StoreKind) (x y : ℕ) → judged (word_in_ram image) (executable image) done ≡ Stores kind x y → (done ≡ Stores kind x y) × (word_in_ram image (x / 4) ≡ true)
unfolding judged
judged-store image done kind x y e = grind (arith, nat_tests)

-- and one that is allowed is in RAM
pub store_allowed : (image : LoadedImage) (op : Op) (pc a b : ℕ) (kind : StoreKind) (x y : ℕ) → action_in image op pc a b ≡ Stores kind x y → (x % store_size kind ≡ 0) × (word_in_ram image (x / 4) ≡ true)
unfolding action asked
store_allowed image op pc a b kind x y e =
    let allowed = judged-store image (asked op pc a b) kind x y e in
    (asked_by-aligned (operation_of op.code) op pc a b kind x y allowed.0, allowed.1)

asked_by-register : (o : Operation) (op : Op) (pc a b : ℕ) → op.rd < 32 → written_register (asked_by o op pc a b) < 32
unfolding asked_by
asked_by-register o op pc a b h = grind (arith, nat_tests)

judged-register : (image : LoadedImage) (done : Action) → written_register done < 32 → written_register (judged (word_in_ram image) (executable image) done) < 32
unfolding judged
judged-register image done h = grind (arith, nat_tests)

pub register_below : (image : LoadedImage) (op : Op) (pc a b : ℕ) → op.rd < 32 → written_register (action_in image op pc a b) < 32
unfolding action asked
register_below image op pc a b h = judged-register image (asked op pc a b) (asked_by-register (operation_of op.code) op pc a b h)

-- the bytes of an aligned store are in RAM
pub store_in_ram : (image : LoadedImage) (kind : StoreKind) (x : ℕ) → x % store_size kind ≡ 0 → word_in_ram image (x / 4) ≡ true → IsInRam image x (store_size kind)
unfolding word_in_ram in_ram
store_in_ram image Sb x e h = record { whole = inl refl; bytes = λ k l. grind (arith, nat_tests) }
store_in_ram image Sh x e h = record { whole = inr (inl refl); bytes = λ k l. grind (arith, nat_tests) }
store_in_ram image Sw x e h = record { whole = inr (inr refl); bytes = λ k l. grind (arith, nat_tests) }

-- and they stand from its address on
pub stored_there : (kind : StoreKind) (x y : ℕ) (memory : ℕ → ℕ) → x % store_size kind ≡ 0 → stored kind x y memory ≡ with_store (Some (x, store_size kind, y)) memory
unfolding stored accesses
stored_there Sb x y memory e = fun_ext (λ p. grind (arith, nat_tests))
stored_there Sh x y memory e = fun_ext (λ p. grind (arith, nat_tests))
stored_there Sw x y memory e = fun_ext (λ p. grind (arith, nat_tests))
