-- What holds of each instruction of a trace.
use Rattle.std.proofs.Common.{◌≡◌, ℕ, ◌%◌, ◌^◌, ◌<◌, ◌⊎◌, Option, Some, None, refl, subst, arith, lit<}
use Rattle.std.specs.Option.{ForSome}
use Rattle.std.specs.Prelude.{length, slice_get}
use Rattle.std.proofs.lemmas.Bool.Decides.{nat_tests}
use Rattle.elf_load.specs.Image.{LoadedImage, executable, fetch, word_in_ram}
use Rattle.rv_table.proofs.WordTable.{decode-rd, decode-rs1, decode-rs2}
use Rattle.rv_table.specs.Accesses.{load_size, store_size}
use Rattle.rv_table.specs.Actions.{action, asked, asked_by, judged}
use Rattle.rv_table.specs.Operations.{operation_of}
use Rattle.rv_table.specs.declared.op.Op.{Op}
use Rattle.rv_table.specs.declared.operation.Operation.{Operation}
use Rattle.rv_table.specs.declared.operation.LoadKind.{LoadKind}
use Rattle.rv_table.specs.declared.operation.StoreKind.{StoreKind}
use Rattle.rv_table.specs.declared.action.Action.{Action}
use Rattle.rv_table.specs.declared.action.Action.TheVariants.{Loads, Stores}
use Rattle.rv_isa.proofs.Steps.{effect_can_commit}
use Rattle.rv_isa.proofs.Stores.{asked_by-aligned, judged-store}
use Rattle.rv_isa.specs.Effects.{IsAccess, IsRetired, effect_by, effect_of, load_of, operand_b, retired_at, store_of}
use Rattle.rv_isa.specs.Instruction.{State, action_in, op_at, op_of_word, reg}
use Rattle.rv_isa.specs.Runs.{ComesFromImage, ProgramTrace, after, reset}
use Rattle.rv_isa.specs.declared.effect.Retired.{Retired}

-- a load that is asked for is aligned; an address is one of 32 bits
asked_by-load : (o : Operation) (op : Op) (pc a b : ℕ) (kind : LoadKind) (rd x : ℕ) → asked_by o op pc a b ≡ Loads kind rd x → (x % load_size kind ≡ 0) × (x < 2 ^ 32)
unfolding asked_by
asked_by-load o op pc a b kind rd x e = grind (arith, nat_tests)

asked_by-below : (o : Operation) (op : Op) (pc a b : ℕ) (kind : StoreKind) (x y : ℕ) → asked_by o op pc a b ≡ Stores kind x y → x < 2 ^ 32
unfolding asked_by
asked_by-below o op pc a b kind x y e = grind (arith, nat_tests)

judged-load : (image : LoadedImage) (done : Action) (kind : LoadKind) (rd x : ℕ) → judged (word_in_ram image) (executable image) done ≡ Loads kind rd x → done ≡ Loads kind rd x
unfolding judged
judged-load image done kind rd x e = grind (arith, nat_tests)

access_sizes : (kind : LoadKind) → (load_size kind ≡ 1) ⊎ (load_size kind ≡ 2) ⊎ (load_size kind ≡ 4)
access_sizes kind = grind arith

store_sizes : (kind : StoreKind) → (store_size kind ≡ 1) ⊎ (store_size kind ≡ 2) ⊎ (store_size kind ≡ 4)
store_sizes kind = grind arith

pub load_access : (image : LoadedImage) (op : Op) (pc a b : ℕ) (done : Action) → action_in image op pc a b ≡ done → ForSome (load_of done) (λ load. IsAccess load.0 load.1)
unfolding action asked
load_access image op pc a b (Loads kind rd x) e load f =
    let asked = asked_by-load (operation_of op.code) op pc a b kind rd x (judged-load image _ kind rd x e) in
    let same : (x, load_size kind) ≡ load = cc in
    subst (λ l. IsAccess l.0 l.1) same (record { whole = access_sizes kind; aligned = asked.0; below = asked.1 })
load_access image op pc a b _ e load f = absurd cc

pub store_access : (image : LoadedImage) (op : Op) (pc a b : ℕ) (done : Action) → action_in image op pc a b ≡ done → ForSome (store_of done) (λ store. IsAccess store.0 store.1)
unfolding action asked
store_access image op pc a b (Stores kind x y) e store f =
    let asked = (judged-store image (asked op pc a b) kind x y e).0 in
    let same : (x, store_size kind, y) ≡ store = cc in
    subst (λ s. IsAccess s.0 s.1) same (record { whole = store_sizes kind; aligned = asked_by-aligned (operation_of op.code) op pc a b kind x y asked; below = asked_by-below (operation_of op.code) op pc a b kind x y asked })
store_access image op pc a b _ e store f = absurd cc

fields_of : (word : Option ℕ) → ((op_of_word word).rd < 32) × ((op_of_word word).rs1 < 32) × ((op_of_word word).rs2 < 32)
fields_of (Some word) = (decode-rd word, decode-rs1 word, decode-rs2 word)
fields_of None = (lit< tt, lit< tt, lit< tt)

pub retired_well : (image : LoadedImage) (at : State) → IsRetired (retired_at image at)
unfolding retired_at effect_of effect_by
retired_well image at =
    let op = op_at image at.pc in
    let a = reg at.registers op.rs1 in
    let b = operand_b op at in
    let fields = fields_of (fetch image at.pc) in
    record {
      rs1 = fields.1;
      rs2 = fields.2;
      write = (effect_can_commit image op at fields.0).write;
      load = load_access image op at.pc a b (action_in image op at.pc a b) refl;
      store = store_access image op at.pc a b (action_in image op at.pc a b) refl;
    }

pub entry_well : (run : ProgramTrace) (i : ℕ) (entry : Retired) → ComesFromImage run → i < length run.entries → slice_get run.entries i ≡ Some entry → IsRetired entry
entry_well run i entry from h e =
    let here : retired_at from.image (after from.image i (reset from.image from.clocks)) ≡ entry = cc (from.traced.retired i h) in
    subst IsRetired here (retired_well from.image (after from.image i (reset from.image from.clocks)))
