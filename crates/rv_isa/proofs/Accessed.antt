-- The accesses of instructions: as they are recorded, and the lines that they lie in.
use Rattle.std.proofs.Common.{◌≡◌, ◌≢◌, ℕ, ◌/◌, true, Some, None, refl, sym, ◌∙◌, ap, arith}
use Rattle.std.proofs.lemmas.Bool.Decides.{nat_tests}
use Rattle.std.specs.Prelude.{option_map}
use Rattle.std.specs.Option.{option_or}
use Rattle.elf_load.specs.Image.{LoadedImage}
use Rattle.rv_table.specs.Accesses.{accesses, load_size, store_size}
use Rattle.rv_table.specs.Actions.{access_of}
use Rattle.rv_table.specs.declared.action.Access.{Access}
use Rattle.rv_table.specs.declared.action.Action.{Action}
use Rattle.rv_table.specs.declared.action.Action.TheVariants.{Nothing, Writes, Loads, Stores, Puts, Exits, Traps}
use Rattle.rv_table.specs.declared.operation.LoadKind.{LoadKind}
use Rattle.rv_table.specs.declared.operation.LoadKind.TheVariants.{Lb, Lh, Lw, Lbu, Lhu}
use Rattle.rv_table.specs.declared.operation.StoreKind.{StoreKind}
use Rattle.rv_table.specs.declared.operation.StoreKind.TheVariants.{Sb, Sh, Sw}
use Rattle.rv_isa.specs.AccessLaw.{AccessLaw}
use Rattle.rv_isa.specs.Accesses.{accessed_line, address_of, line_of, next_action, next_line, recorded_address}
use Rattle.rv_isa.specs.Effects.{effect_by, effect_of, load_of, retired_at, store_of}
use Rattle.rv_isa.specs.Instruction.{State, end_of}

recorded-action : (done : Action) → option_or (option_map (λ load. load.0) (load_of done)) (option_map (λ store. store.0) (store_of done)) ≡ address_of done
recorded-action Nothing = refl
recorded-action (Writes rd value) = refl
recorded-action (Loads kind rd x) = refl
recorded-action (Stores kind x y) = refl
recorded-action (Puts value) = refl
recorded-action (Exits value) = refl
recorded-action (Traps cause) = refl

recorded : (image : LoadedImage) (at : State) → recorded_address (retired_at image at).effect ≡ address_of (next_action image at)
unfolding retired_at effect_of effect_by
recorded image at = recorded-action (next_action image at)

address-accessed : (done : Action) → option_map (λ (access : Access). access.address) (access_of done) ≡ address_of done
unfolding access_of
address-accessed Nothing = refl
address-accessed (Writes rd value) = refl
address-accessed (Loads kind rd x) = refl
address-accessed (Stores kind x y) = refl
address-accessed (Puts value) = refl
address-accessed (Exits value) = refl
address-accessed (Traps cause) = refl

same : (x y : Action) → access_of x ≡ access_of y → address_of x ≡ address_of y
same x y e = sym (address-accessed x) ∙ ap (option_map (λ (access : Access). access.address)) e ∙ address-accessed y

in_line : (size x p : ℕ) → accesses size x p ≡ true → p / size ≡ x / size
unfolding accesses
in_line size x p h = grind (arith, nat_tests)

load_line : (kind : LoadKind) (x p : ℕ) → accesses (load_size kind) x p ≡ true → line_of p ≡ line_of x
load_line Lb x p h = let e = in_line 1 x p h in omega arith
load_line Lh x p h = let e = in_line 2 x p h in omega arith
load_line Lw x p h = let e = in_line 4 x p h in omega arith
load_line Lbu x p h = let e = in_line 1 x p h in omega arith
load_line Lhu x p h = let e = in_line 2 x p h in omega arith

store_line : (kind : StoreKind) (x p : ℕ) → accesses (store_size kind) x p ≡ true → line_of p ≡ line_of x
store_line Sb x p h = let e = in_line 1 x p h in omega arith
store_line Sh x p h = let e = in_line 2 x p h in omega arith
store_line Sw x p h = let e = in_line 4 x p h in omega arith

within : (done : Action) (access : Access) (p : ℕ) → access_of done ≡ Some access → accesses access.size access.address p ≡ true → line_of p ≡ line_of access.address
unfolding access_of
within (Loads kind rd x) access p e h =
    let size : access.size ≡ load_size kind = cc in
    let address : access.address ≡ x = cc in
    load_line kind x p (ap (λ n. accesses n x p) (sym size) ∙ ap (λ y. accesses access.size y p) (sym address) ∙ h) ∙ ap line_of (sym address)
within (Stores kind x y) access p e h =
    let size : access.size ≡ store_size kind = cc in
    let address : access.address ≡ x = cc in
    store_line kind x p (ap (λ n. accesses n x p) (sym size) ∙ ap (λ y. accesses access.size y p) (sym address) ∙ h) ∙ ap line_of (sym address)
within _ access p e h = absurd cc

ending-action : (done : Action) → end_of done ≢ None → accessed_line done ≡ None
ending-action Nothing n = refl
ending-action (Writes rd value) n = refl
ending-action (Loads kind rd x) n = absurd (n refl)
ending-action (Stores kind x y) n = absurd (n refl)
ending-action (Puts value) n = refl
ending-action (Exits value) n = refl
ending-action (Traps cause) n = refl

ending : (image : LoadedImage) (at : State) → end_of (next_action image at) ≢ None → next_line image at ≡ None
ending image at n = ending-action (next_action image at) n

pub law : AccessLaw
law = record { recorded = recorded; same = same; within = within; ending = ending }
