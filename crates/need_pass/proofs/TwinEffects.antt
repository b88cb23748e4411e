-- What twin actions do: what is seen of them, the register that they write and the bytes that they store.
use Rattle.std.proofs.Common.{◌≡◌, ℕ, ◌+◌, ◌-◌, ◌*◌, ◌/◌, ◌%◌, ◌^◌, ◌<◌, Bool, true, false, cond, refl, sym, ◌∙◌, ap, subst, arith, eqb-true, inl, inr}
use Rattle.std.specs.Int.{bit_at}
use Rattle.std.specs.Prelude.{not, ◌&&◌, Some}
use Rattle.std.proofs.lemmas.Bool.{cases_eq, cases_Bool}
use Rattle.std.proofs.lemmas.Bool.Decides.{nat_tests}
use Rattle.avf_base.specs.declared.end.End.TheVariants.{Exit}
use Rattle.elf_load.specs.Image.{LoadedImage, word_in_ram}
use Rattle.rv_isa.specs.Effects.{load_of, store_of}
use Rattle.rv_isa.specs.Instruction.{given, memory_after, end_of}
use Rattle.rv_table.specs.Accesses.{accesses, load_size, store_size, stored}
use Rattle.rv_table.specs.Actions.{judged, access_of, some_executable}
use Rattle.rv_table.specs.Effects.{byte_put, written_register}
use Rattle.rv_table.specs.declared.action.Action.{Action}
use Rattle.rv_table.specs.declared.action.Action.TheVariants.{Loads, Stores, Traps}
use Rattle.rv_table.specs.declared.op.Op.{Op}
use Rattle.rv_table.specs.declared.operation.LoadKind.{LoadKind}
use Rattle.rv_table.specs.declared.operation.LoadKind.TheVariants.{Lb, Lh, Lw, Lbu, Lhu}
use Rattle.rv_table.specs.declared.operation.StoreKind.{StoreKind}
use Rattle.rv_table.specs.declared.operation.StoreKind.TheVariants.{Sb, Sh, Sw}
use Rattle.rv_table.specs.declared.operation.Operation.{Operation}
use Rattle.need_pass.specs.Links.{LinkA, LinkB, LinkLoaded, FromLoaded, has_byte, byte_number, stored_bytes}
use Rattle.need_pass.proofs.SameAccess.{same_loaded, same_byte_of}
use Rattle.need_pass.proofs.Twins.{Twins, nothing, writes, loads, stores, puts, exits, traps}

-- ---- what is seen

pub same_access : (o : Operation) (op : Op) (a b c d : ℕ) (x y : Action) → Twins o op a b c d x y → access_of x ≡ access_of y
unfolding access_of
same_access o op a b c d _ _ nothing = refl
same_access o op a b c d _ _ (writes rd v w s) = refl
same_access o op a b c d _ _ (loads kind rd x e f) = refl
same_access o op a b c d _ _ (stores kind x f) = refl
same_access o op a b c d _ _ (puts v w e) = refl
same_access o op a b c d _ _ (exits v w e) = refl
same_access o op a b c d _ _ (traps cause) = refl

pub same_put : (o : Operation) (op : Op) (a b c d : ℕ) (x y : Action) → Twins o op a b c d x y → byte_put x ≡ byte_put y
same_put o op a b c d _ _ nothing = refl
same_put o op a b c d _ _ (writes rd v w s) = refl
same_put o op a b c d _ _ (loads kind rd x e f) = refl
same_put o op a b c d _ _ (stores kind x f) = refl
same_put o op a b c d _ _ (puts v w e) = ap (λ n. Some n) e
same_put o op a b c d _ _ (exits v w e) = refl
same_put o op a b c d _ _ (traps cause) = refl

pub same_end : (o : Operation) (op : Op) (a b c d : ℕ) (x y : Action) → Twins o op a b c d x y → end_of x ≡ end_of y
same_end o op a b c d _ _ nothing = refl
same_end o op a b c d _ _ (writes rd v w s) = refl
same_end o op a b c d _ _ (loads kind rd x e f) = refl
same_end o op a b c d _ _ (stores kind x f) = refl
same_end o op a b c d _ _ (puts v w e) = refl
same_end o op a b c d _ _ (exits v w e) = ap (λ n. Some (Exit n)) e
same_end o op a b c d _ _ (traps cause) = refl

pub same_register : (o : Operation) (op : Op) (a b c d : ℕ) (x y : Action) → Twins o op a b c d x y → written_register x ≡ written_register y
same_register o op a b c d _ _ nothing = refl
same_register o op a b c d _ _ (writes rd v w s) = refl
same_register o op a b c d _ _ (loads kind rd x e f) = refl
same_register o op a b c d _ _ (stores kind x f) = refl
same_register o op a b c d _ _ (puts v w e) = refl
same_register o op a b c d _ _ (exits v w e) = refl
same_register o op a b c d _ _ (traps cause) = refl

-- ---- an access that memory allows is in RAM

abbrev pub IsAllowed : (ℕ → Bool) → Action → Type 0
IsAllowed ram (Loads kind rd x) = ram (x / 4) ≡ true
IsAllowed ram (Stores kind x y) = ram (x / 4) ≡ true
IsAllowed ram _ = Unit {0}

pub allowed : (ram executable : ℕ → Bool) (x : Action) → IsAllowed ram (judged ram executable x)
unfolding judged
allowed ram executable (Loads kind rd x) = go (ram (x / 4)) refl
  where
    go : (t : Bool) → ram (x / 4) ≡ t → IsAllowed ram (cond t (Loads kind rd x) (Traps 5))
    go true e = e
    go false e = tt
allowed ram executable (Stores kind x y) = go (ram (x / 4)) refl
  where
    inner : (u : Bool) → ram (x / 4) ≡ true → IsAllowed ram (cond u (Stores kind x y) (Traps 6))
    inner true e = e
    inner false e = tt

    go : (t : Bool) → ram (x / 4) ≡ t → IsAllowed ram (cond (t && not (some_executable executable x (store_size kind))) (Stores kind x y) (Traps 6))
    go true e = inner (not (some_executable executable x (store_size kind))) e
    go false e = tt
allowed ram executable _ = tt

-- ---- the bytes of an aligned access

-- whether p is one of its bytes, and which
abbrev IsBlock : ℕ → Type 0
IsBlock size = (x p : ℕ) → x % size ≡ 0 → (has_byte (Some (x, size)) p ≡ accesses size x p) × (accesses size x p ≡ true → (p - x < 4) × (p % size ≡ p - x))

block_1 : IsBlock 1
unfolding accesses
block_1 x p e = (
  elim (cases_eq (p / 1) (x / 1)) [ inl y ↦ grind (arith, nat_tests) | inr n ↦ grind (arith, nat_tests) ],
  λ t. let y : p / 1 ≡ x / 1 = eqb-true (p / 1) (x / 1) t in (omega arith, omega arith),
)

block_2 : IsBlock 2
unfolding accesses
block_2 x p e = (
  elim (cases_eq (p / 2) (x / 2)) [ inl y ↦ grind (arith, nat_tests) | inr n ↦ grind (arith, nat_tests) ],
  λ t. let y : p / 2 ≡ x / 2 = eqb-true (p / 2) (x / 2) t in (omega arith, omega arith),
)

block_4 : IsBlock 4
unfolding accesses
block_4 x p e = (
  elim (cases_eq (p / 4) (x / 4)) [ inl y ↦ grind (arith, nat_tests) | inr n ↦ grind (arith, nat_tests) ],
  λ t. let y : p / 4 ≡ x / 4 = eqb-true (p / 4) (x / 4) t in (omega arith, omega arith),
)

load_block : (kind : LoadKind) → IsBlock (load_size kind)
load_block Lb = block_1
load_block Lh = block_2
load_block Lw = block_4
load_block Lbu = block_1
load_block Lhu = block_2

store_block : (kind : StoreKind) → IsBlock (store_size kind)
store_block Sb = block_1
store_block Sh = block_2
store_block Sw = block_4

-- ---- the written register

pub same_given : (image : LoadedImage) (o : Operation) (op : Op) (a b c d j : ℕ) (f g : ℕ → ℕ) (x y : Action) → Twins o op a b c d x y → IsAllowed (word_in_ram image) x → ((p : ℕ) → f p < 2 ^ 8) → ((p : ℕ) → g p < 2 ^ 8) → j < 32 → ((k : ℕ) → k < 32 → LinkA o op a b k j → bit_at a k ≡ bit_at c k) → ((k : ℕ) → k < 32 → LinkB o a b k j → bit_at b k ≡ bit_at d k) → ((p k : ℕ) → k < 8 → has_byte (load_of x) p ≡ true → LinkLoaded o (8 * byte_number (load_of x) p + k) j → bit_at (f p) k ≡ bit_at (g p) k) → 0 < written_register x → bit_at (given image x f) j ≡ bit_at (given image y g) j
same_given image o op a b c d j f g _ _ (writes rd v w same) ok hf hg l sa sb sl pos = same j l sa sb
same_given image o op a b c d j f g _ _ (loads kind rd x e aligned) ok hf hg l sa sb sl pos = rw ok (same_loaded kind x j f g hf hg l loaded_bits)
  where
    loaded_bits : (p k : ℕ) → accesses (load_size kind) x p ≡ true → k < 8 → FromLoaded kind (8 * (p % load_size kind) + k) j → bit_at (f p) k ≡ bit_at (g p) k
    loaded_bits p k t m link =
        let (h, n) = load_block kind x p aligned in
        sl p k m (h ∙ t) (subst (λ (z : Operation). LinkLoaded z (8 * (p - x) + k) j) (sym e) (subst (λ (z : ℕ). FromLoaded kind (8 * z + k) j) (n t).1 link))
same_given image o op a b c d j f g _ _ nothing ok hf hg l sa sb sl pos = absurd (omega arith)
same_given image o op a b c d j f g _ _ (stores kind x aligned) ok hf hg l sa sb sl pos = absurd (omega arith)
same_given image o op a b c d j f g _ _ (puts v w e) ok hf hg l sa sb sl pos = absurd (omega arith)
same_given image o op a b c d j f g _ _ (exits v w e) ok hf hg l sa sb sl pos = absurd (omega arith)
same_given image o op a b c d j f g _ _ (traps cause) ok hf hg l sa sb sl pos = absurd (omega arith)

-- ---- a byte of memory

same_stored : (kind : StoreKind) (x p k b d : ℕ) (f g : ℕ → ℕ) → x % store_size kind ≡ 0 → k < 8 → (has_byte (Some (x, store_size kind)) p ≡ true → (m : ℕ) → m < 32 → m ≡ 8 * (p - x) + k → bit_at b m ≡ bit_at d m) → (has_byte (Some (x, store_size kind)) p ≡ false → bit_at (f p) k ≡ bit_at (g p) k) → bit_at (stored kind x b f p) k ≡ bit_at (stored kind x d g p) k
unfolding stored
same_stored kind x p k b d f g aligned l ss sk =
    let parts = store_block kind x p aligned in
    elim (cases_Bool (accesses (store_size kind) x p)) [
      | inl t ↦ rw t (same_byte_of b d (p % store_size kind) k l (ss (parts.0 ∙ t) (8 * (p % store_size kind) + k) (let n = parts.1 t in omega (arith, n.0, n.1)) (let n = parts.1 t in omega (arith, n.1))))
      | inr t ↦ rw t (sk (parts.0 ∙ t))
    ]

pub same_memory : (image : LoadedImage) (o : Operation) (op : Op) (a b c d p k : ℕ) (f g : ℕ → ℕ) (x y : Action) → Twins o op a b c d x y → IsAllowed (word_in_ram image) x → k < 8 → (has_byte (stored_bytes (store_of x)) p ≡ true → (m : ℕ) → m < 32 → m ≡ 8 * byte_number (stored_bytes (store_of x)) p + k → bit_at b m ≡ bit_at d m) → (has_byte (stored_bytes (store_of x)) p ≡ false → bit_at (f p) k ≡ bit_at (g p) k) → bit_at (memory_after image x f p) k ≡ bit_at (memory_after image y g p) k
same_memory image o op a b c d p k f g _ _ nothing ok l ss sk = sk refl
same_memory image o op a b c d p k f g _ _ (writes rd v w s) ok l ss sk = sk refl
same_memory image o op a b c d p k f g _ _ (loads kind rd x e aligned) ok l ss sk = sk refl
same_memory image o op a b c d p k f g _ _ (stores kind x aligned) ok l ss sk = rw ok (same_stored kind x p k b d f g aligned l ss sk)
same_memory image o op a b c d p k f g _ _ (puts v w e) ok l ss sk = sk refl
same_memory image o op a b c d p k f g _ _ (exits v w e) ok l ss sk = sk refl
same_memory image o op a b c d p k f g _ _ (traps cause) ok l ss sk = sk refl
