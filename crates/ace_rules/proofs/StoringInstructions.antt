-- What the instruction does that the memory stage is done with as a store begins to wait.
use Rattle.std.proofs.Common.{◌≡◌, ◌+◌, ◌/◌, ◌%◌, ◌≤◌, ◌<◌, ◌==◌, ◌&&◌, zero, suc, ℕ, Bool, true, false, cond, None, Some, List, [], ◌∷◌, slice_get}
use Rattle.std.proofs.Common.{drop, arith, refl, sym, ap, subst, ◌∙◌, inl, inr, nat_le, nat_lt}
use Rattle.std.specs.Prelude.{option_map}
use Rattle.std.proofs.lemmas.Bool.{and_parts, eqb-true}
use Rattle.std.proofs.lemmas.Bool.Decides.{nat_tests, Decides-eqb}
use Rattle.bit_field.specs.Lanes.{has_lane}
use Rattle.elf_load.specs.Image.{LoadedImage}
use Rattle.rv_table.specs.Accesses.{accesses as takes, lane_mask, store_size}
use Rattle.rv_table.specs.declared.action.Action.{Action}
use Rattle.rv_table.specs.declared.action.Action.TheVariants.{Stores}
use Rattle.rv_table.specs.declared.operation.StoreKind.{StoreKind}
use Rattle.rv_table.specs.declared.operation.StoreKind.TheVariants.{Sb, Sh, Sw}
use Rattle.rv_table.proofs.Stores.{store_mask-bit}
use Rattle.rv_isa.specs.Accesses.{address_of, line_of, next_action, recorded_line}
use Rattle.rv_isa.specs.Effects.{effect_by, effect_of, retired_at, store_of, write_of}
use Rattle.rv_isa.specs.Instruction.{State as Arch}
use Rattle.rv_isa.specs.declared.effect.Retired.{Retired}
use Rattle.rv_isa.proofs.Accessed.{law}
use Rattle.rv_isa.proofs.Entries.{retired_well}
use Rattle.store_buf.specs.Entry.{Entry}
use Rattle.cyc_machine.specs.Cycle.{action_in_m}
use Rattle.cyc_machine.specs.Memory.{entry_of}
use Rattle.need_pass.specs.Links.{Link, stores, writes as writes_register}
use Rattle.need_pass.specs.Needed.{Needed, Root}
use Rattle.need_pass.specs.ProgramBits.{ProgramBit}
use Rattle.need_pass.specs.ProgramBits.ProgramBit.{Byte, Register}
use Rattle.need_pass.specs.Tables.{Needs}
use Rattle.tag_dist.specs.Lines.{accesses}
use Rattle.ace_law.specs.MemoryRules.{writes}
use Rattle.ace_law.specs.Moments.{IsTold, Moment, retired, state, trace}
use Rattle.ace_law.proofs.Told.{executed-within, facts, get-entry, state-image}
use Rattle.ace_rules.proofs.NewStores.{IsStoreOf}

-- ---- the store of an instruction

-- the instruction makes this store
pub record IsStoring (entry : Retired) (e : Entry) : Type 0 where
  pub kind : StoreKind
  pub x : ℕ
  pub y : ℕ
  pub is : e ≡ entry_of kind x y
  pub aligned : x % store_size kind ≡ 0
  pub store : entry.effect.store ≡ Some (x, store_size kind, y)
  pub write : entry.effect.write ≡ None
  pub line : recorded_line entry.effect ≡ Some (x / 16)

storing-at : (image : LoadedImage) (at : Arch) (kind : StoreKind) (x y : ℕ) (e : Entry) → next_action image at ≡ Stores kind x y
    → e ≡ entry_of kind x y → IsStoring (retired_at image at) e
unfolding retired_at effect_of effect_by
storing-at image at kind x y e action is =
    let store : (retired_at image at).effect.store ≡ Some (x, store_size kind, y) = ap store_of action in
    record {
      kind = kind;
      x = x;
      y = y;
      is = is;
      aligned = ((retired_well image at).store (x, store_size kind, y) store).aligned;
      store = store;
      write = ap (λ (done : Action). write_of image done at.memory) action;
      line = ap (option_map line_of) (law.recorded image at) ∙ ap (λ (done : Action). option_map line_of (address_of done)) action;
    }

-- ---- the bytes and the line that it stores to

in-access : (kind : StoreKind) (x p : ℕ) → x % store_size kind ≡ 0 → takes (store_size kind) x p ≡ true
    → (x ≤ p) × (p < x + store_size kind)
unfolding takes
in-access Sb x p a h = let e = eqb-true (p / 1) (x / 1) h in (omega (arith, e), omega (arith, e))
in-access Sh x p a h = let e = eqb-true (p / 2) (x / 2) h in (omega (arith, e, a), omega (arith, e, a))
in-access Sw x p a h = let e = eqb-true (p / 4) (x / 4) h in (omega (arith, e, a), omega (arith, e, a))

lane-taken : (b : Bool) → (cond b 1 0 == 1) ≡ true → b ≡ true
lane-taken true h = refl
lane-taken false h = absurd cc

entry-takes : (kind : StoreKind) (x y p : ℕ) → writes (entry_of kind x y) p ≡ true → takes (store_size kind) x p ≡ true
entry-takes kind x y p h =
    let (word, lane) = and_parts (x / 4 == p / 4) (has_lane (lane_mask (store_size kind) x) (p % 4)) h in
    let same : p / 4 ≡ x / 4 = sym (eqb-true (x / 4) (p / 4) word) in
    lane-taken (takes (store_size kind) x p) (sym (ap (λ (n : ℕ). n == 1) (store_mask-bit kind x p same)) ∙ lane)

within-both : (x n p : ℕ) → x ≤ p → p < x + n → (nat_le x p && nat_lt p (x + n)) ≡ true
within-both x n p l h = grind (arith, nat_tests)

-- it stores the bytes that the store writes
pub stores-byte : (entry : Retired) (e : Entry) (p : ℕ) → IsStoring entry e → writes e p ≡ true → stores entry p ≡ true
stores-byte entry e p is h =
    let writes-p : writes (entry_of is.kind is.x is.y) p ≡ true = subst (λ (e : Entry). writes e p ≡ true) is.is h in
    let (from, to) = in-access is.kind is.x p is.aligned (entry-takes is.kind is.x is.y p writes-p) in
    rw is.store (within-both is.x (store_size is.kind) p from to)

-- it accesses the line that the store is to
pub accesses-line : (entry : Retired) (e : Entry) (line : ℕ) → IsStoring entry e → e.addr / 4 ≡ line → accesses line entry ≡ true
accesses-line entry e line is h =
    let addr : e.addr ≡ is.x / 4 = ap (λ (e : Entry). e.addr) is.is in
    rw is.line ((Decides-eqb (is.x / 16) line).1 (omega (arith, addr, h)))

-- ---- it needs no bit of them

no-register : (entry : Retired) (s : ℕ) → entry.effect.write ≡ None → writes_register entry s ≡ false
no-register entry s e = rw e refl

no-link : (entry : Retired) (p k : ℕ) (q : ProgramBit) → entry.effect.write ≡ None → stores entry p ≡ true → Link entry (Byte p k) q → ⊥
unfolding Link
no-link entry p k (Register s j) w h link = let none = no-register entry s w in let some = link.0 in absurd cc
no-link entry p k (Byte q j) w h link =
    let kept : stores entry p ≡ false = ap (stores entry) link.1 ∙ link.0 in
    absurd cc

no-root : (entry : Retired) (p k : ℕ) → Root entry (Byte p k) → ⊥
unfolding Root
no-root entry p k root = root

pub stored-unneeded : (entry : Retired) (later : List Retired) (p k : ℕ) → entry.effect.write ≡ None → stores entry p ≡ true
    → Needed (entry ∷ later) (Byte p k) → ⊥
unfolding Needed
stored-unneeded entry later p k w h n = elim n.1 [ inl root ↦ no-root entry p k root | inr (q, link, m) ↦ no-link entry p k q w h link ]

-- ---- the instruction that it is

pub drop-at : (xs : List Retired) (i : ℕ) (x : Retired) → slice_get xs i ≡ Some x → (later : List Retired) × (drop i xs ≡ x ∷ later)
drop-at [] i x h = absurd cc
drop-at (y ∷ xs) zero x h = (xs, let e : y ≡ x = cc in ap (λ (y : Retired). y ∷ xs) e)
drop-at (y ∷ xs) (suc i) x h = drop-at xs i x h

-- the next instruction that leaves the memory stage is that of a run, and makes this store
pub record IsStoringNext (a : Moment) (e : Entry) : Type 0 where
  pub entry : Retired
  pub at : slice_get a.run.entries (retired a) ≡ Some entry
  pub storing : IsStoring entry e

module _ (a : Moment) (table : Needs) (told : IsTold a.r a.run table) (below : a.t < a.r.cycles) where
  pub storing-next : (e : Entry) → IsStoreOf (action_in_m (state a)) e → IsStoringNext a e
  storing-next e is =
      elim (facts a table told below).held [
        | inl empty ↦ (let none = empty.0 in let some = is.action in absurd cc)
        | inr full ↦
            let action : next_action a.r.image (trace a (retired a)) ≡ Stores is.kind is.x is.y =
            ap (λ (image : LoadedImage). next_action image (trace a (retired a))) (sym (state-image a table told)) ∙ sym full.0 ∙ is.action in
            let held = full.1 in
            let within = executed-within a table told below in
            record {
              entry = retired_at a.r.image (trace a (retired a));
              at = get-entry a table told (retired a) (omega (arith, held, within));
              storing = storing-at a.r.image (trace a (retired a)) is.kind is.x is.y e action is.entry;
            }
      ]
