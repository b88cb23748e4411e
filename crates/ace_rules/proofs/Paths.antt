-- The entries of the path, as the walk counts those that are on path.
use Rattle.std.proofs.Common.{◌≡◌, ◌+◌, ◌<◌, ◌≤◌, ℕ, zero, suc, Bool, true, false, List, [], ◌∷◌, ◌++◌, length, drop, arith, refl, ap}
use Rattle.std.proofs.Common.{◌∙◌, add-one}
use Rattle.std.specs.Prelude.{Some, None, slice_get, nat_lt, if◌then◌else◌}
use Rattle.std.proofs.lemmas.Bool.Decides.{nat_tests}
use Rattle.std.proofs.lemmas.List.{drop_all}
use Rattle.std.proofs.Math.Seq.{drop-cons}
use Rattle.std.proofs.lemmas.Option.{slice_get_past, slice_get_within, slice_get-get_or, get_or_from_slice_get}
use Rattle.rv_isa.specs.declared.effect.Retired.{Retired}
use Rattle.pipe_latch.specs.Latches.{DecodedLatch}
use Rattle.inst_buf.specs.Buffer.{entries, packed, slot_of}
use Rattle.inst_buf.specs.Entry.{Entry}
use Rattle.ace_rules.specs.Walks.{IsInOrder, count_on_path, is_at, path_addresses, waiting_addresses}

front_at : (es rest : List Entry) (k : ℕ) → k < length es → slice_get (waiting_addresses es) k ≡ Some (slot_of (es ++ rest) k).pc
front_at [] rest k l = absurd (omega (arith, l))
front_at (e ∷ es) rest zero l = refl
front_at (e ∷ es) rest (suc k) l = front_at es rest k (omega (arith, l))

waiting_count : (es : List Entry) → length (waiting_addresses es) ≡ length es
waiting_count [] = refl
waiting_count (e ∷ es) = ap suc (waiting_count es)

-- slot k holds entry k
slot_by : (slots es : List Entry) (k : ℕ) → slots ≡ packed es → k < length es → slice_get (waiting_addresses es) k ≡ Some (slot_of slots k).pc
slot_by slots es k e l = rw e (front_at es _ k l)

pub waiting_slot : (slots : List Entry) (k : ℕ) → IsInOrder slots → k < length (entries slots)
    → slice_get (waiting_addresses (entries slots)) k ≡ Some (slot_of slots k).pc
waiting_slot slots k order l = slot_by slots (entries slots) k order.packed l

pub waiting_past : (slots : List Entry) (k : ℕ) → length (entries slots) ≤ k → slice_get (waiting_addresses (entries slots)) k ≡ None
waiting_past slots k l = slice_get_past (waiting_addresses (entries slots)) k (let e = waiting_count (entries slots) in omega (arith, e, l))

pub path_few : (d : DecodedLatch) (slots : List Entry) → IsInOrder slots → length (path_addresses d (entries slots)) ≤ 5
path_few d slots order = go d.valid
  where
    go : (b : Bool) → length (if b then d.pc ∷ waiting_addresses (entries slots) else waiting_addresses (entries slots)) ≤ 5
    go true = let e = waiting_count (entries slots) in omega (arith, e, order.few)
    go false = let e = waiting_count (entries slots) in omega (arith, e, order.few)

-- ---- counting

drop_some : (xs : List ℕ) (k pc : ℕ) → slice_get xs k ≡ Some pc → drop k xs ≡ pc ∷ drop (k + 1) xs
drop_some xs k pc at = rw (add-one k) (drop-cons xs k pc (slice_get_within xs k pc at)
    ∙ ap (λ (x : ℕ). x ∷ drop (suc k) xs) (get_or_from_slice_get xs k pc pc at))

count_first : (run : List Retired) (j pc : ℕ) (ys zs : List ℕ) → ys ≡ pc ∷ zs
    → count_on_path run j ys ≡ (if is_at (slice_get run j) pc then count_on_path run (j + 1) zs + 1 else 0)
unfolding count_on_path
count_first run j pc ys zs e = rw e refl

count_if : (b : Bool) (n m : ℕ) → b ≡ true → (if b then n else m) ≡ n
count_if true n m e = refl
count_if false n m e = absurd cc

count_else : (b : Bool) (n m : ℕ) → b ≡ false → (if b then n else m) ≡ m
count_else true n m e = absurd cc
count_else false n m e = refl

count_none : (run : List Retired) (j : ℕ) (ys : List ℕ) → ys ≡ [] → count_on_path run j ys ≡ 0
unfolding count_on_path
count_none run j ys e = rw e refl

-- of the first k addresses all are on path
pub record IsCounted (run : List Retired) (i : ℕ) (xs : List ℕ) (k : ℕ) : Type 0 where
  pub same : count_on_path run i xs ≡ k + count_on_path run (i + k) (drop k xs)

module _ (run : List Retired) (i : ℕ) (xs : List ℕ) where
  pub counted_start : IsCounted run i xs 0
  counted_start =
      let e : i + 0 ≡ i = omega arith in
      let f : count_on_path run (i + 0) xs ≡ count_on_path run i xs = ap (λ (j : ℕ). count_on_path run j xs) e in
      record { same = omega (arith, f) }

  pub counted_on : (k pc : ℕ) → slice_get xs k ≡ Some pc → is_at (slice_get run (i + k)) pc ≡ true → IsCounted run i xs k → IsCounted run i xs (k + 1)
  counted_on k pc at is c =
      let first = count_first run (i + k) pc (drop k xs) (drop (k + 1) xs) (drop_some xs k pc at) in
      let taken = count_if (is_at (slice_get run (i + k)) pc) (count_on_path run (i + k + 1) (drop (k + 1) xs) + 1) 0 is in
      let e : i + (k + 1) ≡ i + k + 1 = omega arith in
      let f : count_on_path run (i + (k + 1)) (drop (k + 1) xs) ≡ count_on_path run (i + k + 1) (drop (k + 1) xs) =
      ap (λ (j : ℕ). count_on_path run j (drop (k + 1) xs)) e in
      record { same = omega (arith, c.same, first, taken, f) }

  pub counted_off : (k pc : ℕ) → slice_get xs k ≡ Some pc → is_at (slice_get run (i + k)) pc ≡ false → IsCounted run i xs k
      → k ≡ count_on_path run i xs
  counted_off k pc at is c =
      let first = count_first run (i + k) pc (drop k xs) (drop (k + 1) xs) (drop_some xs k pc at) in
      let left = count_else (is_at (slice_get run (i + k)) pc) (count_on_path run (i + k + 1) (drop (k + 1) xs) + 1) 0 is in
      omega (arith, c.same, first, left)

  past : (k : ℕ) → length xs ≤ k → IsCounted run i xs k → k ≡ count_on_path run i xs
  past k l c = let e = count_none run (i + k) (drop k xs) (drop_all k xs l) in omega (arith, c.same, e)

  pub counted_end : (k : ℕ) → slice_get xs k ≡ None → IsCounted run i xs k → k ≡ count_on_path run i xs
  counted_end k none c = go (nat_lt k (length xs)) refl
    where
      go : (b : Bool) → nat_lt k (length xs) ≡ b → k ≡ count_on_path run i xs
      go false e = past k (grind (arith, nat_tests)) c
      go true e = let some = slice_get-get_or xs k 0 (grind (arith, nat_tests)) in absurd cc

  pub counted_all : (k : ℕ) → length xs ≤ 5 → 5 ≤ k → IsCounted run i xs k → k ≡ count_on_path run i xs
  counted_all k few l c = past k (omega (arith, few, l)) c
