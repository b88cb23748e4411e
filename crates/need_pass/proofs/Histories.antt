-- Lists of changes: what a search among them finds, and what one more change does.
use Rattle.std.proofs.Common.{◌≡◌, ℕ, zero, suc, ◌+◌, ◌-◌, ◌<◌, ◌≤◌, Bool, true, false, Option, Some, None, cond, leb, ltb, List, [], ◌∷◌, ◌++◌, length, get_or, take, refl, sym, ◌∙◌, ap, arith, inl, inr}
use Rattle.std.specs.List.{AllWithin}
use Rattle.std.specs.Prelude.{option_map}
use Rattle.std.specs.List.Sorted.{IsPartitionedBy}
use Rattle.std.proofs.lemmas.Bool.{cases_lt}
use Rattle.std.proofs.lemmas.List.{get_or-take, length-take-le, length_push, get_or_push, get_or_append_left}
use Rattle.std.proofs.lemmas.Bool.Decides.{nat_tests}
use Rattle.need_pass.specs.Histories.{IsFalling, IsUpTo, change_after, mask_after, mask_at, until_at}
use Rattle.need_pass.specs.declared.history.Change.{Change}

pub falling_from : (xs : List Change) (i : ℕ) → IsFalling xs → IsPartitionedBy (λ c. leb i c.at) xs
falling_from xs i falls a b d l h t =
    elim (cases_lt a b) [
      | inl m ↦ let f : (get_or xs b d).at < (get_or xs a d).at = falls a b d m h in grind (arith, nat_tests)
      | inr m ↦ let e : a ≡ b = omega arith in rw e t
    ]

pub falling_above : (xs : List Change) (i : ℕ) → IsFalling xs → IsPartitionedBy (λ c. ltb i c.at) xs
falling_above xs i falls a b d l h t =
    elim (cases_lt a b) [
      | inl m ↦ let f : (get_or xs b d).at < (get_or xs a d).at = falls a b d m h in grind (arith, nat_tests)
      | inr m ↦ let e : a ≡ b = omega arith in rw e t
    ]

-- no change stands at i or later
pub none_from : (last : Option Change) (xs : List Change) (i : ℕ) → AllWithin (λ c. leb i c.at ≡ false) xs 0 (length xs) → change_after last xs i ≡ last
unfolding change_after
none_from last [] i h = refl
none_from last (c ∷ cs) i h = let e : leb i c.at ≡ false = h 0 c (omega arith) (omega arith) in rw e refl

-- change k is the last that does
pub last_from : (last : Option Change) (xs : List Change) (i k : ℕ) (d : Change) → k < length xs → AllWithin (λ c. leb i c.at ≡ true) xs 0 (k + 1)
    → AllWithin (λ c. leb i c.at ≡ false) xs (k + 1) (length xs) → change_after last xs i ≡ Some (get_or xs k d)
unfolding change_after
last_from last [] i k d l h n = absurd (omega arith)
last_from last (c ∷ cs) i zero d l h n =
    let e : leb i c.at ≡ true = h 0 c (omega arith) (omega arith) in
    rw e (none_from (Some c) cs i (λ a e p q. n (suc a) e (omega arith) (omega arith)))
last_from last (c ∷ cs) i (suc k) d l h n =
    let e : leb i c.at ≡ true = h 0 c (omega arith) (omega arith) in
    rw e (last_from (Some c) cs i k d (omega arith) (λ a e p q. h (suc a) e (omega arith) (omega arith)) (λ a e p q. n (suc a) e (omega arith) (omega arith)))

-- the mask is that of the last change
abbrev mask_of : Option Change → ℕ
mask_of None = 0
mask_of (Some c) = c.mask

mask-after : (m : ℕ) (last : Option Change) (xs : List Change) (i : ℕ) → m ≡ mask_of last → mask_after m xs i ≡ mask_of (change_after last xs i)
unfolding mask_after change_after
mask-after m last [] i h = h
mask-after m last (c ∷ cs) i h = go (leb i c.at) (mask-after c.mask (Some c) cs i refl)
  where
    go : (b : Bool) → mask_after c.mask cs i ≡ mask_of (change_after (Some c) cs i)
        → cond b (mask_after c.mask cs i) m ≡ mask_of (cond b (change_after (Some c) cs i) last)
    go true rest = rest
    go false rest = h

pub mask_some : (xs : List Change) (i : ℕ) (c : Change) → change_after None xs i ≡ Some c → mask_at xs i ≡ c.mask
mask_some xs i c h = mask-after 0 None xs i refl ∙ ap mask_of h

pub mask_none : (xs : List Change) (i : ℕ) → change_after None xs i ≡ None → mask_at xs i ≡ 0
mask_none xs i h = mask-after 0 None xs i refl ∙ ap mask_of h

-- and stays so up to where that change stands
later-falls : (c : Change) (cs : List Change) → IsFalling (c ∷ cs) → IsFalling cs
later-falls c cs falls i j d l m = falls (suc i) (suc j) d (omega (arith, l)) (omega (arith, m))

up-to : (c : Change) (cs : List Change) (i k : ℕ) → IsFalling (c ∷ cs) → IsUpTo k (option_map (λ c. c.at) (change_after (Some c) cs i)) → k ≤ c.at
unfolding change_after
up-to c [] i k falls h = h
up-to c (x ∷ xs) i k falls h = go (leb i x.at) (up-to x xs i k (later-falls c (x ∷ xs) falls)) h
  where
    go : (b : Bool) → (IsUpTo k (option_map (λ c. c.at) (change_after (Some x) xs i)) → k ≤ x.at)
        → IsUpTo k (option_map (λ c. c.at) (cond b (change_after (Some x) xs i) (Some c))) → k ≤ c.at
    go true rest h = let below : x.at < c.at = falls 0 1 x (omega arith) (omega arith) in let l = rest h in omega (arith, below, l)
    go false rest h = h

same-after : (m : ℕ) (last : Option Change) (xs : List Change) (i k : ℕ) → IsFalling xs → i ≤ k
    → IsUpTo k (option_map (λ c. c.at) (change_after last xs i)) → mask_after m xs k ≡ mask_after m xs i
unfolding mask_after change_after
same-after m last [] i k falls l h = refl
same-after m last (c ∷ cs) i k falls l h = go (leb i c.at) refl (same-after c.mask (Some c) cs i k (later-falls c cs falls) l) h
  where
    go : (b : Bool) → leb i c.at ≡ b
        → (IsUpTo k (option_map (λ c. c.at) (change_after (Some c) cs i)) → mask_after c.mask cs k ≡ mask_after c.mask cs i) → IsUpTo k (option_map (λ c. c.at) (cond b (change_after (Some c) cs i) last))
        → cond (leb k c.at) (mask_after c.mask cs k) m ≡ cond (leb i c.at) (mask_after c.mask cs i) m
    go true e rest h =
        let below : k ≤ c.at = up-to c cs i k falls h in
        let at : leb k c.at ≡ true = grind (arith, nat_tests) in
        rw (at, e) (rest h)
    go false e rest h = let at : leb k c.at ≡ false = grind (arith, nat_tests) in rw (at, e) refl

pub same_until : (xs : List Change) (i k : ℕ) → IsFalling xs → i ≤ k → IsUpTo k (until_at xs i) → mask_at xs k ≡ mask_at xs i
same_until xs i k falls l h = same-after 0 None xs i k falls l h

-- the changes that stand above `at` alone
pub kept_later : (m : ℕ) (xs : List Change) (at i n : ℕ) → at < i → AllWithin (λ c. ltb at c.at ≡ false) xs n (length xs) → mask_after m (take n xs) i ≡ mask_after m xs i
unfolding mask_after
kept_later m [] at i zero l h = refl
kept_later m [] at i (suc n) l h = refl
kept_later m (c ∷ cs) at i zero l h =
    let f : ltb at c.at ≡ false = h 0 c (omega arith) (omega arith) in
    let e : leb i c.at ≡ false = grind (arith, nat_tests) in
    rw e refl
kept_later m (c ∷ cs) at i (suc n) l h =
    ap (λ v. cond (leb i c.at) v m) (kept_later c.mask cs at i n l (λ a e p q. h (suc a) e (omega arith) (omega arith)))

-- where all changes stand above `at`, the mask is the same at each instruction up to it
pub settled : (m : ℕ) (xs : List Change) (at i : ℕ) → i ≤ at → AllWithin (λ c. ltb at c.at ≡ true) xs 0 (length xs) → mask_after m xs i ≡ mask_after m xs 0
unfolding mask_after
settled m [] at i l h = refl
settled m (c ∷ cs) at i l h =
    let f : ltb at c.at ≡ true = h 0 c (omega arith) (omega arith) in
    let e : leb i c.at ≡ true = grind (arith, nat_tests) in
    let z : leb 0 c.at ≡ true = grind (arith, nat_tests) in
    rw (e, z) (settled c.mask cs at i l (λ a e p q. h (suc a) e (omega arith) (omega arith)))

-- one more change, at `at`
pub added_later : (m : ℕ) (xs : List Change) (c : Change) (i : ℕ) → c.at < i → mask_after m (xs ++ c ∷ []) i ≡ mask_after m xs i
unfolding mask_after
added_later m [] c i l = let e : leb i c.at ≡ false = grind (arith, nat_tests) in rw e refl
added_later m (x ∷ xs) c i l = ap (λ v. cond (leb i x.at) v m) (added_later x.mask xs c i l)

pub added_up_to : (m : ℕ) (xs : List Change) (c : Change) (i : ℕ) → i ≤ c.at → AllWithin (λ x. ltb c.at x.at ≡ true) xs 0 (length xs) → mask_after m (xs ++ c ∷ []) i ≡ c.mask
unfolding mask_after
added_up_to m [] c i l h = let e : leb i c.at ≡ true = grind (arith, nat_tests) in rw e refl
added_up_to m (x ∷ xs) c i l h =
    let f : ltb c.at x.at ≡ true = h 0 x (omega arith) (omega arith) in
    let e : leb i x.at ≡ true = grind (arith, nat_tests) in
    rw e (added_up_to x.mask xs c i l (λ a e p q. h (suc a) e (omega arith) (omega arith)))

pub falling_take : (xs : List Change) (n : ℕ) → n ≤ length xs → IsFalling xs → IsFalling (take n xs)
falling_take xs n l falls i j d m h =
    let k : j < n = omega (arith, length-take-le n xs l) in
    rw (get_or-take n xs j d k, get_or-take n xs i d (omega arith)) (falls i j d m (omega arith))

pub falling_push : (xs : List Change) (c : Change) → AllWithin (λ x. ltb c.at x.at ≡ true) xs 0 (length xs) → IsFalling xs → IsFalling (xs ++ c ∷ [])
falling_push xs c above falls i j d m h =
    elim (cases_lt j (length xs)) [
      | inl l ↦ rw (get_or_append_left xs (c ∷ []) d j l, get_or_append_left xs (c ∷ []) d i (omega arith)) (falls i j d m l)
      | inr l ↦
          let e : length xs ≡ j = omega (arith, length_push xs c) in
          let a : ltb c.at (get_or xs i d).at ≡ true = above i d (omega arith) (omega arith) in
          rw (get_or_push xs c d j e, get_or_append_left xs (c ∷ []) d i (omega arith)) (grind (arith, nat_tests))
    ]

-- what is kept by a cut at a partition point stands above `at`
pub kept_above : (xs : List Change) (at n : ℕ) → n ≤ length xs → AllWithin (λ c. ltb at c.at ≡ true) xs 0 n → AllWithin (λ c. ltb at c.at ≡ true) (take n xs) 0 (length (take n xs))
kept_above xs at n l h k d p q =
    let m : k < n = omega (arith, length-take-le n xs l) in
    rw (get_or-take n xs k d m) (h k d p m)

-- What is left above `at`, and then one change there, or none where the mask is the same.
pub set_pushed : (old ys : List Change) (at mask : ℕ) → AllWithin (λ c. ltb at c.at ≡ true) ys 0 (length ys) → ((i : ℕ) → at < i → mask_at ys i ≡ mask_at old i) → (i : ℕ) → mask_at (ys ++ record { at = at; mask = mask } ∷ []) i ≡ cond (leb i at) mask (mask_at old i)
set_pushed old ys at mask above later i =
    elim (cases_lt at i) [
      | inl l ↦
          let e : leb i at ≡ false = grind (arith, nat_tests) in
          rw e (added_later 0 ys (record { at = at; mask = mask }) i l ∙ later i l)
      | inr l ↦
          let e : leb i at ≡ true = grind (arith, nat_tests) in
          rw e (added_up_to 0 ys (record { at = at; mask = mask }) i l above)
    ]

pub set_kept : (old ys : List Change) (at mask : ℕ) → AllWithin (λ c. ltb at c.at ≡ true) ys 0 (length ys) → ((i : ℕ) → at < i → mask_at ys i ≡ mask_at old i) → mask_at ys 0 ≡ mask → (i : ℕ) → mask_at ys i ≡ cond (leb i at) mask (mask_at old i)
set_kept old ys at mask above later same i =
    elim (cases_lt at i) [
      | inl l ↦ let e : leb i at ≡ false = grind (arith, nat_tests) in rw e (later i l)
      | inr l ↦ let e : leb i at ≡ true = grind (arith, nat_tests) in rw e (settled 0 ys at i l above ∙ same)
    ]

-- each change stands at instruction 0 or later
pub earliest_some : (xs : List Change) (c : Change) → 0 < length xs → c ≡ get_or xs (length xs - 1) c → c.mask ≡ mask_at xs 0
earliest_some xs c l e =
    ap (λ (x : Change). x.mask) e
    ∙ sym (mask_some xs 0 (get_or xs (length xs - 1) c)
    (last_from None xs 0 (length xs - 1) c (omega arith) (λ k d p q. grind (arith, nat_tests)) (λ k d p q. absurd (omega arith))))

pub earliest_none : (xs : List Change) → length xs ≤ 0 → 0 ≡ mask_at xs 0
earliest_none xs l = sym (mask_none xs 0 (none_from None xs 0 (λ k d p q. absurd (omega arith))))
