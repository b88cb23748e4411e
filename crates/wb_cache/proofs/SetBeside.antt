-- A list with one element set, beside a part of it that is read, a part that is replaced, and a word that is written: the one commutes with
-- the other where they don't meet, and is lost where the other covers it.
use Rattle.std.proofs.Common.{◌≡◌, ◌≢◌, ◌⊎◌, inl, inr, ℕ, zero, suc, ◌+◌, ◌-◌, ◌<◌, ◌≤◌, Bool, true, false, cond, List, ◌++◌, length, take, drop, arith, ap}
use Rattle.std.proofs.Common.{refl, sym, ◌∙◌}
use Rattle.std.specs.List.{replace_range}
use Rattle.std.specs.Prelude.{slice_index, slice_range}
use Rattle.std.proofs.Math.ListN.{set, length-set}
use Rattle.std.proofs.Math.Seq.{take-set-lt}
use Rattle.std.proofs.lemmas.Bool.{cases_eq, cases_lt}
use Rattle.std.proofs.lemmas.List.{drop-set-add, drop-set-lt, ext_get_or, get_or-set_other, get_or-set_same, set-set, set_comm, take-set-le}
use Rattle.bit_field.specs.Lanes.{has_lane, lane_byte}
use Rattle.wb_cache.specs.Access.{put_lane, put_word}
use Rattle.wb_cache.proofs.Lengths.{length-replace}
use Rattle.wb_cache.proofs.Ranges.{replaced-in, replaced-off}

-- ---- a part that is read

-- the element behind the first i
behind : (xs : List ℕ) (i k v : ℕ) → i ≤ k → drop i (set xs k v) ≡ set (drop i xs) (k - i) v
behind xs i k v h = ap (λ (n : ℕ). drop i (set xs n v)) (omega arith) ∙ drop-set-add i xs (k - i) v

pub slice_range-set_off : (xs : List ℕ) (i j k v : ℕ) → (k < i) ⊎ (j ≤ k) → slice_range (set xs k v) i j ≡ slice_range xs i j
slice_range-set_off xs i j k v (inl l) = ap (take (j - i)) (drop-set-lt i xs k v l)
slice_range-set_off xs i j k v (inr m) =
    elim (cases_lt k i) [
      | inl l ↦ ap (take (j - i)) (drop-set-lt i xs k v l)
      | inr h ↦ ap (take (j - i)) (behind xs i k v h) ∙ take-set-le (j - i) (drop i xs) (k - i) v (omega arith)
    ]

pub slice_range-set_in : (xs : List ℕ) (i j k v : ℕ) → i ≤ k → k < j → slice_range (set xs k v) i j ≡ set (slice_range xs i j) (k - i) v
slice_range-set_in xs i j k v h l = ap (take (j - i)) (behind xs i k v h) ∙ take-set-lt (j - i) (drop i xs) (k - i) v (omega arith)

-- ---- a part that is replaced

pub replace_range-set_in : (xs ys : List ℕ) (i j k v : ℕ) → i ≤ k → k < j → replace_range (set xs k v) i j ys ≡ replace_range xs i j ys
replace_range-set_in xs ys i j k v h l =
    ap (λ (front : List ℕ). front ++ ys ++ drop j (set xs k v)) (take-set-le i xs k v h)
    ∙ ap (λ (back : List ℕ). take i xs ++ ys ++ back) (drop-set-lt j xs k v l)

pub replace_range-set_off : (xs ys : List ℕ) (i j k v : ℕ) → i + length ys ≡ j → j ≤ length xs → (k < i) ⊎ (j ≤ k)
    → replace_range (set xs k v) i j ys ≡ set (replace_range xs i j ys) k v
replace_range-set_off xs ys i j k v e h off =
    ext_get_or 0 (replace_range (set xs k v) i j ys) (set (replace_range xs i j ys) k v)
    (length-replace (set xs k v) ys i j e long ∙ length-set xs k v ∙ sym (length-set (replace_range xs i j ys) k v ∙ length-replace xs ys i j e h))
    (λ n l. at n (omega (arith, length-replace (set xs k v) ys i j e long, length-set xs k v)) (cases_eq n k))
  where
    long : j ≤ length (set xs k v)
    long = omega (arith, length-set xs k v)

    other : (n : ℕ) → n ≢ k → (n < i) ⊎ (i ≤ n) → (n < j) ⊎ (j ≤ n)
        → slice_index (replace_range (set xs k v) i j ys) n ≡ slice_index (replace_range xs i j ys) n
    other n ne (inl l) q = replaced-off (set xs k v) ys i j n e long (inl l) ∙ get_or-set_other xs k n v 0 ne ∙ sym (replaced-off xs ys i j n e h (inl l))
    other n ne (inr m) (inr q) = replaced-off (set xs k v) ys i j n e long (inr q) ∙ get_or-set_other xs k n v 0 ne ∙ sym (replaced-off xs ys i j n e h (inr q))
    other n ne (inr m) (inl q) =
        let place : n ≡ i + (n - i) = omega arith in
        ap (slice_index (replace_range (set xs k v) i j ys)) place
        ∙ replaced-in (set xs k v) ys i j (n - i) e long (omega arith)
        ∙ sym (ap (slice_index (replace_range xs i j ys)) place ∙ replaced-in xs ys i j (n - i) e h (omega arith))

    at : (n : ℕ) → n < length xs → (n ≡ k) ⊎ (n ≢ k) → slice_index (replace_range (set xs k v) i j ys) n ≡ slice_index (set (replace_range xs i j ys) k v) n
    at n l (inl q) =
        ap (slice_index (replace_range (set xs k v) i j ys)) q
        ∙ replaced-off (set xs k v) ys i j k e long off
        ∙ get_or-set_same xs k v 0 (omega arith)
        ∙ sym (ap (slice_index (set (replace_range xs i j ys) k v)) q ∙ get_or-set_same (replace_range xs i j ys) k v 0
        (omega (arith, length-replace xs ys i j e h)))
    at n l (inr ne) = other n ne (cases_lt n i) (cases_lt n j) ∙ sym (get_or-set_other (replace_range xs i j ys) k n v 0 ne)

-- ---- a word that is written

lane_by : (b : Bool) (xs : List ℕ) (p k w v : ℕ) → (k ≡ p → b ≡ false) → cond b (set (set xs k v) p w) (set xs k v) ≡ set (cond b (set xs p w) xs) k v
lane_by true xs p k w v off = set_comm xs k p v w (λ e. clash (off e))
  where
    clash : true ≡ false → ⊥
    clash e = absurd cc
lane_by false xs p k w v off = refl

put_lane-set_off : (place mask value lane k v : ℕ) (xs : List ℕ) → (k ≡ place + lane → has_lane mask lane ≡ false)
    → put_lane place mask value lane (set xs k v) ≡ set (put_lane place mask value lane xs) k v
put_lane-set_off place mask value lane k v xs off = lane_by (has_lane mask lane) xs (place + lane) k (lane_byte value lane) v off

covered_by : (b : Bool) (xs : List ℕ) (p w v : ℕ) → b ≡ true → cond b (set (set xs p v) p w) (set xs p v) ≡ cond b (set xs p w) xs
covered_by true xs p w v e = set-set xs p v w
covered_by false xs p w v e = absurd cc

put_lane-set_in : (place mask value lane v : ℕ) (xs : List ℕ) → has_lane mask lane ≡ true
    → put_lane place mask value lane (set xs (place + lane) v) ≡ put_lane place mask value lane xs
put_lane-set_in place mask value lane v xs e = covered_by (has_lane mask lane) xs (place + lane) (lane_byte value lane) v e

-- an element that no lane of the mask covers
pub put_word-set_off : (place mask value k v : ℕ) (xs : List ℕ) → ((lane : ℕ) → lane < 4 → k ≡ place + lane → has_lane mask lane ≡ false)
    → put_word place mask value (set xs k v) ≡ set (put_word place mask value xs) k v
unfolding put_word
put_word-set_off place mask value k v xs off =
    ap (λ (b : List ℕ). put_lane place mask value 3 (put_lane place mask value 2 (put_lane place mask value 1 b)))
    (put_lane-set_off place mask value 0 k v xs (off 0 (omega arith)))
    ∙ ap (λ (b : List ℕ). put_lane place mask value 3 (put_lane place mask value 2 b))
    (put_lane-set_off place mask value 1 k v (put_lane place mask value 0 xs) (off 1 (omega arith)))
    ∙ ap (put_lane place mask value 3) (put_lane-set_off place mask value 2 k v (put_lane place mask value 1 (put_lane place mask value 0 xs))
    (off 2 (omega arith)))
    ∙ put_lane-set_off place mask value 3 k v (put_lane place mask value 2 (put_lane place mask value 1 (put_lane place mask value 0 xs))) (off 3 (omega arith))

-- an element that a lane of the mask covers
pub put_word-set_in : (place mask value lane v : ℕ) (xs : List ℕ) → lane < 4 → has_lane mask lane ≡ true
    → put_word place mask value (set xs (place + lane) v) ≡ put_word place mask value xs
unfolding put_word
put_word-set_in place mask value zero v xs l e =
    ap (λ (b : List ℕ). put_lane place mask value 3 (put_lane place mask value 2 (put_lane place mask value 1 b))) (put_lane-set_in place mask value 0 v xs e)
put_word-set_in place mask value (suc zero) v xs l e =
    ap (λ (b : List ℕ). put_lane place mask value 3 (put_lane place mask value 2 b))
    (ap (put_lane place mask value 1) (put_lane-set_off place mask value 0 (place + 1) v xs (λ q. absurd (omega arith)))
    ∙ put_lane-set_in place mask value 1 v (put_lane place mask value 0 xs) e)
put_word-set_in place mask value (suc (suc zero)) v xs l e =
    ap (put_lane place mask value 3)
    (ap (λ (b : List ℕ). put_lane place mask value 2 (put_lane place mask value 1 b))
    (put_lane-set_off place mask value 0 (place + 2) v xs (λ q. absurd (omega arith)))
    ∙ ap (put_lane place mask value 2) (put_lane-set_off place mask value 1 (place + 2) v (put_lane place mask value 0 xs) (λ q. absurd (omega arith)))
    ∙ put_lane-set_in place mask value 2 v (put_lane place mask value 1 (put_lane place mask value 0 xs)) e)
put_word-set_in place mask value (suc (suc (suc zero))) v xs l e =
    ap (λ (b : List ℕ). put_lane place mask value 3 (put_lane place mask value 2 (put_lane place mask value 1 b)))
    (put_lane-set_off place mask value 0 (place + 3) v xs (λ q. absurd (omega arith)))
    ∙ ap (λ (b : List ℕ). put_lane place mask value 3 (put_lane place mask value 2 b))
    (put_lane-set_off place mask value 1 (place + 3) v (put_lane place mask value 0 xs) (λ q. absurd (omega arith)))
    ∙ ap (put_lane place mask value 3) (put_lane-set_off place mask value 2 (place + 3) v (put_lane place mask value 1 (put_lane place mask value 0 xs))
    (λ q. absurd (omega arith)))
    ∙ put_lane-set_in place mask value 3 v (put_lane place mask value 2 (put_lane place mask value 1 (put_lane place mask value 0 xs))) e
put_word-set_in place mask value (suc (suc (suc (suc lane)))) v xs l e = absurd (omega arith)
