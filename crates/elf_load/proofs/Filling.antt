-- RAM while the segments are put into it, one after the other.
use Rattle.std.proofs.Common.{◌≡◌, ℕ, zero, suc, ◌+◌, ◌-◌, ◌<◌, ◌≤◌, Bool, true, false, cond, ◌&&◌, leb, ltb, List, [], ◌∷◌, length, map, get_or, take}
use Rattle.std.proofs.Common.{replicate, slice_index, refl, ap, sym, subst, ◌∙◌, add-one, arith, inl, inr}
use Rattle.std.specs.List.{list_any, sum_by, range_with_len, All, AllPairs}
use Rattle.std.proofs.lemmas.Bool.{cases_Bool, cases_lt, and_parts, leb-true, cond-true, cond-false}
use Rattle.std.proofs.lemmas.Bool.Decides.{nat_tests}
use Rattle.std.proofs.lemmas.List.{get_or-map, length-map, ext_get_or, get_or-replicate, get_or_past, take_all}
use Rattle.std.proofs.lemmas.List.Folds.{list_any_more}
use Rattle.std.proofs.lemmas.List.FromFn.{length-map-range_with_len, get_or-map-range_with_len}
use Rattle.std.proofs.lemmas.List.Sums.{sum_by_more, sum_by-cons}
use Rattle.elf_load.specs.declared.segment.Segment.{Segment}
use Rattle.elf_load.specs.Answers.{lent}
use Rattle.elf_load.specs.Filling.{HasBytes, HasFlags, FitRam}
use Rattle.elf_load.specs.Headers.{LoadSegment}
use Rattle.elf_load.specs.Meaning.{holds, byte_in, code_in}
use Rattle.elf_load.proofs.Bytes.{share, share-no, share-yes, byte_in-sum}
use Rattle.elf_load.proofs.Lent.{code_in-lent}
use Rattle.elf_load.proofs.Neighbours.{no_overlap-AreApart}

-- the first n segments are in these bytes from `base` on
pub record HasSegments (xs : List Segment) (n base size : ℕ) (ram : List ℕ) : Type 0 where
  pub long : length ram ≡ size
  pub each : (k : ℕ) → k < size → get_or ram k 0 ≡ sum_by (λ s. share (base + k) (lent s)) (take n xs)

-- the first n segments are in these flags from `base` on
pub record HasCode (xs : List Segment) (n base size : ℕ) (code : List Bool) : Type 0 where
  pub long : length code ≡ size
  pub each : (k : ℕ) → k < size → get_or code k true ≡ list_any (λ s. s.exec && holds (lent s) (base + k)) (take n xs)

pub HasSegments-none : (xs : List Segment) (base : ℕ) (ram : List ℕ) → ram ≡ replicate (length ram) 0 → HasSegments xs 0 base (length ram) ram
HasSegments-none xs base ram z = record {
  long = refl;
  each = λ k h. ap (λ (m : List ℕ). get_or m k 0) z ∙ get_or-replicate (length ram) k 0 0 h;
}

pub zeros-below : (ram : List ℕ) → ram ≡ replicate (length ram) 0 → (k : ℕ) → slice_index ram k < 256
zeros-below ram z k =
    let same : get_or ram k 0 ≡ get_or (replicate (length ram) 0) k 0 = ap (λ (m : List ℕ). get_or m k 0) z in
    elim (cases_lt k (length ram)) [
      | inl less ↦ omega (arith, same, get_or-replicate {A = ℕ} (length ram) k 0 0 less)
      | inr past ↦ omega (arith, get_or_past {X = ℕ} ram k 0 past)
    ]

pub HasCode-none : (xs : List Segment) (base : ℕ) (code : List Bool) → code ≡ replicate (length code) false → HasCode xs 0 base (length code) code
HasCode-none xs base code z = record {
  long = refl;
  each = λ k h. ap (λ (m : List Bool). get_or m k true) z ∙ get_or-replicate (length code) k false true h;
}

-- a fact of each segment, of what one lends
at_lent : (P : LoadSegment → Type 0) (xs : List Segment) (n : ℕ) (e : Segment) → All P (map lent xs) → n < length xs → P (lent (get_or xs n e))
at_lent P xs n e h l =
    let long : length (map lent xs) ≡ length xs = length-map xs lent in
    subst P (get_or-map lent xs n e (lent e) l) (h n (lent e) (omega arith))

pub FitRam-above : (xs : List Segment) (base size n : ℕ) (e : Segment) → FitRam (map lent xs) base size → n < length xs → base ≤ (get_or xs n e).vaddr
unfolding lent
FitRam-above xs base size n e f h = at_lent (λ s. base ≤ s.vaddr) xs n e f.above h

pub FitRam-below : (xs : List Segment) (base size n : ℕ) (e : Segment) → FitRam (map lent xs) base size → n < length xs
    → (get_or xs n e).vaddr + (get_or xs n e).memsz ≤ base + size
unfolding lent
FitRam-below xs base size n e f h = at_lent (λ s. s.vaddr + s.memsz ≤ base + size) xs n e f.below h

pub FitRam-bytes : (xs : List Segment) (base size n : ℕ) (e : Segment) → FitRam (map lent xs) base size → n < length xs
    → length (get_or xs n e).bytes.now ≤ (get_or xs n e).memsz
unfolding lent
FitRam-bytes xs base size n e f h = at_lent (λ s. length s.bytes ≤ s.memsz) xs n e f.bytes h

-- of two that are apart, what the later holds the earlier doesn't
not_before : (s t : LoadSegment) (a : ℕ) → s.vaddr + s.memsz ≤ t.vaddr → holds t a ≡ true → holds s a ≡ false
unfolding holds
not_before s t a l h = grind (arith, nat_tests)

-- what a segment holds none of the earlier ones has
earlier : (xs : List Segment) (n a : ℕ) (e : Segment) → AllPairs (λ s t. s.vaddr + s.memsz ≤ t.vaddr) (map lent xs) → n < length xs
    → holds (lent (get_or xs n e)) a ≡ true → (m : ℕ) → m ≤ n → sum_by (λ s. share a (lent s)) (take m xs) ≡ 0
earlier xs n a e o h held zero l = refl
earlier xs n a e o h held (suc m) l =
    let long : length (map lent xs) ≡ length xs = length-map xs lent in
    let before : sum_by (λ s. share a (lent s)) (take m xs) ≡ 0 = earlier xs n a e o h held m (omega arith) in
    let more : sum_by (λ s. share a (lent s)) (take (m + 1) xs) ≡ sum_by (λ s. share a (lent s)) (take m xs) + share a (lent (get_or xs m e)) =
    sum_by_more (λ s. share a (lent s)) xs m e (omega arith) in
    let here : get_or (map lent xs) n (lent e) ≡ lent (get_or xs n e) = get_or-map lent xs n e (lent e) h in
    let there : get_or (map lent xs) m (lent e) ≡ lent (get_or xs m e) = get_or-map lent xs m e (lent e) (omega arith) in
    let P : LoadSegment → Type 0 = λ t. (get_or (map lent xs) m (lent e)).vaddr + (get_or (map lent xs) m (lent e)).memsz ≤ t.vaddr in
    let Q : LoadSegment → Type 0 = λ s. s.vaddr + s.memsz ≤ (lent (get_or xs n e)).vaddr in
    let none : share a (lent (get_or xs m e)) ≡ 0 =
    share-no a (lent (get_or xs m e)) (not_before (lent (get_or xs m e)) (lent (get_or xs n e)) a
    (subst Q there (subst P here (o m n (lent e) (omega arith) (omega arith)))) held) in
    rw (← add-one) (omega (arith, before, more, none))

-- a byte that the segment's bytes cover, and one that they don't
covered : (s : LoadSegment) (base k at : ℕ) → base ≤ s.vaddr → at ≡ s.vaddr - base → length s.bytes ≤ s.memsz
    → (leb at k && ltb k (at + length s.bytes)) ≡ true → holds s (base + k) ≡ true
unfolding holds
covered s base k at l a f t = grind (arith, nat_tests)

past_bytes : (s : LoadSegment) (base k at : ℕ) → base ≤ s.vaddr → at ≡ s.vaddr - base → (leb at k && ltb k (at + length s.bytes)) ≡ false
    → holds s (base + k) ≡ true → length s.bytes ≤ base + k - s.vaddr
unfolding holds
past_bytes s base k at l a t h = grind (arith, nat_tests)

share_past : (s : LoadSegment) (base k at : ℕ) → base ≤ s.vaddr → at ≡ s.vaddr - base → (leb at k && ltb k (at + length s.bytes)) ≡ false
    → share (base + k) s ≡ 0
share_past s base k at l a t =
    elim (cases_Bool (holds s (base + k))) [
      | inl h ↦ share-yes (base + k) s h ∙ get_or_past s.bytes (base + k - s.vaddr) 0 (past_bytes s base k at l a t h)
      | inr h ↦ share-no (base + k) s h
    ]

step : (s : LoadSegment) (base k at old new : ℕ) → base ≤ s.vaddr → at ≡ s.vaddr - base → length s.bytes ≤ s.memsz → (holds s (base + k) ≡ true → old ≡ 0) →
    new ≡ cond (leb at k && ltb k (at + length s.bytes)) (slice_index s.bytes (k - at)) old → new ≡ old + share (base + k) s
step s base k at old new l a f o n =
    elim (cases_Bool (leb at k && ltb k (at + length s.bytes))) [
      | inl t ↦
          let here : holds s (base + k) ≡ true = covered s base k at l a f t in
          let place : k - at ≡ base + k - s.vaddr = place_is s.vaddr base k at l a (leb-true at k (and_parts _ _ t).0) in
          let byte : new ≡ slice_index s.bytes (k - at) = n ∙ cond-true _ _ _ t in
          let given : share (base + k) s ≡ slice_index s.bytes (base + k - s.vaddr) = share-yes (base + k) s here in
          let same : slice_index s.bytes (k - at) ≡ slice_index s.bytes (base + k - s.vaddr) = ap (λ (m : ℕ). slice_index s.bytes m) place in
          omega (arith, byte, given, same, o here)
      | inr t ↦
          let kept : new ≡ old = n ∙ cond-false _ _ _ t in
          omega (arith, kept, share_past s base k at l a t)
    ]
  where
    place_is : (v base k at : ℕ) → base ≤ v → at ≡ v - base → at ≤ k → k - at ≡ base + k - v
    place_is v base k at l a m = omega arith

pub HasSegments-more : (xs : List Segment) (n base size at : ℕ) (e : Segment) (old new : List ℕ) → FitRam (map lent xs) base size → n < length xs
    → at ≡ (get_or xs n e).vaddr - base →
    HasSegments xs n base size old → HasBytes at (get_or xs n e).bytes.now old new → HasSegments xs (n + 1) base size new
unfolding lent
HasSegments-more xs n base size at e old new f h a has put = record {
  long = put.same_length ∙ has.long;
  each = λ k l.
      let before : get_or old k 0 ≡ sum_by (λ s. share (base + k) (lent s)) (take n xs) = has.each k l in
      let more : sum_by (λ s. share (base + k) (lent s)) (take (n + 1) xs) ≡ sum_by (λ s. share (base + k) (lent s)) (take n xs) + share (base + k)
      (lent (get_or xs n e)) =
      sum_by_more (λ s. share (base + k) (lent s)) xs n e h in
      let stepped : get_or new k 0 ≡ get_or old k 0 + share (base + k) (lent (get_or xs n e)) =
      step (lent (get_or xs n e)) base k at (get_or old k 0) (get_or new k 0) (FitRam-above xs base size n e f h) a (FitRam-bytes xs base size n e f h)
      (λ held. before ∙ earlier xs n (base + k) e f.order.apart h held n (omega arith)) (put.each k) in
      omega (arith, before, more, stepped);
}

set_where : (s : LoadSegment) (base k at count : ℕ) → base ≤ s.vaddr → at ≡ s.vaddr - base → count ≡ cond s.exec s.memsz 0
    → (leb at k && ltb k (at + count)) ≡ (s.exec && holds s (base + k))
unfolding holds
set_where s base k at count l a c = grind (arith, nat_tests)

pub HasCode-more : (xs : List Segment) (n base size at count : ℕ) (e : Segment) (old new : List Bool) → FitRam (map lent xs) base size → n < length xs
    → at ≡ (get_or xs n e).vaddr - base →
    count ≡ cond (get_or xs n e).exec (get_or xs n e).memsz 0 → HasCode xs n base size old → HasFlags at count old new → HasCode xs (n + 1) base size new
unfolding lent
HasCode-more xs n base size at count e old new f h a c has put = record {
  long = put.same_length ∙ has.long;
  each = λ k l.
      let before : get_or old k true ≡ list_any (λ s. s.exec && holds (lent s) (base + k)) (take n xs) = has.each k l in
      let more = list_any_more (λ s. s.exec && holds (lent s) (base + k)) xs n e h in
      let marked : (leb at k && ltb k (at + count)) ≡ ((get_or xs n e).exec && holds (lent (get_or xs n e)) (base + k)) =
      set_where (lent (get_or xs n e)) base k at count (FitRam-above xs base size n e f h) a c in
      let inside : k < length old = omega (arith, has.long) in
      put.each k inside ∙ rw (more, before, marked) refl;
}

sum_by-map : (f : LoadSegment → ℕ) (xs : List Segment) → sum_by (λ s. f (lent s)) xs ≡ sum_by f (map lent xs)
sum_by-map f [] = refl
sum_by-map f (x ∷ xs) =
    let one : sum_by (λ s. f (lent s)) (x ∷ xs) ≡ f (lent x) + sum_by (λ s. f (lent s)) xs = sum_by-cons (λ s. f (lent s)) x xs in
    let two : sum_by f (lent x ∷ map lent xs) ≡ f (lent x) + sum_by f (map lent xs) = sum_by-cons f (lent x) (map lent xs) in
    omega (arith, one, two, sum_by-map f xs)

-- a list that has f of each address is that of all addresses
all_addresses : {X : Type 0} (f : ℕ → X) (xs : List X) (base size : ℕ) (d : X) → length xs ≡ size → ((k : ℕ) → k < size → get_or xs k d ≡ f (base + k))
    → xs ≡ map f (range_with_len base size)
all_addresses f xs base size d l h =
    let long : length (map f (range_with_len base size)) ≡ size = length-map-range_with_len f base size in
    ext_get_or d xs (map f (range_with_len base size)) (omega arith)
    (λ k p. h k (omega arith) ∙ sym (get_or-map-range_with_len f base size k (base + k) d (omega arith) refl))

pub HasSegments-all : (xs : List Segment) (n base size : ℕ) (ram : List ℕ) → FitRam (map lent xs) base size → length xs ≤ n → HasSegments xs n base size ram
    → ram ≡ map (byte_in (map lent xs)) (range_with_len base size)
HasSegments-all xs n base size ram f l has =
    all_addresses (byte_in (map lent xs)) ram base size 0 has.long
    (λ k p. has.each k p ∙ ap (sum_by (λ s. share (base + k) (lent s))) (take_all n xs l) ∙ sum_by-map (share (base + k)) xs ∙ sym
    (byte_in-sum (base + k) (map lent xs) (no_overlap-AreApart (map lent xs) f.order)))

pub HasCode-all : (xs : List Segment) (n base size : ℕ) (code : List Bool) → length xs ≤ n → HasCode xs n base size code
    → code ≡ map (code_in (map lent xs)) (range_with_len base size)
HasCode-all xs n base size code l has =
    all_addresses (code_in (map lent xs)) code base size true has.long
    (λ k p. has.each k p ∙ ap (list_any (λ s. s.exec && holds (lent s) (base + k))) (take_all n xs l) ∙ sym (code_in-lent xs (base + k)))
