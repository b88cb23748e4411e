-- Segments as they are lent.
use Rattle.std.proofs.Common.{◌≡◌, ℕ, ◌+◌, ◌<◌, ◌≤◌, Bool, true, false, ◌&&◌, ◌||◌, leb, eqb, List, [], ◌∷◌, length, map, get_or, refl, sym, subst, ◌*◌, ◌/◌}
use Rattle.std.proofs.Common.{◌^◌, arith}
use Rattle.std.proofs.lemmas.Bool.{ne_eqb}
use Rattle.std.specs.List.{list_any, AllPairs, AllAdjacentBelow}
use Rattle.std.proofs.lemmas.List.{get_or-map, length-map}
use Rattle.elf_load.specs.declared.segment.Segment.{Segment}
use Rattle.elf_load.specs.Headers.{LoadSegment}
use Rattle.elf_load.specs.Meaning.{holds, code_in, base_of}
use Rattle.elf_load.specs.Refusal.{ends_above, some_overlap, has_bad_layout}
use Rattle.elf_load.specs.Answers.{lent}
use Rattle.elf_load.specs.Layout.{AreInOrder}
use Rattle.elf_load.proofs.Lowest.{lowest-first}
use Rattle.elf_load.proofs.Neighbours.{overlap-neighbours, no_overlap-AreApart, AreApart-neighbours}

list_any-map : {X Y : Type 0} (p : Y → Bool) (f : X → Y) (xs : List X) → list_any p (map f xs) ≡ list_any (λ x. p (f x)) xs
list_any-map p f [] = refl
list_any-map p f (x ∷ xs) = rw (list_any-map p f xs) refl

pub ends_above-lent : (limit : ℕ) (xs : List Segment) → list_any (ends_above limit) (map lent xs) ≡ list_any (λ s. ends_above limit (lent s)) xs
ends_above-lent limit xs = list_any-map (ends_above limit) lent xs

pub code_in-lent : (xs : List Segment) (a : ℕ) → code_in (map lent xs) a ≡ list_any (λ s. s.exec && holds (lent s) a) xs
unfolding lent code_in
code_in-lent xs a = list_any-map (λ s. s.exec && holds s a) lent xs

pub ruleset tests_of_lent = (ends_above-lent, code_in-lent)

-- a fact of two segments and what they lend
pair-lent : (R : LoadSegment → LoadSegment → Type 0) (xs : List Segment) (i j : ℕ) (d : LoadSegment) → i < length xs → j < length xs
    → ((e : Segment) → R (lent (get_or xs i e)) (lent (get_or xs j e))) → R (get_or (map lent xs) i d) (get_or (map lent xs) j d)
pair-lent R [] i j d hi hj h = absurd (omega arith)
pair-lent R (x ∷ xs) i j d hi hj h =
    let first : lent (get_or (x ∷ xs) i x) ≡ get_or (map lent (x ∷ xs)) i d = sym (get_or-map lent (x ∷ xs) i x d hi) in
    let second : lent (get_or (x ∷ xs) j x) ≡ get_or (map lent (x ∷ xs)) j d = sym (get_or-map lent (x ∷ xs) j x d hj) in
    let P : LoadSegment → Type 0 = λ s. R s (lent (get_or (x ∷ xs) j x)) in
    let Q : LoadSegment → Type 0 = λ t. R (get_or (map lent (x ∷ xs)) i d) t in
    subst Q second (subst P first (h x))

pub rising-lent : (xs : List Segment) → AllPairs (λ s t. s.vaddr ≤ t.vaddr) xs → AllPairs (λ s t. s.vaddr ≤ t.vaddr) (map lent xs)
unfolding lent
rising-lent xs h i j d p q =
    let long : length (map lent xs) ≡ length xs = length-map xs lent in
    pair-lent (λ s t. s.vaddr ≤ t.vaddr) xs i j d (omega arith) (omega arith) (λ e. h i j e p (omega arith))

apart-lent : (xs : List Segment) → AllAdjacentBelow (λ s t. s.vaddr + s.memsz ≤ t.vaddr) xs (length xs)
    → AllAdjacentBelow (λ s t. s.vaddr + s.memsz ≤ t.vaddr) (map lent xs) (length (map lent xs))
unfolding lent
apart-lent xs h k d p =
    let long : length (map lent xs) ≡ length xs = length-map xs lent in
    pair-lent (λ s t. s.vaddr + s.memsz ≤ t.vaddr) xs k (k + 1) d (omega arith) (omega arith) (λ e. h k e (omega arith))

-- what an index past the end reads as
abbrev pub no_segment : Segment
no_segment = record { vaddr = 0; bytes = record { ref_ptr = (0, 0); now = [] }; memsz = 0; exec = false }

overlap_next : (xs : List Segment) (k : ℕ) (e : Segment) → AreInOrder (map lent xs) → k + 1 < length xs
    → (get_or xs (k + 1) e).vaddr < (get_or xs k e).vaddr + (get_or xs k e).memsz → some_overlap (map lent xs) ≡ true
unfolding lent
overlap_next xs k e o h less =
    let long : length (map lent xs) ≡ length xs = length-map xs lent in
    let first = get_or-map lent xs k e (lent e) (omega arith) in
    let second = get_or-map lent xs (k + 1) e (lent e) h in
    overlap-neighbours (map lent xs) k (lent e) o (omega arith) (rw (first, second) less)

-- two neighbours overlap
pub overlap-lent : (xs : List Segment) (i j : ℕ) (e : Segment) → AreInOrder (map lent xs) → j ≡ i + 1 → j < length xs
    → (get_or xs j e).vaddr < (get_or xs i e).vaddr + (get_or xs i e).memsz → some_overlap (map lent xs) ≡ true
overlap-lent xs i j e o next h less =
    let P : ℕ → Type 0 = λ m. (m < length xs) × ((get_or xs m e).vaddr < (get_or xs i e).vaddr + (get_or xs i e).memsz) in
    let both : P (i + 1) = subst P next (h, less) in
    overlap_next xs i e o both.0 both.1

-- no two neighbours do
pub no_overlap-lent : (xs : List Segment) → AreInOrder (map lent xs) → AllAdjacentBelow (λ s t. s.vaddr + s.memsz ≤ t.vaddr) xs (length xs)
    → some_overlap (map lent xs) ≡ false
no_overlap-lent xs o h = no_overlap-AreApart (map lent xs) (AreApart-neighbours (map lent xs) o (apart-lent xs h))

-- the first is the lowest
pub base_of-lent : (xs : List Segment) (e : Segment) → AreInOrder (map lent xs) → 0 < length xs → (get_or xs 0 e).vaddr < 2 ^ 32
    → base_of (map lent xs) ≡ (get_or xs 0 e).vaddr / 65536 * 65536
unfolding base_of lent
base_of-lent xs e o h small =
    let long : length (map lent xs) ≡ length xs = length-map xs lent in
    let first : get_or (map lent xs) 0 (lent e) ≡ lent (get_or xs 0 e) = get_or-map lent xs 0 e (lent e) h in
    let fits : (get_or (map lent xs) 0 (lent e)).vaddr < 2 ^ 32 = rw first small in
    rw (lowest-first (map lent xs) (lent e) (omega arith) fits o.rising, first) refl

-- the layout of no segments is bad
pub has_bad_layout-none : (xs : List Segment) (size : ℕ) → length xs ≡ 0 → has_bad_layout (map lent xs) size ≡ true
unfolding has_bad_layout
has_bad_layout-none xs size e =
    let none : length (map lent xs) ≡ 0 = omega (arith, length-map xs lent) in
    rw none refl

-- the layout of segments, by tests of what lends them
pub has_bad_layout-lent : (xs : List Segment) (size limit : ℕ) → 0 < length xs → limit ≡ base_of (map lent xs) + size →
    has_bad_layout (map lent xs) size ≡ ((leb (2 ^ 32) limit || list_any (λ s. ends_above limit (lent s)) xs) || some_overlap (map lent xs))
unfolding has_bad_layout
has_bad_layout-lent xs size limit h e =
    let some : eqb (length (map lent xs)) 0 ≡ false = ne_eqb _ _ (λ (z : length (map lent xs) ≡ 0). omega (arith, z, length-map xs lent)) in
    rw (some, ← e, ends_above-lent limit xs) refl

-- the three ways out
pub bad_by_limit : (r a o b : Bool) → b ≡ (a || o) → r ≡ a → r ≡ true → r ≡ b
bad_by_limit r a o b e f g = grind arith

pub bad_by_overlap : (r a o b : Bool) → b ≡ (a || o) → r ≡ a → r ≡ false → o ≡ b
bad_by_overlap r a o b e f g = grind arith
