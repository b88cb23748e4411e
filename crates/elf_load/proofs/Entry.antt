-- The bytes of an image that can be fetched are those of its executable segments.
use Rattle.std.proofs.Common.{◌≡◌, ℕ, suc, ◌+◌, ◌-◌, ◌*◌, ◌/◌, ◌%◌, ◌<◌, ◌≤◌, Bool, true, false, not, cond, ◌&&◌, eqb, ltb, leb, ◌≢◌, List, [], ◌∷◌, length}
use Rattle.std.proofs.Common.{map, get_or, Some, None, is_none, refl, arith, inl, inr}
use Rattle.std.specs.List.{list_any, range_with_len, All}
use Rattle.std.proofs.lemmas.Bool.{false≢true, or_parts, or_cases, and_parts, and_from, ltb-true, leb-true, le-leb, lt-ltb, ne_eqb}
use Rattle.std.proofs.lemmas.Bool.Decides.{nat_tests}
use Rattle.std.proofs.lemmas.List.FromFn.{length-map-range_with_len, get_or-map-range_with_len}
use Rattle.elf_load.specs.Headers.{LoadSegment}
use Rattle.elf_load.specs.Image.{in_ram, executable, word_executable, fetch}
use Rattle.elf_load.specs.Meaning.{holds, byte_in, code_in, base_of, image_in}
use Rattle.elf_load.specs.Refusal.{ends_above, has_bad_layout, has_bad_entry}
use Rattle.elf_load.proofs.Lowest.{base_of-le}

in_segment : (s : LoadSegment) (low high a : ℕ) → low ≤ s.vaddr → ends_above high s ≡ false → (s.exec && holds s a) ≡ true → (low ≤ a) × (a < high)
unfolding holds ends_above
in_segment s low high a l e h =
    let held : (s.exec ≡ true) × (holds s a ≡ true) = and_parts _ _ h in
    let reached : holds s a ≡ true = held.1 in
    (grind (arith, nat_tests), grind (arith, nat_tests))

within : (xs : List LoadSegment) (low high a : ℕ) → All (λ s. low ≤ s.vaddr) xs → list_any (ends_above high) xs ≡ false → code_in xs a ≡ true
    → (low ≤ a) × (a < high)
unfolding code_in
within [] low high a l e h = absurd (cc)
within (s ∷ rest) low high a l e h =
    let ends : (ends_above high s ≡ false) × (list_any (ends_above high) rest ≡ false) = or_parts _ _ e in
    elim (or_cases (s.exec && holds s a) (code_in rest a) h) [
      | inl here ↦ in_segment s low high a (l 0 s (omega arith)) ends.0 here
      | inr there ↦ within rest low high a (λ k d p. l (suc k) d (omega arith)) ends.1 there
    ]

-- where the layout is accepted, executable segments lie in RAM
code_in_ram : (xs : List LoadSegment) (size a : ℕ) → has_bad_layout xs size ≡ false → code_in xs a ≡ true → (base_of xs ≤ a) × (a < base_of xs + size)
unfolding has_bad_layout
code_in_ram xs size a h c =
    let parts = or_parts _ _ h in
    let ends = or_parts _ _ parts.0 in
    within xs (base_of xs) (base_of xs + size) a (base_of-le xs) ends.1 c

in_ram_tests : (xs : List LoadSegment) (size a : ℕ) → (base_of xs ≤ a) × (a < base_of xs + size) →
    (leb (base_of xs) a && ltb a (base_of xs + length (map (byte_in xs) (range_with_len (base_of xs) size)))) ≡ true
in_ram_tests xs size a h =
    let long : length (map (byte_in xs) (range_with_len (base_of xs) size)) ≡ size = length-map-range_with_len (byte_in xs) (base_of xs) size in
    and_from _ _ (le-leb _ _ h.0) (lt-ltb _ _ (omega arith))

flag_at : (xs : List LoadSegment) (size a : ℕ) →
    (leb (base_of xs) a && ltb a (base_of xs + length (map (byte_in xs) (range_with_len (base_of xs) size)))) ≡ true →
    get_or (map (code_in xs) (range_with_len (base_of xs) size)) (a - base_of xs) false ≡ code_in xs a
flag_at xs size a e =
    let long : length (map (byte_in xs) (range_with_len (base_of xs) size)) ≡ size = length-map-range_with_len (byte_in xs) (base_of xs) size in
    let tests : (leb (base_of xs) a ≡ true) × (ltb a (base_of xs + length (map (byte_in xs) (range_with_len (base_of xs) size))) ≡ true) = and_parts _ _ e in
    let low : base_of xs ≤ a = leb-true _ _ tests.0 in
    let high : a < base_of xs + length (map (byte_in xs) (range_with_len (base_of xs) size)) = ltb-true _ _ tests.1 in
    get_or-map-range_with_len (code_in xs) (base_of xs) size (a - base_of xs) a false (omega arith) (omega arith)

by_cases : (r c f : Bool) → (r ≡ true → f ≡ c) → (c ≡ true → r ≡ true) → (r && f) ≡ c
by_cases true c f h g = h refl
by_cases false true f h g = absurd (false≢true (g refl))
by_cases false false f h g = refl

pub executable-image_in : (xs : List LoadSegment) (entry size a : ℕ) → has_bad_layout xs size ≡ false → executable (image_in xs entry size) a ≡ code_in xs a
unfolding executable in_ram image_in
executable-image_in xs entry size a h =
    let base : ℕ = base_of xs in
    by_cases (leb base a && ltb a (base + length (map (byte_in xs) (range_with_len base size)))) (code_in xs a)
    (get_or (map (code_in xs) (range_with_len base size)) (a - base) false)
    (λ e. flag_at xs size a e)
    (λ e. in_ram_tests xs size a (code_in_ram xs size a h e))

pub executable4 : (xs : List LoadSegment) (entry size a w : ℕ) → has_bad_layout xs size ≡ false → a ≡ 4 * w →
    word_executable (image_in xs entry size) w ≡ (code_in xs a && code_in xs (a + 1) && code_in xs (a + 2) && code_in xs (a + 3))
unfolding word_executable
executable4 xs entry size a w h e =
    rw (
      e,
      executable-image_in xs entry size (4 * w) h,
      executable-image_in xs entry size (4 * w + 1) h,
      executable-image_in xs entry size
          (4 * w + 2) h,
      executable-image_in xs entry size (4 * w + 3) h,
    ) refl

is_none-cond : (b : Bool) (x : ℕ) → is_none {T = ℕ} (cond b (Some x) None) ≡ not b
is_none-cond true x = refl
is_none-cond false x = refl

-- where the entry is a multiple of 4, it is bad where one of its four bytes is no code
pub has_bad_entry-code : (xs : List LoadSegment) (entry size : ℕ) → has_bad_layout xs size ≡ false → entry % 4 ≡ 0 →
    has_bad_entry xs entry size ≡ not (code_in xs entry && code_in xs (entry + 1) && code_in xs (entry + 2) && code_in xs (entry + 3))
unfolding has_bad_entry fetch
has_bad_entry-code xs entry size h m =
    let aligned : eqb (entry % 4) 0 ≡ true = rw m refl in
    let word = executable4 xs entry size entry (entry / 4) h (omega arith) in
    rw (aligned, is_none-cond, word) refl

pub has_bad_entry-odd : (xs : List LoadSegment) (entry size : ℕ) → entry % 4 ≢ 0 → has_bad_entry xs entry size ≡ true
unfolding has_bad_entry
has_bad_entry-odd xs entry size m =
    let odd : eqb (entry % 4) 0 ≡ false = ne_eqb (entry % 4) 0 m in
    rw odd refl
