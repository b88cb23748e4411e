-- The search over all structures.
use Rattle.std.proofs.Common.{◌≡◌, ℕ, ◌+◌, ◌<◌, ◌≤◌, true, false, List, length, get_or, Option, None, Some, refl, sym, ap, ◌∙◌, subst, inl, inr, arith}
use Rattle.std.specs.Prelude.{◌==◌, nat_le, nat_lt, if◌then◌else◌}
use Rattle.std.proofs.lemmas.Bool.{cases_order}
use Rattle.std.proofs.lemmas.Bool.Decides.{nat_tests}
use Rattle.bit_field.specs.declared.places.Place.{Place}
use Rattle.bit_field.specs.declared.places.Structure.{Structure}
use Rattle.ace_class.specs.Counts.{place_of, structures}
use Rattle.ace_rules.specs.Notes.{Story}
use Rattle.class_map.specs.Lines.{comes_after, follows}
use Rattle.class_map.specs.Maps.{IsMapLine, IsNext, IsNextLine}
use Rattle.class_map.specs.Searches.{IsBorder, IsFirstOf, IsNextOf, mark}
use Rattle.class_map.specs.declared.map_line.MapLine.{MapLine}
use Rattle.class_map.proofs.BitLines.{border}
use Rattle.ace_class.proofs.Places.{place_most, same_structure}
use Rattle.class_map.proofs.Orders.{place_at, same_place}
use Rattle.class_map.proofs.StructureLines.{behind_structure}

-- what comes behind one line of a structure comes behind another, where the same lines do
moved : (story : Story) (a b : Option MapLine) (s : Structure) (result : Option MapLine)
    → ((other : MapLine) → other.place.structure ≡ s → follows a other ≡ follows b other) → IsNextOf story a s result → IsNextOf story b s result
moved story a b s None same h = λ other is e after. h other is e (same other e ∙ after)
moved story a b s (Some line) same h = record {
  is = h.is;
  in_it = h.in_it;
  behind = sym (same line h.in_it) ∙ h.behind;
  first = λ other is e after. h.first other is e (same other e ∙ after);
}

all_after : (a b bit at : ℕ) → a ≡ b → (if a == b then (if 0 == bit then nat_le 0 at else nat_lt 0 bit) else nat_lt a b) ≡ true
all_after a b bit at e = grind (arith, nat_tests)

none_after : (a b bit other to at : ℕ) → b < a → (if a == b then (if bit == other then nat_le to at else nat_lt bit other) else nat_lt a b) ≡ false
none_after a b bit other to at h = grind (arith, nat_tests)

-- all lines of a structure follow none
pub first_in : (story : Story) (s : Structure) (result : Option MapLine) → IsNextOf story (Some (mark s 0 0)) s result → IsNextOf story None s result
first_in story s result =
    moved story (Some (mark s 0 0)) None s result
    (λ other e. all_after (place_of s) (place_of other.place.structure) other.place.bit other.from (ap place_of (sym e)))

-- and a line of an earlier structure
pub first_behind : (story : Story) (s : Structure) (line : MapLine) (result : Option MapLine) → place_of line.place.structure < place_of s
    → IsNextOf story (Some (mark s 0 0)) s result → IsNextOf story (Some line) s result
first_behind story s line result h =
    moved story (Some (mark s 0 0)) (Some line) s result
    (λ other e. all_after (place_of s) (place_of other.place.structure) other.place.bit other.from (ap place_of (sym e))
    ∙ sym (behind_structure (place_of line.place.structure) (place_of other.place.structure) line.place.bit other.place.bit line.to other.from
    (subst (λ (x : Structure). place_of line.place.structure < place_of x) (sym e) h)))

-- in its own structure
pub rest_behind : (story : Story) (s : Structure) (line : MapLine) (result : Option MapLine) → place_of s ≡ place_of line.place.structure
    → IsNextOf story (Some (mark s line.place.bit line.to)) s result → IsNextOf story (Some line) s result
rest_behind story s line result h =
    moved story (Some (mark s line.place.bit line.to)) (Some line) s result
    (λ other e. ap (λ (x : Structure). comes_after (mark x line.place.bit line.to) other) (same_structure s line.place.structure h))

-- and none in a later one
pub none_behind : (story : Story) (s : Structure) (line : MapLine) → place_of s < place_of line.place.structure → IsNextOf story (Some line) s None
none_behind story s line h other is e after =
    let never : false ≡ true =
    sym (none_after (place_of line.place.structure) (place_of other.place.structure) line.place.bit other.place.bit line.to other.from
    (subst (λ (x : Structure). place_of x < place_of line.place.structure) (sym e) h)) ∙ after in cc

pub own_border : (story : Story) (s : Structure) (line : MapLine) → IsMapLine story line → place_of s ≡ place_of line.place.structure
    → IsBorder story (record { structure = s; bit = line.place.bit }) line.to
own_border story s line is h =
    subst (λ (p : Place). IsBorder story p line.to) (same_place line.place (record { structure = s; bit = line.place.bit }) (sym h) refl) (border story line is)

-- no line comes in the structures before this one
abbrev pub NoneBefore : Story → Option MapLine → ℕ → Type 0
NoneBefore story before n = (other : MapLine) → IsMapLine story other → follows before other ≡ true → place_of other.place.structure < n → ⊥

pub none_in : (story : Story) (before : Option MapLine) (s : Structure) (n : ℕ) → place_of s ≡ n → NoneBefore story before n → IsNextOf story before s None
    → NoneBefore story before (n + 1)
none_in story before s n e none here other is after below = elim (cases_order (place_of other.place.structure) n) [
  | inl same ↦ here other is (same_structure other.place.structure s (same ∙ sym e)) after
  | inr (inl less) ↦ none other is after less
  | inr (inr more) ↦ absurd (omega arith)
]

pub next_in : (story : Story) (before : Option MapLine) (s : Structure) (n : ℕ) (line : MapLine) → place_of s ≡ n → NoneBefore story before n
    → IsFirstOf story before s line → IsNextLine story before line
next_in story before s n line e none found = record {
  is = found.is;
  behind = found.behind;
  first = λ other is after. elim (cases_order (place_of other.place.structure) n) [
    | inl same ↦ found.first other is (same_structure other.place.structure s (same ∙ sym e)) after
    | inr (inl less) ↦ absurd (none other is after less)
    | inr (inr more) ↦
        let own : place_of line.place.structure ≡ n = ap place_of found.in_it ∙ e in
        inr (behind_structure (place_of line.place.structure) (place_of other.place.structure) line.place.bit other.place.bit line.to other.from (omega (arith, own)))
  ];
}

pub none_at_all : (story : Story) (before : Option MapLine) (n : ℕ) → 16 ≤ n → NoneBefore story before n → IsNext story before None
none_at_all story before n h none other is after =
    none other is after (let most = place_most other.place.structure in omega (arith, most))

-- over the list of all structures
pub next_at : (story : Story) (before : Option MapLine) (among : List Structure) (i : ℕ) (d : Structure) (line : MapLine) → among ≡ structures → i < length among
    → NoneBefore story before i → IsFirstOf story before (get_or among i d) line → IsNextLine story before line
next_at story before among i d line e h none found =
    let own : place_of (get_or among i d) ≡ i = rw e (place_at i d (subst (λ (l : List Structure). i < length l) e h)) in
    next_in story before (get_or among i d) i line own none found

pub none_at : (story : Story) (before : Option MapLine) (among : List Structure) (i : ℕ) (d : Structure) → among ≡ structures → i < length among
    → NoneBefore story before i → IsNextOf story before (get_or among i d) None → NoneBefore story before (i + 1)
none_at story before among i d e h none here =
    let own : place_of (get_or among i d) ≡ i = rw e (place_at i d (subst (λ (l : List Structure). i < length l) e h)) in
    none_in story before (get_or among i d) i own none here
