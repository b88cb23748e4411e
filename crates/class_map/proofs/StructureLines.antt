-- The lines of a structure, bit by bit.
use Rattle.std.proofs.Common.{◌≡◌, ℕ, ◌+◌, ◌<◌, ◌≤◌, ◌⊎◌, true, Some, sym, ap, ◌∙◌, subst, inl, inr, arith}
use Rattle.std.specs.Prelude.{◌==◌, nat_le, nat_lt, if◌then◌else◌}
use Rattle.std.proofs.lemmas.Bool.{cases_lt, cases_order}
use Rattle.std.proofs.lemmas.Bool.Decides.{nat_tests}
use Rattle.bit_field.specs.Shapes.{bits_in}
use Rattle.bit_field.specs.declared.places.Place.{Place}
use Rattle.bit_field.specs.declared.places.Structure.{Structure}
use Rattle.ace_class.specs.Counts.{place_of}
use Rattle.ace_rules.specs.Notes.{Story}
use Rattle.class_map.specs.Lines.{comes_after}
use Rattle.class_map.specs.Maps.{IsMapLine, IsUnAce}
use Rattle.class_map.specs.Searches.{IsAce, IsBorder, IsFirstInBit, IsFirstOf, mark}
use Rattle.class_map.specs.declared.map_line.MapLine.{MapLine}
use Rattle.class_map.proofs.BitLines.{first_or_behind}
use Rattle.class_map.proofs.Orders.{same_place}
use Rattle.class_map.proofs.UnAce.{ace_not}

-- the cycle to begin with in a bit
abbrev pub start_in : ℕ → ℕ → ℕ → ℕ
start_in later bit from = if later == bit then from else 0

-- no line comes in the bits before this one
abbrev pub NoneBelow : Story → Structure → ℕ → ℕ → ℕ → Type 0
NoneBelow story s bit from later =
    (other : MapLine) → IsMapLine story other → other.place.structure ≡ s → comes_after (mark s bit from) other ≡ true → other.place.bit < later → ⊥

-- the test of the order, over plain numbers
after_mark : (a b bit later from at : ℕ) → a ≡ b → bit ≤ later → (if later == bit then from else 0) ≤ at → (if a == b then (if bit == later then nat_le from at else nat_lt bit later) else nat_lt a b) ≡ true
after_mark a b bit later from at e h k = grind (arith, nat_tests)

in_bit : (a b bit other later from at : ℕ) → a ≡ b → other ≡ later → (if a == b then (if bit == other then nat_le from at else nat_lt bit other) else nat_lt a b) ≡ true → (if later == bit then from else 0) ≤ at
in_bit a b bit other later from at e f h = grind (arith, nat_tests)

behind_same : (a b bit other to at : ℕ) → a ≡ b → bit ≡ other → to ≤ at → (if a == b then (if bit == other then nat_le to at else nat_lt bit other) else nat_lt a b) ≡ true
behind_same a b bit other to at e f h = grind (arith, nat_tests)

behind_bit : (a b bit other to at : ℕ) → a ≡ b → bit < other → (if a == b then (if bit == other then nat_le to at else nat_lt bit other) else nat_lt a b) ≡ true
behind_bit a b bit other to at e f = grind (arith, nat_tests)

pub behind_structure : (a b bit other to at : ℕ) → a < b → (if a == b then (if bit == other then nat_le to at else nat_lt bit other) else nat_lt a b) ≡ true
behind_structure a b bit other to at f = grind (arith, nat_tests)

-- no line of a bit that is ACE from there on
none_here : (story : Story) (s : Structure) (bit from later : ℕ) → IsAce story (record { structure = s; bit = later }) (start_in later bit from) story.r.cycles
    → (other : MapLine) → IsMapLine story other → other.place.structure ≡ s → comes_after (mark s bit from) other ≡ true → other.place.bit ≡ later → ⊥
none_here story s bit from later ace other is e after here =
    let place : other.place ≡ record { structure = s; bit = later } = same_place other.place (record { structure = s; bit = later }) (ap place_of e) here in
    let some : other.from < other.to = is.some in
    let within : other.to ≤ story.r.cycles = is.within in
    let un_ace : IsUnAce story (record { structure = s; bit = later }) other.from other.rule =
    subst (λ (p : Place). IsUnAce story p other.from other.rule) place (is.right other.from (omega arith) some) in
    ace_not story (record { structure = s; bit = later }) other.from other.rule
    (ace other.from (in_bit (place_of s) (place_of other.place.structure) bit other.place.bit later from other.from (ap place_of (sym e)) here after) (omega arith)) un_ace

pub none_more : (story : Story) (s : Structure) (bit from later : ℕ) → NoneBelow story s bit from later
    → IsAce story (record { structure = s; bit = later }) (start_in later bit from) story.r.cycles → NoneBelow story s bit from (later + 1)
none_more story s bit from later none ace other is e after below = elim (cases_lt other.place.bit later) [
  | inl less ↦ none other is e after less
  | inr more ↦ none_here story s bit from later ace other is e after (omega arith)
]

pub found_here : (story : Story) (s : Structure) (bit from later : ℕ) (line : MapLine) → bit ≤ later → NoneBelow story s bit from later
    → IsFirstInBit story (record { structure = s; bit = later }) (start_in later bit from) line → IsFirstOf story (Some (mark s bit from)) s line
found_here story s bit from later line h none first =
    let structure : line.place.structure ≡ s = ap (λ (p : Place). p.structure) first.place_is in
    let at : line.place.bit ≡ later = ap (λ (p : Place). p.bit) first.place_is in
    record {
      is = first.is;
      in_it = structure;
      behind = rw at (after_mark (place_of s) (place_of line.place.structure) bit later from line.from (ap place_of (sym structure)) h first.after);
      first = λ other is e after. elim (cases_order other.place.bit later) [
        | inl same ↦
            elim (first_or_behind story (record { structure = s; bit = later }) (start_in later bit from) line other first is
            (same_place other.place (record { structure = s; bit = later }) (ap place_of e) same)
            (in_bit (place_of s) (place_of other.place.structure) bit other.place.bit later from other.from (ap place_of (sym e)) same after)) [
              | inl equal ↦ inl equal
              | inr behind ↦
                  inr (behind_same (place_of line.place.structure) (place_of other.place.structure) line.place.bit other.place.bit line.to other.from
                  (ap place_of (structure ∙ sym e)) (at ∙ sym same) behind)
            ]
        | inr (inl below) ↦ absurd (none other is e after below)
        | inr (inr above) ↦
            inr (behind_bit (place_of line.place.structure) (place_of other.place.structure) line.place.bit other.place.bit line.to other.from
            (ap place_of (structure ∙ sym e)) (omega (arith, at)))
      ];
    }

-- no line goes on in the first cycle
pub none_before_reset : (story : Story) (place : Place) → IsBorder story place 0
none_before_reset story place t number e = absurd (omega arith)

own_start : (bit from : ℕ) → from ≡ start_in bit bit from
own_start bit from = grind (arith, nat_tests)

other_start : (later bit from : ℕ) → (later < bit) ⊎ (bit < later) → 0 ≡ start_in later bit from
other_start later bit from (inl h) = grind (arith, nat_tests)
other_start later bit from (inr h) = grind (arith, nat_tests)

reset_in : (story : Story) (s : Structure) (bit from later : ℕ) → (later < bit) ⊎ (bit < later)
    → IsBorder story (record { structure = s; bit = later }) (start_in later bit from)
reset_in story s bit from later h =
    subst (λ (n : ℕ). IsBorder story (record { structure = s; bit = later }) n) (other_start later bit from h)
    (none_before_reset story (record { structure = s; bit = later }))

own_border : (story : Story) (s : Structure) (bit from : ℕ) → (bit < bits_in s story.r.shape → IsBorder story (record { structure = s; bit = bit }) from)
    → bit < bits_in s story.r.shape → IsBorder story (record { structure = s; bit = bit }) (start_in bit bit from)
own_border story s bit from border h = subst (λ (n : ℕ). IsBorder story (record { structure = s; bit = bit }) n) (own_start bit from) (border h)

pub border_in : (story : Story) (s : Structure) (bit from later : ℕ) → (bit < bits_in s story.r.shape → IsBorder story (record { structure = s; bit = bit }) from)
    → later < bits_in s story.r.shape → IsBorder story (record { structure = s; bit = later }) (start_in later bit from)
border_in story s bit from later border h = elim (cases_order later bit) [
  | inl same ↦
      subst (λ (n : ℕ). IsBorder story (record { structure = s; bit = n }) (start_in n bit from)) (sym same)
      (own_border story s bit from border (subst (λ (n : ℕ). n < bits_in s story.r.shape) same h))
  | inr (inl below) ↦ reset_in story s bit from later (inl below)
  | inr (inr above) ↦ reset_in story s bit from later (inr above)
]
