-- A run has one map.
use Rattle.std.proofs.Common.{◌≡◌, ℕ, ◌<◌, true, List, [], ◌∷◌, Option, None, Some, refl, sym, ap, subst, inl, inr, ◌∙◌, arith}
use Rattle.std.specs.Prelude.{◌==◌, nat_le, nat_lt, if◌then◌else◌, ◌⊎◌}
use Rattle.std.proofs.lemmas.Bool.Decides.{nat_tests}
use Rattle.ace_class.specs.Counts.{place_of}
use Rattle.ace_rules.specs.Notes.{Story}
use Rattle.class_map.specs.Lines.{comes_after}
use Rattle.class_map.specs.Maps.{AreAll, AreAllNext, IsNextLine}
use Rattle.class_map.specs.declared.map_line.MapLine.{MapLine}

never_both : (a b bit other from to start end : ℕ) → from < to → start < end
    → (if a == b then (if bit == other then nat_le to start else nat_lt bit other) else nat_lt a b) ≡ true
    → (if b == a then (if other == bit then nat_le end from else nat_lt other bit) else nat_lt b a) ≡ true → ⊥
never_both a b bit other from to start end some more h k = grind (arith, nat_tests)

-- of two lines only one comes after the other
one_after : (line other : MapLine) → line.from < line.to → other.from < other.to → comes_after line other ≡ true → comes_after other line ≡ true → ⊥
one_after line other some more h k =
    never_both (place_of line.place.structure) (place_of other.place.structure) line.place.bit other.place.bit line.from line.to other.from other.to some more h k

one_of : (line other : MapLine) → line.from < line.to → other.from < other.to → (other ≡ line) ⊎ (comes_after line other ≡ true)
    → (line ≡ other) ⊎ (comes_after other line ≡ true) → line ≡ other
one_of line other some more (inl e) k = sym e
one_of line other some more (inr h) (inl e) = e
one_of line other some more (inr h) (inr k) = absurd (one_after line other some more h k)

-- one line comes next
one_next : (story : Story) (before : Option MapLine) (line other : MapLine) → IsNextLine story before line → IsNextLine story before other → line ≡ other
one_next story before line other h k =
    one_of line other h.is.some k.is.some (h.first other k.is k.behind) (k.first line h.is h.behind)

all_one : (story : Story) (before : Option MapLine) (lines others : List MapLine) → AreAllNext story before lines → AreAllNext story before others
    → lines ≡ others
all_one story before [] [] h k = refl
all_one story before [] (other ∷ others) h k = absurd (h other k.0.is k.0.behind)
all_one story before (line ∷ lines) [] h k = absurd (k line h.0.is h.0.behind)
all_one story before (line ∷ lines) (other ∷ others) h k =
    let same : line ≡ other = one_next story before line other h.0 k.0 in
    let rest : AreAllNext story (Some line) others = subst (λ (l : MapLine). AreAllNext story (Some l) others) (sym same) k.1 in
    ap (λ (l : MapLine). l ∷ lines) same ∙ ap (λ (ls : List MapLine). other ∷ ls) (all_one story (Some line) lines others h.1 rest)

pub one_map : (story : Story) (lines others : List MapLine) → AreAll story lines → AreAll story others → lines ≡ others
one_map story lines others h k = all_one story None lines others h k
