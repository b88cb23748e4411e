-- The used slots of a list of slots, and n slots with a list in front. `used` tells a used slot, and `empty` is an unused one.
use Rattle.std.proofs.Common.{◌≡◌, inl, inr, ℕ, zero, suc, ◌+◌, ◌-◌, ◌<◌, ◌≤◌, Bool, true, false, List, [], ◌∷◌, ◌++◌, length, take, drop, replicate, get_or}
use Rattle.std.proofs.Common.{cond, refl, sym, ◌∙◌, ap, arith, append_assoc, append-nil, length-append, take-append-drop}
use Rattle.std.proofs.lemmas.Bool.Decides.{nat_tests}
use Rattle.std.proofs.Math.ListN.{set}
use Rattle.std.specs.List.{All, filter}
use Rattle.std.proofs.lemmas.List.{set_at, set_split, length-replicate}
use Rattle.std.proofs.lemmas.List.Elements.{filter_more, filter-append, All-tail}
use Rattle.bit_field.specs.Slots.{in_front, Stands}

-- an element put behind a list in front
pub in_front-push : {E : Type 0} (n : ℕ) (empty : E) (es : List E) (e : E) → length es < n
    → set (in_front n empty es) (length es) e ≡ in_front n empty (es ++ e ∷ [])
in_front-push n empty es e room =
    let q : n - length es ≡ suc (n - (length es + 1)) = omega arith in
    let r : n - length (es ++ e ∷ []) ≡ n - (length es + 1) = omega (arith, length-append es (e ∷ [])) in
    rw (q, r)
    (set_at es empty (replicate (n - (length es + 1)) empty) e (length es) refl ∙ sym (append_assoc es (e ∷ []) (replicate (n - (length es + 1)) empty)))

-- a slot more is read
pub used-more : {E : Type 0} (used : E → Bool) (slots : List E) (i : ℕ) (x d : E) → i < length slots → x ≡ get_or slots i d → used x ≡ true
    → filter used (take (i + 1) slots) ≡ filter used (take i slots) ++ x ∷ []
used-more used slots i x d l is v = filter_more used slots i d l ∙ rw (sym is, v) refl

pub unused-more : {E : Type 0} (used : E → Bool) (slots : List E) (i : ℕ) (x d : E) → i < length slots → x ≡ get_or slots i d → used x ≡ false
    → filter used (take (i + 1) slots) ≡ filter used (take i slots)
unused-more used slots i x d l is v = filter_more used slots i d l ∙ rw (sym is, v) (append-nil _)

-- the used ones among the first i slots stand in front in `next`
abbrev pub IsMovedSoFar : {E : Type 0} → (E → Bool) → ℕ → E → List E → List E → ℕ → ℕ → Type 0
IsMovedSoFar used n empty slots next count i =
    (next ≡ in_front n empty (filter used (take i slots))) × (count ≡ length (filter used (take i slots))) × (count ≤ i)

pub IsMovedSoFar-used : {E : Type 0} (used : E → Bool) (n : ℕ) (empty : E) (slots next : List E) (count i : ℕ) (x d : E) → length slots ≡ n → i < n
    → x ≡ get_or slots i d → used x ≡ true → IsMovedSoFar used n empty slots next count i
    → IsMovedSoFar used n empty slots (set next count x) (count + 1) (i + 1)
IsMovedSoFar-used used n empty slots next count i x d long l is v h =
    let e : filter used (take (i + 1) slots) ≡ filter used (take i slots) ++ x ∷ [] = used-more used slots i x d (omega arith) is v in (
      rw (e, h.0, h.1) (in_front-push n empty (filter used (take i slots)) x (omega (arith, h.1))),
      rw
          (e, length-append (filter used (take i slots)) (x ∷ [])) (omega (arith, h.1)),
      omega (arith, h.2),
    )

pub IsMovedSoFar-unused : {E : Type 0} (used : E → Bool) (n : ℕ) (empty : E) (slots next : List E) (count i : ℕ) (x d : E) → length slots ≡ n → i < n
    → x ≡ get_or slots i d → used x ≡ false → IsMovedSoFar used n empty slots next count i → IsMovedSoFar used n empty slots next count (i + 1)
IsMovedSoFar-unused used n empty slots next count i x d long l is v h = rw (unused-more used slots i x d (omega arith) is v) (h.0, h.1, omega (arith, h.2))

-- the first used slot
pub first_used : {E : Type 0} (used : E → Bool) (slots : List E) (i : ℕ) (x d : E) → i < length slots → x ≡ get_or slots i d → used x ≡ true
    → filter used (take i slots) ≡ [] → filter used slots ≡ x ∷ filter used (drop (i + 1) slots)
first_used {E = E} used slots i x d l is v none =
    let e : filter used (take (i + 1) slots) ≡ x ∷ [] = rw none at (used-more used slots i x d l is v) in
    ap (filter used) (sym (take-append-drop (i + 1) slots))
    ∙ filter-append used (take (i + 1) slots) (drop (i + 1) slots)
    ∙ ap (λ (es : List E). es ++ filter used (drop (i + 1) slots)) e

-- ---- for those who use such slots

-- there are at most as many used ones as slots
pub length-used : {E : Type 0} (used : E → Bool) (slots : List E) → length (filter used slots) ≤ length slots
length-used used [] = omega arith
length-used {E = E} used (e ∷ slots) = length_kept (used e) e (filter used slots) (length slots) (length-used used slots)
  where
    length_kept : (v : Bool) (e : E) (es : List E) (n : ℕ) → length es ≤ n → length (cond v (e ∷ es) es) ≤ suc n
    length_kept true e es n h = omega arith
    length_kept false e es n h = omega arith

-- a list in front fills n slots
pub length-in_front : {E : Type 0} (n : ℕ) (empty : E) (es : List E) → length es ≤ n → length (in_front n empty es) ≡ n
length-in_front n empty es room = omega (arith, length-append es (replicate (n - length es) empty), length-replicate (n - length es) empty)

-- and is read back
used-none : {E : Type 0} (used : E → Bool) (empty : E) → used empty ≡ false → (n : ℕ) → filter used (replicate n empty) ≡ []
used-none used empty free zero = refl
used-none used empty free (suc n) = rw (free, used-none used empty free n) refl

used-all : {E : Type 0} (used : E → Bool) (es : List E) → All (λ e. used e ≡ true) es → filter used es ≡ es
used-all used [] all = refl
used-all used (e ∷ es) all =
    let first : used e ≡ true = all 0 e (omega arith) in
    let rest : filter used es ≡ es = used-all used es (All-tail (λ e. used e ≡ true) e es all) in
    rw (first, rest) refl

pub used-in_front : {E : Type 0} (used : E → Bool) (n : ℕ) (empty : E) (es : List E) → used empty ≡ false → All (λ e. used e ≡ true) es
    → filter used (in_front n empty es) ≡ es
used-in_front {E = E} used n empty es free all =
    filter-append used es (replicate (n - length es) empty)
    ∙ ap (λ (xs : List E). xs ++ filter used (replicate (n - length es) empty)) (used-all used es all)
    ∙ ap (λ (xs : List E). es ++ xs) (used-none used empty free (n - length es))
    ∙ append-nil es

-- the used ones before slot i, and from it on
pub used-split : {E : Type 0} (used : E → Bool) (slots : List E) (i : ℕ) → filter used slots ≡ filter used (take i slots) ++ filter used (drop i slots)
used-split used slots i = ap (filter used) (sym (take-append-drop i slots)) ∙ filter-append used (take i slots) (drop i slots)

-- with slot i replaced: those before it, itself where it is used, those behind it
pub used-set : {E : Type 0} (used : E → Bool) (slots : List E) (i : ℕ) (y : E) → i < length slots
    → filter used (set slots i y) ≡ filter used (take i slots) ++ cond (used y) (y ∷ filter used (drop (suc i) slots)) (filter used (drop (suc i) slots))
used-set used slots i y l = ap (filter used) (set_split slots i y l) ∙ filter-append used (take i slots) (y ∷ drop (suc i) slots)

-- slots that stand: those in front of them are moved nowhere, and behind an unused one none is used
IsStanding : {E : Type 0} → (E → Bool) → ℕ → E → Bool → List E → Type 0
IsStanding used n empty first es = (in_front n empty (filter used es) ≡ es) × (first ≡ false → filter used es ≡ [])

stands-more : {E : Type 0} (used : E → Bool) (n : ℕ) (empty e : E) (behind : Bool) (es : List E) → used empty ≡ false → Stands used empty e behind
    → IsStanding used n empty behind es → IsStanding used (suc n) empty (used e) (e ∷ es)
unfolding IsStanding
stands-more {E = E} used n empty e behind es free (inl on) rest =
    let fewer : suc n - suc (length (filter used es)) ≡ n - length (filter used es) = omega arith in
    (rw (on, fewer) (ap (λ (xs : List E). e ∷ xs) rest.0), λ off. grind (arith, nat_tests))
stands-more {E = E} used n empty e behind es free (inr (is, off)) rest =
    let unused : used e ≡ false = ap used is ∙ free in
    let none : filter used es ≡ [] = rest.1 off in
    let whole : n - 0 ≡ n = omega arith in
    let next : suc n - 0 ≡ suc n = omega arith in
    let all : replicate n empty ≡ es = rw (none, whole) at rest.0 in
    (rw (unused, none, is, next) (ap (λ (xs : List E). empty ∷ xs) all), λ h. rw unused none)

-- nothing moves where each of four slots stands
pub stands-four : {E : Type 0} (used : E → Bool) (empty a b c d : E) → used empty ≡ false → Stands used empty a (used b) → Stands used empty b (used c)
    → Stands used empty c (used d) → Stands used empty d false → in_front 4 empty (filter used (a ∷ b ∷ c ∷ d ∷ [])) ≡ a ∷ b ∷ c ∷ d ∷ []
unfolding IsStanding
stands-four used empty a b c d free first second third last =
    let none : IsStanding used 0 empty false [] = (refl, λ h. refl) in
    let four = stands-more used 3 empty a (used b) (b ∷ c ∷ d ∷ []) free first
    (stands-more used 2 empty b (used c) (c ∷ d ∷ []) free second
    (stands-more used 1 empty c (used d) (d ∷ []) free third (stands-more used 0 empty d false [] free last none))) in
    four.0
