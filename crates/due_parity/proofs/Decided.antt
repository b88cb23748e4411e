-- The fate of a flip by the touches of its group: the first of them decides, and lists of notes tell it.
use Rattle.std.proofs.Common.{◌≡◌, ℕ, zero, suc, ◌+◌, ◌-◌, ◌<◌, ◌≤◌, Bool, true, false, List, [], ◌∷◌, ◌++◌, length, get_or, refl, sym, ◌∙◌, ap, arith, append_assoc, append-nil, subst}
use Rattle.std.specs.Prelude.{All, Option, Some, None, find, nat_le, nat_lt, if◌then◌else◌}
use Rattle.std.proofs.lemmas.Bool.Decides.{nat_tests}
use Rattle.std.proofs.lemmas.List.Elements.{All-nil, All-push}
use Rattle.std.proofs.lemmas.List.Quantifiers.{all_pairs_push}
use Rattle.cyc_machine.specs.Run.{with_one}
use Rattle.due_parity.specs.Fates.{decided, fate_by}
use Rattle.due_parity.specs.Notes.{IsRising, fate_in, fate_of, fate_of_first, noted, noted_below}
use Rattle.due_parity.specs.declared.fate.Fate.{Fate}
use Rattle.due_parity.specs.declared.fate.Fate.TheVariants.{Detected, Quiet}
use Rattle.due_parity.specs.declared.touch.Touch.{Touch}
use Rattle.due_parity.specs.declared.touch.Touch.TheVariants.{Untouched, ReadOut, Renewed}
use Rattle.due_parity.specs.declared.watched.Noted.{Noted}

-- ---- the first touch

-- what comes of a flip in n cycles from t on, in which d is the first that touches its group
pub data Met (touches : ℕ → Touch) (t n : ℕ) : Fate → Type 0 where
  Never : ((i : ℕ) → i < n → touches (t + i) ≡ Untouched) → Met touches t n Quiet
  Mended : (d : ℕ) → d < n → ((i : ℕ) → i < d → touches (t + i) ≡ Untouched) → touches (t + d) ≡ Renewed → Met touches t n Quiet
  Read : (d : ℕ) → d < n → ((i : ℕ) → i < d → touches (t + i) ≡ Untouched) → touches (t + d) ≡ ReadOut → Met touches t n (Detected (t + d))

module _ (touches : ℕ → Touch) where
  at-once : (t : ℕ) → touches (t + 0) ≡ touches t
  at-once t = ap touches (omega arith)

  next-one : (t i : ℕ) → touches (suc t + i) ≡ touches (t + suc i)
  next-one t i = ap touches (omega arith)

  untouched-on : (t n : ℕ) → touches t ≡ Untouched → ((i : ℕ) → i < n → touches (suc t + i) ≡ Untouched) → (i : ℕ) → i < suc n → touches (t + i) ≡ Untouched
  untouched-on t n here later zero l = at-once t ∙ here
  untouched-on t n here later (suc i) l = sym (next-one t i) ∙ later i (omega (arith, l))

  met-on : (t n : ℕ) (f : Fate) → touches t ≡ Untouched → Met touches (suc t) n f → Met touches t (suc n) f
  met-on t n _ here (Never before) = Never (untouched-on t n here before)
  met-on t n _ here (Mended d l before at) =
      Mended (suc d) (omega (arith, l)) (untouched-on t d here before) (sym (next-one t d) ∙ at)
  met-on t n _ here (Read d l before at) =
      let e : t + suc d ≡ suc t + d = omega arith in
      subst (λ c. Met touches t (suc n) (Detected c)) e (Read (suc d) (omega (arith, l)) (untouched-on t d here before) (sym (next-one t d) ∙ at))

  met-by : (t n : ℕ) (x : Touch) (f : Fate) → touches t ≡ x → Met touches (suc t) n f → Met touches t (suc n) (decided x t f)
  met-by t n Untouched f e later = met-on t n f e later
  met-by t n ReadOut f e later =
      let at : t + 0 ≡ t = omega arith in
      subst (λ c. Met touches t (suc n) (Detected c)) at (Read 0 (omega arith) (λ i l. absurd (omega arith)) (at-once t ∙ e))
  met-by t n Renewed f e later = Mended 0 (omega arith) (λ i l. absurd (omega arith)) (at-once t ∙ e)

  pub met : (t n : ℕ) → Met touches t n (fate_by touches t n)
  unfolding fate_by
  met t zero = Never (λ i l. absurd (omega arith))
  met t (suc n) = met-by t n (touches t) (fate_by touches (suc t) n) refl (met (suc t) n)

-- ---- notes

below-one : (c t : ℕ) (x : Touch) (xs : List Noted) → c < t → All (λ n. n.cycle < t) xs → All (λ n. n.cycle < t) (with_one xs (noted x c))
below-one c t Untouched xs l h = h
below-one c t ReadOut xs l h = All-push (λ n. n.cycle < t) xs _ h l
below-one c t Renewed xs l h = All-push (λ n. n.cycle < t) xs _ h l

rising-one : (c : ℕ) (x : Touch) (xs : List Noted) → All (λ n. n.cycle < c) xs → IsRising xs → IsRising (with_one xs (noted x c))
rising-one c Untouched xs l h = h
rising-one c ReadOut xs l h = all_pairs_push (λ (a b : Noted). a.cycle < b.cycle) xs _ h l
rising-one c Renewed xs l h = all_pairs_push (λ (a b : Noted). a.cycle < b.cycle) xs _ h l

pub fate-behind : (t : ℕ) (xs ys : List Noted) → All (λ n. n.cycle < t) xs → fate_in t (xs ++ ys) ≡ fate_in t ys
unfolding fate_in
fate-behind t [] ys early = refl
fate-behind t (x ∷ xs) ys early =
    let b : x.cycle < t = early 0 x (omega arith) in
    let f : nat_lt x.cycle t ≡ true = grind (arith, nat_tests) in
    rw f (fate-behind t xs ys (λ k d l. early (suc k) d (omega (arith, l))))

with_one-behind : (xs ys : List Noted) (o : Option Noted) → with_one xs o ++ ys ≡ xs ++ (with_one [] o ++ ys)
with_one-behind xs ys (Some x) = append_assoc xs (x ∷ []) ys
with_one-behind xs ys None = refl

first-note : (t u : ℕ) → t ≤ u → (x : Touch) (later : List Noted) (f : Fate) → fate_in t later ≡ f
    → fate_in t (with_one [] (noted x u) ++ later) ≡ decided x u f
unfolding fate_in
first-note t u l Untouched later f e = e
first-note t u l ReadOut later f e = let late : nat_lt u t ≡ false = grind (arith, nat_tests) in rw late refl
first-note t u l Renewed later f e = let late : nat_lt u t ≡ false = grind (arith, nat_tests) in rw late refl

by-test : (t : ℕ) (x : Noted) (xs : List Noted) (b : Bool) → nat_le t x.cycle ≡ b → fate_of_first (find (λ n. nat_le t n.cycle) xs) ≡ fate_in t xs
    → fate_of_first (if b then Some x else find (λ n. nat_le t n.cycle) xs) ≡ (if nat_lt x.cycle t then fate_in t xs else fate_of x)
by-test t x xs true e h = let f : nat_lt x.cycle t ≡ false = grind (arith, nat_tests) in rw f refl
by-test t x xs false e h = let f : nat_lt x.cycle t ≡ true = grind (arith, nat_tests) in rw f h

-- the first note from cycle t on, as a search finds it
pub fate-found : (t : ℕ) (xs : List Noted) → fate_of_first (find (λ n. nat_le t n.cycle) xs) ≡ fate_in t xs
unfolding fate_in
fate-found t [] = refl
fate-found t (x ∷ xs) = by-test t x xs (nat_le t x.cycle) refl (fate-found t xs)

module _ (touches : ℕ → Touch) where
  pub below : (t u : ℕ) → t ≤ u → All (λ n. n.cycle < u) (noted_below touches t)
  unfolding noted_below
  below zero u l = All-nil _
  below (suc t) u l = below-one t u (touches t) (noted_below touches t) (omega (arith, l)) (below t u (omega (arith, l)))

  pub rising : (t : ℕ) → IsRising (noted_below touches t)
  unfolding noted_below
  rising zero = λ i j d l m. absurd (omega (arith, m))
  rising (suc t) = rising-one t (touches t) (noted_below touches t) (below t t (omega arith)) (rising t)

  -- the notes of n cycles from t on
  notes_from : ℕ → ℕ → List Noted
  notes_from t zero = []
  notes_from t (suc n) = with_one [] (noted (touches t) t) ++ notes_from (suc t) n

  split : (n t u : ℕ) → u ≡ n + t → noted_below touches u ≡ noted_below touches t ++ notes_from t n
  unfolding noted_below notes_from
  split zero t u e = let f : u ≡ t = omega (arith, e) in ap (noted_below touches) f ∙ sym (append-nil (noted_below touches t))
  split (suc n) t u e =
      split n (suc t) u (omega (arith, e)) ∙ with_one-behind (noted_below touches t) (notes_from (suc t) n) (noted (touches t) t)

  from-notes : (n t u : ℕ) → t ≤ u → fate_in t (notes_from u n) ≡ fate_by touches u n
  unfolding fate_in fate_by notes_from
  from-notes zero t u l = refl
  from-notes (suc n) t u l = first-note t u l (touches u) (notes_from (suc u) n) (fate_by touches (suc u) n) (from-notes n t (suc u) (omega (arith, l)))

  -- the notes of all cycles below `cycles` tell the fate from any of them on
  pub tabled : (t cycles : ℕ) → t ≤ cycles → fate_in t (noted_below touches cycles) ≡ fate_by touches t (cycles - t)
  tabled t cycles l =
      ap (fate_in t) (split (cycles - t) t cycles (omega (arith, l)))
      ∙ fate-behind t (noted_below touches t) (notes_from t (cycles - t)) (below t t (omega arith))
      ∙ from-notes (cycles - t) t t (omega arith)

-- ---- the note that decides

-- note i is the first that doesn't come before cycle t
pub fate-at : (t : ℕ) (xs : List Noted) (i : ℕ) (d : Noted) → i < length xs → ((j : ℕ) → j < i → (get_or xs j d).cycle < t) → t ≤ (get_or xs i d).cycle
    → fate_in t xs ≡ fate_of (get_or xs i d)
unfolding fate_in
fate-at t [] i d l early late = absurd (omega (arith, l))
fate-at t (x ∷ xs) zero d l early late = let f : nat_lt x.cycle t ≡ false = grind (arith, nat_tests) in rw f refl
fate-at t (x ∷ xs) (suc i) d l early late =
    let b : x.cycle < t = early 0 (omega arith) in
    let f : nat_lt x.cycle t ≡ true = grind (arith, nat_tests) in
    rw f (fate-at t xs i d (omega (arith, l)) (λ j m. early (suc j) (omega (arith, m))) late)

-- all notes come before it
pub fate-past : (t : ℕ) (xs : List Noted) (d : Noted) → ((j : ℕ) → j < length xs → (get_or xs j d).cycle < t) → fate_in t xs ≡ Quiet
unfolding fate_in
fate-past t [] d early = refl
fate-past t (x ∷ xs) d early =
    let b : x.cycle < t = early 0 (omega arith) in
    let f : nat_lt x.cycle t ≡ true = grind (arith, nat_tests) in
    rw f (fate-past t xs d (λ j m. early (suc j) (omega (arith, m))))
