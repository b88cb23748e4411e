-- Reads of a part of a list, and of a list with a part replaced.
use Rattle.std.proofs.Common.{◌≡◌, ◌⊎◌, inl, inr, ℕ, ◌+◌, ◌-◌, ◌<◌, ◌≤◌, List, ◌++◌, length, take, drop, get_or, arith, ap, ◌∙◌, length-append, length-drop}
use Rattle.std.specs.List.{replace_range}
use Rattle.std.specs.Prelude.{slice_index, slice_range}
use Rattle.std.proofs.lemmas.Grind.{common_steps}
use Rattle.std.proofs.lemmas.List.{get_or-take, get_or-drop, get_or_append_left, get_or-append_right}

length-front : (i : ℕ) (xs : List ℕ) → i ≤ length xs → length (take i xs) ≡ i
length-front i xs h = grind (arith, common_steps)

pub length-range : (xs : List ℕ) (i j : ℕ) → i ≤ j → j ≤ length xs → length (slice_range xs i j) ≡ j - i
length-range xs i j h l = length-front (j - i) (drop i xs) (omega (arith, length-drop i xs))

pub range-read : (xs : List ℕ) (i j o : ℕ) → i + o < j → slice_index (slice_range xs i j) o ≡ slice_index xs (i + o)
range-read xs i j o h = get_or-take (j - i) (drop i xs) o 0 (omega arith) ∙ get_or-drop i xs o 0

pub replaced-in : (xs ys : List ℕ) (i j o : ℕ) → i + length ys ≡ j → j ≤ length xs → o < length ys
    → slice_index (replace_range xs i j ys) (i + o) ≡ slice_index ys o
replaced-in xs ys i j o e h l =
    let front : length (take i xs) ≡ i = length-front i xs (omega arith) in
    get_or_append_left (take i xs ++ ys) (drop j xs) 0 (i + o) (omega (arith, length-append (take i xs) ys))
    ∙ get_or-append_right (take i xs) ys i (i + o) 0 front (omega arith)
    ∙ ap (λ (k : ℕ). get_or ys k 0) (omega arith)

pub replaced-off : (xs ys : List ℕ) (i j k : ℕ) → i + length ys ≡ j → j ≤ length xs → (k < i) ⊎ (j ≤ k)
    → slice_index (replace_range xs i j ys) k ≡ slice_index xs k
replaced-off xs ys i j k e h off =
    let front : length (take i xs) ≡ i = length-front i xs (omega arith) in
    elim off [
      | inl l ↦
          get_or_append_left (take i xs ++ ys) (drop j xs) 0 k (omega (arith, length-append (take i xs) ys))
          ∙ get_or_append_left (take i xs) ys 0 k (omega arith)
          ∙ get_or-take i xs k 0 l
      | inr l ↦
          get_or-append_right (take i xs ++ ys) (drop j xs) j k 0 (omega (arith, length-append (take i xs) ys)) l
          ∙ get_or-drop j xs (k - j) 0
          ∙ ap (λ (n : ℕ). get_or xs n 0) (omega arith)
    ]
