-- Lists of cycles.
use Rattle.std.specs.Prelude.{ℕ, ◌<◌, Bool, nat_le, List, [], ◌∷◌, ◌++◌, Option, find, AllPairs, if◌then◌else◌}

-- each cycle is later than those before it
abbrev pub IsRising : List ℕ → Type 0
IsRising cycles = AllPairs (λ a b. a < b) cycles

-- the first cycle of the list that is t or later
unfoldable pub first_from : ℕ → List ℕ → Option ℕ
first_from t cycles = find (λ c. nat_le t c) cycles

-- a list with one element more behind it, where a test is passed
abbrev pub pushed_if : {A : Type 0} → Bool → A → List A → List A
pushed_if test x xs = if test then xs ++ x ∷ [] else xs
