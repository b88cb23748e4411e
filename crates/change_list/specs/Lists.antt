-- Changes in the order in which they came, and what is asked of them.
use Rattle.std.specs.Prelude.{ℕ, ◌<◌, nat_le, nat_lt, List, [], ◌∷◌, Option, find, AllPairs, if◌then◌else◌}
use Rattle.change_list.specs.declared.changes.Change.{Change}

abbrev pub change : {A : Type 0} → ℕ → A → Change A
change cycle value = record { cycle = cycle; value = value }

-- each change comes later than those before it
abbrev pub IsRising : {A : Type 0} → List (Change A) → Type 0
IsRising changes = AllPairs (λ a b. a.cycle < b.cycle) changes

-- the first change from cycle t on
unfoldable pub first_from : {A : Type 0} → ℕ → List (Change A) → Option (Change A)
first_from t changes = find (λ c. nat_le t c.cycle) changes

-- What holds before cycle t, where `start` held before all changes: what the last change in a cycle below t left. The changes rise.
unfoldable pub value_before : {A : Type 0} → A → List (Change A) → ℕ → A
value_before start [] t = start
value_before start (c ∷ later) t = if nat_lt c.cycle t then value_before c.value later t else start

-- what holds after all changes
unfoldable pub last_value : {A : Type 0} → A → List (Change A) → A
last_value start [] = start
last_value start (c ∷ later) = last_value c.value later
