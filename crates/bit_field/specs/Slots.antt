-- Slots that hold a list: its elements stand in the first of them, and the others are empty.
use Rattle.std.specs.Prelude.{◌≡◌, ◌⊎◌, ℕ, ◌-◌, Bool, true, false, List, ◌++◌, length, replicate}

-- n slots with these elements in front
abbrev pub in_front : {E : Type 0} → ℕ → E → List E → List E
in_front n empty es = es ++ replicate (n - length es) empty

-- a slot is used, or it is empty and the one behind it isn't used
abbrev pub Stands : {E : Type 0} → (E → Bool) → E → E → Bool → Type 0
Stands used empty e behind = (used e ≡ true) ⊎ ((e ≡ empty) × (behind ≡ false))
