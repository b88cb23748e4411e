-- Rows of counts: for each class, by its number, how many have it.
use Rattle.std.specs.Prelude.{◌≡◌, ℕ, ◌+◌, ◌<◌, ◌==◌, List, length, slice_index}
use Rattle.ace_class.specs.Classes.{class_number}
use Rattle.ace_class.specs.declared.class.Class.{Class}
use Rattle.ace_class.specs.declared.class.TheConstants.{CLASSES}
use Rattle.bit_field.specs.declared.places.Structure.{Structure}
use Rattle.ace_law.specs.Classes.{IsClass}
use Rattle.ace_law.specs.Moments.{Moment}
use Rattle.ace_rules.specs.Sums.{count_below, count_pairs}

-- this is the class of a structure's bit in a cycle
abbrev pub HasClass : Moment → Structure → ℕ → Class → Type 0
HasClass a s bit class = IsClass class a (record { structure = s; bit = bit })

-- Each number below an end has a class, and a row has grown by how many have each.
pub record IsAdded (Has : ℕ → Class → Type 0) (end : ℕ) (before row : List ℕ) : Type 0 where
  pub classes : ℕ → Class
  pub are : (k : ℕ) → k < end → Has k (classes k)
  pub full : length row ≡ length before
  pub counts : (n : ℕ) → slice_index row n ≡ slice_index before n + count_below end (λ k. class_number (classes k) == n)

-- Each pair of a bit and a cycle has a class, and the row has how many have each.
pub record IsTally (Has : ℕ → ℕ → Class → Type 0) (bits cycles : ℕ) (row : List ℕ) : Type 0 where
  pub classes : ℕ → ℕ → Class
  pub are : (k t : ℕ) → k < bits → t < cycles → Has k t (classes k t)
  pub full : length row ≡ CLASSES
  pub counts : (n : ℕ) → slice_index row n ≡ count_pairs bits cycles (λ k t. class_number (classes k t) == n)

-- Each pair of a bit and a cycle has a class, and a row has grown by how many have each.
pub record ArePairsAdded (Has : ℕ → ℕ → Class → Type 0) (bits cycles : ℕ) (before row : List ℕ) : Type 0 where
  pub classes : ℕ → ℕ → Class
  pub are : (k t : ℕ) → k < bits → t < cycles → Has k t (classes k t)
  pub full : length row ≡ length before
  pub counts : (n : ℕ) → slice_index row n ≡ slice_index before n + count_pairs bits cycles (λ k t. class_number (classes k t) == n)
