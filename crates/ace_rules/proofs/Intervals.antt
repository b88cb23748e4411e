-- The cycles in which a bit has one class, one interval after another.
use Rattle.std.proofs.Common.{◌≤◌, ◌<◌, ℕ, arith, inl, inr}
use Rattle.std.proofs.lemmas.Bool.{cases_order}
use Rattle.bit_field.specs.declared.places.Place.{Place}
use Rattle.ace_class.specs.declared.class.Class.{Class}
use Rattle.ace_law.specs.Classes.{IsClass}
use Rattle.ace_rules.specs.Notes.{Story, moment}
use Rattle.ace_rules.specs.Stays.{Stays}

pub joined : (story : Story) (place : Place) (class : Class) (from mid until : ℕ)
    → ((t : ℕ) → from ≤ t → t < mid → IsClass class (moment story t) place) → IsClass class (moment story mid) place → Stays story place mid until
    → until ≤ story.r.cycles → (t : ℕ) → from ≤ t → t < until → IsClass class (moment story t) place
joined story place class from mid until earlier here later within t l below =
    elim (cases_order t mid) [
      | inl same ↦ rw same here
      | inr (inl before) ↦ earlier t l before
      | inr (inr behind) ↦ later class t behind below (omega (arith, below, within)) here
    ]
