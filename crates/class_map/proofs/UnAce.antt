-- A bit has one class in a cycle.
use Rattle.std.proofs.Common.{◌≡◌, ℕ, ◌<◌, ◌≤◌, refl, sym, ap, ◌∙◌, inl, inr, arith}
use Rattle.std.proofs.lemmas.Bool.{cases_lt}
use Rattle.bit_field.specs.declared.places.Place.{Place}
use Rattle.ace_class.specs.Classes.{class_number, number_of}
use Rattle.ace_class.specs.declared.class.Class.{Class}
use Rattle.ace_class.specs.declared.class.Class.TheVariants.{Ace, UnAce}
use Rattle.ace_class.specs.declared.class.Rule.{Rule}
use Rattle.ace_law.specs.Classes.{IsClass}
use Rattle.ace_rules.specs.Analyses.{HasOneClass}
use Rattle.ace_rules.specs.Notes.{Story, moment}
use Rattle.ace_rules.proofs.OneClass.{one_class}
use Rattle.class_map.specs.Maps.{IsUnAce}
use Rattle.class_map.specs.Searches.{IsAce}

pub one_number : (story : Story) (place : Place) (t m n : ℕ) → IsUnAce story place t m → IsUnAce story place t n → m ≡ n
one_number story place t m n h k =
    sym h.numbered ∙ ap class_number (one_class (moment story t) place (UnAce h.rule) (UnAce k.rule) h.class k.class) ∙ k.numbered

pub ace_not : (story : Story) (place : Place) (t n : ℕ) → IsClass Ace (moment story t) place → IsUnAce story place t n → ⊥
ace_not story place t n ace h = ace h.rule h.class.0

by_rule : (story : Story) (place : Place) (t : ℕ) (rule : Rule) → IsClass (UnAce rule) (moment story t) place → IsUnAce story place t (number_of rule)
by_rule story place t rule h = record { rule = rule; numbered = refl; class = h }

stays : (story : Story) (place : Place) (from until number : ℕ) (class : Class) → ((t : ℕ) → from ≤ t → t < until → IsClass class (moment story t) place)
    → from < until → IsUnAce story place from number → (t : ℕ) → from ≤ t → t < until → IsUnAce story place t number
stays story place from until number Ace is h u t a b = absurd (ace_not story place from number (is from (omega arith) h) u)
stays story place from until number (UnAce rule) is h u t a b =
    record { rule = rule; numbered = one_number story place from (number_of rule) number (by_rule story place from rule (is from (omega arith) h)) u; class = is t a b }

-- a bit that is un-ACE by a rule stays so while its class is one
pub stays_un_ace : (story : Story) (place : Place) (from until number : ℕ) → HasOneClass story place from until → from < until → IsUnAce story place from number
    → (t : ℕ) → from ≤ t → t < until → IsUnAce story place t number
stays_un_ace story place from until number one h u = stays story place from until number one.class one.is h u

idle : (story : Story) (place : Place) (from until : ℕ) (class : Class) → ((t : ℕ) → from ≤ t → t < until → IsClass class (moment story t) place)
    → from < until → IsClass Ace (moment story from) place → IsAce story place from until
idle story place from until Ace is h u t a b = is t a b
idle story place from until (UnAce rule) is h u t a b = absurd (u rule (is from (omega arith) h).0)

pub stays_ace : (story : Story) (place : Place) (from until : ℕ) → HasOneClass story place from until → from < until → IsClass Ace (moment story from) place
    → IsAce story place from until
stays_ace story place from until one h u = idle story place from until one.class one.is h u

-- of two intervals in a row
pub un_ace_more : (story : Story) (place : Place) (from mid until number : ℕ) → ((t : ℕ) → from ≤ t → t < mid → IsUnAce story place t number)
    → ((t : ℕ) → mid ≤ t → t < until → IsUnAce story place t number) → (t : ℕ) → from ≤ t → t < until → IsUnAce story place t number
un_ace_more story place from mid until number h k t a b = elim (cases_lt t mid) [ inl less ↦ h t a less | inr more ↦ k t more b ]

pub ace_more : (story : Story) (place : Place) (from mid until : ℕ) → IsAce story place from mid → IsAce story place mid until → IsAce story place from until
ace_more story place from mid until h k t a b = elim (cases_lt t mid) [ inl less ↦ h t a less | inr more ↦ k t more b ]
