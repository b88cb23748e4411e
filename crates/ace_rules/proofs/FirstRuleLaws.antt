-- The first of the tests that is true gives the class.
use Rattle.std.proofs.Common.{◌<◌, ℕ, suc, Bool, true, false, Decides, if◌then◌else◌, inl, inr, arith, refl, subst}
use Rattle.std.proofs.lemmas.Bool.{cases_lt}
use Rattle.bit_field.specs.declared.places.Place.{Place}
use Rattle.ace_class.specs.Classes.{number_of}
use Rattle.ace_class.specs.declared.class.Class.{Class}
use Rattle.ace_class.specs.declared.class.Class.TheVariants.{Ace, UnAce}
use Rattle.ace_class.specs.declared.class.Rule.{Rule}
use Rattle.ace_class.specs.declared.class.Rule.TheVariants.{Timing, EmptyPlace, WrongPath, OnPath, Masked, DeadRegister, DeadData, StoreRedirection}
use Rattle.ace_class.specs.declared.class.Rule.TheVariants.{CleanData, CleanLine, UnaccessedLine, CleanTag, NoTrapCause}
use Rattle.ace_class.proofs.Numbers.{same_rule, within}
use Rattle.ace_law.specs.Classes.{Holds, IsClass}
use Rattle.ace_law.specs.Moments.{Moment}
use Rattle.ace_rules.specs.FirstRules.{AreTests, class_by}
use Rattle.ace_rules.specs.declared.first_rule.RuleTests.{RuleTests}

-- a test of a rule that never holds of the bit
pub never : {P : Type 0} → (P → ⊥) → Decides false P
never not_so = ((λ e. absurd cc), (λ h. absurd (not_so h)))

module _ (a : Moment) (p : Place) where
  -- no rule of a lesser number holds
  abbrev NoneBelow : ℕ → Type 0
  NoneBelow n = (other : Rule) → number_of other < n → Holds other a p → ⊥

  more : (rule : Rule) → NoneBelow (number_of rule) → (Holds rule a p → ⊥) → NoneBelow (suc (number_of rule))
  more rule below not_this other l h =
      elim (cases_lt (number_of other) (number_of rule)) [
        | inl m ↦ below other m h
        | inr m ↦ not_this (subst (λ (r : Rule). Holds r a p) (same_rule other rule (omega (arith, l, m))) h)
      ]

  first : (rule : Rule) (b : Bool) (rest : Class) → Decides b (Holds rule a p) → NoneBelow (number_of rule)
      → (NoneBelow (suc (number_of rule)) → IsClass rest a p) → IsClass (if b then UnAce rule else rest) a p
  first rule true rest d below next = (d.0 refl, below)
  first rule false rest d below next = next (more rule below (λ h. let e = d.1 h in absurd cc))

  start : NoneBelow 1
  start other l h = let w = within other in absurd (omega (arith, l, w.0))

  end : NoneBelow 14 → IsClass Ace a p
  end none rule h = none rule (within rule).1 h

  pub class-by : (tests : RuleTests) → AreTests a p tests → IsClass (class_by tests) a p
  unfolding class_by
  class-by tests are =
      first Timing tests.timing _ are.timing start
      (λ b. first EmptyPlace tests.empty_place _ are.empty_place b
      (λ b. first WrongPath tests.wrong_path _ are.wrong_path b
      (λ b. first OnPath tests.on_path _ are.on_path b
      (λ b. first Masked tests.masked _ are.masked b
      (λ b. first DeadRegister tests.dead_register _ are.dead_register b
      (λ b. first DeadData tests.dead_data _ are.dead_data b
      (λ b. first StoreRedirection tests.store_redirection _ are.store_redirection b
      (λ b. first CleanData tests.clean_data _ are.clean_data b
      (λ b. first CleanLine tests.clean_line _ are.clean_line b
      (λ b. first UnaccessedLine tests.unaccessed_line _ are.unaccessed_line b
      (λ b. first CleanTag tests.clean_tag _ are.clean_tag b
      (λ b. first NoTrapCause tests.no_trap_cause _ are.no_trap_cause b end))))))))))))
