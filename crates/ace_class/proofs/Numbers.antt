-- A rule and a class are known by their numbers.
use Rattle.std.proofs.Common.{◌≡◌, ◌<◌, ℕ, refl, sym, ap, ◌∙◌, arith}
use Rattle.std.specs.Prelude.{◌==◌, if◌then◌else◌}
use Rattle.ace_class.specs.Classes.{class_number, number_of}
use Rattle.ace_class.specs.declared.class.Class.{Class}
use Rattle.ace_class.specs.declared.class.Class.TheVariants.{Ace, UnAce}
use Rattle.ace_class.specs.declared.class.Rule.{Rule}
use Rattle.ace_class.specs.declared.class.Rule.TheVariants.{Timing, EmptyPlace, WrongPath, OnPath, Masked, DeadRegister, DeadData}
use Rattle.ace_class.specs.declared.class.Rule.TheVariants.{StoreRedirection, CleanData, CleanLine, UnaccessedLine, CleanTag, NoTrapCause}

-- the rule of a number
rule_of : ℕ → Rule
rule_of n =
    if n == 1 then Timing else if n == 2 then EmptyPlace else if n == 3 then WrongPath else if n == 4 then OnPath else if n == 5 then Masked
    else if n == 6 then DeadRegister else if n == 7 then DeadData else if n == 8 then StoreRedirection else if n == 9 then CleanData
    else if n == 10 then CleanLine else if n == 11 then UnaccessedLine else if n == 12 then CleanTag else NoTrapCause

numbered : (rule : Rule) → rule_of (number_of rule) ≡ rule
unfolding rule_of
numbered Timing = refl
numbered EmptyPlace = refl
numbered WrongPath = refl
numbered OnPath = refl
numbered Masked = refl
numbered DeadRegister = refl
numbered DeadData = refl
numbered StoreRedirection = refl
numbered CleanData = refl
numbered CleanLine = refl
numbered UnaccessedLine = refl
numbered CleanTag = refl
numbered NoTrapCause = refl

pub same_rule : (a b : Rule) → number_of a ≡ number_of b → a ≡ b
same_rule a b e = sym (numbered a) ∙ ap rule_of e ∙ numbered b

-- the rules are numbered from 1 to 13
pub within : (rule : Rule) → (0 < number_of rule) × (number_of rule < 14)
within Timing = (omega arith, omega arith)
within EmptyPlace = (omega arith, omega arith)
within WrongPath = (omega arith, omega arith)
within OnPath = (omega arith, omega arith)
within Masked = (omega arith, omega arith)
within DeadRegister = (omega arith, omega arith)
within DeadData = (omega arith, omega arith)
within StoreRedirection = (omega arith, omega arith)
within CleanData = (omega arith, omega arith)
within CleanLine = (omega arith, omega arith)
within UnaccessedLine = (omega arith, omega arith)
within CleanTag = (omega arith, omega arith)
within NoTrapCause = (omega arith, omega arith)

pub same_class : (a b : Class) → class_number a ≡ class_number b → a ≡ b
same_class Ace Ace e = refl
same_class Ace (UnAce rule) e = let w = within rule in absurd (omega (arith, e, w.0))
same_class (UnAce rule) Ace e = let w = within rule in absurd (omega (arith, e, w.0))
same_class (UnAce rule) (UnAce other) e = ap UnAce (same_rule rule other e)
