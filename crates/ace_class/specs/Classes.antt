-- The rules by which a bit is un-ACE, and the classes of bits.
use Rattle.std.specs.Prelude.{ℕ, List, [], ◌∷◌, map}
use Rattle.ace_class.specs.declared.class.Class.{Class}
use Rattle.ace_class.specs.declared.class.Class.TheVariants.{Ace, UnAce}
use Rattle.ace_class.specs.declared.class.Rule.{Rule}
use Rattle.ace_class.specs.declared.class.Rule.TheVariants.{Timing, EmptyPlace, WrongPath, OnPath, Masked, DeadRegister, DeadData}
use Rattle.ace_class.specs.declared.class.Rule.TheVariants.{StoreRedirection, CleanData, CleanLine, UnaccessedLine, CleanTag, NoTrapCause}

-- U1 to U13
abbrev pub rules : List Rule
rules =
    Timing ∷ EmptyPlace ∷ WrongPath ∷ OnPath ∷ Masked ∷ DeadRegister ∷ DeadData
    ∷ StoreRedirection ∷ CleanData ∷ CleanLine ∷ UnaccessedLine ∷ CleanTag ∷ NoTrapCause ∷ []

-- ACE, and un-ACE by each rule
abbrev pub classes : List Class
classes = Ace ∷ map UnAce rules

-- the number of a rule in a report
abbrev pub number_of : Rule → ℕ
number_of Timing = 1
number_of EmptyPlace = 2
number_of WrongPath = 3
number_of OnPath = 4
number_of Masked = 5
number_of DeadRegister = 6
number_of DeadData = 7
number_of StoreRedirection = 8
number_of CleanData = 9
number_of CleanLine = 10
number_of UnaccessedLine = 11
number_of CleanTag = 12
number_of NoTrapCause = 13

-- the number of a class: 0 for ACE, else that of the rule
abbrev pub class_number : Class → ℕ
class_number Ace = 0
class_number (UnAce rule) = number_of rule
