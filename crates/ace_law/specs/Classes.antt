-- The class of a bit in a cycle: the first of the rules that holds, or ACE where none does.
use Rattle.std.specs.Prelude.{◌<◌}
use Rattle.bit_field.specs.declared.places.Place.{Place}
use Rattle.ace_class.specs.Classes.{number_of}
use Rattle.ace_class.specs.declared.class.Class.{Class}
use Rattle.ace_class.specs.declared.class.Class.TheVariants.{Ace, UnAce}
use Rattle.ace_class.specs.declared.class.Rule.{Rule}
use Rattle.ace_class.specs.declared.class.Rule.TheVariants.{Timing, EmptyPlace, WrongPath, OnPath, Masked, DeadRegister, DeadData, StoreRedirection, CleanData, CleanLine, UnaccessedLine, CleanTag, NoTrapCause}
use Rattle.ace_law.specs.Moments.{IsQuiet, Moment}
use Rattle.ace_law.specs.PipelineRules.{IsEmptyPlaceBit, IsMaskedBit, IsOnPathBit, IsTimingBit, IsUnusedCause, IsWrongPathBit}
use Rattle.ace_law.specs.MemoryRules.{IsCleanLineBit, IsDeadDataBit, IsDeadRegisterBit, IsRedirectionBit, IsUnaccessedBit, IsUnconfusedTagBit, IsUnreadDataBit}

-- Rules that may change when something is done hold in quiet cycles alone. The others leave each cycle as it is.
abbrev pub Holds : Rule → Moment → Place → Type 0
Holds Timing a p = IsQuiet a × IsTimingBit a p.structure p.bit
Holds EmptyPlace a p = IsEmptyPlaceBit a p.structure p.bit
Holds WrongPath a p = IsQuiet a × IsWrongPathBit a p.structure p.bit
Holds OnPath a p = IsQuiet a × IsOnPathBit a p.structure p.bit
Holds Masked a p = IsQuiet a × IsMaskedBit a p.structure p.bit
Holds DeadRegister a p = IsQuiet a × IsDeadRegisterBit a p.structure p.bit
Holds DeadData a p = IsQuiet a × IsDeadDataBit a p.structure p.bit
Holds StoreRedirection a p = IsQuiet a × IsRedirectionBit a p.structure p.bit
Holds CleanData a p = IsUnreadDataBit a p.structure p.bit
Holds CleanLine a p = IsQuiet a × IsCleanLineBit a p.structure p.bit
Holds UnaccessedLine a p = IsQuiet a × IsUnaccessedBit a p.structure p.bit
Holds CleanTag a p = IsUnconfusedTagBit a p.structure p.bit
Holds NoTrapCause a p = IsUnusedCause a p.structure p.bit

-- this is the class of the bit at the place in the cycle
abbrev pub IsClass : Class → Moment → Place → Type 0
IsClass (UnAce rule) a p = Holds rule a p × ((other : Rule) → number_of other < number_of rule → Holds other a p → ⊥)
IsClass Ace a p = (rule : Rule) → Holds rule a p → ⊥
