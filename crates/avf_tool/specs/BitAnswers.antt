-- What is due of a bit in a cycle of a run: its class, and what becomes of the run with it flipped.
use Rattle.std.specs.Prelude.{◌≡◌, ◌≤◌, ◌<◌, ℕ, Option, Some, None, nat_lt, if◌then◌else◌, ◌&&◌}
use Rattle.std.specs.Option.{option_and_then}
use Rattle.avf_base.specs.declared.refusal.Refusal.TheVariants.{NoSuchBit}
use Rattle.bit_field.specs.Shapes.{IsPlaceIn, bits_in}
use Rattle.bit_field.specs.declared.places.Place.{Place}
use Rattle.bit_field.specs.declared.places.Structure.{Structure}
use Rattle.run_record.specs.Run.{RecordedRun}
use Rattle.run_record.specs.Verdict.{HasSame, IsVerdict, bound, flipped}
use Rattle.run_record.specs.declared.verdict.Verdict.{Verdict}
use Rattle.run_record.specs.declared.verdict.Verdict.TheVariants.{Same, Differs, NoEnd}
use Rattle.ace_class.specs.declared.class.Class.{Class}
use Rattle.ace_class.specs.declared.class.Class.TheVariants.{UnAce}
use Rattle.ace_class.specs.declared.class.Rule.{Rule}
use Rattle.ace_law.specs.Classes.{IsClass}
use Rattle.ace_law.specs.Moments.{Moment}
use Rattle.avf_tool.specs.Due.{Answer, Text, Refused, only}
use Rattle.avf_tool.specs.Programs.{program_of}
use Rattle.avf_tool.specs.Texts.{class_text, verdict_text}
use Rattle.avf_tool.specs.declared.command.BitInCycle.{BitInCycle}

-- a cycle of the machine's run and of the instruction set's
abbrev pub moment_of : RecordedRun → ℕ → Moment
moment_of run cycle = record { r = run; run = program_of run; t = cycle }

-- Each bit that is un-ACE in a cycle of the run is harmless: the run with it flipped has the recorded output and end, within the bound.
abbrev pub IsHarmless : RecordedRun → Type 0
IsHarmless run =
    (place : Place) (cycle : ℕ) (rule : Rule) → IsPlaceIn run.shape place → cycle < run.cycles → IsClass (UnAce rule) (moment_of run cycle) place
    → HasSame run cycle (flipped run cycle place)

-- The place that is asked for, where it is one of the machine's and the cycle one of the run's.
abbrev pub place_at : RecordedRun → BitInCycle → Structure → Option Place
place_at run asked s =
    if nat_lt asked.bit (bits_in s run.shape) && nat_lt asked.cycle run.cycles then Some (record { structure = s; bit = asked.bit }) else None

abbrev pub place_in : RecordedRun → BitInCycle → Option Place
place_in run asked = option_and_then (place_at run asked) asked.structure

abbrev pub unless_nowhere : Option Place → (Place → Answer → Type 0) → Answer → Type 0
unless_nowhere (Some place) next = next place
unless_nowhere None next = only (Refused NoSuchBit)

-- ---- the class

-- The bit at the place has this class in a cycle of the run; where it is un-ACE, the run with it flipped has the recorded output and end.
pub record HasClass (run : RecordedRun) (place : Place) (cycle : ℕ) (class : Class) : Type 0 where
  pub is : IsClass class (moment_of run cycle) place
  pub harmless : (rule : Rule) → class ≡ UnAce rule → HasSame run cycle (flipped run cycle place)

abbrev pub class_due : RecordedRun → ℕ → Place → Answer → Type 0
class_due run cycle place due = (class : Class) × HasClass run place cycle class × (Text (class_text class) ≡ due)

abbrev pub query_due : RecordedRun → BitInCycle → Answer → Type 0
query_due run asked = unless_nowhere (place_in run asked) (class_due run asked.cycle)

-- ---- the verdict

-- the same output and the same end, after so many cycles at most
abbrev pub IsSameWithin : ℕ → Verdict → Type 0
IsSameWithin most (Same cycles) = cycles ≤ most
IsSameWithin most (Differs cycle) = ⊥
IsSameWithin most (NoEnd cycle) = ⊥

-- This is what becomes of the run with the bit flipped before the cycle; where the bit is un-ACE then, it is the same run, within the bound.
pub record HasVerdict (run : RecordedRun) (place : Place) (cycle : ℕ) (verdict : Verdict) : Type 0 where
  pub is : IsVerdict run cycle (flipped run cycle place) verdict
  pub harmless : (rule : Rule) → IsClass (UnAce rule) (moment_of run cycle) place → IsSameWithin (bound run cycle) verdict

abbrev pub verdict_due : RecordedRun → ℕ → Place → Answer → Type 0
verdict_due run cycle place due = (verdict : Verdict) × HasVerdict run place cycle verdict × (Text (verdict_text verdict) ≡ due)

abbrev pub flip_due : RecordedRun → BitInCycle → Answer → Type 0
flip_due run asked = unless_nowhere (place_in run asked) (verdict_due run asked.cycle)
