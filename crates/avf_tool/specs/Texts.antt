-- The texts of the short commands.
use Rattle.std.specs.Prelude.{ℕ, List, [], ◌∷◌, codes, count_by, decimal, length}
use Rattle.std.specs.List.{concat}
use Rattle.hex.specs.Hex.{encode_lower}
use Rattle.avf_base.specs.declared.end.End.{End}
use Rattle.avf_base.specs.declared.end.End.TheVariants.{Exit, Trap}
use Rattle.rv_isa.specs.declared.effect.Retired.{Retired}
use Rattle.avf_tool.specs.declared.texts.DeadCounts.{DeadCounts}
use Rattle.ace_class.specs.Classes.{number_of}
use Rattle.ace_class.specs.declared.class.Class.{Class}
use Rattle.ace_class.specs.declared.class.Class.TheVariants.{Ace, UnAce}
use Rattle.dead_class.specs.Classes.{classes_of, is_class}
use Rattle.dead_class.specs.declared.class.DeadClass.{DeadClass}
use Rattle.dead_class.specs.declared.class.DeadClass.TheVariants.{Needed, Nop, FddReg, TddReg, FddMem, TddMem}
use Rattle.run_record.specs.declared.verdict.Verdict.{Verdict}
use Rattle.run_record.specs.declared.verdict.Verdict.TheVariants.{Same, Differs, NoEnd}

-- the bytes that a program put, as pairs of lower-case hexadecimal digits
abbrev pub output_text : List ℕ → List ℕ
output_text [] = codes "-"
output_text (byte ∷ bytes) = encode_lower (byte ∷ bytes)

abbrev pub end_word : End → List ℕ
end_word (Exit n) = codes "exit"
end_word (Trap n) = codes "trap"

abbrev pub end_number : End → ℕ
end_number (Exit n) = n
end_number (Trap n) = n

-- `run`: what the program put, how it ended, and how many instructions were retired, the ending one included
abbrev pub run_text : List ℕ → End → ℕ → List ℕ
run_text output end instructions = concat (
    codes "output " ∷ output_text output
    ∷ codes "\nend " ∷ end_word end ∷ codes " " ∷ decimal (end_number end)
    ∷ codes "\ninstructions " ∷ decimal instructions ∷ codes "\n" ∷ [])

abbrev pub count_of : DeadClass → List DeadClass → ℕ
count_of class classes = count_by (is_class class) classes

-- how many of these instructions are of each class
abbrev pub dead_counts : ℕ → List DeadClass → DeadCounts
dead_counts instructions classes = record {
  instructions = instructions;
  needed = count_of Needed classes;
  nop = count_of Nop classes;
  fdd_reg = count_of FddReg classes;
  tdd_reg = count_of TddReg classes;
  fdd_mem = count_of FddMem classes;
  tdd_mem = count_of TddMem classes;
}

-- `dead`: how many instructions there were, and how many of each class
abbrev pub needed_lines : DeadCounts → List ℕ
needed_lines counts = concat (
    codes "instructions " ∷ decimal counts.instructions
    ∷ codes "\nneeded " ∷ decimal counts.needed
    ∷ codes "\nnop " ∷ decimal counts.nop ∷ codes "\n" ∷ [])

abbrev pub register_lines : DeadCounts → List ℕ
register_lines counts = concat (
    codes "fdd-reg " ∷ decimal counts.fdd_reg
    ∷ codes "\ntdd-reg " ∷ decimal counts.tdd_reg ∷ codes "\n" ∷ [])

abbrev pub memory_lines : DeadCounts → List ℕ
memory_lines counts = concat (
    codes "fdd-mem " ∷ decimal counts.fdd_mem
    ∷ codes "\ntdd-mem " ∷ decimal counts.tdd_mem ∷ codes "\n" ∷ [])

abbrev pub dead_text : DeadCounts → List ℕ
dead_text counts = concat (needed_lines counts ∷ register_lines counts ∷ memory_lines counts ∷ [])

-- the same of these instructions
abbrev pub deadness_text : List Retired → List ℕ
deadness_text entries = dead_text (dead_counts (length entries) (classes_of entries))

-- `flip`: what becomes of the run with a bit flipped, and in which cycle that is settled
abbrev pub verdict_text : Verdict → List ℕ
verdict_text (Same cycles) = concat (codes "same " ∷ decimal cycles ∷ codes "\n" ∷ [])
verdict_text (Differs cycle) = concat (codes "differs " ∷ decimal cycle ∷ codes "\n" ∷ [])
verdict_text (NoEnd cycle) = concat (codes "noend " ∷ decimal cycle ∷ codes "\n" ∷ [])

-- `check`: how many pairs of a bit and a cycle a map says to be un-ACE, all of them rightly
abbrev pub accepted_text : ℕ → List ℕ
accepted_text pairs = concat (codes "accepted " ∷ decimal pairs ∷ codes "\n" ∷ [])

-- `query`: the class of a bit, un-ACE with the number of its rule
abbrev pub class_text : Class → List ℕ
class_text Ace = codes "ace\n"
class_text (UnAce rule) = concat (codes "unace U" ∷ decimal (number_of rule) ∷ codes "\n" ∷ [])
