-- The report: lines of words.
use Rattle.std.specs.Prelude.{ℕ, List, [], ◌∷◌, ◌++◌, codes, decimal, map}
use Rattle.std.specs.List.{flat_map}
use Rattle.avf_base.specs.declared.end.End.{End}
use Rattle.avf_base.specs.declared.end.End.TheVariants.{Exit, Trap}
use Rattle.bit_field.specs.Names.{name_of}
use Rattle.bit_field.specs.declared.places.Structure.{Structure}
use Rattle.run_record.specs.Run.{RecordedRun}
use Rattle.ace_class.specs.Classes.{number_of, rules}
use Rattle.ace_class.specs.Counts.{Counted, ace_of, bits_of, ppm_of, structures, total_bits, total_of, total_ppm}
use Rattle.ace_class.specs.declared.class.Class.TheVariants.{Ace, UnAce}
use Rattle.ace_class.specs.declared.class.Rule.{Rule}

abbrev pub blank : ℕ
blank = 32

abbrev pub line_feed : ℕ
line_feed = 10

-- a line: its words, one blank apart, and a line feed
abbrev pub line_of : List (List ℕ) → List ℕ
line_of [] = line_feed ∷ []
line_of (word ∷ []) = word ++ line_feed ∷ []
line_of (word ∷ next ∷ words) = word ++ blank ∷ line_of (next ∷ words)

unfoldable pub text_of : List (List (List ℕ)) → List ℕ
text_of lines = flat_map line_of lines

-- how the program ended, in words
abbrev pub end_words : End → List (List ℕ)
end_words (Exit n) = codes "exit" ∷ decimal n ∷ []
end_words (Trap n) = codes "trap" ∷ decimal n ∷ []

unfoldable pub run_lines : RecordedRun → List (List (List ℕ))
run_lines run =
    (codes "cycles" ∷ decimal run.cycles ∷ [])
    ∷ (codes "instructions" ∷ decimal run.instructions ∷ [])
    ∷ (codes "end" ∷ end_words run.end)
    ∷ []

abbrev pub heading : List (List ℕ)
heading = codes "structure" ∷ codes "bits" ∷ codes "ace" ∷ codes "ppm" ∷ []

abbrev pub structure_line : Counted → Structure → List (List ℕ)
structure_line counted s = name_of s ∷ decimal (bits_of counted s) ∷ decimal (ace_of counted s) ∷ decimal (ppm_of counted s) ∷ []

abbrev pub total_line : Counted → List (List ℕ)
total_line counted = codes "total" ∷ decimal (total_bits counted) ∷ decimal (total_of counted Ace) ∷ decimal (total_ppm counted) ∷ []

-- a rule is called U and its number
abbrev pub rule_name : Rule → List ℕ
rule_name rule = codes "U" ++ decimal (number_of rule)

unfoldable pub rule_line : Counted → Rule → List (List ℕ)
rule_line counted rule = rule_name rule ∷ decimal (total_of counted (UnAce rule)) ∷ []

-- a line for each structure, and one for each rule
unfoldable pub structure_lines : Counted → List (List (List ℕ))
structure_lines counted = map (structure_line counted) structures

unfoldable pub rule_lines : Counted → List (List (List ℕ))
rule_lines counted = map (rule_line counted) rules

-- the lines of a report, each by its words
unfoldable pub report_lines : RecordedRun → Counted → List (List (List ℕ))
report_lines run counted = run_lines run ++ heading ∷ structure_lines counted ++ total_line counted ∷ rule_lines counted

abbrev pub report_text_of : RecordedRun → Counted → List ℕ
report_text_of run counted = text_of (report_lines run counted)
