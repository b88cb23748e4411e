-- The counts as comma-separated values.
use Rattle.std.specs.Prelude.{ℕ, List, [], ◌∷◌, ◌++◌, codes, decimal, map}
use Rattle.std.specs.List.{flat_map, join_with_byte}
use Rattle.bit_field.specs.Names.{name_of}
use Rattle.bit_field.specs.declared.places.Structure.{Structure}
use Rattle.ace_class.specs.Classes.{rules}
use Rattle.ace_class.specs.Counts.{Counted, ace_of, bits_of, count_of, ppm_of, structures}
use Rattle.ace_class.specs.declared.class.Class.TheVariants.{UnAce}
use Rattle.ace_class.specs.declared.class.Rule.{Rule}
use Rattle.avf_report.specs.Texts.{line_feed, rule_name}

abbrev pub comma : ℕ
comma = 44

-- a row: its fields, a comma between each two, and a line feed
abbrev pub row_of : List (List ℕ) → List ℕ
row_of fields = join_with_byte comma fields ++ line_feed ∷ []

unfoldable pub header : List (List ℕ)
header = codes "structure" ∷ codes "bits" ∷ codes "cycles" ∷ codes "ace" ∷ codes "ppm" ∷ map rule_name rules

unfoldable pub rule_field : Counted → Structure → Rule → List ℕ
rule_field counted s rule = decimal (count_of counted s (UnAce rule))

unfoldable pub structure_row : Counted → Structure → List (List ℕ)
structure_row counted s =
    name_of s
    ∷ decimal (bits_of counted s) ∷ decimal counted.cycles ∷ decimal (ace_of counted s) ∷ decimal (ppm_of counted s)
    ∷ map (rule_field counted s) rules

-- the table: a row of names, and one for each structure
unfoldable pub report_csv_of : Counted → List ℕ
report_csv_of counted = flat_map row_of (header ∷ map (structure_row counted) structures)
