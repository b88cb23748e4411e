-- A plan in words.
use Rattle.std.specs.Prelude.{ℕ, List, [], ◌∷◌, codes, decimal, map, if◌then◌else◌}
use Rattle.bit_field.specs.Names.{name_of}
use Rattle.bit_field.specs.declared.places.Structure.{Structure}
use Rattle.ace_class.specs.Counts.{Counted, total_of}
use Rattle.ace_class.specs.declared.class.Class.TheVariants.{Ace}
use Rattle.avf_report.specs.Texts.{line_of, text_of}
use Rattle.harden_plan.specs.Plans.{is_member, members}
use Rattle.harden_plan.specs.declared.plan.Plan.{Plan}

abbrev pub name_line : Structure → List (List ℕ)
name_line s = name_of s ∷ []

-- the lines of a plan: what it costs, what it covers, of how many ACE pairs of all structures, and its members
unfoldable pub plan_lines : Counted → Plan → List (List (List ℕ))
plan_lines counted plan =
    (codes "bits" ∷ decimal plan.bits ∷ [])
    ∷ (codes "ace" ∷ decimal plan.ace ∷ [])
    ∷ (codes "of" ∷ decimal (total_of counted Ace) ∷ [])
    ∷ map name_line (members plan.set)

abbrev pub plan_text_of : Counted → Plan → List ℕ
plan_text_of counted plan = text_of (plan_lines counted plan)

-- what the text has of a structure: the line of its name, where it is a member of the set
unfoldable pub member_text : ℕ → Structure → List ℕ
member_text set s = if is_member set s then line_of (name_line s) else []
