-- The text of a report, part by part.
use Rattle.std.proofs.Common.{◌≡◌, ℕ, List, [], ◌∷◌, ◌++◌, append_assoc, refl, codes, decimal}
use Rattle.std.specs.List.{flat_map}
use Rattle.std.proofs.lemmas.List.{append-nil}
use Rattle.std.proofs.lemmas.Grind.{flat_map-append}
use Rattle.std.proofs.lemmas.List.Concat.{flat_map-cons}
use Rattle.run_record.specs.Run.{RecordedRun}
use Rattle.ace_class.specs.Classes.{rules}
use Rattle.ace_class.specs.Counts.{Counted, structures}
use Rattle.avf_report.specs.Texts.{end_words, heading, line_of, text_of, total_line}
use Rattle.avf_report.specs.Texts.{report_lines, rule_line, rule_lines, run_lines, structure_line, structure_lines}

-- two lists of lines, each behind a line of its own
parts : {A : Type 0} (f : A → List ℕ) (a b c : List A) (h t : A)
    → (((flat_map f a ++ f h) ++ flat_map f b) ++ f t) ++ flat_map f c ≡ flat_map f ((a ++ h ∷ b) ++ t ∷ c)
parts f a b c h t =
    rw (flat_map-append f (a ++ h ∷ b) (t ∷ c), flat_map-append f a (h ∷ b), flat_map-cons f h b, flat_map-cons f t c)
    (simp append_assoc refl)

-- the text of a report is made of these parts
pub report_parts : (run : RecordedRun) (counted : Counted)
    → (((text_of (run_lines run) ++ line_of heading) ++ text_of (structure_lines counted)) ++ line_of (total_line counted))
    ++ text_of (rule_lines counted)
    ≡ text_of (report_lines run counted)
unfolding report_lines text_of
report_parts run counted = parts line_of (run_lines run) (structure_lines counted) (rule_lines counted) heading (total_line counted)

-- the lines of the structures, one by one
pub structures_text : (counted : Counted) → flat_map (λ s. line_of (structure_line counted s)) structures ≡ text_of (structure_lines counted)
unfolding structure_lines text_of
structures_text counted = refl

-- the lines of the rules, one by one
pub rules_text : (counted : Counted) → flat_map (λ rule. line_of (rule_line counted rule)) rules ≡ text_of (rule_lines counted)
unfolding rule_lines text_of
rules_text counted = refl

-- the first three lines
pub run_text : (run : RecordedRun)
    → (line_of (codes "cycles" ∷ decimal run.cycles ∷ []) ++ line_of (codes "instructions" ∷ decimal run.instructions ∷ []))
    ++ line_of (codes "end" ∷ end_words run.end)
    ≡ text_of (run_lines run)
unfolding run_lines text_of
run_text run = simp (append_assoc, append-nil) refl
