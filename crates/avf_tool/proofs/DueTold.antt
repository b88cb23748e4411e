-- The counts under parity of an analysed run are what is due of it, and no others.
use Rattle.std.proofs.Common.{◌≡◌, ℕ, List, [], ◌∷◌, Result, refl, sym, subst}
use Rattle.std.specs.Prelude.{Vec, map}
use Rattle.std.specs.List.{All}
use Rattle.std.proofs.lemmas.List.Elements.{All-cons, All-nil, All-head, All-tail}
use Rattle.std.specs.declared.alloc.Global.{Global}
use Rattle.avf_base.specs.declared.refusal.Refusal.{Refusal}
use Rattle.bit_field.specs.declared.places.Structure.{Structure}
use Rattle.rv_isa.specs.Runs.{IsTrace, ProgramTrace}
use Rattle.run_log.specs.Answers.{IsProgram}
use Rattle.ace_rules.specs.Notes.{Story}
use Rattle.due_parity.specs.Due.{IsDue}
use Rattle.due_parity.specs.DueTexts.{due_text_of}
use Rattle.due_parity.specs.declared.counting.DueCounts.{DueCounts}
use Rattle.due_parity.specs.declared.text.DueRow.{DueRow}
use Rattle.due_parity.proofs.OneDue.{due_unique}
use Rattle.avf_tool.specs.Due.{Text, only}
use Rattle.avf_tool.specs.DueAnswers.{AreDue, rows_due}
use Rattle.avf_tool.specs.Programs.{program_of}
use Rattle.avf_tool.specs.ReportAnswers.{story_of}
use Rattle.avf_tool.specs.Stages.{IsText}
use Rattle.avf_tool.proofs.Chains.{text_due}
use Rattle.avf_tool.proofs.Traces.{program_is}

module _ (story : Story) (program : IsProgram story.r) (traced : IsTrace story.r.image story.r.clocks story.run) where
  -- the counts of an analysed run are those of its record
  of_record : (s : Structure) (counts : DueCounts) → IsDue story s counts → IsDue (story_of story.r) s counts
  of_record s counts is =
      let same : story.run ≡ program_of story.r = sym (program_is story.r story.run program traced) in
      subst (λ (run : ProgramTrace). IsDue (record { r = story.r; run = run }) s counts) same is

  row_due : (s : Structure) (row : DueRow) → row.structure ≡ s → IsDue story s row.counts → IsDue (story_of story.r) row.structure row.counts
  row_due s row named is = subst (λ x. IsDue (story_of story.r) x row.counts) (sym named) (of_record s row.counts is)

  rows_told : (structures : List Structure) (rows : List DueRow) (cycles : ℕ) (told : Result (Vec ℕ Global) Refusal) → AreDue story.r structures rows
      → cycles ≡ story.r.cycles → IsText (only (Text (due_text_of cycles rows))) told → IsText (rows_due story.r structures) told
  rows_told structures rows cycles told are e h =
      let here = subst (λ n. IsText (only (Text (due_text_of n rows))) told) e h in
      text_due (only (Text (due_text_of story.r.cycles rows))) (rows_due story.r structures)
      (λ due is. subst (rows_due story.r structures) is (rows, are, refl)) told here

  pub one_told : (s : Structure) (row : DueRow) (cycles : ℕ) (told : Result (Vec ℕ Global) Refusal) → row.structure ≡ s → IsDue story s row.counts
      → cycles ≡ story.r.cycles → IsText (only (Text (due_text_of cycles (row ∷ [])))) told → IsText (rows_due story.r (s ∷ [])) told
  one_told s row cycles told named is e h =
      let P : DueRow → Type 0 = λ row. IsDue (story_of story.r) row.structure row.counts in
      rows_told (s ∷ []) (row ∷ []) cycles told
      (record { named = rw named refl; each = All-cons P row [] (row_due s row named is) (All-nil P) }) e h

  pub both_told : (s t : Structure) (row other : DueRow) (cycles : ℕ) (told : Result (Vec ℕ Global) Refusal) → row.structure ≡ s
      → IsDue story s row.counts → other.structure ≡ t → IsDue story t other.counts → cycles ≡ story.r.cycles
      → IsText (only (Text (due_text_of cycles (row ∷ other ∷ [])))) told → IsText (rows_due story.r (s ∷ t ∷ [])) told
  both_told s t row other cycles told named is named_other is_other e h =
      let P : DueRow → Type 0 = λ row. IsDue (story_of story.r) row.structure row.counts in
      let last = All-cons P other [] (row_due t other named_other is_other) (All-nil P) in
      rows_told (s ∷ t ∷ []) (row ∷ other ∷ []) cycles told
      (record { named = rw (named, named_other) refl; each = All-cons P row (other ∷ []) (row_due s row named is) last }) e h

-- ---- no others are

row_with : Structure → DueCounts → DueRow
row_with s counts = record { structure = s; counts = counts }

same_row : (a b : DueRow) → a.structure ≡ b.structure → a.counts ≡ b.counts → a ≡ b
unfolding row_with
same_row a b e f = let g : row_with a.structure a.counts ≡ row_with b.structure b.counts = rw (e, f) refl in g

pub one_rows : (story : Story) (xs ys : List DueRow) → map (λ (row : DueRow). row.structure) xs ≡ map (λ (row : DueRow). row.structure) ys
    → All (λ (row : DueRow). IsDue story row.structure row.counts) xs → All (λ (row : DueRow). IsDue story row.structure row.counts) ys → xs ≡ ys
one_rows story [] [] e h k = refl
one_rows story [] (y ∷ ys) e h k = absurd cc
one_rows story (x ∷ xs) [] e h k = absurd cc
one_rows story (x ∷ xs) (y ∷ ys) e h k =
    let P : DueRow → Type 0 = λ row. IsDue story row.structure row.counts in
    let first : x.structure ≡ y.structure = cc in
    let rest : map (λ (row : DueRow). row.structure) xs ≡ map (λ (row : DueRow). row.structure) ys = cc in
    let other : IsDue story x.structure y.counts = subst (λ s. IsDue story s y.counts) (sym first) (All-head P y ys k) in
    let same : x ≡ y = same_row x y first (due_unique story x.structure x.counts y.counts (All-head P x xs h) other) in
    rw (same, one_rows story xs ys rest (All-tail P x xs h) (All-tail P y ys k)) refl
