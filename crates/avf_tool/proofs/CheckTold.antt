-- A map that was checked against a run is answered by what is due.
use Rattle.std.proofs.Common.{◌≡◌, ℕ, List, Option, None, Some, IfSome, Result, Ok, Err, refl, sym, subst, inl, inr}
use Rattle.std.specs.Prelude.{Vec}
use Rattle.std.specs.declared.alloc.Global.{Global}
use Rattle.avf_base.specs.Refusals.{Cause, ByWords, ByShelf, ByContents, ByOut, Free, cause_of}
use Rattle.avf_base.specs.declared.refusal.Refusal.{Refusal}
use Rattle.avf_base.specs.declared.refusal.Refusal.TheVariants.{BadMap}
use Rattle.class_map.specs.Checks.{IsAccepted, IsChecked, IsFirstFault, IsHarmless}
use Rattle.class_map.specs.Faults.{lines_of, start}
use Rattle.class_map.specs.declared.error.MapError.{MapError}
use Rattle.class_map.specs.declared.error.MapError.TheVariants.{Bad, ReadFault}
use Rattle.rv_isa.specs.Runs.{IsTrace, ProgramTrace}
use Rattle.run_log.specs.Answers.{IsProgram}
use Rattle.ace_rules.specs.Notes.{Story}
use Rattle.avf_tool.specs.CheckAnswers.{map_checked, refusal_of}
use Rattle.avf_tool.specs.Due.{Answer, Text, Refused, only}
use Rattle.avf_tool.specs.Programs.{program_of}
use Rattle.avf_tool.specs.ReportAnswers.{story_of}
use Rattle.avf_tool.specs.Stages.{Answers, IsText, Performed, WorkedOut}
use Rattle.avf_tool.specs.Texts.{accepted_text}
use Rattle.avf_tool.proofs.Traces.{program_is}

-- a refusal by what is given, where what is due here is due there
worked_there : (here : Answer → Type 0) (there : List ℕ → Answer → Type 0) (knows : Option (List ℕ)) (before now : ℕ)
    → ((due : Answer) → here due → IfSome knows (λ c. there c due)) → (cause : Cause) (r : Refusal) → WorkedOut cause here r
    → Performed cause there knows before now r
worked_there here there knows before now goes ByContents r h = goes (Refused r) h
worked_there here there knows before now goes Free r h = h
worked_there here there knows before now goes ByWords r h = h
worked_there here there knows before now goes ByShelf r h = absurd h
worked_there here there knows before now goes ByOut r h = h

-- an accepted map
accepted : (story : Story) (known : Option (List ℕ)) (pairs : ℕ) → story.run ≡ program_of story.r → IfSome known (λ map. IsAccepted story (lines_of map) pairs)
    → IfSome known (IsHarmless story) → (due : Answer) → only (Text (accepted_text pairs)) due → IfSome known (λ map. map_checked story.r map due)
accepted story None pairs same h harmless due is = tt
accepted story (Some map) pairs same h harmless due is =
    let here : IsAccepted (story_of story.r) (lines_of map) pairs =
    subst (λ (run : ProgramTrace). IsAccepted (record { r = story.r; run = run }) (lines_of map) pairs) same h in
    inl (pairs, record { accepted = here; harmless = harmless }, is)

-- one with a fault
faulty : (story : Story) (known : Option (List ℕ)) (line cause : ℕ) → story.run ≡ program_of story.r
    → IfSome known (λ map. IsFirstFault story start (lines_of map) line cause) → IfSome known (λ map. map_checked story.r map (Refused (BadMap line cause)))
faulty story None line cause same h = tt
faulty story (Some map) line cause same h =
    let here : IsFirstFault (story_of story.r) start (lines_of map) line cause =
    subst (λ (run : ProgramTrace). IsFirstFault (record { r = story.r; run = run }) start (lines_of map) line cause) same h in
    inr (line, cause, here, refl)

module _ (story : Story) (known : Option (List ℕ)) (before now : ℕ) (program : IsProgram story.r) (traced : IsTrace story.r.image story.r.clocks story.run) where
  same_run : story.run ≡ program_of story.r
  same_run = sym (program_is story.r story.run program traced)

  pub accepted_told : (pairs : ℕ) (told : Result (Vec ℕ Global) Refusal) → IsChecked story known before now (Ok pairs)
      → IfSome known (IsHarmless story) → IsText (only (Text (accepted_text pairs))) told → Answers (map_checked story.r) known before now told
  accepted_told pairs (Ok text) h harmless t = accepted story known pairs same_run h harmless (Text text.items) t
  accepted_told pairs (Err r) h harmless t =
      worked_there (only (Text (accepted_text pairs))) (map_checked story.r) known before now (accepted story known pairs same_run h harmless)
      (cause_of r) r t

  refused_by : (error : MapError) → IsChecked story known before now (Err error)
      → Performed (cause_of (refusal_of error)) (map_checked story.r) known before now (refusal_of error)
  refused_by (Bad line cause) h = faulty story known line cause same_run h
  refused_by ReadFault h = h

  pub refused_told : (error : MapError) (r : Refusal) → r ≡ refusal_of error → IsChecked story known before now (Err error)
      → Answers (map_checked story.r) known before now (Err r)
  refused_told error r is h =
      let P : Refusal → Type 0 = λ x. Answers (map_checked story.r) known before now (Err x) in subst P (sym is) (refused_by error h)
