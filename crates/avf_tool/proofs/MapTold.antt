-- The map of an analysed run is what is due of it.
use Rattle.std.proofs.Common.{◌≡◌, ℕ, List, [], Some, sym, ap, ◌∙◌, subst}
use Rattle.avf_base.specs.Moves.{Grows}
use Rattle.rv_isa.specs.Runs.{IsTrace, ProgramTrace}
use Rattle.run_log.specs.Answers.{IsProgram}
use Rattle.ace_rules.specs.Notes.{Story}
use Rattle.class_map.specs.Maps.{AreAll}
use Rattle.class_map.specs.Written.{IsMapWritten, text_of}
use Rattle.avf_tool.specs.BitAnswers.{IsHarmless}
use Rattle.avf_tool.specs.Due.{Text}
use Rattle.avf_tool.specs.Kept.{KeptText}
use Rattle.avf_tool.specs.MapAnswers.{map_due}
use Rattle.avf_tool.specs.Programs.{program_of}
use Rattle.avf_tool.specs.ReportAnswers.{story_of}
use Rattle.avf_tool.proofs.Traces.{program_is}

-- what was kept from nothing on
kept_is : (kept text : List ℕ) → Grows (Some []) (Some kept) text → kept ≡ text
kept_is kept text h = h

pub map_told : (story : Story) (old : KeptText) (kept bytes : List ℕ) → IsProgram story.r → IsTrace story.r.image story.r.clocks story.run
    → IsHarmless story.r → old ≡ record { kept = []; faults = 0 } → IsMapWritten story (Some old.kept) (Some kept) → bytes ≡ kept
    → map_due story.r (Text bytes)
map_told story old kept bytes program traced harmless none h same =
    let is : story.run ≡ program_of story.r = sym (program_is story.r story.run program traced) in
    let all : AreAll (story_of story.r) h.lines = subst (λ (run : ProgramTrace). AreAll (record { r = story.r; run = run }) h.lines) is h.all in
    let text : kept ≡ text_of story h.lines =
    kept_is kept (text_of story h.lines) (subst (λ (o : KeptText). Grows (Some o.kept) (Some kept) (text_of story h.lines)) none h.grows) in
    (h.lines, record { all = all; harmless = harmless }, ap Text (sym (same ∙ text)))
