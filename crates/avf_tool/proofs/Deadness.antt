-- The text of the classes of a trace is what `dead` tells of its record.
use Rattle.std.proofs.Common.{◌≡◌, ℕ, Result, Ok, Err, sym, ap, ◌∙◌}
use Rattle.std.specs.Prelude.{Vec}
use Rattle.std.specs.declared.alloc.Global.{Global}
use Rattle.avf_base.specs.declared.refusal.Refusal.{Refusal}
use Rattle.avf_base.specs.declared.refusal.Refusal.TheVariants.{Usage, ReadFault, BadImage, NoEnd, NoSuchBit, WriteFault, OutOfMemory, BadSource, BadMap}
use Rattle.rv_isa.specs.Runs.{ProgramTrace}
use Rattle.run_record.specs.Run.{RecordedRun}
use Rattle.avf_tool.specs.Due.{Text, only}
use Rattle.avf_tool.specs.Programs.{instructions_of}
use Rattle.avf_tool.specs.Stages.{IsDeadText, IsText}
use Rattle.avf_tool.specs.Texts.{deadness_text}

pub dead_told : (run : RecordedRun) (trace : ProgramTrace) (told : Result (Vec ℕ Global) Refusal) → instructions_of run ≡ trace.entries → IsDeadText trace told
    → IsText (only (Text (deadness_text (instructions_of run)))) told
dead_told run trace (Ok text) e h = ap (λ l. Text (deadness_text l)) e ∙ ap Text (sym h)
dead_told run trace (Err OutOfMemory) e h = tt
dead_told run trace (Err Usage) e h = absurd h
dead_told run trace (Err ReadFault) e h = absurd h
dead_told run trace (Err (BadImage k)) e h = absurd h
dead_told run trace (Err NoEnd) e h = absurd h
dead_told run trace (Err NoSuchBit) e h = absurd h
dead_told run trace (Err WriteFault) e h = absurd h
dead_told run trace (Err (BadSource line cause)) e h = absurd h
dead_told run trace (Err (BadMap line cause)) e h = absurd h
