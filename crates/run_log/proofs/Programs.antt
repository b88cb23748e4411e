-- A record is the instruction set's run, by the law of the run.
use Rattle.std.proofs.Common.{◌≡◌, ℕ, suc, ◌≤◌, List, refl, ap, ◌∙◌, arith}
use Rattle.avf_base.specs.declared.end.End.{End}
use Rattle.elf_load.specs.Image.{LoadedImage}
use Rattle.bit_field.specs.declared.shapes.Shape.{Shape}
use Rattle.cyc_machine.specs.Run.{IsRunning, clocks_below, output_below, retired_below}
use Rattle.flush_view.specs.RunLaw.{EndsAfter, RunLaw}
use Rattle.run_record.specs.Journals.{closed}
use Rattle.run_record.specs.declared.journal.Journal.{Journal}
use Rattle.run_log.specs.Answers.{IsEndless, IsProgram, IsRunOf}
use Rattle.run_record.specs.Run.{IsRecord, RecordedRun}
use Rattle.run_record.proofs.Few.{record_few}

ends_same : (image : LoadedImage) (clocks other : List ℕ) (n m : ℕ) (end : End) (output bytes : List ℕ) → clocks ≡ other → n ≡ m → output ≡ bytes
    → EndsAfter image other m end bytes → EndsAfter image clocks n end output
ends_same image clocks other n m end output bytes e f g h = rw (e, f, g) h

-- a record is the instruction set's run
pub program : (r : RecordedRun) → RunLaw r.image r.shape → IsRecord r → IsProgram r
program r law is =
    let cycles : r.cycles ≡ suc is.last = omega (arith, is.cycles) in
    ends_same r.image r.clocks (clocks_below r.image r.shape (suc is.last)) r.instructions (retired_below r.image r.shape (suc is.last)) r.end r.output
    (output_below r.image r.shape (suc is.last))
    (is.clocks ∙ ap (clocks_below r.image r.shape) cycles)
    (is.instructions ∙ ap (retired_below r.image r.shape) cycles)
    (is.output ∙ ap (output_below r.image r.shape) cycles)
    (law.ends is.last r.end is.running is.ends)

-- the record of a run that was written down to its end
pub is_run : (image : LoadedImage) (shape : Shape) (budget cycles : ℕ) (end : End) (journal : Journal) → RunLaw image shape
    → IsRecord (closed image shape cycles end journal) → cycles ≤ budget → IsRunOf image shape budget (closed image shape cycles end journal)
is_run image shape budget cycles end journal law is within = record {
  record_of = record { image_is = refl; shape_is = refl; within = within; is_record = is };
  program = program (closed image shape cycles end journal) law is;
  few = record_few (closed image shape cycles end journal) is;
}

pub endless : (image : LoadedImage) (shape : Shape) (budget : ℕ) → RunLaw image shape → IsRunning image shape budget → IsEndless image shape budget
endless image shape budget law running = record { running = running; program = λ n later h. law.goes_on budget n running h later }
