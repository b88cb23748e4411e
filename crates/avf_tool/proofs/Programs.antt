-- A record within a budget tells of the instruction set's run.
use Rattle.std.proofs.Common.{ℕ, sym, subst}
use Rattle.bit_field.specs.Shapes.{IsShape}
use Rattle.bit_field.specs.declared.shapes.Shape.{Shape}
use Rattle.elf_load.specs.Image.{LoadedImage, IsImage}
use Rattle.elf_load.specs.Meaning.{image_of}
use Rattle.elf_load.proofs.AcceptedImage.{accepted-image_of}
use Rattle.flush_view.proofs.Run.RunLaw.{run-law}
use Rattle.run_record.specs.Run.{RecordedRun}
use Rattle.run_record.specs.Within.{IsRecordOf}
use Rattle.run_record.proofs.Within.{within_is_record}
use Rattle.run_log.proofs.Programs.{program}
use Rattle.run_log.specs.Answers.{IsProgram}
use Rattle.avf_tool.specs.Answers.{ram_size}
use Rattle.avf_tool.specs.Law.{ProgramLaw}
use Rattle.avf_tool.proofs.Rams.{ram_fits}

is_program : (image : LoadedImage) (shape : Shape) (budget : ℕ) (run : RecordedRun) → IsImage image → IsShape shape → IsRecordOf image shape budget run
    → IsProgram run
is_program image shape budget run is fits h =
    program run (run-law run.image run.shape (subst IsImage (sym h.image_is) is) (subst IsShape (sym h.shape_is) fits)) h.is_record

pub program_law : ProgramLaw
program_law = record {
  is_program = λ contents shape budget run bytes fits fine e.
      let image = image_of contents (ram_size shape) in
      is_program image shape budget run ((accepted-image_of contents (ram_size shape)).image bytes (ram_fits shape fits) fine) fits
      (within_is_record image shape budget run fits e);
}
