use Rattle.std.proofs.Common.{[], ap, ◌∙◌}
use Rattle.bit_field.specs.declared.shapes.Shape.{Shape}
use Rattle.elf_load.specs.Image.{LoadedImage}
use Rattle.rv_isa.specs.Runs.{reset as arch_reset}
use Rattle.cyc_machine.specs.State.{reset}
use Rattle.ace_rules.specs.Walks.{story_of}
use Rattle.ace_rules.proofs.Walked.{walked_start}
use Rattle.ace_rules.proofs.walk.start.Goals as goal

pub returns : goal.returns
returns c = λ table told. record {
  walked = rw (c.no_notes.ensures.cycles, c.no_notes.ensures.words, c.no_notes.ensures.quiet)
      (walked_start (story_of c.args.recorded.now c.args.trace.now) table told c.last_clock-last.result c.in-Ok.machine c.in-Ok-new.arch
      (c.in-Ok.ensures ∙ ap (λ (image : LoadedImage). reset image c.shape.result) c.image.ensures
      ∙ ap (λ (shape : Shape). reset c.args.recorded.now.image shape) c.shape.ensures)
      (c.in-Ok-new.ensures.image ∙ c.image-in-Ok.ensures)
      (c.in-Ok-new.ensures.state ∙ ap (λ (image : LoadedImage). arch_reset image []) c.image-in-Ok.ensures));
  masks = tt;
  clock = c.last_clock-last.ensures;
}
