use Rattle.std.proofs.Common.{arith, subst}
use Rattle.elf_load.specs.Image.{IsImage}
use Rattle.avf_tool.proofs.HarmlessBits.{harmless}
use Rattle.avf_tool.proofs.bits.is_harmless.Goals as goal

pub returns : goal.returns
returns c =
    harmless c.un_ace_law.ensures c.args.run.now (subst IsImage c.image.ensures c.is_image.ensures) c.is_record.ensures.record
    (omega (arith, c.is_record.ensures.short)) c.requires
