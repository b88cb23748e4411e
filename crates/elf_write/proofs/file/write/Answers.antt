use Rattle.std.proofs.Common.{◌<◌, ◌^◌, arith}
use Rattle.elf_write.proofs.Loaded.{loaded}
use Rattle.elf_write.proofs.file.write.Goals as goal

pub returns-clause-loads : goal.returns-clause-loads
returns-clause-loads c =
    let small : c.args.entry < 2 ^ 32 = omega (arith, c.ranges.entry) in
    λ more. loaded c.args.entry c.args.text_part.now c.args.data_part.now small more c.requires.text_room c.requires.data_room
