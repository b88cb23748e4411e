use Rattle.std.proofs.Common.{arith}
use Rattle.std.specs.Prelude.{slice_index}
use Rattle.std.proofs.lemmas.Bool.Decides.{nat_tests}
use Rattle.elf_load.specs.Image.{ram_byte}
use Rattle.eval_mask.specs.Aftermaths.{written}
use Rattle.eval_mask.proofs.Agreeing.{agree_exactly}
use Rattle.eval_mask.proofs.compare.agree.Goals as goal

pub returns-else-is_some : goal.returns-else-is_some
returns-else-is_some c =
    let f = written c.args.oldest.now (slice_index c.args.arch.now.registers) in
    let m = ram_byte c.args.arch.now.image c.args.arch.now.memory in
    agree_exactly c.args.needs.now c.args.at f m c.args.left.now c.args.other.now c.same_next.result
    (c.same_output.ensures.0 (grind arith)) (c.same_end.ensures.0 (grind arith)) (grind (arith, nat_tests)) c.same_next.ensures
