use Rattle.elf_load.specs.Image.{ram_byte}
use Rattle.eval_mask.specs.Aftermaths.{memory_after}
use Rattle.eval_mask.proofs.Differences.{chained, covered_byte, covered_half, covered_word}
use Rattle.eval_mask.proofs.compare.same_stored.Goals as goal

pub returns-in-Sb : goal.returns-in-Sb
returns-in-Sb c =
    let before = ram_byte c.args.arch.now.image c.args.arch.now.memory in
    let store = c.args.store.now in
    chained c.same_byte.ensures
    (covered_byte c.args.needs.now c.args.at (memory_after c.args.left.now before) (memory_after c.args.other.now before)
    store.kind store.address store.value c.in-Sb.is)

pub returns-in-Sh : goal.returns-in-Sh
returns-in-Sh c =
    let before = ram_byte c.args.arch.now.image c.args.arch.now.memory in
    let store = c.args.store.now in
    chained c.same_two.ensures
    (covered_half c.args.needs.now c.args.at (memory_after c.args.left.now before) (memory_after c.args.other.now before)
    store.kind store.address store.value c.in-Sh.is)

pub returns-in-Sw : goal.returns-in-Sw
returns-in-Sw c =
    let before = ram_byte c.args.arch.now.image c.args.arch.now.memory in
    let store = c.args.store.now in
    chained c.same_four.ensures
    (covered_word c.args.needs.now c.args.at (memory_after c.args.left.now before) (memory_after c.args.other.now before)
    store.kind store.address store.value c.in-Sw.is)
