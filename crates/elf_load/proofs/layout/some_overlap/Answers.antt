use Rattle.std.proofs.Common.{◌-◌, sym, arith}
use Rattle.elf_load.proofs.Lent.{overlap-lent, no_overlap-lent, no_segment}
use Rattle.elf_load.proofs.layout.some_overlap.Goals as goal

pub returns-then-end-from : goal.returns-then-end-from
returns-then-end-from c =
    sym (overlap-lent c.args.segments.now (c.loop-k.k - 1) c.loop-k.k no_segment c.requires.order (omega arith) c.loop-k-test.true (omega arith))

pub returns : goal.returns
returns c = sym (no_overlap-lent c.args.segments.now c.requires.order (λ k d p. c.loop-k.invariant k d (omega arith)))
