use Rattle.std.proofs.Common.{refl, arith}
use Rattle.elf_load.proofs.Filling.{FitRam-above, FitRam-below, HasCode-none, HasCode-more, HasCode-all}
use Rattle.elf_load.proofs.Lent.{no_segment}
use Rattle.elf_load.proofs.fill.set_segments.Goals as goal

pub set_code-requires-clause-above : goal.set_code-requires-clause-above
set_code-requires-clause-above c =
    FitRam-above c.args.segments.now c.args.base _ c.loop-segment.segment-index no_segment c.requires.fit c.loop-segment-test.true

pub set_code-requires-clause-below : goal.set_code-requires-clause-below
set_code-requires-clause-below c =
    let below = FitRam-below c.args.segments.now c.args.base _ c.loop-segment.segment-index no_segment c.requires.fit c.loop-segment-test.true in
    omega (arith, below)

pub loop-segment-init : goal.loop-segment-init
loop-segment-init c = HasCode-none c.args.segments.now c.args.base _ c.requires.unset

pub loop-segment-preserved : goal.loop-segment-preserved
loop-segment-preserved c =
    HasCode-more c.args.segments.now c.loop-segment.segment-index c.args.base _ _ _ no_segment _ _ c.requires.fit c.loop-segment-test.true refl refl
    c.loop-segment.invariant c.set_code.ensures

pub returns : goal.returns
returns c = HasCode-all c.args.segments.now c.loop-segment.segment-index c.args.base _ _ c.loop-segment-test.false c.loop-segment.invariant
