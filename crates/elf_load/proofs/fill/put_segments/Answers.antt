use Rattle.std.proofs.Common.{refl, arith}
use Rattle.elf_load.proofs.Filling.{FitRam-above, FitRam-below, FitRam-bytes, HasSegments-none, zeros-below, HasSegments-more, HasSegments-all}
use Rattle.elf_load.proofs.Lent.{no_segment}
use Rattle.elf_load.proofs.fill.put_segments.Goals as goal

pub overflow_sub-segment : goal.overflow_sub-segment
overflow_sub-segment c = FitRam-above c.args.segments.now c.args.base _ c.loop-segment.segment-index no_segment c.requires.fit c.loop-segment-test.true

pub put_bytes-requires : goal.put_bytes-requires
put_bytes-requires c =
    let above = FitRam-above c.args.segments.now c.args.base _ c.loop-segment.segment-index no_segment c.requires.fit c.loop-segment-test.true in
    let below = FitRam-below c.args.segments.now c.args.base _ c.loop-segment.segment-index no_segment c.requires.fit c.loop-segment-test.true in
    let bytes = FitRam-bytes c.args.segments.now c.args.base _ c.loop-segment.segment-index no_segment c.requires.fit c.loop-segment-test.true in
    omega (arith, above, below, bytes)

pub loop-segment-init : goal.loop-segment-init
loop-segment-init c = record {
  has = HasSegments-none c.args.segments.now c.args.base _ c.requires.zero;
  bytes = zeros-below c.args.ram.now c.requires.zero;
}

pub loop-segment-preserved : goal.loop-segment-preserved
loop-segment-preserved c = record {
  has =
      HasSegments-more c.args.segments.now c.loop-segment.segment-index c.args.base _ _ no_segment _ _ c.requires.fit c.loop-segment-test.true refl
      c.loop-segment.invariant.has c.put_bytes.ensures;
  bytes = λ k. omega (arith, c.type_inv.ram k);
}

pub returns-clause-ram : goal.returns-clause-ram
returns-clause-ram c =
    HasSegments-all c.args.segments.now c.loop-segment.segment-index c.args.base _ _ c.requires.fit c.loop-segment-test.false c.loop-segment.invariant.has
