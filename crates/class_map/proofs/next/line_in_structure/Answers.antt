use Rattle.std.proofs.Common.{ℕ, sym, subst, arith}
use Rattle.class_map.specs.Searches.{IsBorder, IsFirstInBit, IsAce}
use Rattle.class_map.proofs.StructureLines.{border_in, found_here, none_more}
use Rattle.class_map.proofs.next.line_in_structure.Goals as goal

pub line_in_bit-requires-clause-border : goal.line_in_bit-requires-clause-border
line_in_bit-requires-clause-border c =
    subst (λ (n : ℕ). IsBorder c.args.a.now (record { structure = c.args.structure; bit = c.loop-later.later }) n) (sym c.start_in.ensures)
    (border_in c.args.a.now c.args.structure c.args.bit c.args.from c.loop-later.later c.requires (omega (arith, c.loop-later.invariant.bits, c.loop-later-test.true)))

pub returns-in-Some : goal.returns-in-Some
returns-in-Some c =
    found_here c.args.a.now c.args.structure c.args.bit c.args.from c.loop-later.later c.in-Some.line (omega arith) c.loop-later.invariant.none
    (subst (λ (n : ℕ). IsFirstInBit c.args.a.now (record { structure = c.args.structure; bit = c.loop-later.later }) n c.in-Some.line) c.start_in.ensures c.in-Some.ensures)

pub loop-later-preserved : goal.loop-later-preserved
loop-later-preserved c = record {
  bits = c.loop-later.invariant.bits;
  none =
      none_more c.args.a.now c.args.structure c.args.bit c.args.from c.loop-later.later c.loop-later.invariant.none
      (subst (λ (n : ℕ). IsAce c.args.a.now (record { structure = c.args.structure; bit = c.loop-later.later }) n c.args.a.now.r.cycles) c.start_in.ensures c.in_default.ensures);
}
