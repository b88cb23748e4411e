use Rattle.std.proofs.Common.{◌≡◌}
use Rattle.bit_field.specs.Shapes.{bits_in}
use Rattle.class_map.proofs.StructureLines.{NoneBelow}
use Rattle.class_map.proofs.next.line_in_structure.Given as goal

abbrev pub invariant-loop-later : goal.invariant-loop-later
invariant-loop-later l = record {
  bits : l.bits ≡ bits_in l.structure l.a.r.shape;
  none : NoneBelow l.a l.structure l.bit l.from l.later;
}
