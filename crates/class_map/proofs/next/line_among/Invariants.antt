use Rattle.std.specs.Prelude.{option_map}
use Rattle.class_map.proofs.Searched.{NoneBefore}
use Rattle.class_map.proofs.next.line_among.Given as goal

abbrev pub invariant-loop-structure : goal.invariant-loop-structure
invariant-loop-structure l = NoneBefore l.a (option_map (λ line. line.now) l.before) l.structure-index
