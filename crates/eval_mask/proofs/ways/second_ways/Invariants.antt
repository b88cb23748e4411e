use Rattle.bit_field.specs.Layouts.{flip}
use Rattle.rv_table.specs.Actions.{holds}
use Rattle.eval_mask.specs.Cases.{IsMaskBelow}
use Rattle.eval_mask.specs.QuickDoings.{StaysOr}
use Rattle.eval_mask.proofs.ways.second_ways.Given as goal

abbrev pub invariant-loop-k : goal.invariant-loop-k
invariant-loop-k l = IsMaskBelow l.k (λ i. StaysOr (holds l.kind l.a (flip l.b i)) (holds l.kind l.a l.b) l.turned) l.bits
