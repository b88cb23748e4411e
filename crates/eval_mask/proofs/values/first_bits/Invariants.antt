use Rattle.bit_field.specs.Layouts.{flip}
use Rattle.rv_table.specs.Arithmetic.{alu}
use Rattle.eval_mask.specs.Cases.{IsMaskBelow}
use Rattle.eval_mask.specs.Compared.{SameWhere}
use Rattle.eval_mask.proofs.values.first_bits.Given as goal

abbrev pub invariant-loop-k : goal.invariant-loop-k
invariant-loop-k l = IsMaskBelow l.k (λ i. SameWhere 32 l.mask (alu l.kind (flip l.a i) l.b) l.own) l.bits
