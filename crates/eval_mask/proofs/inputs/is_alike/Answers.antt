use Rattle.std.proofs.Common.{sym, ◌∙◌}
use Rattle.eval_mask.proofs.ReadInputs.{alu_alike, auipc_alike, immediate_alike, lui_alike}
use Rattle.eval_mask.proofs.Masked.{not_true}
use Rattle.eval_mask.proofs.StoredElsewhere.{elsewhere_never}
use Rattle.eval_mask.proofs.inputs.is_alike.Goals as goal

pub returns-in-Lui : goal.returns-in-Lui
returns-in-Lui c =
    lui_alike c.args.needs.now c.args.arch.now c.args.case.now c.args.other.now c.args.a c.args.held c.is_value_alike.result c.requires.like
    c.requires.need (sym c.requires.facts.operation ∙ c.in-Lui.is) (rw c.immediate_of.ensures at c.is_value_alike.ensures)

pub returns-in-Auipc : goal.returns-in-Auipc
returns-in-Auipc c =
    auipc_alike c.args.needs.now c.args.arch.now c.args.case.now c.args.other.now c.args.a c.args.held c.is_value_alike-in-Auipc.result c.requires.like
    c.requires.need (sym c.requires.facts.operation ∙ c.in-Auipc.is) (rw c.address_of.ensures at c.is_value_alike-in-Auipc.ensures)

pub returns-in-AluImmediate : goal.returns-in-AluImmediate
returns-in-AluImmediate c =
    immediate_alike c.args.needs.now c.args.arch.now c.args.case.now c.args.other.now c.args.a c.args.held c.in-AluImmediate.kind
    c.is_value_alike-in-AluImmediate.result c.requires.like c.requires.need (sym c.requires.facts.operation ∙ c.in-AluImmediate.is)
    (rw (c.alu.ensures, c.immediate_of-in-AluImmediate.ensures) at c.is_value_alike-in-AluImmediate.ensures)

pub returns-in-Alu : goal.returns-in-Alu
returns-in-Alu c =
    alu_alike c.args.needs.now c.args.arch.now c.args.case.now c.args.other.now c.args.a c.args.held c.in-Alu.kind
    c.is_value_alike-in-Alu.result c.requires.like c.requires.need (sym c.requires.facts.operation ∙ c.in-Alu.is)
    (rw c.alu-in-Alu.ensures at c.is_value_alike-in-Alu.ensures)

pub returns-in-Store : goal.returns-in-Store
returns-in-Store c = (
  λ t. absurd (not_true t),
  λ a.
      absurd
      (elsewhere_never c.args.needs.now c.args.arch.now c.args.case.now c.args.other.now c.args.a c.args.held c.in-Store.field-0
      (c.requires.facts.needed c.if-facts.true) (sym c.requires.facts.operation ∙ c.in-Store.is)
      (rw c.address_from.ensures at (c.is_elsewhere.ensures c.if-is_elsewhere.true)) a),
)
