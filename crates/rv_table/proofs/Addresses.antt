-- Addresses stay within their bits.
use Rattle.std.proofs.Common.{ℕ, ◌*◌, ◌^◌, ◌<◌, arith}
use Rattle.std.proofs.lemmas.Bool.Decides.{nat_tests}
use Rattle.rv_table.specs.Actions.{next_address, target_by}
use Rattle.rv_table.specs.Operations.{operation_of}
use Rattle.rv_table.specs.declared.op.Op.{Op}
use Rattle.rv_table.specs.declared.operation.Operation.{Operation}

target_by-below : (o : Operation) (op : Op) (at a b : ℕ) → target_by o op at a b < 2 ^ 32
unfolding target_by
target_by-below o op at a b = grind (arith, nat_tests)

pub next_address-below : (op : Op) (pc a b : ℕ) → next_address op pc a b < 2 ^ 30
unfolding next_address
next_address-below op pc a b =
    let h = target_by-below (operation_of op.code) op (4 * pc) a b in
    grind (arith, nat_tests)
