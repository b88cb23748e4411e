use Rattle.std.proofs.Common.{arith}
use Rattle.class_map.proofs.Searched.{first_behind, own_border, rest_behind}
use Rattle.class_map.proofs.next.line_in.Goals as goal

pub returns-then-own-last-2 : goal.returns-then-own-last-2
returns-then-own-last-2 c =
    rw c.in-Some.is
    (first_behind c.args.a.now c.args.structure c.in-Some.line.now c.line_in_structure-then-own-last-2.result
    (omega (arith, c.if-own-last-2.true, c.order_of-own.ensures, c.order_of-last.ensures)) c.line_in_structure-then-own-last-2.ensures)

pub line_in_structure-requires-in-Some : goal.line_in_structure-requires-in-Some
line_in_structure-requires-in-Some c inside =
    own_border c.args.a.now c.args.structure c.in-Some.line.now (rw c.in-Some.is at c.requires)
    (omega (arith, c.if-own-last.false, c.if-own-last-2.false, c.order_of-own.ensures, c.order_of-last.ensures))

pub returns-else-own-last-2 : goal.returns-else-own-last-2
returns-else-own-last-2 c =
    rw c.in-Some.is
    (rest_behind c.args.a.now c.args.structure c.in-Some.line.now c.line_in_structure-in-Some.result
    (omega (arith, c.if-own-last.false, c.if-own-last-2.false, c.order_of-own.ensures, c.order_of-last.ensures)) c.line_in_structure-in-Some.ensures)
