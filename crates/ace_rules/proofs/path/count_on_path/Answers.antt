use Rattle.std.proofs.Common.{arith, sym, ◌∙◌}
use Rattle.inst_buf.specs.Buffer.{entries}
use Rattle.ace_rules.specs.Walks.{path_addresses}
use Rattle.ace_rules.proofs.Paths.{counted_all, counted_end, counted_off, counted_on, path_few}
use Rattle.ace_rules.proofs.path.count_on_path.Goals as goal

pub returns-in_default-clause-count : goal.returns-in_default-clause-count
returns-in_default-clause-count c =
    counted_off c.args.trace.now.entries c.args.i (path_addresses c.args.d.now (entries c.args.buffer.now)) c.loop-k.k c.in-Some.pc
    (sym c.path_address.ensures ∙ c.in-Some.is) (sym c.is_at.ensures ∙ c.if-is_at.false) c.loop-k.invariant

pub returns-in_default-2-clause-count : goal.returns-in_default-2-clause-count
returns-in_default-2-clause-count c =
    counted_end c.args.trace.now.entries c.args.i (path_addresses c.args.d.now (entries c.args.buffer.now)) c.loop-k.k
    (sym c.path_address.ensures ∙ c.in_default.is) c.loop-k.invariant

pub loop-k-preserved : goal.loop-k-preserved
loop-k-preserved c =
    counted_on c.args.trace.now.entries c.args.i (path_addresses c.args.d.now (entries c.args.buffer.now)) c.loop-k.k c.in-Some.pc
    (sym c.path_address.ensures ∙ c.in-Some.is) (sym c.is_at.ensures ∙ c.if-is_at.true) c.loop-k.invariant

pub returns-clause-count : goal.returns-clause-count
returns-clause-count c =
    let all = counted_all c.args.trace.now.entries c.args.i (path_addresses c.args.d.now (entries c.args.buffer.now)) c.loop-k.k
    (path_few c.args.d.now c.args.buffer.now c.requires.order) c.loop-k-test.false c.loop-k.invariant in
    omega (arith, all, c.loop-k-test.false, c.loop-k.auto.k-end)
