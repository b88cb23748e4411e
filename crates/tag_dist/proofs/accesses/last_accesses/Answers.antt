use Rattle.std.proofs.Common.{◌≡◌, length, subst, arith}
use Rattle.tag_dist.proofs.Noted.{IsLast, last-more, last-none}
use Rattle.tag_dist.proofs.accesses.last_accesses.Goals as goal

pub loop-i-init : goal.loop-i-init
loop-i-init c = rw c.new-last.ensures.empty (last-none c.args.trace.now.entries)

pub loop-i-preserved : goal.loop-i-preserved
loop-i-preserved c = last-more c.args.trace.now.entries c.loop-i.i c.entry.result.now c.loop-i.last.entries c.note_entry.new.last.entries
    c.entry.ensures.entry c.in_ok-note_entry.ensures c.loop-i.invariant

pub returns : goal.returns
returns c =
    let n : c.loop-i.i ≡ length c.args.trace.now.entries = omega (arith, c.len-i-end.ensures) in
    subst (λ n. IsLast c.args.trace.now.entries n c.loop-i.last.entries) n c.loop-i.invariant
