use Rattle.std.proofs.Common.{◌≡◌, true, drop, length, arith}
use Rattle.std.specs.Prelude.{nat_lt}
use Rattle.std.proofs.lemmas.Bool.Decides.{nat_tests}
use Rattle.inst_buf.specs.Buffer.{entries}
use Rattle.inst_buf.specs.declared.buffer.TheConstants.{SLOTS}
use Rattle.cyc_machine.proofs.front_end.take_and_fill.Goals as goal

pub returns : goal.returns
returns c =
    let room : nat_lt (length (drop 1 (entries c.args.buffer.now))) SLOTS ≡ true = grind (arith, nat_tests, c.take_and_push.ensures.room) in
    rw (room, ← c.fetched.ensures.entry) c.take_and_push.ensures.waiting
