use Rattle.std.proofs.Common.{◌≤◌, length, arith, refl, length-append}
use Rattle.rv_isa.proofs.Follows.{follows_next, follows_reset, trace_ends}
use Rattle.rv_isa.proofs.runs.run_clocked.Goals as goal

pub loop-init : goal.loop-init
loop-init g c =
    record {
      follows =
          rw (c.new-entries.ensures.items, c.new-output.ensures.items)
          (follows_reset c.args.image.now c.args.clocks.now c.in_ok-arch.arch c.in_ok-arch.ensures.image c.in_ok-arch.ensures.state);
      counted = rw c.new-entries.ensures.items refl;
      ticks = omega arith;
    }

pub new-requires-clause-traced : goal.new-requires-clause-traced
new-requires-clause-traced g c =
    record {
      image = c.args.image.now;
      clocks = c.args.clocks.now;
      loaded = c.is_image.ensures;
      traced =
          trace_ends _ _ _ _ _ _ _ _ _ _ c.loop.invariant.follows
          (record {
            fetched = c.retire-retired.ensures.retired;
            committed = c.retire-retired.ensures.state;
            image = c.retire-retired.ensures.image;
            entry = c.in_ok-keep.ensures.entries;
            byte = c.in_ok-keep.ensures.output;
          })
          c.in-Some.is;
    }

pub returns-in-Some-clause-answer : goal.returns-in-Some-clause-answer
returns-in-Some-clause-answer g c =
    let count : length c.keep.new.entries.items ≤ c.args.limit = rw (c.in_ok-keep.ensures.entries, length-append) (omega arith) in
    rw c.new.ensures (
      count,
      trace_ends _ _ _ _ _ _ _ _ _ _ c.loop.invariant.follows
          (record {
            fetched = c.retire-retired.ensures.retired;
            committed = c.retire-retired.ensures.state;
            image = c.retire-retired.ensures.image;
            entry = c.in_ok-keep.ensures.entries;
            byte = c.in_ok-keep.ensures.output;
          })
          c.in-Some.is,
    )

pub loop-preserved : goal.loop-preserved
loop-preserved g c =
    record {
      follows =
          follows_next _ _ _ _ _ _ _ _ _ c.loop.invariant.follows
          (record {
            fetched = c.retire-retired.ensures.retired;
            committed = c.retire-retired.ensures.state;
            image = c.retire-retired.ensures.image;
            entry = c.in_ok-keep.ensures.entries;
            byte = c.in_ok-keep.ensures.output;
          })
          c.in_default.is;
      counted = rw (c.in_ok-keep.ensures.entries, length-append) (omega arith);
      ticks = omega arith;
    }
