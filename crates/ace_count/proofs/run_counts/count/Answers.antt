use Rattle.std.proofs.Common.{arith, ap, refl, ◌∙◌}
use Rattle.run_record.specs.Run.{RecordedRun}
use Rattle.std.proofs.Math.ListN.{length-set}
use Rattle.ace_count.proofs.Rows.{all-rows, is-counted, rows-next}
use Rattle.ace_count.proofs.run_counts.count.Goals as goal

pub loop-place-init : goal.loop-place-init
loop-place-init c = record { all = c.no_counts-rows.ensures; rows = λ s l. absurd (omega (arith, l)) }

pub loop-place-preserved : goal.loop-place-preserved
loop-place-preserved c =
    record {
      all = length-set c.loop-place.rows _ _ ∙ c.loop-place.invariant.all;
      rows =
          rows-next c.args.a.now c.loop-place.rows c.loop-place.place _ _ c.tally.result (omega (arith, c.loop-place.invariant.all)) refl c.loop-place.invariant.rows c.tally.ensures;
    }

pub new-requires : goal.new-requires
new-requires c =
    is-counted c.args.a.now _
    (all-rows c.args.a.now c.shape.result c.cycles.result c.loop-place.rows c.loop-place.place (omega arith)
    (c.shape.ensures ∙ ap (λ (r : RecordedRun). r.shape) c.recorded-2.ensures)
    (c.cycles.ensures ∙ ap (λ (r : RecordedRun). r.cycles) c.recorded-3.ensures) c.loop-place.invariant.all c.loop-place.invariant.rows)
    (rw (← c.recorded.ensures) c.is_record.ensures.record) (rw (← c.recorded.ensures) c.is_record.ensures.short)

pub returns : goal.returns
returns c =
    rw c.new.ensures
    (all-rows c.args.a.now c.shape.result c.cycles.result c.loop-place.rows c.loop-place.place (omega arith)
    (c.shape.ensures ∙ ap (λ (r : RecordedRun). r.shape) c.recorded-2.ensures)
    (c.cycles.ensures ∙ ap (λ (r : RecordedRun). r.cycles) c.recorded-3.ensures) c.loop-place.invariant.all c.loop-place.invariant.rows)
