use Rattle.std.proofs.Common.{◌<◌, ap, length, slice_index, sym, subst, arith, ◌∙◌}
use Rattle.std.proofs.lemmas.List.{get_or_read}
use Rattle.run_record.specs.Run.{RecordedRun}
use Rattle.run_record.proofs.Issued.{record_issued}
use Rattle.run_record.proofs.recorded.Recorded.issued_at.Goals as goal

pub index-requires : goal.index-requires
index-requires c =
    let below : c.args.i < c.self.inside.instructions = subst (λ (r : RecordedRun). c.args.i < r.instructions) (sym c.self.view_is) c.requires in
    let few = record_issued _ c.self.invariant.0 in
    omega arith

pub returns : goal.returns
returns c =
    let below : c.args.i < c.self.inside.instructions = subst (λ (r : RecordedRun). c.args.i < r.instructions) (sym c.self.view_is) c.requires in
    let few = record_issued _ c.self.invariant.0 in
    let inside : c.args.i < length c.self.inside.issues.items = omega arith in
    get_or_read c.self.inside.issues.items _ _ inside c.index.ensures 0
    ∙ ap (λ (r : RecordedRun). slice_index r.issues c.args.i) c.self.view_is
