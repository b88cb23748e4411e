use Rattle.bit_field.proofs.Located.{is_located}
use Rattle.bit_field.specs.declared.places.Structure.TheVariants.{MemWb}
use Rattle.bit_field.specs.declared.shapes.TheConstants.{MEM_WB_BITS}
use Rattle.pipe_latch.specs.ResultBits as memwb
use Rattle.ace_rules.specs.Tallies.{HasClass}
use Rattle.ace_rules.proofs.FirstMasks.{added-firsts}
use Rattle.ace_rules.proofs.LatchClasses.{result_class}
use Rattle.ace_rules.proofs.tally_latches.add_result.Goals as goal

pub returns : goal.returns
returns c = λ a needs known.
    added-firsts (HasClass a MemWb) c.result_masks.result MEM_WB_BITS c.args.row.now c.add_firsts.new.row c.add_firsts.ensures.full c.add_firsts.ensures.counts
    (λ k l.
    let (place, at) = is_located memwb.width memwb.layout.fields k l in
    rw (c.result_masks.ensures k place l at) (result_class a needs c.args.note.now c.args.quiet known k place l at))
