use Rattle.bit_field.proofs.Located.{is_located}
use Rattle.bit_field.specs.declared.places.Structure.TheVariants.{ExMem}
use Rattle.bit_field.specs.declared.shapes.TheConstants.{EX_MEM_BITS}
use Rattle.pipe_latch.specs.ExecutedBits as exmem
use Rattle.ace_rules.specs.Tallies.{HasClass}
use Rattle.ace_rules.proofs.FirstMasks.{added-firsts}
use Rattle.ace_rules.proofs.LatchClasses.{executed_class}
use Rattle.ace_rules.proofs.tally_latches.add_executed.Goals as goal

pub returns : goal.returns
returns c = λ a needs known.
    added-firsts (HasClass a ExMem) c.executed_masks.result EX_MEM_BITS c.args.row.now c.add_firsts.new.row c.add_firsts.ensures.full c.add_firsts.ensures.counts
    (λ k l.
    let (place, at) = is_located exmem.width exmem.layout.fields k l in
    rw (c.executed_masks.ensures k place l at) (executed_class a needs c.args.note.now c.args.quiet known k place l at))
