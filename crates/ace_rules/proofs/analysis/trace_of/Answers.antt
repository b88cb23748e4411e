use Rattle.ace_rules.proofs.Told.{no_end}
use Rattle.ace_rules.proofs.analysis.trace_of.Goals as goal

pub out_of_memory-requires : goal.out_of_memory-requires
out_of_memory-requires g c = λ e.
    no_end c.args.recorded.now c.image-2.result.now c.clocks.result.now c.instructions.result c.in-Err.error (rw
    (← c.image.ensures) c.is_image.ensures)
    c.is_record.ensures.record c.image-2.ensures c.clocks.ensures c.instructions.ensures c.in-Err.ensures.answer e
