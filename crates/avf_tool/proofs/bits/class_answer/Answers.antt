use Rattle.avf_tool.proofs.Queries.{class_answered}
use Rattle.avf_tool.proofs.bits.class_answer.Goals as goal

pub returns : goal.returns
returns c =
    class_answered c.args.analysis.now c.args.place.now c.args.cycle c.class_of-class.result c.class_bytes.result c.requires.program c.requires.traced
    c.class_of-class.ensures.class c.class_of-class.ensures.harmless c.class_bytes.ensures
