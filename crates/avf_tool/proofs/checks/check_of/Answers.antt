use Rattle.avf_tool.proofs.CheckTold.{accepted_told, refused_told}
use Rattle.avf_tool.proofs.checks.check_of.Goals as goal

pub returns-in-Ok-clause-answer : goal.returns-in-Ok-clause-answer
returns-in-Ok-clause-answer g c =
    accepted_told c.args.analysis.now _ _ _ c.requires.program c.requires.traced c.in-Ok.pairs c.accepted_bytes.result c.in-Ok.ensures.checked
    c.in-Ok.ensures.harmless c.accepted_bytes.ensures

pub returns-in-Err-clause-answer : goal.returns-in-Err-clause-answer
returns-in-Err-clause-answer g c =
    refused_told c.args.analysis.now (g.H.Shelf.holds c.args.shelf.now c.args.map.now) (g.H.Shelf.faults c.args.shelf.now)
    (g.H.Shelf.faults c.check_map.new.shelf) c.requires.program c.requires.traced c.in-Err.error c.refusal_of.result c.refusal_of.ensures
    c.in-Err.ensures.checked
