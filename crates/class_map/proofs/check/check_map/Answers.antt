use Rattle.class_map.proofs.HarmlessLines.{harmless_answer}
use Rattle.class_map.proofs.check.check_map.Goals as goal

pub returns-clause-harmless : goal.returns-clause-harmless
returns-clause-harmless g c =
    harmless_answer c.args.a.now (g.H.Shelf.holds c.args.shelf.now c.args.name.now) (g.H.Shelf.faults c.args.shelf.now) (g.H.Shelf.faults c.read_map.new.shelf)
    c.read_map.result c.is_harmless.ensures c.read_map.ensures.checked
