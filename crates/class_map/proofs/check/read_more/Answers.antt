use Rattle.std.proofs.Common.{◌-◌, drop, length, take, arith}
use Rattle.std.proofs.lemmas.List.{length-drop, length-take-le}
use Rattle.class_map.proofs.Rounds.{is_more}
use Rattle.class_map.proofs.check.read_more.Goals as goal

pub returns-in-Ok-clause-more : goal.returns-in-Ok-clause-more
returns-in-Ok-clause-more g c =
    let buf = c.args.buf.now in
    let left = length-drop c.args.kept buf in
    let part = length-take-le (length buf - c.args.kept) (drop c.args.kept buf) (omega (arith, left)) in
    is_more _ (g.H.Shelf.holds c.args.shelf.now c.args.name.now) c.args.at c.args.kept c.in-Ok.n (take c.args.kept buf) c.read_at.new.buf _
    (length-take-le c.args.kept buf (omega (arith, c.requires.room))) c.requires.front c.in-Ok.ensures.bytes c.in-Ok.ensures.bound.0
    (omega (arith, c.read_at.auto.buf, left, part, c.requires.room))
