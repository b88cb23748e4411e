use Rattle.std.specs.Prelude.{decimal}
use Rattle.class_map.proofs.Grouped.{head_grouped}
use Rattle.class_map.proofs.text.head_text.Goals as goal

pub returns : goal.returns
returns c = let e = head_grouped (decimal c.args.cycles) (decimal c.args.instructions) in cc
