use Rattle.std.specs.Prelude.{decimal}
use Rattle.bit_field.specs.Names.{name_of}
use Rattle.class_map.specs.Texts.{spelled}
use Rattle.class_map.proofs.Grouped.{line_grouped}
use Rattle.class_map.proofs.text.line_text.Goals as goal

pub returns : goal.returns
unfolding spelled
returns c =
    let line = c.args.line.now in
    let e = line_grouped (name_of line.place.structure) (decimal line.place.bit) (decimal line.from) (decimal line.to) (decimal line.rule) in cc
