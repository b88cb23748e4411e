use Rattle.std.proofs.Common.{subst}
use Rattle.avf_tool.specs.BitAnswers.{IsHarmless}
use Rattle.avf_tool.proofs.MapTold.{map_told}
use Rattle.avf_tool.proofs.maps.map_of.Goals as goal

pub returns-in-Ok : goal.returns-in-Ok
returns-in-Ok c =
    map_told c.args.analysis.now _ _ _ c.requires.program c.requires.traced (subst IsHarmless c.recorded.ensures c.is_harmless.ensures) c.new-text.ensures
    c.in-Ok.ensures.ok c.into_bytes.ensures
