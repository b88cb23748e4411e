use Rattle.wb_cache.proofs.ArrayLaws.{tag_laws}
use Rattle.wb_cache.proofs.arrays.LineTagsStruck.laws.Goals as goal

pub returns : goal.returns
returns c = tag_laws
