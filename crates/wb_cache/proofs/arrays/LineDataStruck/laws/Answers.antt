use Rattle.wb_cache.proofs.ArrayLaws.{data_laws}
use Rattle.wb_cache.proofs.arrays.LineDataStruck.laws.Goals as goal

pub returns : goal.returns
returns c = data_laws
