use Rattle.bit_field.proofs.Flags.{laws_of_flags}
use Rattle.wb_cache.proofs.arrays.FlagsStruck.laws.Goals as goal

pub returns : goal.returns
returns c = laws_of_flags
