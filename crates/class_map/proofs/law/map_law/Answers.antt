use Rattle.class_map.proofs.OwnMaps.{own_map}
use Rattle.class_map.proofs.Outcomes.{one_outcome}
use Rattle.class_map.proofs.law.map_law.Goals as goal

pub returns-clause-own : goal.returns-clause-own
returns-clause-own c = own_map

pub returns-clause-one : goal.returns-clause-one
returns-clause-one c = one_outcome
