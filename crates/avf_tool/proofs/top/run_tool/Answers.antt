use Rattle.avf_tool.proofs.ByStatus.{by_status, no_fault}
use Rattle.avf_tool.proofs.Programs.{program_law}
use Rattle.avf_tool.proofs.WrittenMaps.{map_law}
use Rattle.avf_tool.proofs.top.run_tool.Goals as goal

pub returns-clause-by_status : goal.returns-clause-by_status
returns-clause-by_status g c = by_status _ _ _ _ _ _ c.end.ensures.ends

pub returns-clause-programs : goal.returns-clause-programs
returns-clause-programs g c = program_law

pub returns-clause-plain : goal.returns-clause-plain
returns-clause-plain g c = no_fault _ _ _ _ _ _ _ _ _ _ _ _ c.end.ensures.ends

pub returns-clause-maps : goal.returns-clause-maps
returns-clause-maps g c = map_law
