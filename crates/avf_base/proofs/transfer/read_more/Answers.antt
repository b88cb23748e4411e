use Rattle.std.proofs.Common.{rules}
use Rattle.avf_base.proofs.Reading.{front_more, ended}
use Rattle.avf_base.proofs.transfer.read_more.Goals as goal

pub returns-in-Ok-eq0-clause-more : goal.returns-in-Ok-eq0-clause-more
returns-in-Ok-eq0-clause-more g c = search (rules, ended)

pub returns-in_ok-extend_from_slice-in-Ok-clause-more : goal.returns-in_ok-extend_from_slice-in-Ok-clause-more
returns-in_ok-extend_from_slice-in-Ok-clause-more g c = search (rules, front_more)
