use Rattle.std.proofs.Common.{sym, rules}
use Rattle.elf_load.proofs.Lent.{base_of-lent}
use Rattle.elf_load.proofs.layout.base_address.Goals as goal

pub returns : goal.returns
returns c = sym (base_of-lent c.args.segments.now _ c.requires.order c.requires.some (search rules))
