use Rattle.std.proofs.Common.{◌∙◌}
use Rattle.rv_isa.proofs.Memory.{at_reset}
use Rattle.rv_isa.proofs.arch.Arch.clocked.Goals as goal

pub returns-clause-state : goal.returns-clause-state
returns-clause-state c =
    at_reset _ _ _ _ _ _ c.zeros.ensures (c.in_ok-memory.ensures.items ∙ c.ram.ensures) c.entry.ensures c.in_ok-clocks.ensures.items
