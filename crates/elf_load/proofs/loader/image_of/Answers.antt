use Rattle.std.proofs.Common.{◌∙◌}
use Rattle.elf_load.proofs.Accepted.{accepted-some, accepted-FitRam, made, made-IsImage}
use Rattle.elf_load.proofs.loader.image_of.Goals as goal

pub base_address-base-requires-clause-some : goal.base_address-base-requires-clause-some
base_address-base-requires-clause-some c = accepted-some c.args.segments.now c.args.entry c.args.ram c.requires.accepted

pub ram_of-requires : goal.ram_of-requires
ram_of-requires c = accepted-FitRam _ c.args.entry c.args.ram _ c.base_address-base.ensures c.requires.order c.requires.bytes c.requires.accepted

pub code_of-requires : goal.code_of-requires
code_of-requires c = accepted-FitRam _ c.args.entry c.args.ram _ c.base_address-base.ensures c.requires.order c.requires.bytes c.requires.accepted

pub from_parts-requires : goal.from_parts-requires
from_parts-requires c =
    made-IsImage _ c.args.entry c.args.ram c.base_address-base.result _ _ c.requires.ram c.requires.accepted c.base_address-base.ensures
    c.in_ok-memory.ensures.ram c.in_ok-code.ensures c.in_ok-memory.ensures.bytes

pub returns : goal.returns
returns c =
    c.from_parts.ensures
    ∙ made _ c.args.entry c.args.ram c.base_address-base.result _ _ c.base_address-base.ensures c.in_ok-memory.ensures.ram c.in_ok-code.ensures
