use Rattle.std.proofs.Common.{arith}
use Rattle.rv_isa.proofs.Memory.{place_in_ram, stored_ram}
use Rattle.rv_isa.proofs.arch.write_memory.Goals as goal

pub overflow_sub-address : goal.overflow_sub-address
overflow_sub-address c = omega (arith, place_in_ram _ _ _ (c.requires.address _ c.in-Some.is))

pub store_bytes-requires-clause-address : goal.store_bytes-requires-clause-address
store_bytes-requires-clause-address c = omega (arith, place_in_ram _ _ _ (c.requires.address _ c.in-Some.is))

pub returns-in-Some-clause-bytes : goal.returns-in-Some-clause-bytes
returns-in-Some-clause-bytes c =
    rw c.in-Some.is (stored_ram _ _ _ _ _ _ _ c.base.ensures (c.requires.address _ c.in-Some.is) c.store_bytes.ensures.bytes)
