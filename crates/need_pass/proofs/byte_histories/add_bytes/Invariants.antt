use Rattle.std.proofs.Common.{◌≡◌, ℕ, ◌-◌, ◌<◌, ◌^◌, cond, leb}
use Rattle.std.specs.Prelude.{Some, ◌&&◌, bit_or}
use Rattle.rv_table.specs.Accesses.{byte_of}
use Rattle.need_pass.specs.Links.{has_byte}
use Rattle.need_pass.specs.Tables.{byte_mask}
use Rattle.need_pass.proofs.byte_histories.add_bytes.Given as goal

abbrev pub invariant-loop-n : goal.invariant-loop-n
invariant-loop-n l = (p i : ℕ) → p < 2 ^ 32 → byte_mask l.histories.entries p i ≡ cond (has_byte (Some (l.addr, l.n)) p && leb i l.at) (bit_or (byte_mask l.initial.histories.entries p 0) (byte_of l.mask (p - l.addr))) (byte_mask l.initial.histories.entries p i)
