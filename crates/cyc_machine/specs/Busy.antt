-- What a busy port works for.
use Rattle.std.specs.Prelude.{◌≡◌, ◌/◌, ℕ, Some, None}
use Rattle.store_buf.specs.Pending.{pending}
use Rattle.wb_cache.specs.Access.{found}
use Rattle.cyc_machine.specs.Cycle.{action_in_m}
use Rattle.cyc_machine.specs.Memory.{load_client, owned_word, store_client}
use Rattle.cyc_machine.specs.State.{State}

-- The client that the port works for is there, and its line is missing.
pub record WorksForMiss (s : State) : Type 0 where
  pub word : ℕ
  pub client : owned_word s.port.owner (load_client s.image (action_in_m s) (pending s.stores)) (store_client s.image (pending s.stores)) ≡ Some word
  pub missing : found s.cache (word / 4) ≡ None
