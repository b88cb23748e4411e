-- The branch predictor: a history of two-bit counters and a buffer of branch targets, over word addresses.
use Rattle.std.specs.Prelude.{ℕ, ◌+◌, ◌-◌, ◌/◌, ◌%◌, ◌^◌, ◌==◌, ◌&&◌, Bool, true, false, nat_le, min, if◌then◌else◌, List, replicate, slice_index}
use Rattle.std.specs.Prelude.{slice_index_or, slice_set}
use Rattle.predictor.specs.declared.history.TheConstants.{COUNTERS}
use Rattle.predictor.specs.declared.targets.TheConstants.{ENTRIES}

-- an entry of the branch target buffer
pub record Target : Type 0 where
  pub valid : Bool  -- whether a branch was seen
  pub tag : ℕ  -- the branch's word address divided by the number of entries
  pub target : ℕ  -- the word address that it went to

pub record Tables : Type 0 where
  pub history : List ℕ  -- the counters, 0 to 3
  pub targets : List Target  -- the entries

abbrev pub no_target : Target
no_target = record { valid = false; tag = 0; target = 0 }

-- at reset each counter is 1, and no target is known
abbrev pub fresh_tables : Tables
fresh_tables = record { history = replicate COUNTERS 1; targets = replicate ENTRIES no_target }

abbrev pub counter_at : Tables → ℕ → ℕ
counter_at tables pc = slice_index tables.history (pc % COUNTERS)

abbrev pub target_at : Tables → ℕ → Target
target_at tables pc = slice_index_or tables.targets (pc % ENTRIES) no_target

-- the target is known, and the counter says taken
abbrev pub predicts_taken : Tables → ℕ → Bool
predicts_taken tables pc =
    (target_at tables pc).valid && ((target_at tables pc).tag == pc / ENTRIES && nat_le 2 (counter_at tables pc))

-- the next word address that is predicted after pc
unfoldable pub predicted : Tables → ℕ → ℕ
predicted tables pc = if predicts_taken tables pc then (target_at tables pc).target else (pc + 1) % 2 ^ 30

-- the counter after a branch was taken or not
abbrev pub moved : Bool → ℕ → ℕ
moved taken counter = if taken then min (counter + 1) 3 else counter - 1

-- the tables once the branch at pc was seen to be taken to a target, or not taken
unfoldable pub trained : Tables → ℕ → Bool → ℕ → Tables
trained tables pc taken target =
    record {
      history = slice_set tables.history (pc % COUNTERS) (moved taken (counter_at tables pc));
      targets = if taken then slice_set tables.targets (pc % ENTRIES) (record { valid = true; tag = pc / ENTRIES; target = target }) else tables.targets;
    }
