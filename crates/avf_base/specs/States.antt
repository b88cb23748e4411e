-- What contracts see of the shelves and sinks in memory.
use Rattle.std.specs.Prelude.{ℕ, ◌+◌, ◌-◌, ◌^◌, List, [], ◌∷◌, ◌++◌, length, take, Bool, ◌&&◌, Option, None, Some, min, if◌then◌else◌, bytes_eq, nat_le}
use Rattle.std.specs.Prelude.{unwrap_or}

-- a name with its bytes
pub record Entry : Type 0 where
  pub name : List ℕ
  pub bytes : List ℕ

-- what a name holds: the bytes of the first entry of this name, the one that was put last
abbrev pub holding : List Entry → List ℕ → Option (List ℕ)
holding [] name = None
holding (e ∷ es) name = if bytes_eq e.name name then Some e.bytes else holding es name

-- the same, and no bytes for a name that was never put
abbrev pub plainly_holding : List Entry → List ℕ → List ℕ
plainly_holding entries name = unwrap_or (holding entries name) []

-- a shelf in memory: its entries, the numbers of its calls that fail, counted from 1, and how many calls and faults there were
pub record MemFiles : Type 0 where
  pub entries : List Entry
  pub fails : List ℕ
  pub calls : ℕ
  pub faults : ℕ

-- a sink in memory: what it took, for how many bytes it has room, how many it takes in a call at most,
-- the numbers of its calls that fail, counted from 1, and how many calls and faults there were
pub record MemTaken : Type 0 where
  pub kept : List ℕ
  pub room : ℕ
  pub most : ℕ
  pub fails : List ℕ
  pub calls : ℕ
  pub faults : ℕ

-- a sink that never fails: what it kept, for how many bytes it has room, and whether it kept all that it took
pub record PlainTaken : Type 0 where
  pub kept : List ℕ
  pub room : ℕ
  pub whole : Bool

-- what it took, as long as it kept all of it
abbrev pub plainly_taken : PlainTaken → Option (List ℕ)
plainly_taken sink = if sink.whole then Some sink.kept else None

-- the same after a write of this piece
abbrev pub plainly_written : PlainTaken → List ℕ → PlainTaken
plainly_written sink piece = record {
  kept = sink.kept ++ take (sink.room - length sink.kept) piece;
  room = sink.room;
  whole = sink.whole && nat_le (length piece) (sink.room - length sink.kept);
}

-- the number of the next call; a number of 2 ^ 32 - 1 stays
abbrev pub next_call : ℕ → ℕ
next_call calls = min (calls + 1) (2 ^ 32 - 1)

-- the count of faults after one more; a count of 2 ^ 64 - 1 stays
abbrev pub next_fault : ℕ → ℕ
next_fault faults = min (faults + 1) (2 ^ 64 - 1)

-- what a real file holds and a real writer took: it is told nowhere
abbrev pub untold : Option (List ℕ)
untold = None
