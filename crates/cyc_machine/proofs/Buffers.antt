-- What the buffers hold between the two steps of a cycle.
use Rattle.std.proofs.Common.{◌≡◌, ◌≤◌, List, [], ◌∷◌, length, drop, Bool, true, false, arith}
use Rattle.std.specs.Prelude.{All, if◌then◌else◌}
use Rattle.std.proofs.lemmas.List.Elements.{All-drop}
use Rattle.elf_load.specs.Image.{LoadedImage}
use Rattle.inst_buf.specs.Entry.{Entry as Fetched}
use Rattle.inst_buf.specs.Buffer.{entries, packed as packed_entries}
use Rattle.inst_buf.proofs.Packed.{entries-packed, entries_valid}
use Rattle.store_buf.specs.Entry.{Entry}
use Rattle.store_buf.specs.Pending.{is_pending, oldest, packed, pending, younger}
use Rattle.store_buf.proofs.Packed.{pending-packed, pending_used}
use Rattle.cyc_machine.specs.declared.port.Move.{Move}
use Rattle.cyc_machine.specs.declared.port.Move.TheVariants.{Drains}
use Rattle.cyc_machine.specs.Memory.{is_stray, kept_stores}

-- the entries behind the first, packed
pub entries-later : (slots : List Fetched) → entries (packed_entries (drop 1 (entries slots))) ≡ drop 1 (entries slots)
entries-later slots = entries-packed (drop 1 (entries slots)) (All-drop (λ e. e.valid ≡ true) 1 (entries slots) (entries_valid slots))

All-younger : (P : Entry → Type 0) (es : List Entry) → All P es → All P (younger es)
All-younger P [] h = h
All-younger P (e ∷ es) h = All-drop P 1 (e ∷ es) h

length-younger : (es : List Entry) → length (younger es) ≤ length es
length-younger [] = omega arith
length-younger (e ∷ es) = omega arith

module _ (P : Entry → Type 0) (es : List Entry) (h : All P es) where
  chosen : (stray : Bool) → All P (if stray then younger es else es)
  chosen true = All-younger P es h
  chosen false = h

length-chosen : (stray : Bool) (es : List Entry) → length (if stray then younger es else es) ≤ length es
length-chosen true es = length-younger es
length-chosen false es = omega arith

All-kept : (image : LoadedImage) (move : Move) (P : Entry → Type 0) (es : List Entry) → All P es → All P (kept_stores image move es)
All-kept image (Drains e way) P es h = All-younger P es h
All-kept image _ P es h = chosen P es h (is_stray image (oldest es))

pub length-kept : (image : LoadedImage) (move : Move) (es : List Entry) → length (kept_stores image move es) ≤ length es
length-kept image (Drains e way) es = length-younger es
length-kept image _ es = length-chosen (is_stray image (oldest es)) es

-- the stores that stay, packed
pub pending-kept : (image : LoadedImage) (move : Move) (slots : List Entry)
    → pending (packed (kept_stores image move (pending slots))) ≡ kept_stores image move (pending slots)
pending-kept image move slots =
    pending-packed (kept_stores image move (pending slots)) (All-kept image move (λ e. is_pending e ≡ true) (pending slots) (pending_used slots))
