-- What the code asks of a note, of the needs and of the image. No clause of a public call speaks of it.
use Rattle.std.specs.Prelude.{⊤, ℕ, ◌+◌, ◌-◌, ◌*◌, ◌/◌, ◌%◌, ◌^◌, ◌<◌, ◌==◌, Bool}
use Rattle.std.specs.Prelude.{false, not, ◌&&◌, ◌||◌, nat_le, List, Option, Some, None, drop, is_some, if◌then◌else◌}
use Rattle.std.specs.Int.{bit_at}
use Rattle.bit_field.specs.Lanes.{has_lane}
use Rattle.bit_field.specs.declared.shapes.Shape.{Shape}
use Rattle.elf_load.specs.Image.{LoadedImage, in_ram}
use Rattle.need_pass.specs.Tables.{Needs, byte_need}
use Rattle.store_buf.specs.Covers.{found}
use Rattle.store_buf.specs.Entry.{Entry as Pending}
use Rattle.store_buf.specs.EntryBits.{flipped}
use Rattle.store_buf.specs.Pending.{is_pending, slot_of}
use Rattle.store_buf.specs.declared.pending.PendingField.{PendingField}
use Rattle.store_buf.specs.declared.pending.PendingField.TheVariants.{Mask, Addr, Value}
use Rattle.wb_cache.specs.Changes.{set_at}
use Rattle.tag_dist.specs.Tables.{Tables, last_in, looked_up_in}
use Rattle.event_log.specs.Lookups.{distance_one}
use Rattle.slot_history.specs.declared.changes.Held.{Held}
use Rattle.slot_history.specs.declared.changes.Held.TheVariants.{Vacant, Clean, Dirty}
use Rattle.ace_class.specs.declared.class.Class.{Class}
use Rattle.ace_class.specs.declared.class.Class.TheVariants.{Ace, UnAce}
use Rattle.ace_class.specs.declared.class.Rule.TheVariants.{EmptyPlace, DeadData, StoreRedirection, CleanLine, UnaccessedLine, CleanTag}
use Rattle.ace_law.specs.MemoryRules.{writes}
use Rattle.ace_rules.specs.declared.note.Note.{Note}

-- how many instructions have left the memory stage
unfoldable pub retired_by : Note → ℕ
retired_by note = note.executed - (if note.occupied then 1 else 0)

-- the stores from slot i on write the byte
abbrev pub written_from : List Pending → ℕ → ℕ → Bool
written_from stores i p = is_some (found (drop i stores) (p / 4) (p % 4))

-- ---- lines

-- a store to a line waits in a slot
abbrev pub goes_to : Pending → ℕ → Bool
goes_to e line = is_pending e && e.addr / 4 == line

unfoldable pub is_pending_line : List Pending → ℕ → Bool
is_pending_line stores line =
    goes_to (slot_of stores 0) line || goes_to (slot_of stores 1) line || goes_to (slot_of stores 2) line || goes_to (slot_of stores 3) line

-- an instruction that hasn't left the memory stage accesses a line, or a store to it waits
unfoldable pub is_later : Option ℕ → ℕ → Bool
is_later None first = false
is_later (Some i) first = nat_le first i

unfoldable pub is_accessed_again : Tables → Note → ℕ → Bool
is_accessed_again tags note line = is_later (last_in tags.last line) (retired_by note) || is_pending_line note.stores line

-- the class of the bits of a line slot that only matter where its line is accessed again
unfoldable pub unaccessed : Tables → Note → Bool → ℕ → Class
unaccessed tags note quiet line = if quiet && not (is_accessed_again tags note line) then UnAce UnaccessedLine else Ace

unfoldable pub clean_line : Bool → Class
clean_line quiet = if quiet then UnAce CleanLine else Ace

-- the classes of a slot's valid and dirty bits, by what it holds; a slot that holds nothing has the tag 0
unfoldable pub valid_class : Tables → Note → Bool → Shape → ℕ → Held → Class
valid_class tags note quiet shape l Vacant = unaccessed tags note quiet (set_at shape l)
valid_class tags note quiet shape l (Clean line) = clean_line quiet
valid_class tags note quiet shape l (Dirty line) = unaccessed tags note quiet line

unfoldable pub dirty_class : Tables → Note → Bool → Held → Class
dirty_class tags note quiet Vacant = UnAce EmptyPlace
dirty_class tags note quiet (Clean line) = clean_line quiet
dirty_class tags note quiet (Dirty line) = unaccessed tags note quiet line

-- the class of bit j of a slot's tag, by what the slot holds
abbrev pub is_unlooked : Tables → ℕ → ℕ → ℕ → ℕ → Bool
is_unlooked tags t l line near = not (looked_up_in tags l line t) && not (looked_up_in tags l near t)

unfoldable pub clean_tag : Tables → Note → Bool → ℕ → ℕ → ℕ → ℕ → Class
clean_tag tags note quiet t l line near =
    if quiet && not (is_accessed_again tags note near) then UnAce UnaccessedLine
    else if is_unlooked tags t l line near then UnAce CleanTag
    else Ace

unfoldable pub dirty_tag : Tables → Note → Bool → ℕ → ℕ → Class
dirty_tag tags note quiet line near =
    if quiet && (not (is_accessed_again tags note line) && not (is_accessed_again tags note near)) then UnAce UnaccessedLine else Ace

unfoldable pub tag_class : Tables → Note → Bool → Shape → ℕ → ℕ → ℕ → Held → Class
tag_class tags note quiet shape t l j Vacant = UnAce EmptyPlace
tag_class tags note quiet shape t l j (Clean line) = clean_tag tags note quiet t l line (distance_one shape line j)
tag_class tags note quiet shape t l j (Dirty line) = dirty_tag tags note quiet line (distance_one shape line j)

-- a slot's line is one of those of the address space
abbrev pub IsLineHeld : Held → Type 0
IsLineHeld Vacant = ⊤
IsLineHeld (Clean line) = line < 2 ^ 28
IsLineHeld (Dirty line) = line < 2 ^ 28

-- ---- bits of a pending store

-- the bits of a store that say nothing
unfoldable pub is_unused : Pending → PendingField → ℕ → Bool
is_unused e Mask j = false
is_unused e Addr j = e.mask == 0
is_unused e Value j = not (has_lane e.mask (j / 8))

-- neither does a store behind slot i write the byte, nor is its bit needed any more
unfoldable pub is_dead : Needs → Note → ℕ → ℕ → ℕ → Bool
is_dead needs note i p j = written_from note.stores i p || not (bit_at (byte_need needs p (retired_by note)) j == 1)

unfoldable pub is_dead_value : Needs → Note → ℕ → PendingField → ℕ → Bool
is_dead_value needs note i Mask j = false
is_dead_value needs note i Addr j = false
is_dead_value needs note i Value j = is_dead needs note (i + 1) (4 * (slot_of note.stores i).addr + j / 8) (j % 8)

-- whatever a store in slot i makes of the byte doesn't matter
unfoldable pub is_spared : LoadedImage → Needs → Note → ℕ → ℕ → Bool
is_spared image needs note i p =
    not (in_ram image p) || written_from note.stores (i + 1) p || byte_need needs p (retired_by note) == 0

-- just one of two stores writes the byte
unfoldable pub just_one : Pending → Pending → ℕ → Bool
just_one e redirected p = if writes e p then not (writes redirected p) else writes redirected p

unfoldable pub is_harmless_at : LoadedImage → Needs → Note → ℕ → Pending → ℕ → Bool
is_harmless_at image needs note i redirected p = not (just_one (slot_of note.stores i) redirected p) || is_spared image needs note i p

unfoldable pub is_harmless_in : LoadedImage → Needs → Note → ℕ → Pending → ℕ → Bool
is_harmless_in image needs note i redirected word =
    is_harmless_at image needs note i redirected (4 * word) && is_harmless_at image needs note i redirected (4 * word + 1)
    && is_harmless_at image needs note i redirected (4 * word + 2) && is_harmless_at image needs note i redirected (4 * word + 3)

unfoldable pub is_harmless : LoadedImage → Needs → Note → ℕ → Pending → Bool
is_harmless image needs note i redirected =
    is_harmless_in image needs note i redirected (slot_of note.stores i).addr
    && is_harmless_in image needs note i redirected redirected.addr

-- bit b of a store, in a field that says where it writes
unfoldable pub is_redirected : LoadedImage → Needs → Note → ℕ → PendingField → ℕ → Bool
is_redirected image needs note i Mask b = is_harmless image needs note i (flipped (slot_of note.stores i) b)
is_redirected image needs note i Addr b = is_harmless image needs note i (flipped (slot_of note.stores i) b)
is_redirected image needs note i Value b = false

-- the class of bit b of the store in slot i, which is bit j of a field
unfoldable pub pending_class : LoadedImage → Needs → Note → Bool → ℕ → ℕ → PendingField → ℕ → Class
pending_class image needs note quiet i b field j =
    if is_unused (slot_of note.stores i) field j then UnAce EmptyPlace
    else if quiet && is_dead_value needs note i field j then UnAce DeadData
    else if quiet && is_redirected image needs note i field b then UnAce StoreRedirection
    else Ace
