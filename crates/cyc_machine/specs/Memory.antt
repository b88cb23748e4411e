-- The memory side of one cycle: who asks for the cache, what the port does, and whether the memory stage is done.
use Rattle.std.specs.Prelude.{◌≡◌, ◌<◌, ◌^◌, ⊤, ℕ, ◌/◌, ◌%◌, ◌==◌, ◌&&◌, Bool, true, false, not, nat_lt, if◌then◌else◌, List, [], ◌∷◌, ◌++◌, length}
use Rattle.std.specs.Prelude.{Option, Some, None, pred}
use Rattle.elf_load.specs.Image.{LoadedImage, word_in_ram}
use Rattle.rv_table.specs.Accesses.{byte_of, lane_mask, load_size, loaded, store_size, store_word}
use Rattle.rv_table.specs.Effects.{written_register}
use Rattle.rv_table.specs.declared.action.Action.{Action}
use Rattle.rv_table.specs.declared.action.Action.TheVariants.{Writes, Loads, Stores}
use Rattle.rv_table.specs.declared.operation.LoadKind.{LoadKind}
use Rattle.rv_table.specs.declared.operation.StoreKind.{StoreKind}
use Rattle.pipe_latch.specs.Latches.{ResultLatch, no_result}
use Rattle.store_buf.specs.Entry.{Entry}
use Rattle.store_buf.specs.Pending.{oldest, younger}
use Rattle.store_buf.specs.Covers.{covered}
use Rattle.store_buf.specs.declared.buffer.TheConstants.{SLOTS}
use Rattle.store_buf.specs.declared.cover.Cover.{Cover}
use Rattle.store_buf.specs.declared.cover.Cover.TheVariants.{Full, Part, None as Uncovered}
use Rattle.cyc_machine.specs.PortState.{PortState}
use Rattle.cyc_machine.specs.declared.port.Move.{Move}
use Rattle.cyc_machine.specs.declared.port.Move.TheVariants.{Rests, Reads, Drains, Misses, Waits, Leaves, Fills}
use Rattle.wb_cache.specs.Contents.{Contents, slots}
use Rattle.wb_cache.specs.Lookup.{set_of}
use Rattle.wb_cache.specs.Access.{found, read, word_of, written}
use Rattle.cyc_machine.specs.declared.memory_stage.Served.{Served}
use Rattle.cyc_machine.specs.declared.memory_stage.TheConstants.{REFILL_CYCLES, WRITE_BACK_CYCLES}
use Rattle.wb_cache.specs.Refill.{memory_refilled, refilled, way_for}

-- Clients.

abbrev pub uncovered_word : Cover → ℕ → Option ℕ
uncovered_word Uncovered word = Some word
uncovered_word Part word = None
uncovered_word (Full value) word = None

-- the word address that a load asks the cache for: where it is in RAM and the store buffer holds none of its lanes
unfoldable pub asked_word : LoadedImage → LoadKind → ℕ → List Entry → Option ℕ
asked_word image kind x stores =
    if word_in_ram image (x / 4) then uncovered_word (covered stores (x / 4) (lane_mask (load_size kind) x)) (x / 4) else None

-- the load client
unfoldable pub load_client : LoadedImage → Action → List Entry → Option ℕ
load_client image (Loads kind rd x) stores = asked_word image kind x stores
load_client image _ stores = None

abbrev pub in_ram_entry : LoadedImage → Option Entry → Option Entry
in_ram_entry image (Some e) = if word_in_ram image e.addr then Some e else None
in_ram_entry image None = None

-- the store client: the oldest pending store, where its word is in RAM
unfoldable pub store_client : LoadedImage → List Entry → Option Entry
store_client image stores = in_ram_entry image (oldest stores)

-- The port.

abbrev pub is_dirty_victim : Contents → ℕ → Bool
is_dirty_victim c line = (slots c (set_of c.shape line) (way_for c line)).valid && (slots c (set_of c.shape line) (way_for c line)).dirty

-- a miss begins, and its client waits the longer where the victim must be written back
abbrev pub missed : Contents → ℕ → Bool → Move
missed c line owner = Misses line (way_for c line) (if is_dirty_victim c line then WRITE_BACK_CYCLES else REFILL_CYCLES) owner

abbrev pub read_by : Option ℕ → Contents → ℕ → Move
read_by (Some way) c word = Reads word way
read_by None c word = missed c (word / 4) false

abbrev pub drained_by : Option ℕ → Contents → Entry → Move
drained_by (Some way) c e = Drains e way
drained_by None c e = missed c (e.addr / 4) true

-- an idle port serves the load client, else the store client
abbrev pub starts : Contents → Option ℕ → Option Entry → Move
starts c (Some word) store = read_by (found c (word / 4)) c word
starts c None (Some e) = drained_by (found c (e.addr / 4)) c e
starts c None None = Rests

abbrev pub word_of_entry : Option Entry → Option ℕ
word_of_entry (Some e) = Some e.addr
word_of_entry None = None

-- the word that the owner of a busy port asks for
abbrev pub owned_word : Bool → Option ℕ → Option Entry → Option ℕ
owned_word true load store = word_of_entry store
owned_word false load store = load

abbrev pub filled_by : Option ℕ → Contents → ℕ → Move
filled_by (Some way) c line = Leaves
filled_by None c line = Fills line (way_for c line)

-- a busy port waits for its client, and refills at the end; an absent client leaves it
abbrev pub continues : ℕ → Contents → Option ℕ → Move
continues count c None = Leaves
continues count c (Some word) = if nat_lt 1 count then Waits else filled_by (found c (word / 4)) c (word / 4)

unfoldable pub move_of : PortState → Contents → Option ℕ → Option Entry → Move
move_of port c load store =
    if port.count == 0 then starts c load store else continues port.count c (owned_word port.owner load store)

unfoldable pub port_after : Move → PortState → PortState
port_after (Misses line way count owner) port = record { count = count; owner = owner }
port_after Waits port = record { count = pred port.count; owner = port.owner }
port_after _ port = record { count = 0; owner = port.owner }

unfoldable pub cache_after : LoadedImage → Move → List ℕ → Contents → Contents
cache_after image (Reads word way) memory c = read (word / 4) c
cache_after image (Drains e way) memory c = written (e.addr / 4) (e.addr % 4) e.mask e.value c
cache_after image (Fills line way) memory c = refilled image line memory c
cache_after image _ memory c = c

unfoldable pub memory_after : LoadedImage → Move → Contents → List ℕ → List ℕ
memory_after image (Fills line way) c memory = memory_refilled image line c memory
memory_after image _ c memory = memory

-- the word that the port reads for the load client
unfoldable pub word_read : Move → Contents → Option ℕ
word_read (Reads word way) c = word_of c (word / 4) (word % 4)
word_read _ c = None

-- The memory stage.

abbrev pub served_by : Option ℕ → Served
served_by (Some value) = record { goes = true; value = value }
served_by None = record { goes = false; value = 0 }

-- a load's value out of a word
abbrev pub loaded_of : LoadKind → ℕ → ℕ → ℕ
loaded_of kind x word = loaded kind x (λ p. byte_of word (p % 4))

abbrev pub value_read : Option ℕ → LoadKind → ℕ → Option ℕ
value_read (Some word) kind x = Some (loaded_of kind x word)
value_read None kind x = None

-- full cover gives the value; a part of it must drain first; with none it is the word that the port reads, if it does
abbrev pub covered_value : Cover → Option ℕ → LoadKind → ℕ → Option ℕ
covered_value (Full word) read kind x = Some (loaded_of kind x word)
covered_value Part read kind x = None
covered_value Uncovered read kind x = value_read read kind x

-- the value of M's load, if it is done: 0 outside RAM; `read` is the word that the port reads
unfoldable pub load_value : LoadedImage → LoadKind → ℕ → List Entry → Option ℕ → Option ℕ
load_value image kind x stores read =
    if word_in_ram image (x / 4) then covered_value (covered stores (x / 4) (lane_mask (load_size kind) x)) read kind x else Some 0

-- a store is done where there is room for it, or at once outside RAM, where it is dropped
abbrev pub has_room : LoadedImage → ℕ → List Entry → Bool
has_room image word stores = if word_in_ram image word then nat_lt (length stores) SLOTS else true

-- whether M leaves, and the value for its register
unfoldable pub served : LoadedImage → Action → List Entry → Option ℕ → Served
served image (Loads kind rd x) stores read = served_by (load_value image kind x stores read)
served image (Stores kind x y) stores read = record { goes = has_room image (x / 4) stores; value = 0 }
served image (Writes rd value) stores read = record { goes = true; value = value }
served image _ stores read = record { goes = true; value = 0 }

-- the next MEM/WB
unfoldable pub result_after : Action → Served → ResultLatch
result_after m s = if s.goes then record { rd = written_register m; value = s.value } else no_result

-- The store buffer.

-- an oldest store outside RAM leaves without a write
abbrev pub is_stray : LoadedImage → Option Entry → Bool
is_stray image (Some e) = not (word_in_ram image e.addr)
is_stray image None = false

abbrev pub without_stray : LoadedImage → List Entry → List Entry
without_stray image stores = if is_stray image (oldest stores) then younger stores else stores

abbrev pub kept_stores : LoadedImage → Move → List Entry → List Entry
kept_stores image (Drains e way) stores = younger stores
kept_stores image _ stores = without_stray image stores

abbrev pub entry_of : StoreKind → ℕ → ℕ → Entry
entry_of kind x y = record { mask = lane_mask (store_size kind) x; addr = x / 4; value = store_word kind x y }

-- The pending store that M's done store in RAM becomes. `room` says that a slot was free before the cycle.
unfoldable pub appended : LoadedImage → Action → Bool → List Entry
appended image (Stores kind x y) room = if room && word_in_ram image (x / 4) then entry_of kind x y ∷ [] else []
appended image _ room = []

unfoldable pub stores_after : LoadedImage → Action → Move → List Entry → List Entry
stores_after image m move stores = kept_stores image move stores ++ appended image m (nat_lt (length stores) SLOTS)

-- What holds of a move.

-- a line is only filled where it misses
abbrev pub FillsMiss : Move → Contents → Type 0
FillsMiss (Fills line way) c = (line < 2 ^ 28) × (found c line ≡ None)
FillsMiss _ c = ⊤

-- the cycles that a miss asks for
abbrev pub move_count : Move → ℕ
move_count (Misses line way count owner) = count
move_count _ = 0
