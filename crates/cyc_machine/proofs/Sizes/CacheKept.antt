-- A cycle keeps the lengths of the cache's lists and of main memory, and bytes in both.
use Rattle.std.proofs.Common.{◌≡◌, ℕ, ◌^◌, ◌<◌, ◌/◌, Bool, true, false, List, [], ◌∷◌, length, arith, refl}
use Rattle.std.specs.Prelude.{⊤, Option, Some, None, IfSome, ◌==◌, nat_lt, if◌then◌else◌}
use Rattle.std.proofs.lemmas.List.Elements.{All-from_get_or}
use Rattle.elf_load.specs.Image.{LoadedImage, IsImage, word_in_ram}
use Rattle.elf_load.proofs.InRam.{word_in_ram-below}
use Rattle.rv_table.specs.Accesses.{lane_mask, load_size}
use Rattle.rv_table.specs.declared.action.Action.{Action}
use Rattle.rv_table.specs.declared.action.Action.TheVariants.{Nothing, Writes, Loads, Stores, Puts, Exits, Traps}
use Rattle.rv_table.specs.declared.operation.LoadKind.{LoadKind}
use Rattle.store_buf.specs.Covers.{covered}
use Rattle.store_buf.specs.Entry.{Entry}
use Rattle.store_buf.specs.Pending.{pending}
use Rattle.store_buf.specs.declared.cover.Cover.{Cover}
use Rattle.store_buf.specs.declared.cover.Cover.TheVariants.{Full, Part, None as Uncovered}
use Rattle.wb_cache.specs.Access.{found}
use Rattle.wb_cache.specs.Contents.{Contents, IsContents, IsSized, AreBytes}
use Rattle.wb_cache.proofs.Calls.{length-after_refill}
use Rattle.wb_cache.proofs.Kept.{bytes-after_read, bytes-after_refill, bytes-after_write, contents-after_read, contents-after_refill, contents-after_write}
use Rattle.wb_cache.proofs.Kept.{memory-bytes-after_refill, sized-after_read, sized-after_refill, sized-after_write}
use Rattle.cyc_machine.specs.declared.port.Move.{Move}
use Rattle.cyc_machine.specs.declared.port.Move.TheVariants.{Rests, Reads, Drains, Misses, Waits, Leaves, Fills}
use Rattle.cyc_machine.specs.Cycle.{action_in_m, cycle, cycled, move}
use Rattle.cyc_machine.specs.Memory.{asked_word, cache_after, continues, drained_by, filled_by, load_client, memory_after, move_of, owned_word, read_by}
use Rattle.cyc_machine.specs.Memory.{starts, store_client, uncovered_word}
use Rattle.cyc_machine.specs.PortState.{PortState}
use Rattle.cyc_machine.specs.State.{State}

pub cache_after-sized : (image : LoadedImage) (v : Move) (memory : List ℕ) (c : Contents) → IsImage image → length memory ≡ length image.ram → IsSized c
    → IsSized (cache_after image v memory c)
unfolding cache_after
cache_after-sized image Rests memory c is long sized = sized
cache_after-sized image (Reads word way) memory c is long sized = sized-after_read c _ sized
cache_after-sized image (Drains e way) memory c is long sized = sized-after_write c _ _ e.mask e.value sized
cache_after-sized image (Misses line way count owner) memory c is long sized = sized
cache_after-sized image Waits memory c is long sized = sized
cache_after-sized image Leaves memory c is long sized = sized
cache_after-sized image (Fills line way) memory c is long sized = sized-after_refill image line memory c is long sized

pub memory_after-long : (image : LoadedImage) (v : Move) (c : Contents) (memory : List ℕ) → IsImage image → length memory ≡ length image.ram → IsSized c
    → length (memory_after image v c memory) ≡ length image.ram
unfolding memory_after
memory_after-long image Rests c memory is long sized = long
memory_after-long image (Reads word way) c memory is long sized = long
memory_after-long image (Drains e way) c memory is long sized = long
memory_after-long image (Misses line way count owner) c memory is long sized = long
memory_after-long image Waits c memory is long sized = long
memory_after-long image Leaves c memory is long sized = long
memory_after-long image (Fills line way) c memory is long sized = length-after_refill image line memory c is long sized

pub ram-bytes : (image : LoadedImage) → IsImage image → AreBytes image.ram
ram-bytes image is = All-from_get_or (λ b. b < 2 ^ 8) image.ram 0 (λ k l. is.bytes k)

pub cache_after-bytes : (image : LoadedImage) (v : Move) (memory : List ℕ) (c : Contents) → AreBytes c.bytes → AreBytes memory
    → AreBytes (cache_after image v memory c).bytes
unfolding cache_after
cache_after-bytes image Rests memory c h l = h
cache_after-bytes image (Reads word way) memory c h l = bytes-after_read c _ h
cache_after-bytes image (Drains e way) memory c h l = bytes-after_write c _ _ e.mask e.value h
cache_after-bytes image (Misses line way count owner) memory c h l = h
cache_after-bytes image Waits memory c h l = h
cache_after-bytes image Leaves memory c h l = h
cache_after-bytes image (Fills line way) memory c h l = bytes-after_refill image line memory c h (memory-bytes-after_refill image line c memory h l)

pub memory_after-bytes : (image : LoadedImage) (v : Move) (c : Contents) (memory : List ℕ) → AreBytes c.bytes → AreBytes memory
    → AreBytes (memory_after image v c memory)
unfolding memory_after
memory_after-bytes image Rests c memory h l = l
memory_after-bytes image (Reads word way) c memory h l = l
memory_after-bytes image (Drains e way) c memory h l = l
memory_after-bytes image (Misses line way count owner) c memory h l = l
memory_after-bytes image Waits c memory h l = l
memory_after-bytes image Leaves c memory h l = l
memory_after-bytes image (Fills line way) c memory h l = memory-bytes-after_refill image line c memory h l

-- ---- tags

-- a line that is filled is the one that holds a client's word
abbrev FillsBelow : Move → Type 0
FillsBelow (Fills line way) = line < 2 ^ 28
FillsBelow _ = ⊤

start-below : (c : Contents) (load : Option ℕ) (store : Option Entry) → FillsBelow (starts c load store)
start-below c (Some word) store = go (found c (word / 4))
  where
    go : (o : Option ℕ) → FillsBelow (read_by o c word)
    go (Some way) = tt
    go None = tt
start-below c None (Some e) = go (found c (e.addr / 4))
  where
    go : (o : Option ℕ) → FillsBelow (drained_by o c e)
    go (Some way) = tt
    go None = tt
start-below c None None = tt

finish-below : (c : Contents) (word : ℕ) (o : Option ℕ) → word < 2 ^ 30 → FillsBelow (filled_by o c (word / 4))
finish-below c word (Some way) h = tt
finish-below c word None h = omega arith

waits-below : (c : Contents) (word : ℕ) (b : Bool) → word < 2 ^ 30 → FillsBelow (if b then Waits else filled_by (found c (word / 4)) c (word / 4))
waits-below c word true h = tt
waits-below c word false h = finish-below c word (found c (word / 4)) h

continues-below : (count : ℕ) (c : Contents) (o : Option ℕ) → IfSome o (λ word. word < 2 ^ 30) → FillsBelow (continues count c o)
continues-below count c (Some word) h = waits-below c word (nat_lt 1 count) h
continues-below count c None h = tt

owned-below : (owner : Bool) (load : Option ℕ) (store : Option Entry) → IfSome load (λ word. word < 2 ^ 30) → IfSome store (λ e. e.addr < 2 ^ 30)
    → IfSome (owned_word owner load store) (λ word. word < 2 ^ 30)
owned-below true load (Some e) h g = g
owned-below true load None h g = tt
owned-below false load store h g = h

move-below : (port : PortState) (c : Contents) (load : Option ℕ) (store : Option Entry) → IfSome load (λ word. word < 2 ^ 30)
    → IfSome store (λ e. e.addr < 2 ^ 30)
    → FillsBelow (move_of port c load store)
unfolding move_of
move-below port c load store h g = go (port.count == 0)
  where
    go : (b : Bool) → FillsBelow (if b then starts c load store else continues port.count c (owned_word port.owner load store))
    go true = start-below c load store
    go false = continues-below port.count c (owned_word port.owner load store) (owned-below port.owner load store h g)

uncovered-below : (cover : Cover) (word : ℕ) → word < 2 ^ 30 → IfSome (uncovered_word cover word) (λ word. word < 2 ^ 30)
uncovered-below Uncovered word h = h
uncovered-below Part word h = tt
uncovered-below (Full value) word h = tt

asked-below : (image : LoadedImage) (kind : LoadKind) (x : ℕ) (stores : List Entry) → IsImage image
    → IfSome (asked_word image kind x stores) (λ word. word < 2 ^ 30)
unfolding asked_word
asked-below image kind x stores is = go (word_in_ram image (x / 4)) refl
  where
    go : (b : Bool) → word_in_ram image (x / 4) ≡ b
        → IfSome (if b then uncovered_word (covered stores (x / 4) (lane_mask (load_size kind) x)) (x / 4) else None) (λ word. word < 2 ^ 30)
    go true h = uncovered-below (covered stores (x / 4) (lane_mask (load_size kind) x)) (x / 4) (word_in_ram-below image (x / 4) is h)
    go false h = tt

load-below : (image : LoadedImage) (m : Action) (stores : List Entry) → IsImage image → IfSome (load_client image m stores) (λ word. word < 2 ^ 30)
unfolding load_client
load-below image (Loads kind rd x) stores is = asked-below image kind x stores is
load-below image Nothing stores is = tt
load-below image (Writes rd value) stores is = tt
load-below image (Stores kind x y) stores is = tt
load-below image (Puts value) stores is = tt
load-below image (Exits value) stores is = tt
load-below image (Traps cause) stores is = tt

store-below : (image : LoadedImage) (stores : List Entry) → IsImage image → IfSome (store_client image stores) (λ e. e.addr < 2 ^ 30)
unfolding store_client
store-below image [] is = tt
store-below image (e ∷ stores) is = go (word_in_ram image e.addr) refl
  where
    go : (b : Bool) → word_in_ram image e.addr ≡ b → IfSome (if b then Some e else None) (λ e. e.addr < 2 ^ 30)
    go true h = word_in_ram-below image e.addr is h
    go false h = tt

contents-by : (image : LoadedImage) (v : Move) (memory : List ℕ) (c : Contents) → IsImage image → length memory ≡ length image.ram → AreBytes memory
    → FillsBelow v → IsContents c
    → IsContents (cache_after image v memory c)
unfolding cache_after
contents-by image Rests memory c is long bytes below h = h
contents-by image (Reads word way) memory c is long bytes below h = contents-after_read c _ h
contents-by image (Drains e way) memory c is long bytes below h = contents-after_write c _ _ e.mask e.value h
contents-by image (Misses line way count owner) memory c is long bytes below h = h
contents-by image Waits memory c is long bytes below h = h
contents-by image Leaves memory c is long bytes below h = h
contents-by image (Fills line way) memory c is long bytes below h =
    contents-after_refill image line memory c is long (memory-bytes-after_refill image line c memory h.bytes bytes) below h

-- a cycle keeps the contents' lengths, bytes and tags
pub contents-next : (s : State) → IsImage s.image → length s.memory ≡ length s.image.ram → AreBytes s.memory → IsContents s.cache → IsContents (cycle s).cache
unfolding cycled
contents-next s is long bytes h =
    contents-by s.image (move s) s.memory s.cache is long bytes
    (move-below s.port s.cache (load_client s.image (action_in_m s) (pending s.stores)) (store_client s.image (pending s.stores))
    (load-below s.image (action_in_m s) (pending s.stores) is) (store-below s.image (pending s.stores) is))
    h
