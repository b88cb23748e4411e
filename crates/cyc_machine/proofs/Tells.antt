-- What a move of the port tells of the clients and of the cache.
use Rattle.std.proofs.Common.{◌≡◌, ℕ, ◌/◌, Bool, true, false, List, [], ◌∷◌, refl}
use Rattle.std.specs.Prelude.{⊤, Option, Some, None, ◌==◌, nat_lt, if◌then◌else◌}
use Rattle.elf_load.specs.Image.{LoadedImage, word_in_ram}
use Rattle.store_buf.specs.Entry.{Entry}
use Rattle.store_buf.specs.Pending.{oldest}
use Rattle.wb_cache.specs.Access.{found}
use Rattle.wb_cache.specs.Contents.{Contents}
use Rattle.wb_cache.specs.Refill.{way_for}
use Rattle.cyc_machine.specs.declared.port.Move.{Move}
use Rattle.cyc_machine.specs.declared.port.Move.TheVariants.{Reads, Drains, Misses, Waits, Fills}
use Rattle.cyc_machine.specs.Memory.{continues, drained_by, filled_by, move_of, owned_word, read_by, starts, store_client}
use Rattle.cyc_machine.specs.PortState.{PortState}

-- what holds of a move in a cycle, given the cache, the word that the load client asks for and the store client
abbrev pub Tells : Contents → Option ℕ → Option Entry → Move → Type 0
Tells c load store (Reads word way) = (load ≡ Some word) × (found c (word / 4) ≡ Some way)
Tells c load store (Drains e way) = (store ≡ Some e) × (found c (e.addr / 4) ≡ Some way)
Tells c load store (Misses line way count owner) = (found c line ≡ None) × (way ≡ way_for c line)
Tells c load store (Fills line way) = (found c line ≡ None) × (way ≡ way_for c line)
Tells c load store _ = ⊤

reads : (c : Contents) (word : ℕ) (store : Option Entry) (o : Option ℕ) → found c (word / 4) ≡ o → Tells c (Some word) store (read_by o c word)
reads c word store (Some way) h = (refl, h)
reads c word store None h = (h, refl)

drains : (c : Contents) (e : Entry) (o : Option ℕ) → found c (e.addr / 4) ≡ o → Tells c None (Some e) (drained_by o c e)
drains c e (Some way) h = (refl, h)
drains c e None h = (h, refl)

start : (c : Contents) (load : Option ℕ) (store : Option Entry) → Tells c load store (starts c load store)
start c (Some word) store = reads c word store (found c (word / 4)) refl
start c None (Some e) = drains c e (found c (e.addr / 4)) refl
start c None None = tt

fills : (c : Contents) (load : Option ℕ) (store : Option Entry) (line : ℕ) (o : Option ℕ) → found c line ≡ o → Tells c load store (filled_by o c line)
fills c load store line (Some way) h = tt
fills c load store line None h = (h, refl)

waits : (c : Contents) (load : Option ℕ) (store : Option Entry) (word : ℕ) (b : Bool)
    → Tells c load store (if b then Waits else filled_by (found c (word / 4)) c (word / 4))
waits c load store word true = tt
waits c load store word false = fills c load store (word / 4) (found c (word / 4)) refl

go_on : (count : ℕ) (c : Contents) (load : Option ℕ) (store : Option Entry) (owned : Option ℕ) → Tells c load store (continues count c owned)
go_on count c load store None = tt
go_on count c load store (Some word) = waits c load store word (nat_lt 1 count)

pub tells : (port : PortState) (c : Contents) (load : Option ℕ) (store : Option Entry) → Tells c load store (move_of port c load store)
unfolding move_of
tells port c load store = go (port.count == 0)
  where
    go : (b : Bool) → Tells c load store (if b then starts c load store else continues port.count c (owned_word port.owner load store))
    go true = start c load store
    go false = go_on port.count c load store (owned_word port.owner load store)

-- the store client is the oldest pending store, in RAM
pub client-oldest : (image : LoadedImage) (stores : List Entry) (e : Entry) → store_client image stores ≡ Some e → oldest stores ≡ Some e
unfolding store_client
client-oldest image [] e h = absurd cc
client-oldest image (a ∷ stores) e h = go (word_in_ram image a.addr) h
  where
    go : (b : Bool) → (if b then Some a else None) ≡ Some e → Some a ≡ Some e
    go true h = h
    go false h = absurd cc
