-- A busy port works for a client that is there and whose line is missing: a cycle keeps that.
use Rattle.std.proofs.Common.{◌≡◌, ◌≢◌, ℕ, zero, suc, ◌/◌, Bool, true, false, List, ◌++◌, length, arith, refl, ap, ◌∙◌, subst}
use Rattle.std.specs.Prelude.{⊤, Option, Some, None, ◌==◌, nat_lt, if◌then◌else◌}
use Rattle.std.proofs.lemmas.Bool.Decides.{nat_tests}
use Rattle.bit_field.specs.declared.shapes.Shape.{Shape}
use Rattle.elf_load.specs.Image.{LoadedImage}
use Rattle.pipe_latch.specs.Latches.{ExecutedLatch}
use Rattle.pipe_latch.specs.LatchedActions.{action_of}
use Rattle.store_buf.specs.Entry.{Entry}
use Rattle.store_buf.specs.Pending.{pending}
use Rattle.wb_cache.specs.Access.{found}
use Rattle.wb_cache.specs.Contents.{Contents}
use Rattle.cyc_machine.specs.declared.port.Move.{Move}
use Rattle.cyc_machine.specs.declared.port.Move.TheVariants.{Rests, Reads, Drains, Misses, Waits, Leaves, Fills}
use Rattle.cyc_machine.specs.Cycle.{action_in_m, cycle, cycled, move, served_m}
use Rattle.cyc_machine.specs.Memory.{appended, cache_after, continues, drained_by, filled_by, load_client, move_of, owned_word}
use Rattle.cyc_machine.specs.Memory.{port_after, read_by, served, starts, store_client, stores_after, without_stray, word_of_entry, word_read}
use Rattle.cyc_machine.specs.PortState.{PortState}
use Rattle.cyc_machine.specs.Run.{state_after, state_at}
use Rattle.cyc_machine.specs.State.{State, reset}
use Rattle.cyc_machine.specs.Busy.{WorksForMiss}
use Rattle.flush_view.proofs.Run.Clients.{load-stays, m-stays, not-served, store-stays}
use Rattle.cyc_machine.proofs.PendingNext.{pending-after}

-- ---- what a miss tells

-- the owner of a miss asks for a word whose line is missing
abbrev Asks : Contents → Option ℕ → Option Entry → Move → Type 0
Asks c load store (Misses line way count owner) = (word : ℕ) × (owned_word owner load store ≡ Some word) × (found c (word / 4) ≡ None)
Asks c load store _ = ⊤

reads : (c : Contents) (word : ℕ) (store : Option Entry) (o : Option ℕ) → found c (word / 4) ≡ o → Asks c (Some word) store (read_by o c word)
reads c word store (Some way) h = tt
reads c word store None h = (word, refl, h)

drains : (c : Contents) (e : Entry) (o : Option ℕ) → found c (e.addr / 4) ≡ o → Asks c None (Some e) (drained_by o c e)
drains c e (Some way) h = tt
drains c e None h = (e.addr, refl, h)

start : (c : Contents) (load : Option ℕ) (store : Option Entry) → Asks c load store (starts c load store)
start c (Some word) store = reads c word store (found c (word / 4)) refl
start c None (Some e) = drains c e (found c (e.addr / 4)) refl
start c None None = tt

fills : (c : Contents) (load : Option ℕ) (store : Option Entry) (line : ℕ) (o : Option ℕ) → Asks c load store (filled_by o c line)
fills c load store line (Some way) = tt
fills c load store line None = tt

go_on : (count : ℕ) (c : Contents) (load : Option ℕ) (store : Option Entry) (owned : Option ℕ) → Asks c load store (continues count c owned)
go_on count c load store None = tt
go_on count c load store (Some word) = go (nat_lt 1 count)
  where
    go : (b : Bool) → Asks c load store (if b then Waits else filled_by (found c (word / 4)) c (word / 4))
    go true = tt
    go false = fills c load store (word / 4) (found c (word / 4))

asks : (port : PortState) (c : Contents) (load : Option ℕ) (store : Option Entry) → Asks c load store (move_of port c load store)
unfolding move_of
asks port c load store = go (port.count == 0)
  where
    go : (b : Bool) → Asks c load store (if b then starts c load store else continues port.count c (owned_word port.owner load store))
    go true = start c load store
    go false = go_on port.count c load store (owned_word port.owner load store)

-- ---- one cycle

module _ (s : State) where
  abbrev stores : List Entry
  stores = pending s.stores

  -- the stores after a cycle in which the port does v
  abbrev later : Move → List Entry
  later v = stores_after s.image (action_in_m s) v stores

  -- a move that reads and drains nothing
  abbrev IsWaiting : Move → Type 0
  IsWaiting v = (word_read v s.cache ≡ None) × (later v ≡ without_stray s.image stores ++ appended s.image (action_in_m s) (nat_lt (length stores) 4))

  stores-next : (v : Move) → move s ≡ v → IsWaiting v → pending (cycle s).stores
      ≡ without_stray s.image stores ++ appended s.image (action_in_m s) (nat_lt (length stores) 4)
  unfolding cycled
  stores-next v e waits = pending-after s.image (action_in_m s) (move s) s.stores ∙ ap later e ∙ waits.1

  load-next : (v : Move) (word : ℕ) → move s ≡ v → IsWaiting v → load_client s.image (action_in_m s) stores ≡ Some word
      → load_client s.image (action_in_m (cycle s)) (pending (cycle s).stores) ≡ Some word
  unfolding cycled
  load-next v word e waits h =
      let read : word_read (move s) s.cache ≡ None = ap (λ (w : Move). word_read w s.cache) e ∙ waits.0 in
      let goes : (served_m s).goes ≡ false =
      ap (λ (r : Option ℕ). (served s.image (action_in_m s) stores r).goes) read ∙ not-served s.image (action_in_m s) stores word h in
      ap (λ (m : ExecutedLatch). load_client s.image (action_of m) (pending (cycle s).stores))
      (m-stays s.image s.d s.npc (action_in_m s) s.w (served_m s).goes s.cycle s.issued s.m goes)
      ∙ ap (load_client s.image (action_in_m s)) (stores-next v e waits)
      ∙ load-stays s.image (action_in_m s) (nat_lt (length stores) 4) word stores h

  client-next : (v : Move) (owner : Bool) (word : ℕ) → move s ≡ v → IsWaiting v
      → owned_word owner (load_client s.image (action_in_m s) stores) (store_client s.image stores) ≡ Some word
      → owned_word owner (load_client s.image (action_in_m (cycle s)) (pending (cycle s).stores)) (store_client s.image (pending (cycle s).stores))
      ≡ Some word
  client-next v true word e waits h =
      ap (λ (es : List Entry). word_of_entry (store_client s.image es)) (stores-next v e waits) ∙ store-stays s.image stores _ word h
  client-next v false word e waits h = load-next v word e waits h

  by_move : (v : Move) → move s ≡ v → (s.port.count ≢ 0 → WorksForMiss s) → (port_after v s.port).count ≢ 0 → WorksForMiss (cycle s)
  unfolding port_after cycled cache_after word_read stores_after
  by_move (Misses line way count owner) e works busy =
      let asked =
      subst (Asks s.cache (load_client s.image (action_in_m s) stores) (store_client s.image stores)) e
      (asks s.port s.cache (load_client s.image (action_in_m s) stores) (store_client s.image stores)) in
      record {
        word = asked.0;
        client =
            ap (λ (v : Move). owned_word (port_after v s.port).owner (load_client s.image (action_in_m (cycle s)) (pending (cycle s).stores))
            (store_client s.image (pending (cycle s).stores))) e ∙ client-next (Misses line way count owner) owner asked.0 e (refl, refl) asked.1;
        missing = ap (λ (v : Move). found (cache_after s.image v s.memory s.cache) (asked.0 / 4)) e ∙ asked.2;
      }
  by_move Waits e works busy =
      let before = works (λ idle. busy (grind (arith, nat_tests))) in
      record {
        word = before.word;
        client =
            ap (λ (v : Move). owned_word (port_after v s.port).owner (load_client s.image (action_in_m (cycle s)) (pending (cycle s).stores))
            (store_client s.image (pending (cycle s).stores))) e ∙ client-next Waits s.port.owner before.word e (refl, refl) before.client;
        missing = ap (λ (v : Move). found (cache_after s.image v s.memory s.cache) (before.word / 4)) e ∙ before.missing;
      }
  by_move Rests e works busy = absurd (busy refl)
  by_move (Reads word way) e works busy = absurd (busy refl)
  by_move (Drains d way) e works busy = absurd (busy refl)
  by_move Leaves e works busy = absurd (busy refl)
  by_move (Fills line way) e works busy = absurd (busy refl)

pub busy-next : (s : State) → (s.port.count ≢ 0 → WorksForMiss s) → ((cycle s).port.count ≢ 0 → WorksForMiss (cycle s))
unfolding cycled
busy-next s works busy = by_move s (move s) refl works busy

pub busy-reset : (image : LoadedImage) (shape : Shape) → (reset image shape).port.count ≢ 0 → WorksForMiss (reset image shape)
unfolding reset
busy-reset image shape busy = absurd (busy refl)

-- so each state of a run from reset has it
pub busy-at : (image : LoadedImage) (shape : Shape) (t : ℕ) → (state_at image shape t).port.count ≢ 0 → WorksForMiss (state_at image shape t)
unfolding state_after
busy-at image shape zero busy = busy-reset image shape busy
busy-at image shape (suc t) busy = busy-next (state_at image shape t) (busy-at image shape t) busy
