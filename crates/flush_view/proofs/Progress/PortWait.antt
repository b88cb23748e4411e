-- How long the client that the port serves first has still to wait: each move that removes no pending store makes it less.
use Rattle.std.proofs.Common.{◌≡◌, ◌≤◌, ◌<◌, ◌+◌, ℕ, ◌/◌, Bool, true, false, List, length, arith, refl, ap, sym, ◌∙◌}
use Rattle.std.specs.Prelude.{⊤, Option, Some, None, ◌==◌, ◌&&◌, is_none, is_some, nat_lt, pred, if◌then◌else◌}
use Rattle.std.proofs.lemmas.Bool.Decides.{nat_tests}
use Rattle.elf_load.specs.Image.{LoadedImage, IsImage, ram_byte}
use Rattle.bit_field.specs.declared.shapes.Shape.{Shape}
use Rattle.store_buf.specs.Entry.{Entry}
use Rattle.wb_cache.specs.Access.{found}
use Rattle.wb_cache.specs.Contents.{Contents, IsSized, slots}
use Rattle.wb_cache.specs.Lookup.{set_of, way_of}
use Rattle.wb_cache.specs.Refill.{way_for}
use Rattle.wb_cache.proofs.Victims.{victim-below}
use Rattle.cyc_machine.specs.declared.port.Move.{Move}
use Rattle.cyc_machine.specs.declared.port.Move.TheVariants.{Rests, Reads, Drains, Misses, Waits, Leaves, Fills}
use Rattle.cyc_machine.specs.Memory.{cache_after, continues, drained_by, filled_by, move_of, owned_word, port_after, read_by, starts}
use Rattle.cyc_machine.specs.PortState.{PortState}
use Rattle.flush_view.proofs.Memory.Fill.{arrived-way, filled}
use Rattle.flush_view.proofs.Memory.MovedSlots.{slots-moved}
use Rattle.cyc_machine.proofs.ShapeKept.{shape-moved}
use Rattle.wb_cache.proofs.Ways.{Slots}

-- the word of the client that is served first
abbrev pub client : Option ℕ → Option Entry → Option ℕ
client (Some word) store = Some word
client None (Some e) = Some e.addr
client None None = None

abbrev pub hits : Contents → Option ℕ → Bool
hits c (Some word) = is_some (found c (word / 4))
hits c None = true

-- whether the owner of the port is that client
abbrev pub right : Bool → Option ℕ → Option Entry → Bool
right false load store = is_some load
right true load store = is_none load && is_some store

-- 17 before a miss, then the count, and 18 more where the port works for another
abbrev pub wait : ℕ → Bool → Bool → ℕ
wait count r hit = if count == 0 then (if hit then 0 else 17) else (if r then count else count + 18)

abbrev pub wait_of : PortState → Contents → Option ℕ → Option Entry → ℕ
wait_of port c load store = wait port.count (right port.owner load store) (hits c (client load store))

-- ---- what a move tells of the time

abbrev pub Timed : PortState → Contents → Option ℕ → Option Entry → Move → Type 0
Timed port c load store Rests = (port.count ≡ 0) × (load ≡ None) × (store ≡ None)
Timed port c load store (Reads word way) = ⊤
Timed port c load store (Drains e way) = store ≡ Some e
Timed port c load store (Misses line way count owner) =
    (port.count ≡ 0) × (0 < count) × (count ≤ 16) × (hits c (client load store) ≡ false) × (right owner load store ≡ true)
Timed port c load store Waits = 1 < port.count
Timed port c load store Leaves = (0 < port.count) × (right port.owner load store ≡ true → hits c (client load store) ≡ true)
Timed port c load store (Fills line way) =
    (0 < port.count) × (found c line ≡ None) × (way ≡ way_for c line)
    × (right port.owner load store ≡ true → (word : ℕ) × (client load store ≡ Some word) × (word / 4 ≡ line))

count_some : (b : Bool) → 0 < (if b then 16 else 8)
count_some b = grind (arith, nat_tests)

count_most : (b : Bool) → (if b then 16 else 8) ≤ 16
count_most b = grind (arith, nat_tests)

reads : (port : PortState) (c : Contents) (word : ℕ) (store : Option Entry) (o : Option ℕ) → found c (word / 4) ≡ o → port.count ≡ 0
    → Timed port c (Some word) store (read_by o c word)
reads port c word store (Some way) h z = tt
reads port c word store None h z = (z, count_some _, count_most _, ap is_some h, refl)

drains : (port : PortState) (c : Contents) (e : Entry) (o : Option ℕ) → found c (e.addr / 4) ≡ o → port.count ≡ 0
    → Timed port c None (Some e) (drained_by o c e)
drains port c e (Some way) h z = refl
drains port c e None h z = (z, count_some _, count_most _, ap is_some h, refl)

start : (port : PortState) (c : Contents) (load : Option ℕ) (store : Option Entry) → port.count ≡ 0 → Timed port c load store (starts c load store)
start port c (Some word) store z = reads port c word store (found c (word / 4)) refl z
start port c None (Some e) z = drains port c e (found c (e.addr / 4)) refl z
start port c None None z = (z, refl, refl)

-- the owner's word, where the owner is the client that is served first
owned : (b : Bool) (load : Option ℕ) (store : Option Entry) → right b load store ≡ true → owned_word b load store ≡ client load store
owned false (Some word) store h = refl
owned false None store h = absurd cc
owned true (Some word) store h = absurd cc
owned true None (Some e) h = refl
owned true None None h = absurd cc

none_owned : (b : Bool) (load : Option ℕ) (store : Option Entry) → owned_word b load store ≡ None → right b load store ≡ true → ⊥
none_owned false (Some word) store h r = absurd cc
none_owned false None store h r = absurd cc
none_owned true (Some word) store h r = absurd cc
none_owned true None (Some e) h r = absurd cc
none_owned true None None h r = absurd cc

hits_some : (c : Contents) (o : Option ℕ) (word way : ℕ) → o ≡ Some word → found c (word / 4) ≡ Some way → hits c o ≡ true
hits_some c o word way e h = rw (e, h) refl

fills : (port : PortState) (c : Contents) (load : Option ℕ) (store : Option Entry) (word : ℕ) (o : Option ℕ) → found c (word / 4) ≡ o → 0 < port.count
    → owned_word port.owner load store ≡ Some word → Timed port c load store (filled_by o c (word / 4))
fills port c load store word (Some way) h some own =
    (some, λ r. hits_some c (client load store) word way (sym (owned port.owner load store r) ∙ own) h)
fills port c load store word None h some own = (some, h, refl, λ r. (word, sym (owned port.owner load store r) ∙ own, refl))

waits : (port : PortState) (c : Contents) (load : Option ℕ) (store : Option Entry) (word : ℕ) (b : Bool) → nat_lt 1 port.count ≡ b → 0 < port.count
    → owned_word port.owner load store ≡ Some word → Timed port c load store (if b then Waits else filled_by (found c (word / 4)) c (word / 4))
waits port c load store word true h some own = grind (arith, nat_tests)
waits port c load store word false h some own = fills port c load store word (found c (word / 4)) refl some own

go_on : (port : PortState) (c : Contents) (load : Option ℕ) (store : Option Entry) (o : Option ℕ) → owned_word port.owner load store ≡ o
    → 0 < port.count
    → Timed port c load store (continues port.count c o)
go_on port c load store None own some = (some, λ r. absurd (none_owned port.owner load store own r))
go_on port c load store (Some word) own some = waits port c load store word (nat_lt 1 port.count) refl some own

pub timed : (port : PortState) (c : Contents) (load : Option ℕ) (store : Option Entry) → Timed port c load store (move_of port c load store)
unfolding move_of
timed port c load store = go (port.count == 0) refl
  where
    go : (b : Bool) → (port.count == 0) ≡ b → Timed port c load store
        (if b then starts c load store else continues port.count c (owned_word port.owner load store))
    go true h = start port c load store (grind (arith, nat_tests))
    go false h = go_on port c load store (owned_word port.owner load store) refl (grind (arith, nat_tests))

-- ---- the wait as a number

pub wait-below : (count : ℕ) (r h : Bool) → wait count r h ≤ count + 18
wait-below count r h = grind (arith, nat_tests)

wait-free : (r h : Bool) (n : ℕ) → wait 0 r h < n + 20
wait-free r h n = grind (arith, nat_tests)

wait-begun : (next count : ℕ) (s r h k : Bool) → count ≡ 0 → next ≤ 16 → k ≡ false → wait next s h < wait count r k + 20
wait-begun next count s r h k z most m = grind (arith, nat_tests)

wait-goes_on : (count : ℕ) (s r h k : Bool) → wait (pred count) s h < wait count r k + 20
wait-goes_on count s r h k = grind (arith, nat_tests)

wait-misses : (next count : ℕ) (s r h k : Bool) → count ≡ 0 → 0 < next → next ≤ 16 → k ≡ false → s ≡ true → wait next s h < wait count r k
wait-misses next count s r h k z some most m own = grind (arith, nat_tests)

wait-waits : (count : ℕ) (r h : Bool) → 1 < count → wait (pred count) r h < wait count r h
wait-waits count r h more = grind (arith, nat_tests)

wait-over : (count : ℕ) (r s h k : Bool) → 0 < count → (r ≡ true → k ≡ true) → wait 0 s k < wait count r h
wait-over count true s h k some hit = grind (arith, nat_tests, hit refl)
wait-over count false s h k some hit = grind (arith, nat_tests)

-- ---- the wait over a move

-- the moves that remove no store
abbrev pub IsPassive : Move → Type 0
IsPassive Rests = ⊥
IsPassive (Reads word way) = ⊥
IsPassive (Drains e way) = ⊥
IsPassive _ = ⊤

module _ (image : LoadedImage) (c : Contents) (memory : List ℕ) (is : IsImage image) (long : length memory ≡ length image.ram) (sized : IsSized c) where
  -- after the fill of a line it is found
  filled-way : (line way : ℕ) → found c line ≡ None → way ≡ way_for c line → found (cache_after image (Fills line way) memory c) line ≡ Some way
  filled-way line way miss own =
      found_as (cache_after image (Fills line way) memory c).shape c.shape (slots (cache_after image (Fills line way) memory c))
      (filled image c.shape line way (slots c) (ram_byte image memory)) (shape-moved image c memory (Fills line way))
      (slots-moved image c memory None None (Fills line way) is long sized (miss, own))
      ∙ arrived-way image c.shape line way (slots c) (ram_byte image memory) below miss
    where
      found_as : (shape other : Shape) (cache slot : Slots) → shape ≡ other → cache ≡ slot → way_of shape cache line ≡ way_of other slot line
      found_as shape other cache slot e f = rw (e, f) refl

      below : way < c.shape.ways
      below = rw own (victim-below c.shape (slots c) c.nodes (set_of c.shape line) sized.shape)

  filled-hits : (line way : ℕ) (o : Option ℕ) → found c line ≡ None → way ≡ way_for c line → (word : ℕ) × (o ≡ Some word) × (word / 4 ≡ line)
      → hits (cache_after image (Fills line way) memory c) o ≡ true
  filled-hits line way o miss own at =
      hits_some (cache_after image (Fills line way) memory c) o at.0 way at.1
      (ap (found (cache_after image (Fills line way) memory c)) at.2 ∙ filled-way line way miss own)

  -- the same client of a move that removes no store
  pub falls : (port : PortState) (load : Option ℕ) (store : Option Entry) (v : Move) → Timed port c load store v → IsPassive v
      → wait_of (port_after v port) (cache_after image v memory c) load store < wait_of port c load store
  unfolding port_after cache_after
  falls port load store Rests t p = absurd p
  falls port load store (Reads word way) t p = absurd p
  falls port load store (Drains e way) t p = absurd p
  falls port load store (Misses line way count owner) t p = wait-misses count port.count _ _ _ _ t.0 t.1 t.2 t.3 t.4
  falls port load store Waits t p = wait-waits port.count _ _ t
  falls port load store Leaves t p = wait-over port.count (right port.owner load store) true _ _ t.0 t.1
  falls port load store (Fills line way) t p =
      wait-over port.count (right port.owner load store) true _ _ t.0 (λ r. filled-hits line way (client load store) t.1 t.2 (t.3 r))

  -- any client after any move
  pub bounded : (port : PortState) (load other : Option ℕ) (store behind : Option Entry) (v : Move) → Timed port c load store v
      → wait_of (port_after v port) (cache_after image v memory c) other behind < wait_of port c load store + 20
  unfolding port_after
  bounded port load other store behind Rests t = wait-free true _ _
  bounded port load other store behind (Reads word way) t = wait-free true _ _
  bounded port load other store behind (Drains e way) t = wait-free true _ _
  bounded port load other store behind (Misses line way count owner) t = wait-begun count port.count _ _ _ _ t.0 t.2 t.3
  bounded port load other store behind Waits t = wait-goes_on port.count _ _ _ _
  bounded port load other store behind Leaves t = wait-free true _ _
  bounded port load other store behind (Fills line way) t = wait-free true _ _
