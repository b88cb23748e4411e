-- The move of the port reads of a store what its lanes hold, and so do the stores that stay.
use Rattle.std.proofs.Common.{◌≡◌, ℕ, ◌-◌, ◌/◌, Bool, true, false, List, [], ◌∷◌, ◌++◌, length, replicate, refl, sym, ap, ◌∙◌}
use Rattle.std.specs.Prelude.{Option, Some, None, ◌==◌, map, nat_lt, not, if◌then◌else◌}
use Rattle.std.specs.Option.{option_map}
use Rattle.std.proofs.lemmas.List.{map-append}
use Rattle.elf_load.specs.Image.{LoadedImage, word_in_ram}
use Rattle.rv_table.specs.declared.action.Action.{Action}
use Rattle.store_buf.specs.Entry.{Entry, no_entry}
use Rattle.store_buf.specs.Pending.{packed}
use Rattle.wb_cache.specs.Access.{found}
use Rattle.wb_cache.specs.Contents.{Contents}
use Rattle.cyc_machine.specs.Cycle.{event_by}
use Rattle.cyc_machine.specs.PortState.{PortState}
use Rattle.cyc_machine.specs.declared.port.Move.{Move}
use Rattle.cyc_machine.specs.declared.port.Move.TheVariants.{Rests, Reads, Drains, Misses, Waits, Leaves, Fills}
use Rattle.cyc_machine.specs.Memory.{appended, continues, drained_by, filled_by, kept_stores, move_of}
use Rattle.cyc_machine.specs.Memory.{owned_word, port_after, read_by, starts, stores_after, without_stray, word_read}
use Rattle.flush_view.specs.Ignored.{read_of_pending}
use Rattle.flush_view.proofs.Lockstep.Stores.{length-same, masked_entries, masked_entry}

-- a move whose store has the bytes of its lanes alone
abbrev pub masked_move : Move → Move
masked_move (Drains e way) = Drains (masked_entry e) way
masked_move v = v

-- ---- the move

read_by-masked : (c : Contents) (word : ℕ) (o : Option ℕ) → masked_move (read_by o c word) ≡ read_by o c word
read_by-masked c word (Some way) = refl
read_by-masked c word None = refl

drained_by-masked : (c : Contents) (e : Entry) (o : Option ℕ) → masked_move (drained_by o c e) ≡ drained_by o c (masked_entry e)
drained_by-masked c e (Some way) = refl
drained_by-masked c e None = refl

starts-masked : (c : Contents) (load : Option ℕ) (store : Option Entry)
    → masked_move (starts c load store) ≡ starts c load (option_map masked_entry store)
starts-masked c (Some word) store = read_by-masked c word (found c (word / 4))
starts-masked c None (Some e) = drained_by-masked c e (found c (e.addr / 4))
starts-masked c None None = refl

filled_by-masked : (c : Contents) (line : ℕ) (o : Option ℕ) → masked_move (filled_by o c line) ≡ filled_by o c line
filled_by-masked c line (Some way) = refl
filled_by-masked c line None = refl

continues-masked : (count : ℕ) (c : Contents) (o : Option ℕ) → masked_move (continues count c o) ≡ continues count c o
continues-masked count c None = refl
continues-masked count c (Some word) = go (nat_lt 1 count)
  where
    go : (b : Bool) → masked_move (if b then Waits else filled_by (found c (word / 4)) c (word / 4))
        ≡ (if b then Waits else filled_by (found c (word / 4)) c (word / 4))
    go true = refl
    go false = filled_by-masked c (word / 4) (found c (word / 4))

owned-masked : (owner : Bool) (load : Option ℕ) (store : Option Entry)
    → owned_word owner load (option_map masked_entry store) ≡ owned_word owner load store
owned-masked true load (Some e) = refl
owned-masked true load None = refl
owned-masked false load store = refl

pub move-masked : (port : PortState) (c : Contents) (load : Option ℕ) (store : Option Entry)
    → masked_move (move_of port c load store) ≡ move_of port c load (option_map masked_entry store)
unfolding move_of
move-masked port c load store = go (port.count == 0)
  where
    go : (b : Bool) → masked_move (if b then starts c load store else continues port.count c (owned_word port.owner load store))
        ≡ (if b then starts c load (option_map masked_entry store) else continues port.count c (owned_word port.owner load (option_map masked_entry store)))
    go true = starts-masked c load store
    go false =
        continues-masked port.count c (owned_word port.owner load store) ∙ ap (continues port.count c) (sym (owned-masked port.owner load store))

-- ---- what a cycle takes of it

port-masked : (v : Move) (port : PortState) → port_after (masked_move v) port ≡ port_after v port
unfolding port_after
port-masked Rests port = refl
port-masked (Reads word way) port = refl
port-masked (Drains e way) port = refl
port-masked (Misses line way count owner) port = refl
port-masked Waits port = refl
port-masked Leaves port = refl
port-masked (Fills line way) port = refl

word_read-masked : (v : Move) (c : Contents) → word_read (masked_move v) c ≡ word_read v c
unfolding word_read
word_read-masked Rests c = refl
word_read-masked (Reads word way) c = refl
word_read-masked (Drains e way) c = refl
word_read-masked (Misses line way count owner) c = refl
word_read-masked Waits c = refl
word_read-masked Leaves c = refl
word_read-masked (Fills line way) c = refl

event-masked : (v : Move) (m : Action) (cycle : ℕ) (c : Contents) → event_by (masked_move v) m cycle c ≡ event_by v m cycle c
event-masked Rests m cycle c = refl
event-masked (Reads word way) m cycle c = refl
event-masked (Drains e way) m cycle c = refl
event-masked (Misses line way count owner) m cycle c = refl
event-masked Waits m cycle c = refl
event-masked Leaves m cycle c = refl
event-masked (Fills line way) m cycle c = refl

stray-masked : (image : LoadedImage) (es : List Entry) → without_stray image (masked_entries es) ≡ masked_entries (without_stray image es)
stray-masked image [] = refl
stray-masked image (e ∷ es) = go (word_in_ram image e.addr)
  where
    go : (b : Bool) → (if (not b) then masked_entries es else (masked_entry e ∷ masked_entries es))
        ≡ masked_entries (if (not b) then es else (e ∷ es))
    go true = refl
    go false = refl

kept-masked : (image : LoadedImage) (v : Move) (es : List Entry)
    → kept_stores image (masked_move v) (masked_entries es) ≡ masked_entries (kept_stores image v es)
kept-masked image (Drains e way) [] = refl
kept-masked image (Drains e way) (x ∷ es) = refl
kept-masked image Rests es = stray-masked image es
kept-masked image (Reads word way) es = stray-masked image es
kept-masked image (Misses line way count owner) es = stray-masked image es
kept-masked image Waits es = stray-masked image es
kept-masked image Leaves es = stray-masked image es
kept-masked image (Fills line way) es = stray-masked image es

-- a free slot is all zero
abbrev freed : Entry → Entry
freed e = if e.mask == 0 then no_entry else e

freed-masked : (es : List Entry) → map read_of_pending es ≡ map freed (masked_entries es)
freed-masked [] = refl
freed-masked (e ∷ es) = ap (λ (xs : List Entry). read_of_pending e ∷ xs) (freed-masked es)

-- the slots that hold a list of stores
packed-read : (es : List Entry)
    → map read_of_pending (packed es) ≡ map freed (masked_entries es) ++ map read_of_pending (replicate (4 - length es) no_entry)
packed-read es =
    map-append read_of_pending es (replicate (4 - length es) no_entry)
    ∙ ap (λ (xs : List Entry). xs ++ map read_of_pending (replicate (4 - length es) no_entry)) (freed-masked es)

packed-same : (es others : List Entry) → masked_entries es ≡ masked_entries others
    → map read_of_pending (packed es) ≡ map read_of_pending (packed others)
packed-same es others same =
    packed-read es
    ∙ ap (λ (xs : List Entry). map freed xs ++ map read_of_pending (replicate (4 - length es) no_entry)) same
    ∙ ap (λ (n : ℕ). map freed (masked_entries others) ++ map read_of_pending (replicate (4 - n) no_entry)) (length-same es others same)
    ∙ sym (packed-read others)

-- where the moves are the same but for ignored bytes
module _ (v w : Move) (same : masked_move v ≡ masked_move w) where
  pub port-same : (port : PortState) → port_after v port ≡ port_after w port
  port-same port = sym (port-masked v port) ∙ ap (λ x. port_after x port) same ∙ port-masked w port

  pub word_read-same : (c : Contents) → word_read v c ≡ word_read w c
  word_read-same c = sym (word_read-masked v c) ∙ ap (λ x. word_read x c) same ∙ word_read-masked w c

  pub event-same : (m : Action) (cycle : ℕ) (c : Contents) → event_by v m cycle c ≡ event_by w m cycle c
  event-same m cycle c = sym (event-masked v m cycle c) ∙ ap (λ x. event_by x m cycle c) same ∙ event-masked w m cycle c

  -- the next stores
  pub stores-same : (image : LoadedImage) (m : Action) (es others : List Entry) → masked_entries es ≡ masked_entries others
      → map read_of_pending (packed (stores_after image m v es)) ≡ map read_of_pending (packed (stores_after image m w others))
  unfolding stores_after
  stores-same image m es others are = packed-same _ _ both
    where
      kept : masked_entries (kept_stores image v es) ≡ masked_entries (kept_stores image w others)
      kept =
          sym (kept-masked image v es) ∙ ap (λ x. kept_stores image x (masked_entries es)) same ∙ ap (kept_stores image (masked_move w)) are
          ∙ kept-masked image w others

      both : masked_entries (kept_stores image v es ++ appended image m (nat_lt (length es) 4))
          ≡ masked_entries (kept_stores image w others ++ appended image m (nat_lt (length others) 4))
      both =
          map-append masked_entry (kept_stores image v es) (appended image m (nat_lt (length es) 4))
          ∙ ap (λ (xs : List Entry). xs ++ masked_entries (appended image m (nat_lt (length es) 4))) kept
          ∙ ap (λ (n : ℕ). masked_entries (kept_stores image w others) ++ masked_entries (appended image m (nat_lt n 4))) (length-same es others are)
          ∙ sym (map-append masked_entry (kept_stores image w others) (appended image m (nat_lt (length others) 4)))
