-- What a done action gives its register, by the view.
use Rattle.std.proofs.Common.{◌≡◌, ℕ, ◌+◌, ◌*◌, ◌/◌, ◌%◌, ◌<◌}
use Rattle.std.proofs.Common.{Bool, true, false, cond, List, arith, refl, sym, ap, ◌∙◌}
use Rattle.std.specs.Prelude.{Option, Some, None, if◌then◌else◌}
use Rattle.std.specs.Option.{option_map}
use Rattle.std.proofs.lemmas.Bool.{true≢false}
use Rattle.elf_load.specs.Image.{in_ram, word_in_ram, ram_byte}
use Rattle.elf_load.proofs.InRam.{in_ram-word}
use Rattle.rv_isa.specs.Instruction.{given}
use Rattle.rv_table.specs.Accesses.{accesses, byte_of, lane_mask, load_size, loaded}
use Rattle.rv_table.specs.declared.action.Action.{Action}
use Rattle.rv_table.specs.declared.action.Action.TheVariants.{Nothing, Writes, Loads, Stores, Puts, Exits, Traps}
use Rattle.rv_table.specs.declared.operation.LoadKind.{LoadKind}
use Rattle.rv_table.proofs.Loads.{loaded-same, same_word}
use Rattle.store_buf.specs.Covers.{all_found, covered, none_found, word_found}
use Rattle.store_buf.specs.Entry.{Entry}
use Rattle.store_buf.specs.Pending.{pending}
use Rattle.store_buf.specs.declared.cover.Cover.{Cover}
use Rattle.store_buf.specs.declared.cover.Cover.TheVariants.{Full, Part, None as Uncovered}
use Rattle.wb_cache.specs.Access.{found, word_at, word_of}
use Rattle.wb_cache.specs.Contents.{Contents, slots, AreBytes}
use Rattle.wb_cache.specs.Lookup.{set_of, way_of}
use Rattle.wb_cache.proofs.Bytes.{slot_byte-below}
use Rattle.wb_cache.proofs.Lanes.{lane-word_at}
use Rattle.cyc_machine.specs.declared.port.Move.{Move}
use Rattle.cyc_machine.specs.declared.port.Move.TheVariants.{Rests, Reads, Drains, Misses, Waits, Leaves, Fills}
use Rattle.cyc_machine.specs.Cycle.{action_in_m, move, served_m}
use Rattle.cyc_machine.specs.Memory.{asked_word, covered_value, load_client, load_value, loaded_of, served, served_by, store_client, word_read}
use Rattle.cyc_machine.specs.State.{State}
use Rattle.flush_view.specs.Views.{byte_in, cached, overlaid, view}
use Rattle.flush_view.proofs.Memory.Loads.{covered-byte, uncovered-byte}
use Rattle.cyc_machine.proofs.Tells.{Tells, tells}
use Rattle.cyc_machine.proofs.LoadedLanes.{lane-byte}
use Rattle.cyc_machine.specs.Sizes.{IsSteady}

-- ---- the word that the port reads

word_read-is : (c : Contents) (line word way v : ℕ) → found c line ≡ Some way → word_of c line word ≡ Some v
    → v ≡ word_at (slots c (set_of c.shape line) way) word
unfolding word_of
word_read-is c line word way v hit e =
    the_word v (word_at (slots c (set_of c.shape line) way) word) (sym e ∙ ap (option_map (λ w. word_at (slots c (set_of c.shape line) w) word)) hit)
  where
    the_word : (a b : ℕ) → Some a ≡ Some b → a ≡ b
    the_word a b e = cc

read-byte : (c : Contents) (ram : ℕ → ℕ) (word way v p : ℕ) → AreBytes c.bytes → found c (word / 4) ≡ Some way
    → word_of c (word / 4) (word % 4) ≡ Some v
    → p / 4 ≡ word → byte_of v (p % 4) ≡ cached c.shape ram (slots c) p
unfolding cached
read-byte c ram word way v p is hit e at =
    let line : p / 16 ≡ word / 4 = omega arith in
    let lane : p % 4 < 4 = omega arith in
    let there : 4 * (word % 4) + p % 4 ≡ p % 16 = omega arith in
    ap (λ n. byte_of n (p % 4)) (word_read-is c (word / 4) (word % 4) way v hit e)
    ∙ sym (lane-byte (word_at (slots c (set_of c.shape (word / 4)) way) (word % 4)) (p % 4) lane)
    ∙ lane-word_at (slots c (set_of c.shape (word / 4)) way) (word % 4) (p % 4) (λ o. slot_byte-below c (set_of c.shape (word / 4)) way o is) lane
    ∙ ap (slots c (set_of c.shape (word / 4)) way).bytes there
    ∙ ap (λ l. (slots c (set_of c.shape l) way).bytes (p % 16)) (sym line)
    ∙ sym (ap (λ (o : Option ℕ). byte_in o (slots c (set_of c.shape (p / 16))) p (ram p)) (ap (way_of c.shape (slots c)) line ∙ hit))

-- ---- what a cover says

full : (es : List Entry) (addr lanes word : ℕ) → covered es addr lanes ≡ Full word
    → (all_found es addr lanes ≡ true) × (word ≡ word_found es addr lanes)
unfolding covered
full es addr lanes word h = go (all_found es addr lanes) (none_found es addr lanes) h
  where
    go : (a n : Bool) → cond a (Full (word_found es addr lanes)) (cond n Uncovered Part) ≡ Full word → (a ≡ true) × (word ≡ word_found es addr lanes)
    go true n h = (refl, cc)
    go false true h = absurd cc
    go false false h = absurd cc

clear : (es : List Entry) (addr lanes : ℕ) → covered es addr lanes ≡ Uncovered → none_found es addr lanes ≡ true
unfolding covered
clear es addr lanes h = go (all_found es addr lanes) (none_found es addr lanes) h
  where
    go : (a n : Bool) → cond a (Full (word_found es addr lanes)) (cond n Uncovered Part) ≡ Uncovered → n ≡ true
    go true n h = absurd cc
    go false true h = refl
    go false false h = absurd cc

module _ (s : State) (is : IsSteady s) (kind : LoadKind) (rd x : ℕ) (word : word_in_ram s.image (x / 4) ≡ true) where
  abbrev stores : List Entry
  stores = pending s.stores

  abbrev mask : ℕ
  mask = lane_mask (load_size kind) x

  -- a byte that is accessed is in RAM
  inside : (p : ℕ) → accesses (load_size kind) x p ≡ true → in_ram s.image p ≡ true
  inside p a = in_ram-word s.image p is.image ∙ ap (word_in_ram s.image) (same_word kind x p a) ∙ word

  view-inside : (p : ℕ) → accesses (load_size kind) x p ≡ true
      → view s p ≡ overlaid stores p (cached s.cache.shape (ram_byte s.image s.memory) (slots s.cache) p)
  unfolding view
  view-inside p a = rw (inside p a) refl

  by_cover : (v : ℕ) → covered stores (x / 4) mask ≡ Full v → loaded_of kind x v ≡ loaded kind x (view s)
  by_cover v h =
      let held = full stores (x / 4) mask v h in
      loaded-same kind x (λ p. byte_of v (p % 4)) (view s)
      (λ p a. ap (λ n. byte_of n (p % 4)) held.1 ∙ covered-byte stores kind x p _ a held.0 ∙ sym (view-inside p a))

  by_read : (v wd way : ℕ) → covered stores (x / 4) mask ≡ Uncovered → x / 4 ≡ wd → found s.cache (wd / 4) ≡ Some way
      → word_of s.cache (wd / 4) (wd % 4) ≡ Some v → loaded_of kind x v ≡ loaded kind x (view s)
  by_read v wd way h at hit e =
      loaded-same kind x (λ p. byte_of v (p % 4)) (view s)
      (λ p a. read-byte s.cache (ram_byte s.image s.memory) wd way v p is.bytes.cache hit e (same_word kind x p a ∙ at)
      ∙ sym (uncovered-byte stores kind x p _ a (clear stores (x / 4) mask h))
      ∙ sym (view-inside p a))

  -- the port reads for the load client alone
  client : (wd : ℕ) → covered stores (x / 4) mask ≡ Uncovered → load_client s.image (Loads kind rd x) stores ≡ Some wd → x / 4 ≡ wd
  unfolding load_client asked_word
  client wd h e = the_word (x / 4) wd (sym (rw (word, h) refl) ∙ e)
    where
      the_word : (a b : ℕ) → Some a ≡ Some b → a ≡ b
      the_word a b e = cc

  by_move : (v : ℕ) (m : Move) → Tells s.cache (load_client s.image (Loads kind rd x) stores) (store_client s.image stores) m
      → covered stores (x / 4) mask ≡ Uncovered → word_read m s.cache ≡ Some v → loaded_of kind x v ≡ loaded kind x (view s)
  unfolding word_read
  by_move v (Reads wd way) t h e = by_read v wd way h (client wd h t.0) t.1 e
  by_move v Rests t h e = absurd cc
  by_move v (Drains d way) t h e = absurd cc
  by_move v (Misses line way count owner) t h e = absurd cc
  by_move v Waits t h e = absurd cc
  by_move v Leaves t h e = absurd cc
  by_move v (Fills line way) t h e = absurd cc

  by_case : (m : Move) (k : Cover) (read : Option ℕ) → Tells s.cache (load_client s.image (Loads kind rd x) stores) (store_client s.image stores) m
      → covered stores (x / 4) mask ≡ k → word_read m s.cache ≡ read → (served_by (covered_value k read kind x)).goes ≡ true
      → (served_by (covered_value k read kind x)).value ≡ loaded kind x (view s)
  by_case m (Full v) read t h e goes = by_cover v h
  by_case m Part read t h e goes = absurd (true≢false (sym goes))
  by_case m Uncovered (Some v) t h e goes = by_move v m t h e
  by_case m Uncovered None t h e goes = absurd (true≢false (sym goes))

load-value : (s : State) (is : IsSteady s) (kind : LoadKind) (rd x : ℕ) (m : Move) (b : Bool)
    → Tells s.cache (load_client s.image (Loads kind rd x) (pending s.stores)) (store_client s.image (pending s.stores)) m
    → word_in_ram s.image (x / 4) ≡ b
    → (served_by (if b then covered_value (covered (pending s.stores) (x / 4) (lane_mask (load_size kind) x)) (word_read m s.cache) kind x
    else Some 0)).goes ≡ true
    → (served_by (if b then covered_value (covered (pending s.stores) (x / 4) (lane_mask (load_size kind) x)) (word_read m s.cache) kind x
    else Some 0)).value ≡ (if b then loaded kind x (view s) else 0)
load-value s is kind rd x m true t h goes =
    by_case s is kind rd x h m (covered (pending s.stores) (x / 4) (lane_mask (load_size kind) x)) (word_read m s.cache) t refl refl goes
load-value s is kind rd x m false t h goes = refl

pub value-by : (s : State) (is : IsSteady s) (a : Action) (m : Move)
    → Tells s.cache (load_client s.image a (pending s.stores)) (store_client s.image (pending s.stores)) m
    → (served s.image a (pending s.stores) (word_read m s.cache)).goes ≡ true
    → (served s.image a (pending s.stores) (word_read m s.cache)).value ≡ given s.image a (view s)
unfolding served load_value
value-by s is Nothing m t goes = refl
value-by s is (Writes rd value) m t goes = refl
value-by s is (Loads kind rd x) m t goes = load-value s is kind rd x m (word_in_ram s.image (x / 4)) t refl goes
value-by s is (Stores kind x y) m t goes = refl
value-by s is (Puts value) m t goes = refl
value-by s is (Exits value) m t goes = refl
value-by s is (Traps cause) m t goes = refl

pub served-value : (s : State) → IsSteady s → (served_m s).goes ≡ true → (served_m s).value ≡ given s.image (action_in_m s) (view s)
served-value s is goes =
    value-by s is (action_in_m s) (move s) (tells s.port s.cache (load_client s.image (action_in_m s) (pending s.stores))
    (store_client s.image (pending s.stores))) goes
