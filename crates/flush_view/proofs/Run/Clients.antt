-- The clients of a port that reads and drains nothing are there in the next cycle.
use Rattle.std.proofs.Common.{◌≡◌, ℕ, ◌/◌, Bool, true, false, cond, List, [], ◌∷◌, ◌++◌, arith, append-nil, refl, sym, ap, ◌∙◌}
use Rattle.std.specs.Prelude.{Option, Some, None, ◌&&◌, ◌||◌, is_none, is_some, not, if◌then◌else◌}
use Rattle.std.specs.Option.{option_or}
use Rattle.std.proofs.lemmas.Bool.Decides.{nat_tests}
use Rattle.std.proofs.lemmas.Bool.{true≢false}
use Rattle.elf_load.specs.Image.{LoadedImage, word_in_ram}
use Rattle.rv_table.specs.Accesses.{lane_mask, load_size}
use Rattle.rv_table.specs.declared.action.Action.{Action}
use Rattle.rv_table.specs.declared.action.Action.TheVariants.{Nothing, Writes, Loads, Stores, Puts, Exits, Traps}
use Rattle.rv_table.specs.declared.operation.LoadKind.{LoadKind}
use Rattle.pipe_latch.specs.Latches.{DecodedLatch, ExecutedLatch, ResultLatch}
use Rattle.store_buf.specs.Covers.{all_found, covered, each_lane, found as found_store, held, is_found, is_missing, none_found, word_found}
use Rattle.bit_field.specs.Lanes.{has_lane}
use Rattle.store_buf.specs.Entry.{Entry}
use Rattle.store_buf.specs.declared.cover.Cover.{Cover}
use Rattle.store_buf.specs.declared.cover.Cover.TheVariants.{Full, Part, None as Uncovered}
use Rattle.cyc_machine.specs.Memory.{appended, asked_word, covered_value, load_client, load_value}
use Rattle.cyc_machine.specs.Memory.{served, served_by, store_client, uncovered_word, without_stray, word_of_entry}
use Rattle.cyc_machine.specs.Pipeline.{executed_after, fate_of}

-- ---- the store client: no store is drained

pub store-stays : (image : LoadedImage) (stores rest : List Entry) (word : ℕ) → word_of_entry (store_client image stores) ≡ Some word
    → word_of_entry (store_client image (without_stray image stores ++ rest)) ≡ Some word
unfolding store_client
store-stays image [] rest word h = absurd cc
store-stays image (e ∷ stores) rest word h = go (word_in_ram image e.addr) refl
  where
    go : (b : Bool) → word_in_ram image e.addr ≡ b → word_of_entry (store_client image (without_stray image (e ∷ stores) ++ rest)) ≡ Some word
    go true r = rw r (rw r (rw r at h))
    go false r = let none : None ≡ Some word = rw r at h in absurd cc

-- ---- the load client: a load that finds none of its lanes finds none without the oldest store

found-older : (a b : Option ℕ) (wanted : Bool) → (not wanted || is_some a) ≡ true → (not wanted || is_some (option_or a b)) ≡ true
found-older (Some v) b wanted h = h
found-older None b true h = absurd (true≢false (sym h))
found-older None b false h = refl

missing-younger : (a b : Option ℕ) (wanted : Bool) → (not wanted || is_none (option_or a b)) ≡ true → (not wanted || is_none a) ≡ true
missing-younger (Some v) b wanted h = h
missing-younger None b true h = refl
missing-younger None b false h = refl

each : (test other : ℕ → Bool) → ((lane : ℕ) → test lane ≡ true → other lane ≡ true) → each_lane test ≡ true → each_lane other ≡ true
each test other more h = go (test 0) (test 1) (test 2) (test 3) h (more 0) (more 1) (more 2) (more 3)
  where
    go : (a b c d : Bool) → (a && b && c && d) ≡ true → (a ≡ true → other 0 ≡ true) → (b ≡ true → other 1 ≡ true) → (c ≡ true → other 2 ≡ true)
        → (d ≡ true → other 3 ≡ true) → each_lane other ≡ true
    go a b c d h p q r s = grind (arith, nat_tests)

all-older : (e : Entry) (stores : List Entry) (addr lanes : ℕ) → all_found stores addr lanes ≡ true → all_found (e ∷ stores) addr lanes ≡ true
unfolding all_found found_store
all-older e stores addr lanes h =
    each (is_found stores addr lanes) (is_found (e ∷ stores) addr lanes)
    (λ lane. found-older (found_store stores addr lane) (held e addr lane) (has_lane lanes lane)) h

none-younger : (e : Entry) (stores : List Entry) (addr lanes : ℕ) → none_found (e ∷ stores) addr lanes ≡ true → none_found stores addr lanes ≡ true
unfolding none_found found_store
none-younger e stores addr lanes h =
    each (is_missing (e ∷ stores) addr lanes) (is_missing stores addr lanes)
    (λ lane. missing-younger (found_store stores addr lane) (held e addr lane) (has_lane lanes lane)) h

uncovered-younger : (e : Entry) (stores : List Entry) (addr lanes : ℕ) → covered (e ∷ stores) addr lanes ≡ Uncovered
    → covered stores addr lanes ≡ Uncovered
unfolding covered
uncovered-younger e stores addr lanes h =
    go (all_found (e ∷ stores) addr lanes) (none_found (e ∷ stores) addr lanes) (all_found stores addr lanes) (none_found stores addr lanes)
    (all-older e stores addr lanes) (none-younger e stores addr lanes) h
  where
    go : (a n b m : Bool) → (b ≡ true → a ≡ true) → (n ≡ true → m ≡ true)
        → cond a (Full (word_found (e ∷ stores) addr lanes)) (cond n Uncovered Part) ≡ Uncovered
        → cond b (Full (word_found stores addr lanes)) (cond m Uncovered Part) ≡ Uncovered
    go true n b m p q h = absurd cc
    go false false b m p q h = absurd cc
    go false true true m p q h = absurd (true≢false (sym (p refl)))
    go false true false true p q h = refl
    go false true false false p q h = absurd (true≢false (sym (q refl)))

uncovered-kept : (image : LoadedImage) (stores : List Entry) (addr lanes : ℕ) → covered stores addr lanes ≡ Uncovered
    → covered (without_stray image stores) addr lanes ≡ Uncovered
uncovered-kept image [] addr lanes h = h
uncovered-kept image (e ∷ stores) addr lanes h = go (word_in_ram image e.addr)
  where
    go : (b : Bool) → covered (if not b then stores else (e ∷ stores)) addr lanes ≡ Uncovered
    go true = h
    go false = uncovered-younger e stores addr lanes h

asked-kept : (image : LoadedImage) (kind : LoadKind) (x word : ℕ) (stores : List Entry) → asked_word image kind x stores ≡ Some word
    → asked_word image kind x (without_stray image stores) ≡ Some word
unfolding asked_word
asked-kept image kind x word stores h = go (word_in_ram image (x / 4)) (covered stores (x / 4) (lane_mask (load_size kind) x)) refl h
  where
    go : (b : Bool) (k : Cover) → covered stores (x / 4) (lane_mask (load_size kind) x) ≡ k
        → (if b then uncovered_word k (x / 4) else None) ≡ Some word
        → (if b then uncovered_word (covered (without_stray image stores) (x / 4) (lane_mask (load_size kind) x)) (x / 4) else None) ≡ Some word
    go true Uncovered e h = ap (λ (k : Cover). uncovered_word k (x / 4)) (uncovered-kept image stores (x / 4) (lane_mask (load_size kind) x) e) ∙ h
    go true Part e h = absurd cc
    go true (Full v) e h = absurd cc
    go false k e h = absurd cc

pub load-stays : (image : LoadedImage) (m : Action) (room : Bool) (word : ℕ) (stores : List Entry) → load_client image m stores ≡ Some word
    → load_client image m (without_stray image stores ++ appended image m room) ≡ Some word
unfolding load_client appended
load-stays image (Loads kind rd x) room word stores h =
    ap (asked_word image kind x) (append-nil (without_stray image stores)) ∙ asked-kept image kind x word stores h
load-stays image Nothing room word stores h = absurd cc
load-stays image (Writes rd value) room word stores h = absurd cc
load-stays image (Stores kind x y) room word stores h = absurd cc
load-stays image (Puts value) room word stores h = absurd cc
load-stays image (Exits value) room word stores h = absurd cc
load-stays image (Traps cause) room word stores h = absurd cc

-- ---- M stays while its load isn't read

pub not-served : (image : LoadedImage) (m : Action) (stores : List Entry) (word : ℕ) → load_client image m stores ≡ Some word
    → (served image m stores None).goes ≡ false
unfolding load_client asked_word served load_value
not-served image (Loads kind rd x) stores word h = go (word_in_ram image (x / 4)) (covered stores (x / 4) (lane_mask (load_size kind) x)) h
  where
    go : (b : Bool) (k : Cover) → (if b then uncovered_word k (x / 4) else None) ≡ Some word
        → (served_by (if b then covered_value k None kind x else Some 0)).goes ≡ false
    go true Uncovered h = refl
    go true Part h = refl
    go true (Full v) h = absurd cc
    go false k h = absurd cc
not-served image Nothing stores word h = absurd cc
not-served image (Writes rd value) stores word h = absurd cc
not-served image (Stores kind x y) stores word h = absurd cc
not-served image (Puts value) stores word h = absurd cc
not-served image (Exits value) stores word h = absurd cc
not-served image (Traps cause) stores word h = absurd cc

pub m-stays : (image : LoadedImage) (d : DecodedLatch) (npc : ℕ) (a : Action) (w : ResultLatch) (goes : Bool) (clock issued : ℕ) (m : ExecutedLatch)
    → goes ≡ false → executed_after image (fate_of d npc a w goes) goes d clock issued m ≡ m
unfolding fate_of executed_after
m-stays image d npc a w goes clock issued m h = grind (arith, nat_tests)
