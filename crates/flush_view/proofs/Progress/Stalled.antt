-- What a memory stage that waits tells: of its action, and of the stores that stay pending.
use Rattle.std.proofs.Common.{◌≡◌, ◌⊎◌, cond, inl, inr, ◌≤◌, ℕ, suc, ◌/◌, ◌%◌, Bool, true, false, List, [], ◌∷◌, length, arith, refl, ap, sym, ◌∙◌}
use Rattle.std.specs.Prelude.{⊤, Option, Some, None, not, ◌&&◌, ◌||◌, is_some, nat_lt, if◌then◌else◌}
use Rattle.std.proofs.lemmas.Bool.{true≢false}
use Rattle.elf_load.specs.Image.{LoadedImage, word_in_ram}
use Rattle.rv_isa.specs.Instruction.{end_of}
use Rattle.rv_table.specs.Accesses.{lane_mask, load_size}
use Rattle.rv_table.specs.declared.action.Action.{Action}
use Rattle.rv_table.specs.declared.action.Action.TheVariants.{Nothing, Writes, Loads, Stores, Puts, Exits, Traps}
use Rattle.rv_table.specs.declared.operation.LoadKind.{LoadKind}
use Rattle.rv_table.specs.declared.operation.StoreKind.{StoreKind}
use Rattle.store_buf.specs.Covers.{all_found, covered, found as found_in, none_found, word_found}
use Rattle.bit_field.specs.Lanes.{has_lane}
use Rattle.store_buf.specs.Entry.{Entry}
use Rattle.store_buf.specs.Pending.{younger}
use Rattle.store_buf.specs.declared.cover.Cover.{Cover}
use Rattle.store_buf.specs.declared.cover.Cover.TheVariants.{Full, Part, None as Uncovered}
use Rattle.wb_cache.specs.Access.{found}
use Rattle.wb_cache.specs.Contents.{Contents}
use Rattle.wb_cache.proofs.Hits.{word_of-hit}
use Rattle.cyc_machine.specs.declared.port.Move.{Move}
use Rattle.cyc_machine.specs.declared.port.Move.TheVariants.{Rests, Reads, Drains, Misses, Waits, Leaves, Fills}
use Rattle.cyc_machine.specs.Memory.{appended, asked_word, covered_value, entry_of, kept_stores, load_client}
use Rattle.cyc_machine.specs.Memory.{load_value, served, served_by, store_client, uncovered_word, without_stray, word_read}
use Rattle.cyc_machine.specs.PortState.{PortState}
use Rattle.flush_view.proofs.Progress.PortWait.{IsPassive, Timed}

-- ---- what a waiting action tells

-- no store is added, no end comes, and where no store is pending there is a load client
pub record IsStuck (image : LoadedImage) (a : Action) (stores : List Entry) : Type 0 where
  pub added : appended image a (nat_lt (length stores) 4) ≡ []
  pub goes_on : end_of a ≡ None
  pub asks : stores ≡ [] → is_some (load_client image a stores) ≡ true

-- no pending store covers a part
never_missing : (b : Bool) → (not b || true) ≡ true
never_missing true = refl
never_missing false = refl

none-pending : (addr lanes : ℕ) → none_found [] addr lanes ≡ true
unfolding none_found found_in
none-pending addr lanes =
    rw (never_missing (has_lane lanes 0), never_missing (has_lane lanes 1), never_missing (has_lane lanes 2), never_missing (has_lane lanes 3)) refl

no-part : (addr lanes : ℕ) → covered [] addr lanes ≡ Part → ⊥
unfolding covered
no-part addr lanes h = go (all_found [] addr lanes) (none_found [] addr lanes) (none-pending addr lanes) h
  where
    go : (a n : Bool) → n ≡ true → cond a (Full (word_found [] addr lanes)) (cond n Uncovered Part) ≡ Part → ⊥
    go true n e h = absurd cc
    go false true e h = absurd cc
    go false false e h = absurd (true≢false (sym e))

-- a load that waits is in RAM, and where it asks the cache for nothing a part of it is pending
load_asks : (b : Bool) (k : Cover) (read : Option ℕ) (kind : LoadKind) (x word : ℕ) → (k ≡ Part → ⊥)
    → (served_by (if b then covered_value k read kind x else Some 0)).goes ≡ false → is_some (if b then uncovered_word k word else None) ≡ true
load_asks true (Full v) read kind x word ne h = absurd (true≢false h)
load_asks true Part read kind x word ne h = absurd (ne refl)
load_asks true Uncovered read kind x word ne h = refl
load_asks false k read kind x word ne h = absurd (true≢false h)

stuck-load : (image : LoadedImage) (kind : LoadKind) (rd x : ℕ) (stores : List Entry) (read : Option ℕ)
    → (served image (Loads kind rd x) stores read).goes ≡ false → IsStuck image (Loads kind rd x) stores
unfolding served appended load_client load_value asked_word
stuck-load image kind rd x stores read h = record {
  added = refl;
  goes_on = refl;
  asks = λ e.
      load_asks (word_in_ram image (x / 4)) (covered stores (x / 4) (lane_mask (load_size kind) x)) read kind x (x / 4)
      (λ p. no-part (x / 4) (lane_mask (load_size kind) x) (ap (λ (es : List Entry). covered es (x / 4) (lane_mask (load_size kind) x)) (sym e) ∙ p)) h;
}

stuck-store : (image : LoadedImage) (kind : StoreKind) (x y : ℕ) (stores : List Entry) (read : Option ℕ)
    → (served image (Stores kind x y) stores read).goes ≡ false → IsStuck image (Stores kind x y) stores
unfolding served appended
stuck-store image kind x y stores read h = record {
  added = added (word_in_ram image (x / 4)) (nat_lt (length stores) 4) h;
  goes_on = refl;
  asks = λ e. absurd (full (word_in_ram image (x / 4)) (sym (ap (λ (es : List Entry). nat_lt (length es) 4) e)) h);
}
  where
    added : (b r : Bool) → (if b then r else true) ≡ false → (if r && b then entry_of kind x y ∷ [] else []) ≡ []
    added true true h = absurd (true≢false h)
    added false r h = absurd (true≢false h)
    added true false h = refl

    full : (b : Bool) → true ≡ nat_lt (length stores) 4 → (if b then nat_lt (length stores) 4 else true) ≡ false → ⊥
    full true e h = true≢false (e ∙ h)
    full false e h = true≢false h

pub stuck : (image : LoadedImage) (a : Action) (stores : List Entry) (read : Option ℕ) → (served image a stores read).goes ≡ false
    → IsStuck image a stores
unfolding served
stuck image Nothing stores read h = absurd (true≢false h)
stuck image (Writes rd value) stores read h = absurd (true≢false h)
stuck image (Loads kind rd x) stores read h = stuck-load image kind rd x stores read h
stuck image (Stores kind x y) stores read h = stuck-store image kind x y stores read h
stuck image (Puts value) stores read h = absurd (true≢false h)
stuck image (Exits value) stores read h = absurd (true≢false h)
stuck image (Traps cause) stores read h = absurd (true≢false h)

-- a load whose word the port reads is done
asked-goes : (b : Bool) (k : Cover) (kind : LoadKind) (x at word value : ℕ) (read : Option ℕ) → read ≡ Some value
    → (if b then uncovered_word k at else None) ≡ Some word → (served_by (if b then covered_value k read kind x else Some 0)).goes ≡ true
asked-goes true (Full v) kind x at word value read r e = refl
asked-goes true Part kind x at word value read r e = absurd cc
asked-goes true Uncovered kind x at word value (Some w) r e = refl
asked-goes true Uncovered kind x at word value None r e = absurd cc
asked-goes false k kind x at word value read r e = absurd cc

pub read-goes : (image : LoadedImage) (a : Action) (stores : List Entry) (c : Contents) (word way : ℕ) → load_client image a stores ≡ Some word
    → found c (word / 4) ≡ Some way → (served image a stores (word_read (Reads word way) c)).goes ≡ true
unfolding served load_client load_value asked_word word_read
read-goes image Nothing stores c word way e h = refl
read-goes image (Writes rd value) stores c word way e h = refl
read-goes image (Loads kind rd x) stores c word way e h =
    asked-goes (word_in_ram image (x / 4)) (covered stores (x / 4) (lane_mask (load_size kind) x)) kind x (x / 4) word _ _
    (word_of-hit c (word / 4) (word % 4) way (sym h)) e
read-goes image (Stores kind x y) stores c word way e h = absurd cc
read-goes image (Puts value) stores c word way e h = refl
read-goes image (Exits value) stores c word way e h = refl
read-goes image (Traps cause) stores c word way e h = refl

-- ---- the stores that are kept

-- the oldest stays, or one store less is pending
stray-less : (image : LoadedImage) (stores : List Entry)
    → (without_stray image stores ≡ stores) ⊎ (suc (length (without_stray image stores)) ≤ length stores)
stray-less image [] = inl refl
stray-less image (e ∷ es) = go (word_in_ram image e.addr)
  where
    go : (b : Bool) → ((if not b then es else (e ∷ es)) ≡ e ∷ es) ⊎ (suc (length (if not b then es else (e ∷ es))) ≤ suc (length es))
    go true = inl refl
    go false = inr (omega arith)

-- an oldest store that is no client leaves
stray-gone : (image : LoadedImage) (stores : List Entry) → store_client image stores ≡ None → (stores ≡ [] → ⊥)
    → suc (length (without_stray image stores)) ≤ length stores
unfolding store_client
stray-gone image [] h some = absurd (some refl)
stray-gone image (e ∷ es) h some = go (word_in_ram image e.addr) h
  where
    go : (b : Bool) → (if b then Some e else None) ≡ None → suc (length (if not b then es else (e ∷ es))) ≤ suc (length es)
    go true h = absurd cc
    go false h = omega arith

drained-gone : (image : LoadedImage) (stores : List Entry) (e : Entry) → store_client image stores ≡ Some e
    → suc (length (younger stores)) ≤ length stores
unfolding store_client
drained-gone image [] e h = absurd cc
drained-gone image (a ∷ es) e h = omega arith

-- a move that isn't a read leaves the stores, and is one whose client's wait falls, or one store less is pending
by_stray : {A : Type 0} {B : Type 0} → A ⊎ B → (A × ⊤) ⊎ B
by_stray (inl a) = inl (a, tt)
by_stray (inr b) = inr b

pub kept-less : (image : LoadedImage) (port : PortState) (c : Contents) (load : Option ℕ) (stores : List Entry) (v : Move)
    → Timed port c load (store_client image stores) v → ((word way : ℕ) → v ≡ Reads word way → ⊥) → (stores ≡ [] → is_some load ≡ true)
    → ((kept_stores image v stores ≡ stores) × IsPassive v) ⊎ (suc (length (kept_stores image v stores)) ≤ length stores)
kept-less image port c load stores Rests t never asks = inr (stray-gone image stores t.2 (λ e. true≢false (sym (asks e) ∙ ap is_some t.1)))
kept-less image port c load stores (Reads word way) t never asks = absurd (never word way refl)
kept-less image port c load stores (Drains e way) t never asks = inr (drained-gone image stores e t)
kept-less image port c load stores (Misses line way count owner) t never asks = by_stray (stray-less image stores)
kept-less image port c load stores Waits t never asks = by_stray (stray-less image stores)
kept-less image port c load stores Leaves t never asks = by_stray (stray-less image stores)
kept-less image port c load stores (Fills line way) t never asks = by_stray (stray-less image stores)
