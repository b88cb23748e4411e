-- What a cycle reads of the store buffer: of the pending stores, the bytes of the lanes that they write.
use Rattle.std.proofs.Common.{◌≡◌, ℕ, ◌/◌, ◌<◌, Bool, true, false, cond, List, [], ◌∷◌, length, lit<, refl, sym, ap, arith, ◌∙◌}
use Rattle.std.specs.Prelude.{Option, Some, None, ◌==◌, ◌&&◌, map, if◌then◌else◌}
use Rattle.std.specs.Option.{option_map}
use Rattle.std.proofs.lemmas.List.{length-map}
use Rattle.elf_load.specs.Image.{LoadedImage, word_in_ram}
use Rattle.rv_table.specs.Accesses.{lane_mask, load_size}
use Rattle.rv_table.specs.declared.action.Action.{Action}
use Rattle.rv_table.specs.declared.action.Action.TheVariants.{Nothing, Writes, Loads, Stores, Puts, Exits, Traps}
use Rattle.bit_field.specs.Lanes.{has_lane, lane_byte}
use Rattle.store_buf.specs.Covers.{all_found, byte_found, covered, found, held, none_found, word_found}
use Rattle.store_buf.specs.Entry.{Entry}
use Rattle.store_buf.specs.Pending.{pending}
use Rattle.wb_cache.specs.Access.{word_at}
use Rattle.wb_cache.proofs.Lanes.{lane-word_at}
use Rattle.cyc_machine.specs.Memory.{asked_word, load_client, load_value, served, store_client}
use Rattle.flush_view.specs.Ignored.{masked_byte, masked_word, read_of_pending}
use Rattle.flush_view.proofs.Memory.Loads.{byte_below}

-- a store with the bytes of its lanes alone
abbrev pub masked_entry : Entry → Entry
masked_entry e = record e { value = masked_word e.mask e.value }

abbrev pub masked_entries : List Entry → List Entry
masked_entries es = map masked_entry es

masked_below : (mask value lane : ℕ) → masked_byte mask value lane < 256
masked_below mask value lane = go (has_lane mask lane)
  where
    go : (b : Bool) → cond b (lane_byte value lane) 0 < 256
    go true = byte_below value lane
    go false = lit< tt

masked-byte : (mask value lane : ℕ) → lane < 4 → lane_byte (masked_word mask value) lane ≡ masked_byte mask value lane
unfolding word_at
masked-byte mask value lane h =
    lane-word_at (record { valid = false; dirty = false; tag = 0; bytes = masked_byte mask value }) 0 lane (masked_below mask value) h
    ∙ ap (masked_byte mask value) (omega arith)

-- a lane that is written holds the same byte
pub masked-lane : (mask value lane below : ℕ) → lane < 4
    → cond (has_lane mask lane) (lane_byte (masked_word mask value) lane) below ≡ cond (has_lane mask lane) (lane_byte value lane) below
masked-lane mask value lane below h = rw (masked-byte mask value lane h) (go (has_lane mask lane))
  where
    go : (b : Bool) → cond b (cond b (lane_byte value lane) 0) below ≡ cond b (lane_byte value lane) below
    go true = refl
    go false = refl

held-masked : (e : Entry) (addr lane : ℕ) → lane < 4 → held (masked_entry e) addr lane ≡ held e addr lane
unfolding held
held-masked e addr lane h = rw (masked-byte e.mask e.value lane h) (go (e.addr == addr) (has_lane e.mask lane))
  where
    go : (a b : Bool) → cond (a && b) (Some (cond b (lane_byte e.value lane) 0)) None ≡ cond (a && b) (Some (lane_byte e.value lane)) None
    go true true = refl
    go true false = refl
    go false true = refl
    go false false = refl

found-masked : (es : List Entry) (addr lane : ℕ) → lane < 4 → found (masked_entries es) addr lane ≡ found es addr lane
unfolding found
found-masked [] addr lane h = refl
found-masked (e ∷ es) addr lane h = rw (found-masked es addr lane h, held-masked e addr lane h) refl

covered-masked : (es : List Entry) (addr lanes : ℕ) → covered (masked_entries es) addr lanes ≡ covered es addr lanes
unfolding covered all_found none_found word_found byte_found
covered-masked es addr lanes =
    rw (found-masked es addr 0 (lit< tt), found-masked es addr 1 (lit< tt), found-masked es addr 2 (lit< tt), found-masked es addr 3 (lit< tt)) refl

-- the pending stores, with the bytes of their lanes alone
pending_by : (e : Entry) (slots : List Entry) (b : Bool) → (e.mask == 0) ≡ b → pending (map read_of_pending slots) ≡ masked_entries (pending slots)
    → pending (map read_of_pending (e ∷ slots)) ≡ masked_entries (pending (e ∷ slots))
pending_by e slots true free same = rw free same
pending_by e slots false free same = rw (free, free) (ap (λ es. masked_entry e ∷ es) same)

pending-read : (slots : List Entry) → pending (map read_of_pending slots) ≡ masked_entries (pending slots)
pending-read [] = refl
pending-read (e ∷ slots) = pending_by e slots (e.mask == 0) refl (pending-read slots)

pub pending-same : (slots others : List Entry) → map read_of_pending slots ≡ map read_of_pending others
    → masked_entries (pending slots) ≡ masked_entries (pending others)
pending-same slots others same = sym (pending-read slots) ∙ ap pending same ∙ pending-read others

-- the clients of the cache
load_client-masked : (image : LoadedImage) (m : Action) (es : List Entry) → load_client image m (masked_entries es) ≡ load_client image m es
unfolding load_client asked_word
load_client-masked image (Loads kind rd x) es = rw (covered-masked es (x / 4) (lane_mask (load_size kind) x)) refl
load_client-masked image Nothing es = refl
load_client-masked image (Writes rd value) es = refl
load_client-masked image (Stores kind x y) es = refl
load_client-masked image (Puts value) es = refl
load_client-masked image (Exits value) es = refl
load_client-masked image (Traps cause) es = refl

store_client-masked : (image : LoadedImage) (es : List Entry)
    → store_client image (masked_entries es) ≡ option_map masked_entry (store_client image es)
unfolding store_client
store_client-masked image [] = refl
store_client-masked image (e ∷ es) = go (word_in_ram image e.addr)
  where
    go : (b : Bool) → (if b then Some (masked_entry e) else None) ≡ option_map masked_entry (if b then Some e else None)
    go true = refl
    go false = refl

-- whether M leaves, and the value for its register
served-masked : (image : LoadedImage) (m : Action) (es : List Entry) (read : Option ℕ)
    → served image m (masked_entries es) read ≡ served image m es read
unfolding served load_value
served-masked image (Loads kind rd x) es read = rw (covered-masked es (x / 4) (lane_mask (load_size kind) x)) refl
served-masked image Nothing es read = refl
served-masked image (Writes rd value) es read = refl
served-masked image (Stores kind x y) es read = rw (length-map es masked_entry) refl
served-masked image (Puts value) es read = refl
served-masked image (Exits value) es read = refl
served-masked image (Traps cause) es read = refl

-- where the pending stores are the same but for ignored bytes
module _ (es others : List Entry) (same : masked_entries es ≡ masked_entries others) where
  pub length-same : length es ≡ length others
  length-same = sym (length-map es masked_entry) ∙ ap length same ∙ length-map others masked_entry

  pub load_client-same : (image : LoadedImage) (m : Action) → load_client image m es ≡ load_client image m others
  load_client-same image m = sym (load_client-masked image m es) ∙ ap (load_client image m) same ∙ load_client-masked image m others

  pub store_client-same : (image : LoadedImage)
      → option_map masked_entry (store_client image es) ≡ option_map masked_entry (store_client image others)
  store_client-same image = sym (store_client-masked image es) ∙ ap (store_client image) same ∙ store_client-masked image others

  pub served-same : (image : LoadedImage) (m : Action) (read : Option ℕ) → served image m es read ≡ served image m others read
  served-same image m read =
      sym (served-masked image m es read) ∙ ap (λ (x : List Entry). served image m x read) same ∙ served-masked image m others read
