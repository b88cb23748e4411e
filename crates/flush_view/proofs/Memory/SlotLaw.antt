-- The memory law of a cycle: coherence outside X is kept, and the view outside X changes only by a done store.
use Rattle.std.proofs.Common.{◌≡◌, ℕ, ◌/◌, ◌<◌, Bool, true, false, List, [], ◌∷◌, ◌++◌, length, refl, ap, sym, ◌∙◌, subst, append-nil}
use Rattle.std.specs.Prelude.{Option, Some, ◌&&◌, nat_lt, if◌then◌else◌}
use Rattle.elf_load.specs.Image.{LoadedImage, IsImage, in_ram, word_in_ram}
use Rattle.rv_isa.specs.Instruction.{memory_after}
use Rattle.rv_table.specs.declared.action.Action.{Action}
use Rattle.rv_table.specs.declared.action.Action.TheVariants.{Nothing, Writes, Loads, Stores, Puts, Exits, Traps}
use Rattle.store_buf.specs.Entry.{Entry}
use Rattle.store_buf.specs.Pending.{oldest, younger}
use Rattle.wb_cache.specs.Access.{found}
use Rattle.wb_cache.specs.Contents.{Contents, IsSized, slots}
use Rattle.wb_cache.specs.Lookup.{set_of}
use Rattle.wb_cache.specs.Refill.{way_for}
use Rattle.rv_table.specs.declared.operation.LoadKind.{LoadKind}
use Rattle.rv_table.specs.declared.operation.StoreKind.{StoreKind}
use Rattle.wb_cache.proofs.Victims.{victim-below}
use Rattle.cyc_machine.specs.declared.memory_stage.Served.{Served}
use Rattle.cyc_machine.specs.declared.port.Move.{Move}
use Rattle.cyc_machine.specs.declared.port.Move.TheVariants.{Rests, Reads, Drains, Misses, Waits, Leaves, Fills}
use Rattle.cyc_machine.specs.Memory.{appended, entry_of, kept_stores, served, store_client}
use Rattle.flush_view.specs.Coherence.{Coherent}
use Rattle.flush_view.specs.Views.{cached, over, overlaid}
use Rattle.flush_view.proofs.Memory.Drain.{drained, drained-cached, drained-coherent}
use Rattle.flush_view.proofs.Memory.Fill.{filled-cached, filled-coherent}
use Rattle.flush_view.proofs.Memory.MovedSlots.{moved, moved_ram}
use Rattle.cyc_machine.proofs.Tells.{Tells, client-oldest}
use Rattle.flush_view.proofs.Memory.Overlay.{over-entry, overlaid-push, overlaid-stray}

-- a way for a line is one of the shape
way_below : (c : Contents) (line way : ℕ) → IsSized c → way ≡ way_for c line → way < c.shape.ways
way_below c line way sized e = subst (λ n. n < c.shape.ways) (sym e) (victim-below c.shape (slots c) c.nodes (set_of c.shape line) sized.shape)

module _ (image : LoadedImage) (c : Contents) (ram : ℕ → ℕ) (load : Option ℕ) (store : Option Entry) (sized : IsSized c) where
  pub moved-coherent : (out : ℕ → Bool) (v : Move) → Tells c load store v → Coherent c.shape out ram (slots c)
      → Coherent c.shape out (moved_ram image c v (slots c) ram) (moved image c v ram (slots c))
  moved-coherent out Rests t coherent = coherent
  moved-coherent out (Reads word way) t coherent = coherent
  moved-coherent out (Drains e way) t coherent = drained-coherent c.shape out ram e way (slots c) coherent
  moved-coherent out (Misses line way count owner) t coherent = coherent
  moved-coherent out Waits t coherent = coherent
  moved-coherent out Leaves t coherent = coherent
  moved-coherent out (Fills line way) t coherent =
      filled-coherent image c.shape line way (slots c) ram (way_below c line way sized t.1) t.0 out coherent

-- the byte that the stores that are kept, the cache and main memory give
module _ (image : LoadedImage) (c : Contents) (ram : ℕ → ℕ) (load : Option ℕ) (stores : List Entry) (is : IsImage image) (sized : IsSized c) where
  drained-view : (e : Entry) (way p : ℕ) (es : List Entry) → oldest es ≡ Some e → found c (e.addr / 4) ≡ Some way
      → overlaid (younger es) p (cached c.shape ram (drained c.shape e way (slots c)) p) ≡ overlaid es p (cached c.shape ram (slots c) p)
  unfolding overlaid
  drained-view e way p [] h hit = absurd cc
  drained-view e way p (a ∷ es) h hit =
      let same : a ≡ e = cc in
      ap (overlaid es p) (drained-cached c.shape ram e way (slots c) p hit ∙ ap (λ (d : Entry). over d p (cached c.shape ram (slots c) p)) (sym same))

  pub moved-view : (out : ℕ → Bool) (v : Move) (p : ℕ) → Tells c load (store_client image stores) v → Coherent c.shape out ram (slots c)
      → out (p / 16) ≡ false → in_ram image p ≡ true → overlaid (kept_stores image v stores) p
      (cached c.shape (moved_ram image c v (slots c) ram) (moved image c v ram (slots c)) p) ≡ overlaid stores p (cached c.shape ram (slots c) p)
  moved-view out Rests p t coherent o inside = overlaid-stray image stores p _ is inside
  moved-view out (Reads word way) p t coherent o inside = overlaid-stray image stores p _ is inside
  moved-view out (Drains e way) p t coherent o inside = drained-view e way p stores (client-oldest image stores e t.0) t.1
  moved-view out (Misses line way count owner) p t coherent o inside = overlaid-stray image stores p _ is inside
  moved-view out Waits p t coherent o inside = overlaid-stray image stores p _ is inside
  moved-view out Leaves p t coherent o inside = overlaid-stray image stores p _ is inside
  moved-view out (Fills line way) p t coherent o inside =
      overlaid-stray image stores p _ is inside
      ∙ ap (overlaid stores p) (filled-cached image c.shape line way (slots c) ram (way_below c line way sized t.1) t.0 p inside
      (coherent.single (p / 16) o) (coherent.clean (p / 16) o))

-- M's done store over a byte
abbrev pub done_by : Served → Action → Action
done_by s m = if s.goes then m else Nothing

store_over : (image : LoadedImage) (kind : StoreKind) (x y p b : ℕ) (es : List Entry) (read : Option ℕ) (n : Bool) (memory : ℕ → ℕ) (w : Bool)
    → word_in_ram image (x / 4) ≡ w → nat_lt (length es) 4 ≡ n → (kept : List Entry) → overlaid kept p b ≡ memory p
    → overlaid (kept ++ (if n && w then entry_of kind x y ∷ [] else [])) p b
    ≡ memory_after image (if (if w then n else true) then Stores kind x y else Nothing) memory p
store_over image kind x y p b es read true memory true e f kept h =
    overlaid-push kept (entry_of kind x y) p b ∙ ap (over (entry_of kind x y) p) h ∙ over-entry kind x y p memory ∙ rw e refl
store_over image kind x y p b es read true memory false e f kept h = ap (λ (xs : List Entry). overlaid xs p b) (append-nil kept) ∙ h ∙ rw e refl
store_over image kind x y p b es read false memory true e f kept h = ap (λ (xs : List Entry). overlaid xs p b) (append-nil kept) ∙ h
store_over image kind x y p b es read false memory false e f kept h = ap (λ (xs : List Entry). overlaid xs p b) (append-nil kept) ∙ h ∙ rw e refl

same_memory : (image : LoadedImage) (kind : LoadKind) (rd x : ℕ) (b : Bool) (memory : ℕ → ℕ)
    → memory ≡ memory_after image (if b then Loads kind rd x else Nothing) memory
same_memory image kind rd x true memory = refl
same_memory image kind rd x false memory = refl

pub appended-view : (image : LoadedImage) (m : Action) (es : List Entry) (read : Option ℕ) (kept : List Entry) (p b : ℕ) (memory : ℕ → ℕ)
    → overlaid kept p b ≡ memory p → overlaid (kept ++ appended image m (nat_lt (length es) 4)) p b
    ≡ memory_after image (done_by (served image m es read) m) memory p
unfolding appended served
appended-view image Nothing es read kept p b memory h = ap (λ (xs : List Entry). overlaid xs p b) (append-nil kept) ∙ h
appended-view image (Writes rd value) es read kept p b memory h = ap (λ (xs : List Entry). overlaid xs p b) (append-nil kept) ∙ h
appended-view image (Loads kind rd x) es read kept p b memory h =
    ap (λ (xs : List Entry). overlaid xs p b) (append-nil kept) ∙ h
    ∙ ap (λ (f : ℕ → ℕ). f p) (same_memory image kind rd x (served image (Loads kind rd x) es read).goes memory)
appended-view image (Stores kind x y) es read kept p b memory h =
    store_over image kind x y p b es read (nat_lt (length es) 4) memory (word_in_ram image (x / 4)) refl refl kept h
appended-view image (Puts value) es read kept p b memory h = ap (λ (xs : List Entry). overlaid xs p b) (append-nil kept) ∙ h
appended-view image (Exits value) es read kept p b memory h = ap (λ (xs : List Entry). overlaid xs p b) (append-nil kept) ∙ h
appended-view image (Traps cause) es read kept p b memory h = ap (λ (xs : List Entry). overlaid xs p b) (append-nil kept) ∙ h
