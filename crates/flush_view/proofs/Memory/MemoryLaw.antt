-- The memory law of the machine's cycle.
use Rattle.std.proofs.Common.{◌≡◌, ℕ, ◌/◌, Bool, true, false, List, refl, sym, ap, ◌∙◌}
use Rattle.std.proofs.lemmas.Bool.{true≢false}
use Rattle.bit_field.specs.declared.shapes.Shape.{Shape}
use Rattle.elf_load.specs.Image.{LoadedImage, IsImage, in_ram, word_in_ram, ram_byte}
use Rattle.elf_load.proofs.InRam.{in_ram-word}
use Rattle.rv_isa.specs.Instruction.{given, memory_after as memory_by}
use Rattle.rv_table.specs.Accesses.{accesses, store_size, stored}
use Rattle.rv_table.specs.declared.action.Action.{Action}
use Rattle.rv_table.specs.declared.action.Action.TheVariants.{Nothing, Writes, Loads, Stores, Puts, Exits, Traps}
use Rattle.rv_table.specs.declared.operation.StoreKind.{StoreKind}
use Rattle.store_buf.specs.Entry.{Entry}
use Rattle.store_buf.specs.Pending.{pending}
use Rattle.wb_cache.specs.Contents.{Contents, slots}
use Rattle.cyc_machine.specs.Cycle.{action_in_m, cycle, cycled, move, served_m, done_in}
use Rattle.cyc_machine.specs.Memory.{cache_after, kept_stores, load_client, memory_after, store_client, stores_after, word_read}
use Rattle.cyc_machine.specs.State.{State}
use Rattle.flush_view.specs.Coherence.{Coherent, IsCoherent}
use Rattle.flush_view.specs.MemoryLaw.{MemoryLaw}
use Rattle.flush_view.specs.Views.{cached, overlaid, view}
use Rattle.cyc_machine.proofs.PendingNext.{pending-after}
use Rattle.flush_view.proofs.Memory.SlotLaw.{appended-view, moved-coherent, moved-view}
use Rattle.flush_view.proofs.Memory.MovedSlots.{moved, moved_ram, ram-moved, slots-moved}
use Rattle.cyc_machine.proofs.ShapeKept.{shape-moved}
use Rattle.cyc_machine.proofs.Tells.{Tells, tells}
use Rattle.flush_view.proofs.Memory.Given.{served-value}
use Rattle.flush_view.proofs.Memory.Overlay.{one_word}
use Rattle.cyc_machine.specs.Sizes.{IsSteady}
use Rattle.wb_cache.proofs.Ways.{Slots}

-- a store outside RAM is dropped
dropped-outside : (image : LoadedImage) → IsImage image → (kind : StoreKind) (x y p : ℕ) (memory : ℕ → ℕ) → in_ram image p ≡ false → memory p ≡ 0
    → 0 ≡ memory_by image (Stores kind x y) memory p
unfolding stored
dropped-outside image is kind x y p memory outside none = go (word_in_ram image (x / 4)) refl (accesses (store_size kind) x p) refl
  where
    go : (b : Bool) → word_in_ram image (x / 4) ≡ b → (a : Bool) → accesses (store_size kind) x p ≡ a → 0 ≡ memory_by image (Stores kind x y) memory p
    go true h true f = absurd (true≢false (sym h ∙ ap (word_in_ram image) (sym (one_word kind x p f)) ∙ sym (in_ram-word image p is) ∙ outside))
    go true h false f = rw (h, f) (sym none)
    go false h a f = rw h (sym none)

cached-same : (shape other : Shape) (ram main : ℕ → ℕ) (cache slot : Slots) (p : ℕ) → shape ≡ other → ram ≡ main → cache ≡ slot
    → cached shape ram cache p ≡ cached other main slot p
cached-same shape other ram main cache slot p e f g = rw (e, f, g) refl

module _ (s : State) (is : IsSteady s) where
  abbrev stores : List Entry
  stores = pending s.stores

  abbrev next_cache : Contents
  next_cache = cache_after s.image (move s) s.memory s.cache

  abbrev next_memory : List ℕ
  next_memory = memory_after s.image (move s) s.cache s.memory

  told : Tells s.cache (load_client s.image (action_in_m s) stores) (store_client s.image stores) (move s)
  told = tells s.port s.cache (load_client s.image (action_in_m s) stores) (store_client s.image stores)

  next-slots : slots next_cache ≡ moved s.image s.cache (move s) (ram_byte s.image s.memory) (slots s.cache)
  next-slots = slots-moved s.image s.cache s.memory _ _ (move s) is.image is.memory is.cache told

  next-ram : ram_byte s.image next_memory ≡ moved_ram s.image s.cache (move s) (slots s.cache) (ram_byte s.image s.memory)
  next-ram = ram-moved s.image s.cache s.memory _ _ (move s) is.image is.memory is.cache told

  next-shape : next_cache.shape ≡ s.cache.shape
  next-shape = shape-moved s.image s.cache s.memory (move s)

  coherent-as : (out : ℕ → Bool) (shape : Shape) (ram : ℕ → ℕ) (cache : Slots) → shape ≡ s.cache.shape
      → ram ≡ moved_ram s.image s.cache (move s) (slots s.cache) (ram_byte s.image s.memory)
      → cache ≡ moved s.image s.cache (move s) (ram_byte s.image s.memory) (slots s.cache) → IsCoherent out s → Coherent shape out ram cache
  coherent-as out shape ram cache e f g coherent =
      rw (e, f, g) (moved-coherent s.image s.cache (ram_byte s.image s.memory) _ _ is.cache out (move s) told coherent)

  coherent-kept : (out : ℕ → Bool) → IsCoherent out s → IsCoherent out (cycle s)
  unfolding cycled
  coherent-kept out coherent =
      coherent-as out next_cache.shape (ram_byte s.image next_memory) (slots next_cache) next-shape next-ram next-slots coherent

  -- a byte of RAM
  view-inside : (out : ℕ → Bool) → IsCoherent out s → (p : ℕ) → out (p / 16) ≡ false → in_ram s.image p ≡ true
      → overlaid (stores_after s.image (action_in_m s) (move s) stores) p (cached next_cache.shape (ram_byte s.image next_memory) (slots next_cache) p)
      ≡ memory_by s.image (done_in s) (view s) p
  unfolding stores_after view
  view-inside out coherent p o inside =
      ap (overlaid (stores_after s.image (action_in_m s) (move s) stores) p)
      (cached-same next_cache.shape s.cache.shape (ram_byte s.image next_memory)
      (moved_ram s.image s.cache (move s) (slots s.cache) (ram_byte s.image s.memory)) (slots next_cache)
      (moved s.image s.cache (move s) (ram_byte s.image s.memory) (slots s.cache)) p next-shape next-ram next-slots)
      ∙ (appended-view s.image (action_in_m s) stores (word_read (move s) s.cache) (kept_stores s.image (move s) stores) p _ (view s)
      (moved-view s.image s.cache (ram_byte s.image s.memory) _ stores is.image is.cache out (move s) p told coherent o inside ∙ rw inside refl))

  -- no store changes the view outside RAM
  nothing-outside : (p : ℕ) → in_ram s.image p ≡ false → view s p ≡ 0
  unfolding view
  nothing-outside p outside = rw outside refl

  stored-outside : (m : Action) (p : ℕ) → in_ram s.image p ≡ false → 0 ≡ memory_by s.image m (view s) p
  stored-outside Nothing p outside = sym (nothing-outside p outside)
  stored-outside (Writes rd value) p outside = sym (nothing-outside p outside)
  stored-outside (Loads kind rd x) p outside = sym (nothing-outside p outside)
  stored-outside (Stores kind x y) p outside = dropped-outside s.image is.image kind x y p (view s) outside (nothing-outside p outside)
  stored-outside (Puts value) p outside = sym (nothing-outside p outside)
  stored-outside (Exits value) p outside = sym (nothing-outside p outside)
  stored-outside (Traps cause) p outside = sym (nothing-outside p outside)

  view-kept : (out : ℕ → Bool) → IsCoherent out s → (p : ℕ) → out (p / 16) ≡ false → view (cycle s) p ≡ memory_by s.image (done_in s) (view s) p
  unfolding view cycled
  view-kept out coherent p o = go (in_ram s.image p) refl
    where
      go : (b : Bool) → in_ram s.image p ≡ b → view (cycle s) p ≡ memory_by s.image (done_in s) (view s) p
      go true h =
          rw h (ap (λ (es : List Entry). overlaid es p (cached next_cache.shape (ram_byte s.image next_memory) (slots next_cache) p))
          (pending-after s.image (action_in_m s) (move s) s.stores) ∙ view-inside out coherent p o h)
      go false h = rw h (stored-outside (done_in s) p h)

  value-given : (served_m s).goes ≡ true → (served_m s).value ≡ given s.image (action_in_m s) (view s)
  value-given goes = served-value s is goes

  pub memory-law : MemoryLaw s (cycle s)
  memory-law = record { coherent = coherent-kept; seen = view-kept; value = value-given }
