-- Dead data bits of dirty lines are harmless.
use Rattle.std.proofs.Common.{◌≡◌, ◌/◌, ◌%◌, ◌<◌, ◌^◌, ◌⊎◌, ℕ, Bool, true, false, cond, refl, sym, ap, ◌∙◌, inl, inr, subst, arith}
use Rattle.std.specs.Int.{bit_at}
use Rattle.std.specs.Prelude.{bit_xor, ◌==◌, drop, is_some, None}
use Rattle.std.proofs.lemmas.Bool.{eqb-true, false≢true}
use Rattle.bit_field.specs.Shapes.{IsPlaceIn, slots as slot_count}
use Rattle.bit_field.specs.declared.places.Structure.TheVariants.{CData}
use Rattle.bit_field.proofs.Bits.{bit_at-flip_other}
use Rattle.store_buf.specs.Covers.{found}
use Rattle.store_buf.specs.Pending.{pending}
use Rattle.wb_cache.specs.Bits as bits
use Rattle.wb_cache.specs.Changes.{set_at, way_at, with_data_bit}
use Rattle.wb_cache.specs.Contents.{Contents, IsSized, Slot, slots}
use Rattle.wb_cache.specs.Lookup.{holds, line_of, set_of}
use Rattle.wb_cache.proofs.Sizes.{slot-split}
use Rattle.wb_cache.proofs.Struck.{slot-at, slots-flip_data}
use Rattle.cyc_machine.specs.Strikes.{flip_in}
use Rattle.need_pass.specs.Needed.{Needed}
use Rattle.need_pass.specs.ProgramBits.ProgramBit.{Byte}
use Rattle.need_pass.specs.Tables.{Needs}
use Rattle.flush_view.specs.RunFacts.{no_line}
use Rattle.flush_view.specs.Struck.{OtherBytes, with_cache}
use Rattle.flush_view.specs.Views.{view}
use Rattle.flush_view.proofs.Struck.Replacing.{held-line}
use Rattle.flush_view.proofs.Struck.States.{struck-laws}
use Rattle.ace_law.specs.MemoryRules.{IsDeadDataBit, IsPending, byte_in, line_in}
use Rattle.ace_law.specs.Moments.{IsQuiet, IsTold, Moment, retired, state}
use Rattle.ace_law.proofs.LineRules.{line-as, none-alone}
use Rattle.ace_law.proofs.RecordedStates.{bit-in, coherent-is, flip-machine}
use Rattle.ace_law.proofs.Told.{state-machine}
use Rattle.ace_law.proofs.Spared.{IsSpared}
use Rattle.ace_law.proofs.SparedPaths.{memory-spared}

-- a flipped bit is no other bit of the byte, nor a bit of another byte
other-bit : (byte o k j v : ℕ) → (o ≡ byte → j ≡ k → ⊥) → bit_at (cond (o == byte) (bit_xor v (2 ^ k)) v) j ≡ bit_at v j
other-bit byte o k j v off = go (o == byte) refl
  where
    go : (b : Bool) → (o == byte) ≡ b → bit_at (cond b (bit_xor v (2 ^ k)) v) j ≡ bit_at v j
    go true e = bit_at-flip_other v k j (off (eqb-true o byte e))
    go false e = refl

module _ (a : Moment) (table : Needs) (k : ℕ) (told : IsTold a.r a.run table) (below : a.t < a.r.cycles) (quiet : IsQuiet a)
    (place : IsPlaceIn a.r.shape (record { structure = CData; bit = k })) (dead : IsDeadDataBit a CData k) where
  abbrev c : Contents
  c = (state a).cache

  abbrev l : ℕ
  l = k / 128

  sized : IsSized c
  sized = (state-machine a table told below).cache.sized

  inside : l < slot_count c.shape
  inside = let within = bit-in a table told CData k place in omega (arith, within)

  abbrev old : Slot
  old = slots c (set_at c.shape l) (way_at c.shape l)

  abbrev changed : Contents
  changed = bits.flip_in CData c k

  abbrev bytes : ℕ → ℕ
  bytes o = cond (o == k % 128 / 8) (bit_xor (old.bytes o) (2 ^ (k % 128 % 8))) (old.bytes o)

  other : OtherBytes (state a) changed (set_at c.shape l) (way_at c.shape l) bytes
  unfolding with_data_bit
  other = struck-laws.bytes (state a) changed (set_at c.shape l) (way_at c.shape l) bytes
      (record { shape = refl; within = (slot-split c.shape l sized.shape inside).1; slots = slots-flip_data c k sized (bit-in a table told CData k place) })

  -- a byte that the slot holds, with the struck bit needed, and no pending store over it: there is none
  spared-bit : (p j : ℕ) → Needed (drop (retired a) a.run.entries) (Byte p j) → found (pending (state a).stores) (p / 4) (p % 4) ≡ None
      → set_of c.shape (p / 16) ≡ set_at c.shape l → holds c.shape (p / 16) old ≡ true → p % 16 ≡ k % 128 / 8 → j ≡ k % 128 % 8 → ⊥
  spared-bit p j needed none set held o bit =
      let line : p / 16 ≡ line_in a l =
      held-line c.shape (set_at c.shape l) (p / 16) old set held
      ∙ ap (λ (slot : Slot). line_of c.shape (set_at c.shape l) slot.tag) (slot-at c l sized inside) ∙ line-as a table told l in
      let at : p ≡ byte_in a l (k % 128 / 8) = omega (arith, line, o) in
      let last : j ≡ k % 8 = omega (arith, bit) in
      go at last dead.1
    where
      go : p ≡ byte_in a l (k % 128 / 8) → j ≡ k % 8
          → IsPending a (byte_in a l (k % 128 / 8)) ⊎ (Needed (drop (retired a) a.run.entries) (Byte (byte_in a l (k % 128 / 8)) (k % 8)) → ⊥) → ⊥
      go at last (inl covered) =
          false≢true (sym (ap is_some none) ∙ subst (λ (q : ℕ). is_some (found (pending (state a).stores) (q / 4) (q % 4)) ≡ true) (sym at) covered)
      go at last (inr unneeded) =
          unneeded (subst (λ (q : ℕ). Needed (drop (retired a) a.run.entries) (Byte q (k % 8))) at
          (subst (λ (i : ℕ). Needed (drop (retired a) a.run.entries) (Byte p i)) last needed))

  seen : (p j : ℕ) → Needed (drop (retired a) a.run.entries) (Byte p j) → bit_at (view (with_cache changed (state a)) p) j ≡ bit_at (view (state a) p) j
  seen p j needed =
      other.view (λ (v : ℕ). bit_at v j) p
      (λ none set held. other-bit (k % 128 / 8) (p % 16) (k % 128 % 8) j (old.bytes (p % 16)) (spared-bit p j needed none set held))

  dirty-old : old.dirty ≡ true
  dirty-old = ap (λ (slot : Slot). slot.dirty) (slot-at c l sized inside) ∙ dead.0.dirty

  pub dead-data-is : IsSpared a no_line (flip_in CData (state a) k)
  dead-data-is =
      memory-spared a table no_line (state a).stores changed told below quiet (none-alone a) (flip-machine a table told CData k below place)
      (other.coherent dirty-old no_line (coherent-is a table told below)) (record { same = λ p j o needed. seen p j needed })
