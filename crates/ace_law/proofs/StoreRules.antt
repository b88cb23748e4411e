-- Dead value bits of pending stores, and redirections of them that touch nothing that is needed, are harmless.
use Rattle.std.proofs.Common.{◌≡◌, ◌≢◌, ◌+◌, ◌*◌, ◌/◌, ◌%◌, ◌<◌, ◌^◌, ◌⊎◌, ℕ, suc, Bool, true, false, cond, refl, sym, ap, ◌∙◌, inl, inr, subst, arith, length}
use Rattle.std.specs.Int.{bit_at}
use Rattle.std.specs.Prelude.{◌==◌, ◌&&◌, drop, is_some, Option, Some, None}
use Rattle.std.proofs.lemmas.Bool.{eqb-true, false≢true, true≢false}
use Rattle.bit_field.specs.Lanes.{has_lane, lane_byte}
use Rattle.bit_field.specs.Layouts.{flip}
use Rattle.bit_field.specs.Shapes.{IsPlaceIn}
use Rattle.bit_field.specs.declared.places.Structure.{Structure}
use Rattle.bit_field.specs.declared.places.Structure.TheVariants.{Sb, CData}
use Rattle.bit_field.proofs.Bits.{bit_at-flip_other}
use Rattle.bit_field.proofs.Low.{bit_at-mod, bit_at-shr}
use Rattle.elf_load.specs.Image.{in_ram}
use Rattle.rv_table.specs.Accesses.{byte_of}
use Rattle.store_buf.specs.BufferBits as buffer
use Rattle.store_buf.specs.Covers.{found}
use Rattle.store_buf.specs.Entry.{Entry as Pending}
use Rattle.store_buf.specs.EntryBits as sb
use Rattle.store_buf.specs.Pending.{slot_of}
use Rattle.store_buf.specs.declared.pending.PendingField.{PendingField}
use Rattle.store_buf.specs.declared.pending.PendingField.TheVariants.{Addr, Mask, Value}
use Rattle.store_buf.specs.declared.pending.TheConstants.{PENDING_BITS}
use Rattle.cyc_machine.specs.Strikes.{flip_in}
use Rattle.cyc_machine.proofs.LoadedLanes.{lane-byte}
use Rattle.need_pass.specs.Needed.{Needed}
use Rattle.need_pass.specs.ProgramBits.ProgramBit.{Byte}
use Rattle.need_pass.specs.Tables.{Needs}
use Rattle.need_pass.proofs.Facts.{facts}
use Rattle.flush_view.specs.RunFacts.{no_line}
use Rattle.flush_view.specs.Struck.{OtherStore}
use Rattle.flush_view.specs.Views.{over}
use Rattle.flush_view.proofs.Struck.States.{struck-laws}
use Rattle.run_record.specs.Verdict.{HasSame}
use Rattle.ace_law.specs.MemoryRules.{IsDeadDataBit, IsDeadValue, IsHarmlessRedirection, IsPendingBehind, IsRedirectionBit, IsTarget, IsUnneeded, writes}
use Rattle.ace_law.specs.Moments.{IsQuiet, IsTold, Moment, retired, state}
use Rattle.ace_law.specs.PipelineRules.{IsIn}
use Rattle.ace_law.proofs.DataRules.{dead-data-is}
use Rattle.ace_law.proofs.LineRules.{none-alone}
use Rattle.ace_law.proofs.RecordedStates.{coherent-is, flip-machine}
use Rattle.ace_law.proofs.Told.{state-image, state-machine}
use Rattle.ace_law.proofs.Spared.{IsSpared}
use Rattle.ace_law.proofs.SparedPaths.{memory-spared}
use Rattle.ace_law.proofs.SparedSame.{spared-same}

-- ---- bits of a byte of a word

lane-bit : (value lane b : ℕ) → lane < 4 → b < 8 → bit_at (lane_byte value lane) b ≡ bit_at value (8 * lane + b)
unfolding byte_of
lane-bit value lane b h l =
    ap (λ (v : ℕ). bit_at v b) (lane-byte value lane h) ∙ bit_at-mod (value / 2 ^ (8 * lane)) 8 b l ∙ bit_at-shr value (8 * lane) b

-- a flipped bit of a word shows in one bit of one lane
pub lane-other : (value j lane b : ℕ) → lane < 4 → b < 8 → (8 * lane + b ≡ j → ⊥) → bit_at (lane_byte (flip value j) lane) b ≡ bit_at (lane_byte value lane) b
lane-other value j lane b h l off =
    lane-bit (flip value j) lane b h l ∙ bit_at-flip_other value j (8 * lane + b) off ∙ sym (lane-bit value lane b h l)

-- ---- two stores over a byte

over-value : (e : Pending) (j p b below : ℕ) → b < 8 → (e.addr ≡ p / 4 → has_lane e.mask (p % 4) ≡ true → 8 * (p % 4) + b ≡ j → ⊥)
    → bit_at (over (record e { value = flip e.value j }) p below) b ≡ bit_at (over e p below) b
over-value e j p b below l off = go (e.addr == p / 4) (has_lane e.mask (p % 4)) refl refl
  where
    go : (x y : Bool) → (e.addr == p / 4) ≡ x → has_lane e.mask (p % 4) ≡ y
        → bit_at (cond (x && y) (lane_byte (flip e.value j) (p % 4)) below) b ≡ bit_at (cond (x && y) (lane_byte e.value (p % 4)) below) b
    go true true m n = lane-other e.value j (p % 4) b (omega arith) l (off (eqb-true e.addr (p / 4) m) n)
    go true false m n = refl
    go false y m n = refl

-- where both write a byte or neither does, the values being the same
over-same : (e other : Pending) (p below : ℕ) → other.value ≡ e.value → writes other p ≡ writes e p → over other p below ≡ over e p below
over-same e other p below v w = rw (w, v) refl

by-writing : (b c : Bool) → (b ≡ c) ⊎ (b ≢ c)
by-writing true true = inl refl
by-writing true false = inr true≢false
by-writing false true = inr false≢true
by-writing false false = inl refl

-- ---- a slot of the store buffer

module _ (a : Moment) (table : Needs) (k : ℕ) (told : IsTold a.r a.run table) (below : a.t < a.r.cycles) (quiet : IsQuiet a)
    (place : IsPlaceIn a.r.shape (record { structure = Sb; bit = k })) where
  abbrev i : ℕ
  i = k / PENDING_BITS

  abbrev e : Pending
  e = slot_of (state a).stores i

  abbrev struck : Pending
  struck = sb.flipped e (k % PENDING_BITS)

  inside : i < length (state a).stores
  inside = let slots = (state-machine a table told below).stores.0 in omega (arith, place, slots)

  -- bits that are needed show alike where no store behind holds their byte
  abbrev ShowsAlike : Pending → Type 0
  ShowsAlike other =
      (p b under : ℕ) → Needed (drop (retired a) a.run.entries) (Byte p b) → in_ram a.r.image p ≡ true
      → found (drop (suc i) (state a).stores) (p / 4) (p % 4) ≡ None → bit_at (over other p under) b ≡ bit_at (over e p under) b

  store-spared : ShowsAlike struck → IsSpared a no_line (flip_in Sb (state a) k)
  store-spared alike =
      let law : OtherStore (state a) i struck = struck-laws.store (state a) i struck inside in
      memory-spared a table no_line (buffer.flipped (state a).stores k) (state a).cache told below quiet (none-alone a)
      (flip-machine a table told Sb k below place) (law.coherent no_line (coherent-is a table told below))
      (record {
        same = λ p j o needed. law.view (λ (v : ℕ). bit_at v j) p
            (λ ram none under. alike p j under needed (sym (ap (λ image. in_ram image p) (state-image a table told)) ∙ ram) none);
      })

  not-behind : (p : ℕ) → found (drop (suc i) (state a).stores) (p / 4) (p % 4) ≡ None → IsPendingBehind a i p → ⊥
  not-behind p none covered = false≢true (sym (ap is_some none) ∙ covered)

  -- a dead bit of the value
  value-alike : (j : ℕ) → IsDeadValue a i e Value j → ShowsAlike (record e { value = flip e.value j })
  value-alike j dead p b under needed ram none =
      let low : b < 8 = (facts.bits (drop (retired a) a.run.entries) (Byte p b) needed).1 in
      over-value e j p b under low (λ at lane bit. go (omega (arith, at, bit, low)) (omega (arith, bit, low)) dead.1)
    where
      go : p ≡ 4 * e.addr + j / 8 → b ≡ j % 8
          → IsPendingBehind a i (4 * e.addr + j / 8) ⊎ IsUnneeded a (retired a) (Byte (4 * e.addr + j / 8) (j % 8)) → ⊥
      go at bit (inl covered) = not-behind p none (subst (IsPendingBehind a i) (sym at) covered)
      go at bit (inr unneeded) =
          unneeded (subst (λ (q : ℕ). Needed (drop (retired a) a.run.entries) (Byte q (j % 8))) at
          (subst (λ (n : ℕ). Needed (drop (retired a) a.run.entries) (Byte p n)) bit needed))

  -- a harmless redirection
  target-alike : (other : Pending) → other.value ≡ e.value → IsHarmlessRedirection a i e other → ShowsAlike other
  target-alike other v harmless p b under needed ram none = go (by-writing (writes other p) (writes e p))
    where
      spared : (in_ram a.r.image p ≡ false) ⊎ IsPendingBehind a i p ⊎ ((j : ℕ) → IsUnneeded a (retired a) (Byte p j)) → ⊥
      spared (inl off) = true≢false (sym ram ∙ off)
      spared (inr (inl covered)) = not-behind p none covered
      spared (inr (inr unneeded)) = unneeded b needed

      go : (writes other p ≡ writes e p) ⊎ (writes other p ≢ writes e p) → bit_at (over other p under) b ≡ bit_at (over e p under) b
      go (inl same) = ap (λ (x : ℕ). bit_at x b) (over-same e other p under v same)
      go (inr differs) = absurd (spared (harmless p differs))

  -- by the field of the bit
  dead-by : (o : Option (PendingField × ℕ)) → sb.field_of (k % PENDING_BITS) ≡ o → IsIn (IsDeadValue a i e) o → ShowsAlike struck
  dead-by (Some (Value, j)) is dead = rw is (value-alike j dead)
  dead-by (Some (Mask, j)) is dead = absurd dead
  dead-by (Some (Addr, j)) is dead = absurd dead
  dead-by None is dead = absurd dead

  redirected-by : (o : Option (PendingField × ℕ)) → sb.field_of (k % PENDING_BITS) ≡ o → IsIn IsTarget o → IsHarmlessRedirection a i e struck
      → ShowsAlike struck
  redirected-by (Some (Mask, j)) is at harmless = target-alike struck (rw is refl) harmless
  redirected-by (Some (Addr, j)) is at harmless = target-alike struck (rw is refl) harmless
  redirected-by (Some (Value, j)) is at harmless = absurd at
  redirected-by None is at harmless = absurd at

  pub dead-value-is : IsDeadDataBit a Sb k → IsSpared a no_line (flip_in Sb (state a) k)
  dead-value-is dead = store-spared (dead-by (sb.field_of (k % PENDING_BITS)) refl dead)

  pub redirection-is : IsRedirectionBit a Sb k → IsSpared a no_line (flip_in Sb (state a) k)
  redirection-is is = store-spared (redirected-by (sb.field_of (k % PENDING_BITS)) refl is.0 is.1)

-- ---- the rules

pub dead-data-same : (a : Moment) (table : Needs) (s : Structure) (k : ℕ) → IsTold a.r a.run table → a.t < a.r.cycles
    → IsPlaceIn a.r.shape (record { structure = s; bit = k }) → IsQuiet a → IsDeadDataBit a s k → HasSame a.r a.t (flip_in s (state a) k)
dead-data-same a table CData k told below place quiet dead =
    spared-same a table no_line (flip_in CData (state a) k) told below quiet (dead-data-is a table k told below quiet place dead)
dead-data-same a table Sb k told below place quiet dead =
    spared-same a table no_line (flip_in Sb (state a) k) told below quiet (dead-value-is a table k told below quiet place dead)
dead-data-same a table _ k told below place quiet dead = absurd dead

pub redirection-same : (a : Moment) (table : Needs) (s : Structure) (k : ℕ) → IsTold a.r a.run table → a.t < a.r.cycles
    → IsPlaceIn a.r.shape (record { structure = s; bit = k }) → IsQuiet a → IsRedirectionBit a s k → HasSame a.r a.t (flip_in s (state a) k)
redirection-same a table Sb k told below place quiet is =
    spared-same a table no_line (flip_in Sb (state a) k) told below quiet (redirection-is a table k told below quiet place is)
redirection-same a table _ k told below place quiet is = absurd is
