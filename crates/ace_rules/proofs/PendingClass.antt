-- The class of a bit of the store buffer.
use Rattle.std.proofs.Common.{◌≡◌, ◌+◌, ◌*◌, ◌/◌, ◌%◌, ◌<◌, ◌&&◌, ℕ, Bool, true, false, not, Decides, List, Option, Some, arith, refl, sym, subst}
use Rattle.std.proofs.Common.{if◌then◌else◌}
use Rattle.std.proofs.lemmas.Bool.Decides.{Decides-eqb}
use Rattle.bit_field.specs.Lanes.{has_lane}
use Rattle.bit_field.specs.declared.places.Place.{Place}
use Rattle.bit_field.specs.declared.places.Structure.TheVariants.{Sb}
use Rattle.elf_load.specs.Image.{LoadedImage}
use Rattle.need_pass.specs.Tables.{Needs}
use Rattle.store_buf.specs.Entry.{Entry, no_entry}
use Rattle.store_buf.specs.EntryBits as sb
use Rattle.store_buf.specs.Pending.{slot_of}
use Rattle.store_buf.specs.declared.pending.PendingField.{PendingField}
use Rattle.store_buf.specs.declared.pending.PendingField.TheVariants.{Mask, Addr, Value}
use Rattle.store_buf.specs.declared.pending.TheConstants.{PENDING_BITS}
use Rattle.store_buf.proofs.EntryLaws.{laws}
use Rattle.ace_class.specs.Classes.{number_of}
use Rattle.ace_class.specs.declared.class.Class.{Class}
use Rattle.ace_class.specs.declared.class.Class.TheVariants.{Ace, UnAce}
use Rattle.ace_class.specs.declared.class.Rule.{Rule}
use Rattle.ace_class.specs.declared.class.Rule.TheVariants.{Timing, EmptyPlace, WrongPath, OnPath, Masked, DeadRegister, DeadData, StoreRedirection}
use Rattle.ace_class.specs.declared.class.Rule.TheVariants.{CleanData, CleanLine, UnaccessedLine, CleanTag, NoTrapCause}
use Rattle.ace_law.specs.Classes.{Holds, IsClass}
use Rattle.ace_law.specs.MemoryRules.{IsDeadDataBit, IsDeadValue, IsHarmlessRedirection, IsRedirectionBit, IsTarget}
use Rattle.ace_law.specs.Moments.{IsQuiet, Moment}
use Rattle.ace_law.specs.PipelineRules.{IsEmptyPlaceBit, IsIn, IsUnusedPending}
use Rattle.ace_law.proofs.Told.{state-machine}
use Rattle.ace_rules.specs.Asked.{is_dead_value, is_harmless, is_redirected, is_unused, pending_class}
use Rattle.ace_rules.specs.Notes.{IsKnown}
use Rattle.ace_rules.specs.declared.note.Note.{Note}
use Rattle.ace_rules.proofs.PendingTests.{dead, harmless, is-not}

-- ---- the rules that speak of the store buffer

pub number-below : (rule : Rule) → number_of rule < 14
number-below Timing = omega arith
number-below EmptyPlace = omega arith
number-below WrongPath = omega arith
number-below OnPath = omega arith
number-below Masked = omega arith
number-below DeadRegister = omega arith
number-below DeadData = omega arith
number-below StoreRedirection = omega arith
number-below CleanData = omega arith
number-below CleanLine = omega arith
number-below UnaccessedLine = omega arith
number-below CleanTag = omega arith
number-below NoTrapCause = omega arith

module _ (a : Moment) (k : ℕ) where
  abbrev place : Place
  place = record { structure = Sb; bit = k }

  -- no rule of a number below n holds, where none of those that can hold does
  earlier : (n : ℕ) → (2 < n → IsEmptyPlaceBit a Sb k → ⊥) → (7 < n → IsQuiet a → IsDeadDataBit a Sb k → ⊥)
      → (8 < n → IsQuiet a → IsRedirectionBit a Sb k → ⊥) → (rule : Rule) → number_of rule < n → Holds rule a place → ⊥
  earlier n e d r Timing l h = h.1
  earlier n e d r EmptyPlace l h = e l h
  earlier n e d r WrongPath l h = h.1
  earlier n e d r OnPath l h = h.1
  earlier n e d r Masked l h = h.1
  earlier n e d r DeadRegister l h = h.1
  earlier n e d r DeadData l h = d l h.0 h.1
  earlier n e d r StoreRedirection l h = r l h.0 h.1
  earlier n e d r CleanData l h = h
  earlier n e d r CleanLine l h = h.1
  earlier n e d r UnaccessedLine l h = h.1
  earlier n e d r CleanTag l h = h
  earlier n e d r NoTrapCause l h = h

  abbrev chosen : Bool → Bool → Bool → Bool → Class
  chosen empty quiet dead harmless =
      if empty then UnAce EmptyPlace else if quiet && dead then UnAce DeadData else if quiet && harmless then UnAce StoreRedirection else Ace

  judged : (e q d r : Bool) → Decides e (IsEmptyPlaceBit a Sb k) → Decides q (IsQuiet a) → (e ≡ false → Decides d (IsDeadDataBit a Sb k))
      → Decides r (IsRedirectionBit a Sb k) → IsClass (chosen e q d r) a place
  judged true q d r is-e is-q is-d is-r =
      (is-e.0 refl, earlier 2 (λ l. absurd (omega (arith, l))) (λ l. absurd (omega (arith, l))) (λ l. absurd (omega (arith, l))))
  judged false true true r is-e is-q is-d is-r = (
    (is-q.0 refl, (is-d refl).0 refl),
    earlier 7 (λ l h. let t = is-e.1 h in absurd cc) (λ l. absurd (omega (arith, l))) (λ l. absurd (omega
        (arith, l))),
  )
  judged false true false true is-e is-q is-d is-r = (
    (is-q.0 refl, is-r.0 refl),
    earlier 8 (λ l h. let t = is-e.1 h in absurd cc) (λ l q h. let t = (is-d refl).1 h in absurd cc) (λ l. absurd (omega (arith, l))),
  )
  judged false true false false is-e is-q is-d is-r =
      λ rule. earlier 14 (λ l h. let t = is-e.1 h in absurd cc) (λ l q h. let t = (is-d refl).1 h in absurd cc)
      (λ l q h. let t = is-r.1 h in absurd cc)
      rule (number-below rule)
  judged false false d r is-e is-q is-d is-r =
      λ rule. earlier 14 (λ l h. let t = is-e.1 h in absurd cc) (λ l q. let t = is-q.1 q in absurd cc) (λ l q. let t = is-q.1 q in absurd cc)
      rule (number-below rule)

-- ---- what is asked

never : Decides false ⊥
never = (λ e. absurd cc, λ h. absurd h)

unused-by : (e : Entry) (f : PendingField) (j : ℕ) → Decides (is_unused e f j) (IsUnusedPending e f j)
unfolding is_unused
unused-by e Mask j = never
unused-by e Addr j = Decides-eqb e.mask 0
unused-by e Value j = is-not (has_lane e.mask (j / 8))

module _ (image : LoadedImage) (a : Moment) (table : Needs) (note : Note) (quiet : Bool) (known : IsKnown a table note quiet)
    (same : image ≡ a.r.image)
    (i : ℕ) (slot : i < 4) where
  abbrev store : Entry
  store = slot_of note.stores i

  fit : sb.IsFit store
  fit =
      let stores = (state-machine a table known.told known.below).stores in
      subst (λ (stores : List Entry). sb.IsFit (slot_of stores i)) (sym known.noted.stores)
      (stores.1 i no_entry (let n = stores.0 in omega (arith, n, slot)))

  value-used : (j : ℕ) → is_unused store Value j ≡ false → has_lane store.mask (j / 8) ≡ true
  unfolding is_unused
  value-used j h = go (has_lane store.mask (j / 8)) h
    where
      go : (b : Bool) → not b ≡ false → b ≡ true
      go true e = refl
      go false e = absurd cc

  dead-by : (f : PendingField) (j : ℕ) → j < 32 → is_unused store f j ≡ false → Decides (is_dead_value table note i f j) (IsDeadValue a i store f j)
  unfolding is_dead_value
  dead-by Mask j l h = never
  dead-by Addr j l h = never
  dead-by Value j l h =
      let near = fit.1.0 in
      let is = dead image a table note known.told known.noted same i (4 * store.addr + j / 8) (j % 8) (omega (arith, near, l)) (omega arith) in
      (λ e. (value-used j h, is.0 e), λ d. is.1 d.1)

  harmless-by : (b : ℕ) → b < PENDING_BITS → Decides (is_harmless image table note i (sb.flipped store b)) (IsHarmlessRedirection a i store
      (sb.flipped store b))
  harmless-by b l =
      harmless image a table note known.told known.noted same i (sb.flipped store b) fit.1.0 (laws.fit_stays store b fit l).1.0

  redirected-by : (f : PendingField) (b j : ℕ) → b < PENDING_BITS
      → Decides (is_redirected image table note i f b) (IsTarget f j × IsHarmlessRedirection a i store (sb.flipped store b))
  unfolding is_redirected
  redirected-by Mask b j l = let is = harmless-by b l in (λ e. (tt, is.0 e), λ h. is.1 h.1)
  redirected-by Addr b j l = let is = harmless-by b l in (λ e. (tt, is.0 e), λ h. is.1 h.1)
  redirected-by Value b j l = (λ e. absurd cc, λ h. absurd h.0)

  in-field : (named : PendingField → ℕ → Type 0) (o : Option (PendingField × ℕ)) (f : PendingField) (j : ℕ) (t : Bool) → o ≡ Some (f, j)
      → Decides t (named f j) → Decides t (IsIn named o)
  in-field named o f j t e d = subst (λ o. Decides t (IsIn named o)) (sym e) d

  module _ (k b : ℕ) (at_slot : k / PENDING_BITS ≡ i) (at_bit : k % PENDING_BITS ≡ b) (f : PendingField) (j : ℕ)
      (field : sb.field_of b ≡ Some (f, j)) (within : b < PENDING_BITS) (narrow : j < 32) where
    empty : Decides (is_unused store f j) (IsEmptyPlaceBit a Sb k)
    empty =
        rw (at_slot, at_bit) (subst (λ (stores : List Entry). Decides (is_unused store f j) (IsIn (IsUnusedPending (slot_of stores i))
        (sb.field_of b)))
        known.noted.stores (in-field (IsUnusedPending store) (sb.field_of b) f j (is_unused store f j) field (unused-by store f j)))

    dead_value : is_unused store f j ≡ false → Decides (is_dead_value table note i f j) (IsDeadDataBit a Sb k)
    dead_value used =
        rw (at_slot, at_bit) (subst (λ (stores : List Entry). Decides (is_dead_value table note i f j) (IsIn (IsDeadValue a i (slot_of stores i))
        (sb.field_of b)))
        known.noted.stores (in-field (IsDeadValue a i store) (sb.field_of b) f j (is_dead_value table note i f j) field (dead-by f j narrow used)))

    redirected : Decides (is_redirected image table note i f b) (IsRedirectionBit a Sb k)
    redirected =
        rw (at_slot, at_bit) (subst (λ (stores : List Entry). Decides (is_redirected image table note i f b)
        (IsIn IsTarget (sb.field_of b) × IsHarmlessRedirection a i (slot_of stores i) (sb.flipped (slot_of stores i) b))) known.noted.stores
        (subst (λ o. Decides (is_redirected image table note i f b) (IsIn IsTarget o × IsHarmlessRedirection a i store (sb.flipped store b)))
        (sym field)
        (redirected-by f b j within)))

    pub pending-class : IsClass (pending_class image table note quiet i b f j) a (record { structure = Sb; bit = k })
    unfolding pending_class
    pending-class =
        judged a k (is_unused store f j) quiet (is_dead_value table note i f j) (is_redirected image table note i f b) empty
        (known.silent.0, known.silent.1) dead_value redirected
