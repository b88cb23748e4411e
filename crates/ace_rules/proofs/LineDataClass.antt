-- The classes of the data bits of line slots.
use Rattle.std.proofs.Common.{◌≡◌, ◌⊎◌, ◌+◌, ◌*◌, ◌/◌, ◌%◌, ◌≤◌, ◌<◌, ◌^◌, ◌==◌, ◌&&◌, zero, suc, ℕ, Bool, true, false, not, Decides, List}
use Rattle.std.proofs.Common.{[], ◌∷◌, Some, None, is_some, length, nat_le, slice_get, arith, refl, sym, subst, ap, ◌∙◌, inl, inr}
use Rattle.std.proofs.Common.{if◌then◌else◌}
use Rattle.std.specs.Int.{bit_at}
use Rattle.std.proofs.lemmas.Bool.{cases_eq}
use Rattle.std.proofs.lemmas.Bool.Decides.{nat_tests, Decides-and, Decides-like, Decides-or}
use Rattle.bit_field.specs.Shapes.{slots as slot_count}
use Rattle.bit_field.specs.declared.places.Place.{Place}
use Rattle.bit_field.specs.declared.places.Structure.TheVariants.{CData}
use Rattle.bit_field.specs.declared.shapes.Shape.{Shape}
use Rattle.need_pass.specs.ProgramBits.ProgramBit.{Byte}
use Rattle.need_pass.specs.Tables.{Needs, byte_need}
use Rattle.store_buf.specs.Covers.{found}
use Rattle.store_buf.specs.Entry.{Entry}
use Rattle.store_buf.specs.Pending.{pending}
use Rattle.store_buf.proofs.Youngest.{found-pending}
use Rattle.wb_cache.specs.Changes.{set_at}
use Rattle.wb_cache.specs.Contents.{slot_at}
use Rattle.wb_cache.specs.Lookup.{line_of}
use Rattle.event_log.specs.Nexts.{next_of}
use Rattle.event_log.specs.declared.next.Next.{Next}
use Rattle.event_log.specs.declared.next.Next.TheVariants.{Read, Overwritten, Beside, Evicted, Ends}
use Rattle.line_life.specs.Lives.{Lives, next_in}
use Rattle.cyc_machine.specs.EventsLaw.{IsHeld}
use Rattle.slot_history.specs.HeldBefore.{told}
use Rattle.slot_history.specs.Histories.{Histories, held_in}
use Rattle.slot_history.specs.declared.changes.Held.{Held}
use Rattle.slot_history.specs.declared.changes.Held.TheVariants.{Vacant, Clean, Dirty}
use Rattle.ace_class.specs.Classes.{number_of}
use Rattle.ace_class.specs.declared.class.Class.TheVariants.{Ace, UnAce}
use Rattle.ace_class.specs.declared.class.Rule.{Rule}
use Rattle.ace_class.specs.declared.class.Rule.TheVariants.{Timing, EmptyPlace, WrongPath, OnPath, Masked, DeadRegister, DeadData, StoreRedirection}
use Rattle.ace_class.specs.declared.class.Rule.TheVariants.{CleanData, CleanLine, UnaccessedLine, CleanTag, NoTrapCause}
use Rattle.ace_law.specs.Classes.{Holds, IsClass}
use Rattle.ace_law.specs.MemoryRules.{IsDeadDataBit, IsPending, IsUnneeded, IsUnread, IsUnreadDataBit, line_in}
use Rattle.ace_law.specs.Moments.{IsQuiet, IsTold, Moment, moved, retired, state}
use Rattle.ace_law.specs.PipelineRules.{IsEmptyPlaceBit}
use Rattle.ace_law.proofs.Told.{state-shape}
use Rattle.ace_rules.specs.Asked.{IsLineHeld, is_dead, retired_by, written_from}
use Rattle.ace_rules.specs.LineData.{AreDataTables, IsNextBelow, data_class, is_dead_in, is_dead_line, is_unread}
use Rattle.ace_rules.specs.Notes.{IsNote, Story, moment}
use Rattle.ace_rules.specs.declared.note.Note.{Note}
use Rattle.ace_rules.proofs.HeldLines.{held-below, held-in}
use Rattle.ace_rules.proofs.LineClass.{all, none}
use Rattle.ace_rules.proofs.NextEvents.{next-below}
use Rattle.ace_rules.proofs.PendingClass.{number-below}
use Rattle.ace_rules.proofs.Unneeded.{counted, unneeded-decides}

-- ---- the rules that speak of data bits

module _ (a : Moment) (k : ℕ) where
  abbrev at : Place
  at = record { structure = CData; bit = k }

  data-earlier : (n : ℕ) → (2 < n → IsEmptyPlaceBit a CData k → ⊥) → (7 < n → IsQuiet a × IsDeadDataBit a CData k → ⊥)
      → (9 < n → IsUnreadDataBit a CData k → ⊥) → (rule : Rule) → number_of rule < n → Holds rule a at → ⊥
  data-earlier n e d u Timing l h = h.1
  data-earlier n e d u EmptyPlace l h = e l h
  data-earlier n e d u WrongPath l h = h.1
  data-earlier n e d u OnPath l h = h.1
  data-earlier n e d u Masked l h = h.1
  data-earlier n e d u DeadRegister l h = h.1
  data-earlier n e d u DeadData l h = d l h
  data-earlier n e d u StoreRedirection l h = h.1
  data-earlier n e d u CleanData l h = u l h
  data-earlier n e d u CleanLine l h = h.1
  data-earlier n e d u UnaccessedLine l h = h.1
  data-earlier n e d u CleanTag l h = h
  data-earlier n e d u NoTrapCause l h = h

  data-judged : (e d u : Bool) → Decides e (IsEmptyPlaceBit a CData k) → Decides d (IsQuiet a × IsDeadDataBit a CData k)
      → Decides u (IsUnreadDataBit a CData k)
      → IsClass (if e then UnAce EmptyPlace else if d then UnAce DeadData else if u then UnAce CleanData else Ace) a at
  data-judged true d u is-e is-d is-u =
      (is-e.0 refl, data-earlier 2 (λ l. absurd (omega (arith, l))) (λ l. absurd (omega (arith, l))) (λ l. absurd (omega (arith, l))))
  data-judged false true u is-e is-d is-u =
      (is-d.0 refl, data-earlier 7 (λ l h. let t = is-e.1 h in absurd cc) (λ l. absurd (omega (arith, l))) (λ l. absurd (omega (arith, l))))
  data-judged false false true is-e is-d is-u =
      (is-u.0 refl, data-earlier 9 (λ l h. let t = is-e.1 h in absurd cc) (λ l h. let t = is-d.1 h in absurd cc) (λ l. absurd (omega (arith, l))))
  data-judged false false false is-e is-d is-u =
      λ rule. data-earlier 14 (λ l h. let t = is-e.1 h in absurd cc) (λ l h. let t = is-d.1 h in absurd cc) (λ l h. let t = is-u.1 h in absurd cc)
      rule (number-below rule)

pub get-some : (xs : List Note) (i : ℕ) → i < length xs → (x : Note) × (slice_get xs i ≡ Some x)
get-some [] i l = absurd (omega (arith, l))
get-some (x ∷ xs) zero l = (x, refl)
get-some (x ∷ xs) (suc i) l = get-some xs i (omega (arith, l))

get-none : (xs : List Note) (i : ℕ) → length xs ≤ i → slice_get xs i ≡ None
get-none [] i l = refl
get-none (x ∷ xs) zero l = absurd (omega (arith, l))
get-none (x ∷ xs) (suc i) l = get-none xs i (omega (arith, l))

pub get-within : (xs : List Note) (i : ℕ) (x : Note) → slice_get xs i ≡ Some x → i < length xs
get-within [] i x h = absurd cc
get-within (x ∷ xs) zero y h = omega arith
get-within (x ∷ xs) (suc i) y h = let l = get-within xs i y h in omega (arith, l)

le-decides : (m n : ℕ) → Decides (nat_le m n) (m ≤ n)
le-decides m n = (λ h. grind (arith, nat_tests), λ l. grind (arith, nat_tests))

-- ---- dead bits of a dirty line

module _ (a : Moment) (table : Needs) (note : Note) (is : IsTold a.r a.run table) (noted : IsNote a table note) (k : ℕ) where
  pub pending-is : (p : ℕ) → Decides (written_from note.stores 0 p) (IsPending a p)
  pending-is p =
      let e : written_from note.stores 0 p ≡ is_some (found (pending (state a).stores) (p / 4) (p % 4)) =
      ap (λ (stores : List Entry). written_from stores 0 p) noted.stores ∙ ap is_some (sym (found-pending (state a).stores (p / 4) (p % 4))) in
      (λ h. sym e ∙ h, λ h. e ∙ h)

  dead-byte : (p j : ℕ) → p < 2 ^ 32 → j < 8 → Decides (is_dead table note 0 p j) (IsPending a p ⊎ IsUnneeded a (retired a) (Byte p j))
  unfolding is_dead
  dead-byte p j l b =
      Decides-or (written_from note.stores 0 p) (not (bit_at (byte_need table p (retired_by note)) j == 1)) (pending-is p)
      (unneeded-decides a table note is noted p j l b)

  held-line : (l line : ℕ) → line ≡ line_of (state a).cache.shape (set_at (state a).cache.shape l) (slot_at (state a).cache l).tag
      → line ≡ line_in a l
  held-line l line e = e ∙ ap (λ (sh : Shape). line_of sh (set_at sh l) (slot_at (state a).cache l).tag) (state-shape a table is)

  dead-line : (holds : Held) → IsHeld (state a).cache (k / 128) (told holds) → IsLineHeld holds
      → Decides (is_dead_line table note holds (k % 128 / 8) (k % 8)) (IsDeadDataBit a CData k)
  unfolding is_dead_line
  dead-line Vacant h b = none (λ d. let v = d.0.valid in absurd cc)
  dead-line (Clean line) (v, d, e) b = none (λ g. let x = g.0.dirty in absurd cc)
  dead-line (Dirty line) (v, d, e) b =
      let dead = subst (λ (n : ℕ). Decides (is_dead table note 0 (16 * line + k % 128 / 8) (k % 8))
      (IsPending a (16 * n + k % 128 / 8) ⊎ IsUnneeded a (retired a) (Byte (16 * n + k % 128 / 8) (k % 8)))) (held-line (k / 128) line e)
      (dead-byte (16 * line + k % 128 / 8) (k % 8) (omega (arith, b)) (omega arith)) in
      Decides-like (is_dead table note 0 (16 * line + k % 128 / 8) (k % 8)) (λ g. (record { valid = v; dirty = d }, g)) (λ g. g.1) dead

-- ---- over the run

pub notes-counted : (story : Story) (table : Needs) (notes : List Note) (quiet : ℕ) (cache : Shape) (lives : Lives) (lines : Histories)
    → AreDataTables story table notes quiet cache lives lines → (t : ℕ) (note : Note) → slice_get notes t ≡ Some note → retired_by note ≤ table.count
notes-counted story table notes quiet cache lives lines tables t note get =
    let count = tables.cycles in
    let within = get-within notes t note get in
    counted (moment story t) table note tables.told (omega (arith, count, within)) (tables.each t note get)

module _ (story : Story) (table : Needs) (notes : List Note) (quiet : ℕ) (cache : Shape) (lives : Lives) (lines : Histories)
    (tables : AreDataTables story table notes quiet cache lives lines) (k : ℕ) (slot : k / 128 < slot_count cache) where
  abbrev l : ℕ
  l = k / 128

  here : l < slot_count story.r.shape
  here = subst (λ (sh : Shape). l < slot_count sh) tables.shape slot

  holds-at : (t : ℕ) → t < story.r.cycles → IsHeld (state (moment story t)).cache l (told (held_in lines l t))
  holds-at t below = held-in (moment story t) table tables.told below lines tables.slots l here

  pub lines-below : (t : ℕ) → t < story.r.cycles → IsLineHeld (held_in lines l t)
  lines-below t below = held-below (moment story t) table tables.told below l (held_in lines l t) here (holds-at t below)

  dead-noted : (t : ℕ) → t < story.r.cycles → (note : Note) → slice_get notes t ≡ Some note
      → Decides (nat_le quiet t && is_dead_line table note (held_in lines l t) (k % 128 / 8) (k % 8))
      (IsQuiet (moment story t) × IsDeadDataBit (moment story t) CData k)
  dead-noted t below note get =
      let q = le-decides quiet t in
      let silent = tables.silent t below in
      Decides-and (nat_le quiet t) (is_dead_line table note (held_in lines l t) (k % 128 / 8) (k % 8))
      (λ h. silent.0 (q.0 h), λ h. q.1 (silent.1 h))
      (dead-line (moment story t) table note tables.told (tables.each t note get) k (held_in lines l t) (holds-at t below) (lines-below t below))

  dead-in : (t : ℕ) → t < story.r.cycles → Decides (is_dead_in table quiet lines l (k % 128 / 8) (k % 8) t (slice_get notes t))
      (IsQuiet (moment story t) × IsDeadDataBit (moment story t) CData k)
  unfolding is_dead_in
  dead-in t below =
      let count = tables.cycles in
      let (note, get) = get-some notes t (omega (arith, count, below)) in
      rw get (dead-noted t below note get)

  after-end : (t : ℕ) → story.r.cycles ≤ t → is_dead_in table quiet lines l (k % 128 / 8) (k % 8) t (slice_get notes t) ≡ true
  unfolding is_dead_in
  after-end t late = let count = tables.cycles in let e = get-none notes t (omega (arith, count, late)) in rw e refl

  beside : (t c : ℕ) → c < story.r.cycles → Decides (is_dead_in table quiet lines l (k % 128 / 8) (k % 8) (suc c) (slice_get notes (suc c)))
      ((suc c ≡ story.r.cycles) ⊎ (IsQuiet (moved (moment story t) (suc c)) × IsDeadDataBit (moved (moment story t) (suc c)) CData k))
  beside t c below =
      elim (cases_eq (suc c) story.r.cycles) [
        | inl e ↦ (λ h. inl e, λ h. after-end (suc c) (omega (arith, e)))
        | inr ne ↦ Decides-like (is_dead_in table quiet lines l (k % 128 / 8) (k % 8) (suc c) (slice_get notes (suc c))) (λ g. inr g)
            (λ g. elim g [ inl e ↦ absurd (ne e) | inr x ↦ x ]) (dead-in (suc c) (omega (arith, below, ne)))
      ]

  unread-by : (t : ℕ) (next : Next) → IsNextBelow story.r.cycles next
      → Decides (is_unread table notes quiet lines l (k % 128 / 8) (k % 8) next) (IsUnread (moment story t) k next)
  unfolding is_unread
  unread-by t (Read c) b = none (λ h. h)
  unread-by t (Overwritten c) b = all tt
  unread-by t (Beside c) b =
      let e : suc c ≡ c + 1 = omega arith in
      subst (λ (n : ℕ). Decides (is_dead_in table quiet lines l (k % 128 / 8) (k % 8) n (slice_get notes n)) (IsUnread (moment story t) k
      (Beside c))) e
      (beside t c b)
  unread-by t (Evicted c) b = all tt
  unread-by t Ends b = all tt

  next-is : (t : ℕ) → next_in lives l (k % 128 / 8) t ≡ next_of story.r.shape l (k % 128 / 8) t story.r.events
  next-is t = tables.life.next l (k % 128 / 8) t here (omega arith)

  next-within : (t : ℕ) → IsNextBelow story.r.cycles (next_in lives l (k % 128 / 8) t)
  next-within t =
      subst (λ (next : Next). IsNextBelow story.r.cycles next) (sym (next-is t)) (next-below (moment story t) table tables.told l (k % 128 / 8) t)

  unread : (t : ℕ) → Decides (is_unread table notes quiet lines l (k % 128 / 8) (k % 8) (next_in lives l (k % 128 / 8) t))
      (IsUnread (moment story t) k (next_of story.r.shape l (k % 128 / 8) t story.r.events))
  unread t =
      subst (λ (next : Next). Decides (is_unread table notes quiet lines l (k % 128 / 8) (k % 8) (next_in lives l (k % 128 / 8) t))
      (IsUnread (moment story t) k next)) (next-is t) (unread-by t (next_in lives l (k % 128 / 8) t) (next-within t))

  class-by : (t : ℕ) → t < story.r.cycles → (holds : Held) → IsHeld (state (moment story t)).cache l (told holds) → (dead free : Bool)
      → Decides dead (IsQuiet (moment story t) × IsDeadDataBit (moment story t) CData k)
      → Decides free (IsUnread (moment story t) k (next_of story.r.shape l (k % 128 / 8) t story.r.events))
      → IsClass (data_class holds dead free) (moment story t) (record { structure = CData; bit = k })
  unfolding data_class
  class-by t below Vacant h dead free is-d is-u =
      data-judged (moment story t) k true false false (all h) (none (λ d. let v = d.1.0.valid in absurd cc)) (none
      (λ u. let v = u.0.valid in absurd cc))
  class-by t below (Clean line) (v, d, e) dead free is-d is-u =
      data-judged (moment story t) k false false free (none (λ w. absurd cc)) (none (λ g. let x = g.1.0.dirty in absurd cc))
      (Decides-like free (λ u. (record { valid = v; clean = d }, u)) (λ u. u.1) is-u)
  class-by t below (Dirty line) (v, d, e) dead free is-d is-u =
      data-judged (moment story t) k false dead false (none (λ w. absurd cc)) is-d (none (λ u. let x = u.0.clean in absurd cc))

  -- by what the slot holds and what comes next
  pub data-class : (t : ℕ) → t < story.r.cycles → (holds : Held) → holds ≡ held_in lines l t → (next : Next) → next ≡ next_in lives l (k % 128 / 8) t
      → IsClass (data_class holds (is_dead_in table quiet lines l (k % 128 / 8) (k % 8) t (slice_get notes t))
      (is_unread table notes quiet lines l (k % 128 / 8) (k % 8) next)) (moment story t) (record { structure = CData; bit = k })
  data-class t below holds h next n =
      rw (h, n) (class-by t below (held_in lines l t) (holds-at t below) (is_dead_in table quiet lines l (k % 128 / 8) (k % 8) t (slice_get notes t))
      (is_unread table notes quiet lines l (k % 128 / 8) (k % 8) (next_in lives l (k % 128 / 8) t)) (dead-in t below) (unread t))

  earlier-next : (n : ℕ) → (next : Next) → story.r.cycles ≤ n → IsNextBelow story.r.cycles next → IsNextBelow n next
  earlier-next n (Read c) l b = tt
  earlier-next n (Overwritten c) l b = tt
  earlier-next n (Beside c) l b = omega (arith, l, b)
  earlier-next n (Evicted c) l b = tt
  earlier-next n Ends l b = tt

  pub next-fits : (t : ℕ) → IsNextBelow 4294967295 (next_in lives l (k % 128 / 8) t)
  next-fits t =
      let short = tables.told.short in
      earlier-next 4294967295 (next_in lives l (k % 128 / 8) t) (omega (arith, short)) (next-within t)
