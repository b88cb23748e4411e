-- The classes of the data bits of a byte stay.
use Rattle.std.proofs.Common.{◌≡◌, ℕ, ◌+◌, ◌*◌, ◌/◌, ◌%◌, ◌^◌, ◌<◌, ◌≤◌, ◌&&◌, List, [], ◌∷◌, Some, length, nat_le, slice_get, if◌then◌else◌, refl, sym, ◌∙◌, subst, arith, inl, inr}
use Rattle.std.proofs.lemmas.Bool.{cases_lt, cases_order}
use Rattle.bit_field.specs.Shapes.{slots as slot_count}
use Rattle.bit_field.specs.declared.shapes.Shape.{Shape}
use Rattle.bit_field.specs.declared.places.Structure.TheVariants.{CData}
use Rattle.event_log.specs.declared.next.Next.{Next}
use Rattle.line_life.specs.Lives.{Lives, next_in}
use Rattle.need_pass.specs.Tables.{Needs}
use Rattle.slot_history.specs.Histories.{Histories, held_in, next_change}
use Rattle.slot_history.specs.declared.changes.Held.{Held}
use Rattle.slot_history.specs.declared.changes.Held.TheVariants.{Vacant, Clean, Dirty}
use Rattle.tag_dist.specs.Tables.{Tables}
use Rattle.ace_class.specs.declared.class.Class.{Class}
use Rattle.ace_class.specs.declared.class.Class.TheVariants.{Ace, UnAce}
use Rattle.ace_class.specs.declared.class.Rule.TheVariants.{CleanData, DeadData, EmptyPlace}
use Rattle.ace_rules.specs.Analyses.{IsAnalysis}
use Rattle.ace_rules.specs.Asked.{IsLineHeld, is_dead}
use Rattle.ace_rules.specs.LineBytes.{IsByteStay}
use Rattle.ace_rules.specs.LineData.{AreDataTables, IsNextBelow, data_class, is_dead_in, is_dead_line, is_unread}
use Rattle.ace_rules.specs.Notes.{Story, moment}
use Rattle.ace_rules.specs.RuleMasks.{first_of}
use Rattle.ace_rules.specs.Stays.{IsDirtyDataUntil, after}
use Rattle.ace_rules.specs.Tallies.{HasClass}
use Rattle.ace_rules.specs.declared.line_bytes.ByteStay.{ByteStay}
use Rattle.ace_rules.specs.declared.note.Note.{Note}
use Rattle.ace_rules.proofs.KnownMoments.{data-tables}
use Rattle.ace_rules.proofs.LineDataClass.{data-class, lines-below, next-fits}
use Rattle.ace_rules.proofs.Staying.{data-stays}

-- a cycle before the one up to which it stays
pub dirty-sooner : (table : Needs) (notes : List Note) (note : Note) (quiet p j from until sooner : ℕ) → sooner ≤ until
    → IsDirtyDataUntil table notes note quiet p j from until → IsDirtyDataUntil table notes note quiet p j from sooner
dirty-sooner table notes note quiet p j from until sooner l h = record {
  loud = λ e. let soon = h.loud e in omega (arith, soon, l);
  still = λ e. let s = h.still e in record {
    free = λ some. s.free (omega (arith, some, l));
    same = λ t i other below. s.same t i other (omega (arith, below, l));
  };
}

-- ---- by what the slot holds

module _ (table : Needs) (notes : List Note) (note : Note) (quiet : ℕ) (life : Lives) (lines : Histories) (l o from change : ℕ) (stay : ByteStay)
    (held : Held) where
  abbrev Is : Type 0
  Is = IsByteStay table notes note quiet life lines l o from change held stay

  pub vacant-is : held ≡ Vacant → ((j : ℕ) → j < 8 → first_of (stay.found ∷ []) j ≡ UnAce EmptyPlace) → stay.until ≤ change → Is
  unfolding data_class
  vacant-is is classes below = rw is (record { classes = classes; stays = λ j l. below })

  pub clean-is : (line : ℕ) → held ≡ Clean line → (next : Next) → next ≡ next_in life l o from
      → ((j : ℕ) → j < 8 → first_of (stay.found ∷ []) j ≡ (if is_unread table notes quiet lines l o j next then UnAce CleanData else Ace))
      → (stay.until ≤ change) × (stay.until ≤ after next) → Is
  unfolding data_class
  clean-is line is next n classes below = rw is (record { classes = λ j l. rw (← n) (classes j l); stays = λ j l. rw (← n) below })

  pub dirty-is : (line : ℕ) → held ≡ Dirty line → slice_get notes from ≡ Some note → held_in lines l from ≡ held
      → ((j : ℕ) → j < 8 → first_of (stay.found ∷ []) j
      ≡ (if nat_le quiet from && is_dead table note 0 (16 * line + o) j then UnAce DeadData else Ace)) → stay.until ≤ change
      → ((j : ℕ) → j < 8 → IsDirtyDataUntil table notes note quiet (16 * line + o) j from stay.until) → Is
  unfolding data_class is_dead_in is_dead_line
  dirty-is line is at there classes below stays =
      rw is (record { classes = λ j l. rw (at, there ∙ is) (classes j l); stays = λ j l. (below, stays j l) })

-- ---- over the run

module _ (story : Story) (table : Needs) (notes : List Note) (quiet : ℕ) (cache : Shape) (lives : Lives) (lines : Histories)
    (tables : AreDataTables story table notes quiet cache lives lines) (byte : ℕ) (in_cache : byte < slot_count cache * 16) where
  first-slot : 8 * byte / 128 ≡ byte / 16
  first-slot = omega arith

  first-offset : 8 * byte % 128 / 8 ≡ byte % 16
  first-offset = omega arith

  first-in : 8 * byte / 128 < slot_count cache
  first-in = omega (arith, in_cache)

  pub byte-line : (t : ℕ) → t < length notes → IsLineHeld (held_in lines (byte / 16) t)
  byte-line t below =
      let count = tables.cycles in
      rw first-slot at (lines-below story table notes quiet cache lives lines tables (8 * byte) first-in t (omega (arith, count, below)))

  pub byte-next : (t : ℕ) → IsNextBelow 4294967295 (next_in lives (byte / 16) (byte % 16) t)
  byte-next t = rw (first-slot, first-offset) at (next-fits story table notes quiet cache lives lines tables (8 * byte) first-in t)

  pub byte-low : (t line : ℕ) → t < length notes → held_in lines (byte / 16) t ≡ Dirty line → line < 2 ^ 28
  byte-low t line below is = rw is at (byte-line t below)

module _ (story : Story) (table : Needs) (notes : List Note) (words : List ℕ) (quiet : ℕ) (life : Lives) (tags : Tables) (slots : Histories)
    (kept : IsAnalysis story table notes words quiet life tags slots) (from : ℕ) (running : from < story.r.cycles) (note : Note)
    (at : slice_get notes from ≡ Some note) (byte : ℕ) (in_cache : byte < slot_count story.r.shape * 16) (stay : ByteStay)
    (is : IsByteStay table notes note quiet life slots (byte / 16) (byte % 16) from (next_change slots (byte / 16) from)
    (held_in slots (byte / 16) from) stay) where
  abbrev class : ℕ → Class
  class k = first_of (stay.found ∷ []) k

  module _ (k : ℕ) (few : k < 8) where
    abbrev bit : ℕ
    bit = 8 * byte + k

    slot-is : bit / 128 ≡ byte / 16
    slot-is = omega (arith, few)

    offset-is : bit % 128 / 8 ≡ byte % 16
    offset-is = omega (arith, few)

    place-is : bit % 8 ≡ k
    place-is = omega (arith, few)

    slot-in : bit / 128 < slot_count story.r.shape
    slot-in = omega (arith, few, in_cache)

    here : HasClass (moment story from) CData bit (class k)
    here =
        let tables = data-tables story table notes words quiet life tags slots kept story.r refl story.r.shape refl in
        subst (λ (c : Class). HasClass (moment story from) CData bit c) (sym (is.classes k few))
        (rw (slot-is, offset-is, place-is) at (data-class story table notes quiet story.r.shape life slots tables bit slot-in from running
        (held_in slots (bit / 128) from) refl (next_in life (bit / 128) (bit % 128 / 8) from) refl))

    later : (t : ℕ) → from < t → t < stay.until → t < story.r.cycles → HasClass (moment story t) CData bit (class k)
    later t behind below within =
        data-stays story table notes words quiet life tags slots kept from running note at bit stay.until slot-in
        (rw (slot-is, offset-is, place-is) (is.stays k few)) (class k) t behind below within here

    -- in the cycle, and up to before the one that is known
    pub byte-kept : (t : ℕ) → from ≤ t → (stay.until ≤ t → t ≡ from) → t < story.r.cycles → HasClass (moment story t) CData bit (class k)
    byte-kept t l soon within =
        elim (cases_order t from) [
          | inl same ↦ rw same here
          | inr (inl before) ↦ absurd (omega (arith, before, l))
          | inr (inr behind) ↦ elim (cases_lt t stay.until) [
            | inl below ↦ later t behind below within
            | inr late ↦ rw (soon late) here
          ]
        ]
