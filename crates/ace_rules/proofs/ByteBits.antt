-- The dead and the unread bits of a byte by masks.
use Rattle.std.proofs.Common.{◌≡◌, ℕ, ◌+◌, ◌*◌, ◌<◌, ◌&&◌, ◌||◌, Bool, true, false, not, cond, List, [], ◌∷◌, Option, Some, None, nat_le, slice_get, refl, ap, ◌∙◌}
use Rattle.std.specs.Prelude.{bit_and, bit_xor, if◌then◌else◌}
use Rattle.event_log.specs.declared.next.Next.{Next}
use Rattle.event_log.specs.declared.next.Next.TheVariants.{Read, Overwritten, Beside, Evicted, Ends}
use Rattle.need_pass.specs.Tables.{Needs, byte_need}
use Rattle.slot_history.specs.Histories.{Histories, held_in}
use Rattle.slot_history.specs.declared.changes.Held.{Held}
use Rattle.slot_history.specs.declared.changes.Held.TheVariants.{Vacant, Clean, Dirty}
use Rattle.ace_class.specs.declared.class.Class.TheVariants.{Ace, UnAce}
use Rattle.ace_class.specs.declared.class.Rule.{Rule}
use Rattle.ace_rules.specs.Asked.{is_dead, retired_by, written_from}
use Rattle.ace_rules.specs.LineData.{is_dead_in, is_dead_line, is_unread}
use Rattle.ace_rules.specs.RuleMasks.{first_of, is_set}
use Rattle.ace_rules.specs.declared.note.Note.{Note}
use Rattle.ace_rules.specs.declared.tally_pending.TheConstants.{BYTE_MASK}
use Rattle.ace_rules.proofs.FirstMasks.{is_rest}
use Rattle.ace_rules.proofs.LatchMarks.{of}
use Rattle.ace_rules.proofs.MarkedBits.{when-set}
use Rattle.ace_rules.proofs.NextBits.{set-zero}
use Rattle.ace_rules.proofs.PendingMarks.{all-set}

module _ (table : Needs) (note : Note) (first p j : ℕ) (l : j < 8) where
  -- a store writes the byte
  pub dead-written : written_from note.stores first p ≡ true → is_set BYTE_MASK j ≡ is_dead table note first p j
  unfolding is_dead
  dead-written w = rw (w, all-set j l) refl

  not-needed : (b : Bool) → (true && cond b false true) ≡ (false || not b)
  not-needed true = refl
  not-needed false = refl

  -- no store writes it: what isn't needed is dead
  pub dead-unneeded : written_from note.stores first p ≡ false → (needed dead : ℕ) → needed ≡ byte_need table p (retired_by note)
      → dead ≡ bit_xor BYTE_MASK (bit_and BYTE_MASK needed) → is_set dead j ≡ is_dead table note first p j
  unfolding is_dead
  dead-unneeded w needed dead n d =
      ap (λ (x : ℕ). is_set x j) d ∙ is_rest BYTE_MASK needed j ∙ rw (all-set j l, n, w) (not-needed (is_set (byte_need table p (retired_by note)) j))

-- a class by one mask
pub one-of : (rule : Rule) (mask j : ℕ) (test : Bool) → is_set mask j ≡ test → first_of (of rule mask ∷ []) j ≡ (if test then UnAce rule else Ace)
one-of rule mask j test e = rw e refl

-- ---- by what the slot holds, and in a cycle

module _ (table : Needs) (note : Note) (o j : ℕ) where
  pub dead-vacant : (held : Held) → held ≡ Vacant → is_set 0 j ≡ is_dead_line table note held o j
  unfolding is_dead_line
  dead-vacant held is = rw is (set-zero j)

  pub dead-clean : (held : Held) (line : ℕ) → held ≡ Clean line → is_set 0 j ≡ is_dead_line table note held o j
  unfolding is_dead_line
  dead-clean held line is = rw is (set-zero j)

  pub dead-dirty : (held : Held) (line mask : ℕ) → held ≡ Dirty line → is_set mask j ≡ is_dead table note 0 (16 * line + o) j
      → is_set mask j ≡ is_dead_line table note held o j
  unfolding is_dead_line
  dead-dirty held line mask is h = rw is h

module _ (table : Needs) (quiet : ℕ) (lines : Histories) (l o j t : ℕ) where
  pub dead-none : (found : Option Note) → found ≡ None → j < 8 → is_set BYTE_MASK j ≡ is_dead_in table quiet lines l o j t found
  unfolding is_dead_in
  dead-none found is few = rw is (all-set j few)

  pub dead-some : (found : Option Note) (note : Note) (dead mask : ℕ) → found ≡ Some note → mask ≡ (if nat_le quiet t then dead else 0)
      → is_set dead j ≡ is_dead_line table note (held_in lines l t) o j → is_set mask j ≡ is_dead_in table quiet lines l o j t found
  unfolding is_dead_in
  dead-some found note dead mask is m h =
      rw is (ap (λ (x : ℕ). is_set x j) m ∙ when-set (nat_le quiet t) dead j ∙ ap (λ (b : Bool). nat_le quiet t && b) h)

-- ---- by what next concerns the byte

module _ (table : Needs) (notes : List Note) (quiet : ℕ) (lines : Histories) (l o j : ℕ) (next : Next) where
  pub unread-read : (c : ℕ) → next ≡ Read c → is_set 0 j ≡ is_unread table notes quiet lines l o j next
  unfolding is_unread
  unread-read c is = rw is (set-zero j)

  pub unread-overwritten : (c : ℕ) → next ≡ Overwritten c → j < 8 → is_set BYTE_MASK j ≡ is_unread table notes quiet lines l o j next
  unfolding is_unread
  unread-overwritten c is few = rw is (all-set j few)

  pub unread-beside : (c mask : ℕ) → next ≡ Beside c → is_set mask j ≡ is_dead_in table quiet lines l o j (c + 1) (slice_get notes (c + 1))
      → is_set mask j ≡ is_unread table notes quiet lines l o j next
  unfolding is_unread
  unread-beside c mask is h = rw is h

  pub unread-evicted : (c : ℕ) → next ≡ Evicted c → j < 8 → is_set BYTE_MASK j ≡ is_unread table notes quiet lines l o j next
  unfolding is_unread
  unread-evicted c is few = rw is (all-set j few)

  pub unread-ends : next ≡ Ends → j < 8 → is_set BYTE_MASK j ≡ is_unread table notes quiet lines l o j next
  unfolding is_unread
  unread-ends is few = rw is (all-set j few)
