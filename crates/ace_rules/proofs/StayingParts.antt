-- What the classes of the bits of line slots go by stays: whether a bit of a byte is dead, and whether a line is accessed again.
use Rattle.std.proofs.Common.{◌≡◌, ◌≤◌, ◌<◌, ◌^◌, ◌==◌, ◌&&◌, ◌||◌, ℕ, Bool, true, false, not, List, Some, slice_get, drop, nat_le, arith, refl, sym, ap}
use Rattle.std.proofs.Common.{◌∙◌}
use Rattle.std.specs.Int.{bit_at}
use Rattle.std.proofs.Math.Bool.{or-true}
use Rattle.std.proofs.lemmas.Bool.{eqb-true}
use Rattle.line_life.specs.Lives.{Lives}
use Rattle.need_pass.specs.Needed.{Needed}
use Rattle.need_pass.specs.ProgramBits.ProgramBit.{Byte}
use Rattle.need_pass.specs.Tables.{Needs, byte_need}
use Rattle.slot_history.specs.Histories.{Histories}
use Rattle.tag_dist.specs.Tables.{Tables, last_in}
use Rattle.ace_law.specs.Moments.{retired}
use Rattle.ace_rules.specs.Analyses.{IsAnalysis}
use Rattle.ace_rules.specs.Asked.{is_accessed_again, is_dead, is_later, is_pending_line, retired_by, written_from}
use Rattle.ace_rules.specs.Notes.{Story, moment}
use Rattle.ace_rules.specs.Stays.{StaysAccessed, StaysDead}
use Rattle.ace_rules.specs.declared.note.Note.{Note}
use Rattle.ace_rules.proofs.AccessedAgain.{accessed-again}
use Rattle.ace_rules.proofs.AccessesToCome.{again-earlier, pending-earlier}
use Rattle.ace_rules.proofs.KnownMoments.{known}
use Rattle.ace_rules.proofs.LineDataClass.{pending-is}
use Rattle.ace_rules.proofs.Retiring.{retired-rises}
use Rattle.ace_rules.proofs.Unneeded.{retired-is}

both-false : (a b : Bool) → (a ≡ true → b ≡ true) → b ≡ false → a ≡ false
both-false true b h e = let t = h refl in absurd cc
both-false false b h e = refl

-- two notes of the run, the second of a later cycle
module _ (story : Story) (table : Needs) (notes : List Note) (words : List ℕ) (quiet : ℕ) (life : Lives) (tags : Tables) (slots : Histories)
    (kept : IsAnalysis story table notes words quiet life tags slots) (from t : ℕ) (later : from ≤ t) (within : t < story.r.cycles)
    (note other : Note) (at : slice_get notes from ≡ Some note) (there : slice_get notes t ≡ Some other) where
  running : from < story.r.cycles
  running = omega (arith, later, within)

  here-is : retired_by note ≡ retired (moment story from)
  here-is = retired-is (moment story from) table note (kept.noted.each from note at)

  there-is : retired_by other ≡ retired (moment story t)
  there-is = retired-is (moment story t) table other (kept.noted.each t other there)

  retired-later : retired_by note ≤ retired_by other
  retired-later = let a = here-is in let b = there-is in let rises = retired-rises story from t later in omega (arith, a, b, rises)

  -- ---- a bit of a byte

  module _ (p j until : ℕ) (low : p < 2 ^ 32) (few : j < 8) (stays : StaysDead table notes note p j until) (below : t < until) where
    abbrev bit : Note → Bool
    bit note = bit_at (byte_need table p (retired_by note)) j == 1

    bits-same : bit other ≡ bit note
    bits-same =
        ap (λ (n : ℕ). bit_at n j == 1) (stays.same t (retired_by other) other below there retired-later (omega arith))

    needed : bit note ≡ true → (i : ℕ) → retired (moment story from) ≤ i → i ≤ retired (moment story t) → Needed (drop i story.run.entries) (Byte p j)
    needed one i from_here to_there =
        let a = here-is in
        let b = there-is in
        let same : byte_need table p i ≡ byte_need table p (retired_by note) =
        stays.same t i other below there (omega (arith, a, from_here)) (omega (arith, b, to_there)) in
        (kept.told.needs.byte p j i low few).0
        (ap (λ (n : ℕ). bit_at n j) same ∙ eqb-true (bit_at (byte_need table p (retired_by note)) j) 1 one)

    still-pending : bit note ≡ true → written_from other.stores 0 p ≡ true → written_from note.stores 0 p ≡ true
    still-pending one h =
        (pending-is (moment story from) table note kept.told (kept.noted.each from note at) 0 p).1
        (pending-earlier story table kept.told p j from t later within (needed one)
        ((pending-is (moment story t) table other kept.told (kept.noted.each t other there) 0 p).0 h))

    free-by : bit note ≡ true → written_from note.stores 0 p ≡ false
    free-by one = and-first (written_from note.stores 0 p) (bit note) one (stays.free (omega (arith, below)))
      where
        and-first : (a b : Bool) → b ≡ true → (a && b) ≡ false → a ≡ false
        and-first true b e h = absurd cc
        and-first false b e h = refl

    pub dead-same : is_dead table note 0 p j ≡ is_dead table other 0 p j
    unfolding is_dead
    dead-same = go (bit note) refl
      where
        go : (b : Bool) → bit note ≡ b → (written_from note.stores 0 p || not (bit note)) ≡ (written_from other.stores 0 p || not (bit other))
        go true e =
            let here : written_from note.stores 0 p ≡ false = free-by e in
            let after : written_from other.stores 0 p ≡ false =
            both-false (written_from other.stores 0 p) (written_from note.stores 0 p) (still-pending e) here in
            rw (here, after, bits-same) refl
        go false e = rw (bits-same, e) (or-true (written_from note.stores 0 p) ∙ sym (or-true (written_from other.stores 0 p)))

  -- ---- a line

  -- a line that isn't accessed again stays so
  pub still-again : (line : ℕ) → is_accessed_again tags other line ≡ true → is_accessed_again tags note line ≡ true
  still-again line h =
      (accessed-again (moment story from) table note (nat_le quiet from)
      (known story table notes words quiet life tags slots kept story.r refl from note running at) tags kept.lines.accesses line).1
      (again-earlier story table kept.told line from t later within
      ((accessed-again (moment story t) table other (nat_le quiet t)
      (known story table notes words quiet life tags slots kept story.r refl t other within there) tags kept.lines.accesses line).0 h))

  pub not-again : (line : ℕ) → is_accessed_again tags note line ≡ false → is_accessed_again tags other line ≡ false
  not-again line e = both-false (is_accessed_again tags other line) (is_accessed_again tags note line) (still-again line) e

  pub again-same : (line until : ℕ) → StaysAccessed tags notes note line until → t < until
      → is_accessed_again tags note line ≡ is_accessed_again tags other line
  unfolding is_accessed_again
  again-same line until stays below = go (is_later (last_in tags.last line) (retired_by note)) refl
    where
      go : (b : Bool) → is_later (last_in tags.last line) (retired_by note) ≡ b
          → (is_later (last_in tags.last line) (retired_by note) || is_pending_line note.stores line)
          ≡ (is_later (last_in tags.last line) (retired_by other) || is_pending_line other.stores line)
      go true e = let l = stays.later e t other below there in rw (e, l) refl
      go false e =
          let p = stays.free e (omega (arith, below)) in
          let none : is_accessed_again tags note line ≡ false = rw (e, p) refl in
          rw (e, p) (sym (not-again line none))
