-- Which bits the instructions that haven't left the memory stage need, by the note and the table of needs.
use Rattle.std.proofs.Common.{◌≡◌, ◌≤◌, ◌<◌, ◌^◌, ◌==◌, ℕ, Bool, not, Decides, arith, refl, sym, subst, inl, inr}
use Rattle.std.specs.Int.{bit_at}
use Rattle.std.specs.Prelude.{drop}
use Rattle.std.proofs.lemmas.Bool.{cases_lt}
use Rattle.std.proofs.lemmas.Bool.Decides.{Decides-eqb, Decides-like, Decides-not}
use Rattle.std.proofs.lemmas.Nat.Bits.{bit_at_above}
use Rattle.bit_field.proofs.Highest.{bit_nonzero, nonzero_bit}
use Rattle.need_pass.specs.Needed.{Needed}
use Rattle.need_pass.specs.ProgramBits.ProgramBit.{Byte}
use Rattle.need_pass.specs.Tables.{Needs, byte_need}
use Rattle.need_pass.proofs.Facts.{facts}
use Rattle.ace_law.specs.MemoryRules.{IsUnneeded}
use Rattle.ace_law.specs.Moments.{IsTold, Moment, retired}
use Rattle.ace_law.proofs.Told.{executed-within}
use Rattle.ace_rules.specs.Asked.{retired_by}
use Rattle.ace_rules.specs.Notes.{IsNote, IsSomeMoment}
use Rattle.ace_rules.specs.declared.note.Note.{Note}

pub retired-is : (a : Moment) (table : Needs) (note : Note) → IsNote a table note → retired_by note ≡ retired a
unfolding retired_by
retired-is a table note noted = rw (noted.left, noted.occupied) refl

pub counted : (a : Moment) (table : Needs) (note : Note) → IsTold a.r a.run table → a.t < a.r.cycles → IsNote a table note
    → retired_by note ≤ table.count
unfolding retired_by
counted a table note told below noted =
    let left = noted.left in
    let count = told.needs.count in
    let within = executed-within a table told below in
    omega (arith, left, count, within)

-- what is asked of the table stands in it
pub retired_counted : (table : Needs) (note : Note) (quiet : Bool) → IsSomeMoment table note quiet → retired_by note ≤ table.count
retired_counted table note quiet some = counted some.a table note some.known.told some.known.below some.known.noted

module _ (a : Moment) (table : Needs) (note : Note) (told : IsTold a.r a.run table) (noted : IsNote a table note) where
  at_retired : (p j : ℕ) → Needed (drop (retired_by note) a.run.entries) (Byte p j) → Needed (drop (retired a) a.run.entries) (Byte p j)
  at_retired p j h = subst (λ i. Needed (drop i a.run.entries) (Byte p j)) (retired-is a table note noted) h

  at_noted : (p j : ℕ) → Needed (drop (retired a) a.run.entries) (Byte p j) → Needed (drop (retired_by note) a.run.entries) (Byte p j)
  at_noted p j h = subst (λ i. Needed (drop i a.run.entries) (Byte p j)) (sym (retired-is a table note noted)) h

  need-decides : (p j : ℕ) → p < 2 ^ 32 → j < 8 → Decides (bit_at (byte_need table p (retired_by note)) j == 1) (Needed (drop
      (retired a) a.run.entries) (Byte p j))
  need-decides p j l k =
      Decides-like (bit_at (byte_need table p (retired_by note)) j == 1)
      (λ one. at_retired p j ((told.needs.byte p j (retired_by note) l k).0 one)) (λ need. (told.needs.byte p j (retired_by note) l k).1
      (at_noted p j need))
      (Decides-eqb (bit_at (byte_need table p (retired_by note)) j) 1)

  -- the bit isn't needed
  pub unneeded-decides : (p j : ℕ) → p < 2 ^ 32 → j < 8
      → Decides (not (bit_at (byte_need table p (retired_by note)) j == 1)) (IsUnneeded a (retired a) (Byte p j))
  unneeded-decides p j l k = Decides-not (bit_at (byte_need table p (retired_by note)) j == 1) (need-decides p j l k)

  mask-below : (p i : ℕ) → byte_need table p i < 2 ^ 8
  unfolding byte_need
  mask-below p i = omega arith

  none-needed : (p : ℕ) → p < 2 ^ 32 → byte_need table p (retired_by note) ≡ 0 → (j : ℕ) → IsUnneeded a (retired a) (Byte p j)
  none-needed p l e j need =
      let bits = facts.bits (drop (retired a) a.run.entries) (Byte p j) need in
      let one = (told.needs.byte p j (retired_by note) l bits.1).1 (at_noted p j need) in
      let pos = bit_nonzero (byte_need table p (retired_by note)) j one in
      omega (arith, e, pos)

  no-mask : (p : ℕ) → p < 2 ^ 32 → ((j : ℕ) → IsUnneeded a (retired a) (Byte p j)) → byte_need table p (retired_by note) ≡ 0
  no-mask p l none =
      elim (cases_lt 0 (byte_need table p (retired_by note))) [
        | inr z ↦ omega (arith, z)
        | inl pos ↦
            let below = mask-below p (retired_by note) in
            let (j, b, one) = nonzero_bit (byte_need table p (retired_by note)) pos (omega (arith, below)) in
            elim (cases_lt j 8) [
              | inl k ↦ absurd (none j (at_retired p j ((told.needs.byte p j (retired_by note) l k).0 one)))
              | inr k ↦ absurd (omega (arith, one, bit_at_above (byte_need table p (retired_by note)) 8 j below k))
            ]
      ]

  -- no bit of the byte is needed
  pub spared-decides : (p : ℕ) → p < 2 ^ 32 → Decides (byte_need table p (retired_by note) == 0) ((j : ℕ) → IsUnneeded a (retired a) (Byte p j))
  spared-decides p l =
      Decides-like (byte_need table p (retired_by note) == 0) (none-needed p l) (no-mask p l) (Decides-eqb (byte_need table p (retired_by note)) 0)
