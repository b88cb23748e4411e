-- What is asked of a pending store is what the rules ask.
use Rattle.std.proofs.Common.{◌≡◌, ◌≢◌, ◌⊎◌, ◌+◌, ◌*◌, ◌/◌, ◌%◌, ◌<◌, ◌^◌, ◌==◌, ◌&&◌, ◌||◌, zero, suc, ℕ, Bool, true, false, not, cond, Decides}
use Rattle.std.proofs.Common.{List, arith, refl, sym, subst, ap, ◌∙◌, inl, inr}
use Rattle.std.proofs.lemmas.Bool.{and_from, and_parts, cases_eq}
use Rattle.std.proofs.lemmas.Bool.Decides.{Decides-eqb, Decides-like, Decides-or}
use Rattle.bit_field.specs.Lanes.{has_lane}
use Rattle.elf_load.specs.Image.{LoadedImage, in_ram}
use Rattle.need_pass.specs.ProgramBits.ProgramBit.{Byte}
use Rattle.need_pass.specs.Tables.{Needs, byte_need}
use Rattle.store_buf.specs.Entry.{Entry}
use Rattle.store_buf.specs.Pending.{slot_of}
use Rattle.ace_law.specs.MemoryRules.{IsHarmlessRedirection, IsPendingBehind, IsUnneeded, writes}
use Rattle.ace_law.specs.Moments.{IsTold, Moment, retired, state}
use Rattle.ace_rules.specs.Asked.{is_dead, is_harmless, is_harmless_at, is_harmless_in, is_spared, just_one, retired_by, written_from}
use Rattle.ace_rules.specs.Notes.{IsNote}
use Rattle.ace_rules.specs.declared.note.Note.{Note}
use Rattle.ace_rules.proofs.Unneeded.{spared-decides, unneeded-decides}

-- ---- tests

pub is-not : (b : Bool) → Decides (not b) (b ≡ false)
is-not true = (λ e. absurd cc, λ e. absurd cc)
is-not false = (λ e. refl, λ e. refl)

implies : {P Q : Type 0} (x y : Bool) → Decides x P → Decides y Q → Decides (not x || y) (P → Q)
implies true y d k = (λ e p. k.0 e, λ f. k.1 (f (d.0 refl)))
implies false y d k = (λ e p. let e : false ≡ true = d.1 p in absurd cc, λ f. refl)

differ-by : (x y : Bool) → Decides (cond x (not y) y) (y ≢ x)
differ-by true true = (λ e. absurd cc, λ ne. absurd (ne refl))
differ-by true false = (λ e f. absurd cc, λ ne. refl)
differ-by false true = (λ e f. absurd cc, λ ne. refl)
differ-by false false = (λ e. absurd cc, λ ne. absurd (ne refl))

-- just one of two stores writes the byte
pub just_one-decides : (e r : Entry) (p : ℕ) → Decides (just_one e r p) (writes r p ≢ writes e p)
unfolding just_one
just_one-decides e r p = differ-by (writes e p) (writes r p)

written-in : (e : Entry) (p : ℕ) → e.addr ≢ p / 4 → writes e p ≡ false
written-in e p ne = go (e.addr == p / 4) (has_lane e.mask (p % 4)) (Decides-eqb e.addr (p / 4))
  where
    go : (x y : Bool) → Decides x (e.addr ≡ p / 4) → (x && y) ≡ false
    go true y d = absurd (ne (d.0 refl))
    go false y d = refl

-- a byte that just one of them writes is in a word of one of them
moved-in : (e r : Entry) (p : ℕ) → writes r p ≢ writes e p → (p / 4 ≡ e.addr) ⊎ (p / 4 ≡ r.addr)
moved-in e r p ne =
    elim (cases_eq e.addr (p / 4)) [
      | inl here ↦ inl (sym here)
      | inr other ↦ elim (cases_eq r.addr (p / 4)) [
        | inl there ↦ inr (sym there)
        | inr none ↦ absurd (ne (written-in r p none ∙ sym (written-in e p other)))
      ]
    ]

-- one of the four bytes of a word
in_word : (p w : ℕ) → p / 4 ≡ w → (p ≡ 4 * w) ⊎ ((p ≡ 4 * w + 1) ⊎ ((p ≡ 4 * w + 2) ⊎ (p ≡ 4 * w + 3)))
in_word p w e = go (p % 4) (omega arith) (omega (arith, e))
  where
    go : (l : ℕ) → l < 4 → p ≡ 4 * w + l → (p ≡ 4 * w) ⊎ ((p ≡ 4 * w + 1) ⊎ ((p ≡ 4 * w + 2) ⊎ (p ≡ 4 * w + 3)))
    go zero l e = inl (omega (arith, e))
    go (suc zero) l e = inr (inl e)
    go (suc (suc zero)) l e = inr (inr (inl e))
    go (suc (suc (suc zero))) l e = inr (inr (inr e))
    go (suc (suc (suc (suc l)))) b e = absurd (omega (arith, b))

-- whatever is made of the byte doesn't matter
abbrev pub IsByteSpared : Moment → ℕ → ℕ → Type 0
IsByteSpared a i p = (in_ram a.r.image p ≡ false) ⊎ IsPendingBehind a i p ⊎ ((j : ℕ) → IsUnneeded a (retired a) (Byte p j))

module _ (image : LoadedImage) (a : Moment) (table : Needs) (note : Note) (told : IsTold a.r a.run table) (noted : IsNote a table note)
    (same : image ≡ a.r.image) where
  behind : (i p : ℕ) → Decides (written_from note.stores (i + 1) p) (IsPendingBehind a i p)
  behind i p =
      let e : written_from note.stores (i + 1) p ≡ written_from (state a).stores (suc i) p =
      (ap (λ (stores : List Entry). written_from stores (i + 1) p) noted.stores
      ∙ (let n : i + 1 ≡ suc i = omega arith in ap (λ (n : ℕ). written_from (state a).stores n p) n)) in
      (λ h. sym e ∙ h, λ h. e ∙ h)

  outside : (p : ℕ) → Decides (not (in_ram image p)) (in_ram a.r.image p ≡ false)
  outside p = rw same (is-not (in_ram a.r.image p))

  pub spared : (i p : ℕ) → p < 2 ^ 32 → Decides (is_spared image table note i p) (IsByteSpared a i p)
  unfolding is_spared
  spared i p l =
      Decides-like (is_spared image table note i p)
      (λ h. elim h [ inl x ↦ elim x [ inl out ↦ inl out | inr held ↦ inr (inl held) ] | inr none ↦ inr (inr none) ])
      (λ h. elim h [ inl out ↦ inl (inl out) | inr x ↦ elim x [ inl held ↦ inl (inr held) | inr none ↦ inr none ] ])
      (Decides-or (not (in_ram image p) || written_from note.stores (i + 1) p) (byte_need table p (retired_by note) == 0)
      (Decides-or (not (in_ram image p)) (written_from note.stores (i + 1) p) (outside p) (behind i p)) (spared-decides a table note told noted p l))

  -- a bit of a byte is dead behind slot i
  pub dead : (i p j : ℕ) → p < 2 ^ 32 → j < 8
      → Decides (is_dead table note (i + 1) p j) (IsPendingBehind a i p ⊎ IsUnneeded a (retired a) (Byte p j))
  unfolding is_dead
  dead i p j l k =
      Decides-or (written_from note.stores (i + 1) p) _ (behind i p) (unneeded-decides a table note told noted p j l k)

  module _ (i : ℕ) (r : Entry) (near : (slot_of note.stores i).addr < 2 ^ 30) (far : r.addr < 2 ^ 30) where
    abbrev Harmless : ℕ → Type 0
    Harmless p = writes r p ≢ writes (slot_of note.stores i) p → IsByteSpared a i p

    at : (p : ℕ) → p < 2 ^ 32 → Decides (is_harmless_at image table note i r p) (Harmless p)
    unfolding is_harmless_at
    at p l =
        implies (just_one (slot_of note.stores i) r p) (is_spared image table note i p) (just_one-decides (slot_of note.stores i) r p) (spared i p l)

    -- of the four bytes of a word
    in-to : (w : ℕ) → w < 2 ^ 30 → is_harmless_in image table note i r w ≡ true → (p : ℕ) → p / 4 ≡ w → Harmless p
    unfolding is_harmless_in
    in-to w l h p e =
        let (three, h3) = and_parts _ _ h in
        let (two, h2) = and_parts _ _ three in
        let (h0, h1) = and_parts _ _ two in
        elim (in_word p w e) [
          | inl e ↦ subst Harmless (sym e) ((at (4 * w) (omega arith)).0 h0)
          | inr e ↦ elim e [
            | inl e ↦ subst Harmless (sym e) ((at (4 * w + 1) (omega arith)).0 h1)
            | inr e ↦ elim e [
              | inl e ↦ subst Harmless (sym e) ((at (4 * w + 2) (omega arith)).0 h2)
              | inr e ↦ subst Harmless (sym e) ((at (4 * w + 3) (omega arith)).0 h3)
            ]
          ]
        ]

    in-from : (w : ℕ) → w < 2 ^ 30 → ((p : ℕ) → Harmless p) → is_harmless_in image table note i r w ≡ true
    unfolding is_harmless_in
    in-from w l h =
        and_from _ _ (and_from _ _ (and_from _ _ ((at (4 * w) (omega arith)).1 (h (4 * w))) ((at (4 * w + 1) (omega arith)).1 (h (4 * w + 1))))
        ((at (4 * w + 2) (omega arith)).1 (h (4 * w + 2)))) ((at (4 * w + 3) (omega arith)).1 (h (4 * w + 3)))

    harmless-to : is_harmless image table note i r ≡ true → IsHarmlessRedirection a i (slot_of note.stores i) r
    unfolding is_harmless
    harmless-to h p ne =
        let (here, there) = and_parts _ _ h in
        elim (moved-in (slot_of note.stores i) r p ne) [
          | inl e ↦ in-to (slot_of note.stores i).addr near here p e ne
          | inr e ↦ in-to r.addr far there p e ne
        ]

    harmless-from : IsHarmlessRedirection a i (slot_of note.stores i) r → is_harmless image table note i r ≡ true
    unfolding is_harmless
    harmless-from h = and_from _ _ (in-from (slot_of note.stores i).addr near h) (in-from r.addr far h)

    -- no byte that it no longer writes or newly writes matters
    pub harmless : Decides (is_harmless image table note i r) (IsHarmlessRedirection a i (slot_of note.stores i) r)
    harmless = (harmless-to, harmless-from)
