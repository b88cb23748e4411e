-- Slots that are filled in order: those in front hold the entries, and the others are free.
use Rattle.std.proofs.Common.{◌≡◌, ◌<◌, ◌≤◌, ◌-◌, ◌++◌, ℕ, zero, suc, Bool, true, false, List, [], ◌∷◌, cond, length, replicate, take, arith, refl}
use Rattle.std.proofs.Common.{ap, sym, ◌∙◌}
use Rattle.std.specs.Prelude.{⊤, nat_lt}
use Rattle.std.proofs.lemmas.Bool.Decides.{nat_tests}
use Rattle.inst_buf.specs.Buffer.{entries, packed, slot_of}
use Rattle.inst_buf.specs.Entry.{Entry, no_entry}
use Rattle.inst_buf.specs.declared.buffer.TheConstants.{SLOTS}

-- whatever the slots hold, the entries are valid
abbrev AreValid : List Entry → Type 0
AreValid [] = ⊤
AreValid (e ∷ es) = (e.valid ≡ true) × AreValid es

are-valid : (slots : List Entry) → AreValid (entries slots)
are-valid [] = tt
are-valid (e ∷ slots) = go e.valid refl (are-valid slots)
  where
    go : (b : Bool) → e.valid ≡ b → AreValid (entries slots) → AreValid (cond b (e ∷ entries slots) (entries slots))
    go true v rest = (v, rest)
    go false v rest = rest

-- ---- over entries and free slots behind them

free : ℕ → List Entry
free n = replicate n no_entry

none-free : (n : ℕ) → entries (free n) ≡ []
unfolding free
none-free zero = refl
none-free (suc n) = none-free n

none-taken : (i n : ℕ) → entries (take i (free n)) ≡ []
unfolding free
none-taken zero n = refl
none-taken (suc i) zero = refl
none-taken (suc i) (suc n) = none-taken i n

free-slot : (n i : ℕ) → slot_of (free n) i ≡ no_entry
unfolding free
free-slot zero i = refl
free-slot (suc n) zero = refl
free-slot (suc n) (suc i) = free-slot n i

used-slot : (es : List Entry) (n i : ℕ) → AreValid es → i < length es → (slot_of (es ++ free n) i).valid ≡ true
used-slot [] n i valid l = absurd (omega (arith, l))
used-slot (e ∷ es) n zero valid l = valid.0
used-slot (e ∷ es) n (suc i) valid l = used-slot es n i valid.1 (omega (arith, l))

behind-slot : (es : List Entry) (n i : ℕ) → length es ≤ i → slot_of (es ++ free n) i ≡ no_entry
behind-slot [] n i l = free-slot n i
behind-slot (e ∷ es) n zero l = absurd (omega (arith, l))
behind-slot (e ∷ es) n (suc i) l = behind-slot es n i (omega (arith, l))

first-one : (e : Entry) (es : List Entry) → e.valid ≡ true → entries (e ∷ es) ≡ e ∷ entries es
first-one e es v = ap (λ (b : Bool). cond b (e ∷ entries es) (entries es)) v

used-taken : (es : List Entry) (n i : ℕ) → AreValid es → i ≤ length es → length (entries (take i (es ++ free n))) ≡ i
used-taken es n zero valid l = refl
used-taken [] n (suc i) valid l = absurd (omega (arith, l))
used-taken (e ∷ es) n (suc i) valid l =
    ap length (first-one e (take i (es ++ free n)) valid.0) ∙ ap suc (used-taken es n i valid.1 (omega (arith, l)))

all-taken : (es : List Entry) (n i : ℕ) → AreValid es → length es ≤ i → entries (take i (es ++ free n)) ≡ entries (es ++ free n)
all-taken [] n i valid l = none-taken i n ∙ sym (none-free n)
all-taken (e ∷ es) n zero valid l = absurd (omega (arith, l))
all-taken (e ∷ es) n (suc i) valid l =
    first-one e (take i (es ++ free n)) valid.0
    ∙ ap (λ (rest : List Entry). e ∷ rest) (all-taken es n i valid.1 (omega (arith, l)))
    ∙ sym (first-one e (es ++ free n) valid.0)

front-slot : (es rest : List Entry) (i : ℕ) → i < length es → slot_of (es ++ rest) i ≡ slot_of es i
front-slot [] rest i l = absurd (omega (arith, l))
front-slot (e ∷ es) rest zero l = refl
front-slot (e ∷ es) rest (suc i) l = front-slot es rest i (omega (arith, l))

-- ---- a buffer

module _ (slots : List Entry) (order : slots ≡ packed (entries slots)) where
  abbrev room : ℕ
  room = SLOTS - length (entries slots)

  pub valid-slot : (i : ℕ) → i < length (entries slots) → (slot_of slots i).valid ≡ true
  unfolding free
  valid-slot i l = ap (λ (s : List Entry). (slot_of s i).valid) order ∙ used-slot (entries slots) room i (are-valid slots) l

  pub free-behind : (i : ℕ) → length (entries slots) ≤ i → slot_of slots i ≡ no_entry
  unfolding free
  free-behind i l = ap (λ (s : List Entry). slot_of s i) order ∙ behind-slot (entries slots) room i l

  pub front-count : (i : ℕ) → i ≤ length (entries slots) → length (entries (take i slots)) ≡ i
  unfolding free
  front-count i l = ap (λ (s : List Entry). length (entries (take i s))) order ∙ used-taken (entries slots) room i (are-valid slots) l

  pub front-all : (i : ℕ) → length (entries slots) ≤ i → entries (take i slots) ≡ entries slots
  unfolding free
  front-all i l =
      ap (λ (s : List Entry). entries (take i s)) order
      ∙ all-taken (entries slots) room i (are-valid slots) l
      ∙ ap (λ (s : List Entry). entries s) (sym order)

  -- the entry in a slot
  pub entry-in : (i : ℕ) → i < length (entries slots) → slot_of slots i ≡ slot_of (entries slots) i
  entry-in i l = ap (λ (s : List Entry). slot_of s i) order ∙ front-slot (entries slots) _ i l

  -- whether a slot holds an entry
  pub slot-valid : (i : ℕ) → nat_lt i (length (entries slots)) ≡ (slot_of slots i).valid
  slot-valid i = go (nat_lt i (length (entries slots))) refl
    where
      go : (b : Bool) → nat_lt i (length (entries slots)) ≡ b → b ≡ (slot_of slots i).valid
      go true e = sym (valid-slot i (grind (arith, nat_tests)))
      go false e = ap (λ (x : Entry). x.valid) (sym (free-behind i (grind (arith, nat_tests))))
