-- Where registers and memories can differ after writes and stores, and what is the same where it is needed.
use Rattle.std.proofs.Common.{◌≡◌, ◌↔◌, ℕ, ◌+◌, ◌*◌, ◌/◌, ◌^◌, ◌<◌, true, false, Bool, refl, sym, ◌∙◌, ap, arith, inl, inr, IsTrue}
use Rattle.std.specs.Int.{bit_at}
use Rattle.std.specs.Prelude.{◌⊎◌, bit_and, bit_xor, nat_eq, Option, Some, None}
use Rattle.std.proofs.lemmas.Bool.{cases_lt, cases_eq, eqb-true}
use Rattle.std.proofs.lemmas.Bool.Decides.{nat_tests}
use Rattle.std.proofs.lemmas.Nat.Bits.{bit_at-lt, bit_at-zero, bit_at_and, bit_at_xor, bit_at_above, same_from_bits}
use Rattle.rv_table.specs.Accesses.{accesses, stored}
use Rattle.rv_table.proofs.Loads.{accessed}
use Rattle.rv_table.specs.declared.operation.StoreKind.{StoreKind}
use Rattle.rv_table.specs.declared.operation.StoreKind.TheVariants.{Sb, Sh, Sw}
use Rattle.need_pass.specs.Tables.{Needs, byte_need, reg_need}
use Rattle.eval_mask.specs.Aftermaths.{memory_after, registers_after, stored_over, written}
use Rattle.eval_mask.specs.Compared.{SameByte, SameBytes, SameCovered, SameRegister, SameRegisters, SameRun, SameStored, SameWhere, SameWritten, covers, need_at}
use Rattle.eval_mask.specs.declared.completing.Aftermath.{Aftermath}
use Rattle.eval_mask.specs.declared.completing.Store.{Store}
use Rattle.eval_mask.specs.declared.completing.Write.{Write}

-- no bit of the mask is set where the numbers differ
none_differs : (n mask a b : ℕ) → bit_and mask (bit_xor a b) ≡ 0 → SameWhere n mask a b
none_differs n mask a b e = record {
  same =
      λ k l one.
      let z : bit_at (bit_and mask (bit_xor a b)) k ≡ 0 = ap (λ (v : ℕ). bit_at v k) e ∙ bit_at-zero k in
      omega (arith, z, one, bit_at_and mask (bit_xor a b) k, bit_at_xor a b k, bit_at-lt a k, bit_at-lt b k);
}

all_same : (n mask a b : ℕ) → mask < 2 ^ n → SameWhere n mask a b → bit_and mask (bit_xor a b) ≡ 0
all_same n mask a b h s =
    same_from_bits (bit_and mask (bit_xor a b)) 0
    (λ i.
    elim (cases_lt i n) [
      | inl l ↦
          elim (cases_eq (bit_at mask i) 1) [
            | inl one ↦ let e = s.same i l one in omega (arith, e, bit_at-zero i, bit_at_and mask (bit_xor a b) i, bit_at_xor a b i, bit_at-lt a i, bit_at-lt b i)
            | inr no_one ↦ omega (arith, no_one, bit_at-lt mask i, bit_at-zero i, bit_at_and mask (bit_xor a b) i)
          ]
      | inr m ↦ omega (arith, bit_at_above mask n i h m, bit_at-zero i, bit_at_and mask (bit_xor a b) i)
    ])

pub same_needed : (n mask a b : ℕ) → mask < 2 ^ n → IsTrue (nat_eq (bit_and mask (bit_xor a b)) 0) ↔ SameWhere n mask a b
same_needed n mask a b h = (
  λ t. let e : bit_and mask (bit_xor a b) ≡ 0 = grind (arith, nat_tests) in none_differs n mask a b e,
  λ s. rw (all_same n mask a b h s) refl,
)

pub need_inside : (needs : Needs) (r j : ℕ) → 0 < r → r < 32 → need_at needs r j ≡ reg_need needs r j
need_inside needs r j h l = grind (arith, nat_tests)

pub same_all : (n mask a b : ℕ) → a ≡ b → SameWhere n mask a b
same_all n mask a b e = record { same = λ k l one. ap (λ (v : ℕ). bit_at v k) e }

-- a need that is known
pub known_mask : (needs : Needs) (r q j mask : ℕ) → mask ≡ need_at needs q j → r ≡ q → 0 < r → r < 32 → mask ≡ reg_need needs r j
known_mask needs r q j mask e f above below = e ∙ ap (λ (s : ℕ). need_at needs s j) (sym f) ∙ need_inside needs r j above below

-- ---- registers

pub unwritten : (w : Write) (f : ℕ → ℕ) (r : ℕ) → (r ≡ w.rd → ⊥) → written w f r ≡ f r
unwritten w f r ne = grind (arith, nat_tests)

write_over : (w : Write) (f g : ℕ → ℕ) (r : ℕ) → f r ≡ g r → written w f r ≡ written w g r
write_over w f g r e = grind (arith, nat_tests)

-- what holds at one number and at all others
at_or : (P : ℕ → Type 0) (r s : ℕ) → P s → ((r ≡ s → ⊥) → P r) → P r
at_or P r s here there = elim (cases_eq r s) [ inl e ↦ rw e here | inr ne ↦ there ne ]

-- at register r two writes change values that are the same to values that are the same
abbrev PassesAt : Write → Write → ℕ → Type 0
PassesAt a b r = (a ≡ b) ⊎ ((r ≡ a.rd → ⊥) × (r ≡ b.rd → ⊥))

written_same : (a b : Write) (f g : ℕ → ℕ) (r : ℕ) → PassesAt a b r → f r ≡ g r → written a f r ≡ written b g r
written_same a b f g r (inl e) h = rw e (write_over b f g r h)
written_same a b f g r (inr (m, n)) h = unwritten a f r m ∙ h ∙ sym (unwritten b g r n)

written_or : (needs : Needs) (j : ℕ) (f g : ℕ → ℕ) (a b : Write) (r : ℕ) → SameWritten needs j f g a b
    → (PassesAt a b r → SameRegister needs j f g r) → SameRegister needs j f g r
written_or needs j f g a b r s on = elim s.same [
  | inl e ↦ on (inl e)
  | inr both ↦
      at_or (SameRegister needs j f g) r a.rd (both.0)
      (λ m. at_or (SameRegister needs j f g) r b.rd (both.1) (λ n. on (inr (m, n))))
]

pub same_writes : (needs : Needs) (j : ℕ) (f g : ℕ → ℕ) (a b : Write) → a ≡ b → SameWritten needs j f g a b
same_writes needs j f g a b e = record { same = inl e }

pub both_registers : (needs : Needs) (j : ℕ) (f g : ℕ → ℕ) (a b : Write) → SameRegister needs j f g a.rd → SameRegister needs j f g b.rd
    → SameWritten needs j f g a b
both_registers needs j f g a b s t = record { same = inr (s, t) }

pub ruleset registers_told = (same_writes, both_registers)

pub all_registers : (needs : Needs) (j : ℕ) (f : ℕ → ℕ) (x y : Aftermath)
    → SameWritten needs j (registers_after x f) (registers_after y f) x.above.write y.above.write
    → SameWritten needs j (registers_after x f) (registers_after y f) x.below.write y.below.write
    → SameWritten needs j (registers_after x f) (registers_after y f) x.first y.first
    → SameRegisters needs j (registers_after x f) (registers_after y f)
all_registers needs j f x y above below first =
    let g = registers_after x f in
    let h = registers_after y f in
    record {
      same =
          λ r.
          written_or needs j g h x.above.write y.above.write r above
          (λ c.
          written_or needs j g h x.below.write y.below.write r below
          (λ b.
          written_or needs j g h x.first y.first r first
          (λ a.
          record {
            same =
                λ over under.
                same_all 32 (reg_need needs r j) (g r) (h r)
                (written_same x.above.write y.above.write _ _ r c (written_same x.below.write y.below.write _ _ r b (written_same x.first y.first f f r a refl)));
          })));
    }

-- ---- bytes

pub uncovered : (store : Option Store) (f : ℕ → ℕ) (p : ℕ) → covers store p ≡ false → stored_over store f p ≡ f p
unfolding stored
uncovered None f p e = refl
uncovered (Some store) f p e = grind (arith, nat_tests)

store_over : (store : Option Store) (f g : ℕ → ℕ) (p : ℕ) → f p ≡ g p → stored_over store f p ≡ stored_over store g p
unfolding stored
store_over None f g p e = e
store_over (Some store) f g p e = grind (arith, nat_tests)

-- what holds where a test does and where it doesn't
pub if_or : (P : Type 0) (t : Bool) → (t ≡ true → P) → (t ≡ false → P) → P
if_or P true here there = here refl
if_or P false here there = there refl

-- at byte p two stores change bytes that are the same to bytes that are the same
abbrev PassesOver : Option Store → Option Store → ℕ → Type 0
PassesOver a b p = (a ≡ b) ⊎ ((covers a p ≡ false) × (covers b p ≡ false))

stored_same : (a b : Option Store) (f g : ℕ → ℕ) (p : ℕ) → PassesOver a b p → f p ≡ g p → stored_over a f p ≡ stored_over b g p
stored_same a b f g p (inl e) h = rw e (store_over b f g p h)
stored_same a b f g p (inr (m, n)) h = uncovered a f p m ∙ h ∙ sym (uncovered b g p n)

stored_or : (needs : Needs) (j : ℕ) (f g : ℕ → ℕ) (a b : Option Store) (p : ℕ) → SameStored needs j f g a b
    → (PassesOver a b p → SameByte needs j f g p) → SameByte needs j f g p
stored_or needs j f g a b p s on = elim s.same [
  | inl e ↦ on (inl e)
  | inr both ↦
      if_or (SameByte needs j f g p) (covers a p) (both.0.same p)
      (λ m. if_or (SameByte needs j f g p) (covers b p) (both.1.same p) (λ n. on (inr (m, n))))
]

pub same_stores : (needs : Needs) (j : ℕ) (f g : ℕ → ℕ) (a b : Option Store) → a ≡ b → SameStored needs j f g a b
same_stores needs j f g a b e = record { same = inl e }

pub both_covered : (needs : Needs) (j : ℕ) (f g : ℕ → ℕ) (a b : Option Store) → SameCovered needs j f g a → SameCovered needs j f g b
    → SameStored needs j f g a b
both_covered needs j f g a b s t = record { same = inr (s, t) }

pub covered_all : (needs : Needs) (j : ℕ) (f g : ℕ → ℕ) (a : Option Store) → SameBytes needs j f g → SameCovered needs j f g a
covered_all needs j f g a s = record { same = λ p c. s.same p }

pub place_covered : (needs : Needs) (j : ℕ) (f g : ℕ → ℕ) (a b : Option Store) → ((p : ℕ) → covers a p ≡ covers b p) → SameCovered needs j f g b
    → SameCovered needs j f g a
place_covered needs j f g a b e s = record { same = λ p c. s.same p (sym (e p) ∙ c) }

pub ruleset bytes_told = (same_stores, both_covered, covered_all, place_covered)

pub all_bytes : (needs : Needs) (j : ℕ) (f : ℕ → ℕ) (x y : Aftermath)
    → SameStored needs j (memory_after x f) (memory_after y f) x.below.store y.below.store
    → SameStored needs j (memory_after x f) (memory_after y f) x.above.store y.above.store
    → SameBytes needs j (memory_after x f) (memory_after y f)
all_bytes needs j f x y below above =
    let g = memory_after x f in
    let h = memory_after y f in
    record {
      same =
          λ p.
          stored_or needs j g h x.below.store y.below.store p below
          (λ b.
          stored_or needs j g h x.above.store y.above.store p above
          (λ a.
          record {
            same =
                λ l.
                same_all 8 (byte_need needs p j) (g p) (h p)
                (stored_same x.above.store y.above.store _ _ p a (stored_same x.below.store y.below.store f f p b refl));
          }));
    }

-- ---- the bytes of a store

one_of : (needs : Needs) (j : ℕ) (f g : ℕ → ℕ) (p q : ℕ) → q ≡ p → SameByte needs j f g q → SameByte needs j f g p
one_of needs j f g p q e s = rw (sym e) s

pub two_bytes : (needs : Needs) (j : ℕ) (f g : ℕ → ℕ) (from : ℕ) → SameByte needs j f g from → SameByte needs j f g (from + 1) → SameRun needs j f g from 2
two_bytes needs j f g from s t = record {
  same =
      λ p l h.
      elim (cases_eq p from) [
        | inl q ↦ one_of needs j f g p from (sym q) s
        | inr q ↦ one_of needs j f g p (from + 1) (omega arith) t
      ];
}

pub first_byte : (needs : Needs) (j : ℕ) (f g : ℕ → ℕ) (from : ℕ) → SameRun needs j f g from 2 → SameByte needs j f g from
first_byte needs j f g from s = s.same from (omega arith) (omega arith)

pub second_byte : (needs : Needs) (j : ℕ) (f g : ℕ → ℕ) (from : ℕ) → SameRun needs j f g from 2 → SameByte needs j f g (from + 1)
second_byte needs j f g from s = s.same (from + 1) (omega arith) (omega arith)

pub ruleset two = (two_bytes, first_byte, second_byte)

pub four_bytes : (needs : Needs) (j : ℕ) (f g : ℕ → ℕ) (from : ℕ) → SameRun needs j f g from 2 → SameRun needs j f g (from + 2) 2 → SameRun needs j f g from 4
four_bytes needs j f g from s t = record {
  same =
      λ p l h.
      elim (cases_lt p (from + 2)) [
        | inl b ↦ s.same p l b
        | inr b ↦ t.same p b (omega arith)
      ];
}

pub low_bytes : (needs : Needs) (j : ℕ) (f g : ℕ → ℕ) (from : ℕ) → SameRun needs j f g from 4 → SameRun needs j f g from 2
low_bytes needs j f g from s = record { same = λ p l h. s.same p l (omega arith) }

pub high_bytes : (needs : Needs) (j : ℕ) (f g : ℕ → ℕ) (from : ℕ) → SameRun needs j f g from 4 → SameRun needs j f g (from + 2) 2
high_bytes needs j f g from s = record { same = λ p l h. s.same p (omega arith) (omega arith) }

pub ruleset four = (four_bytes, low_bytes, high_bytes)

pub covered_byte : (needs : Needs) (j : ℕ) (f g : ℕ → ℕ) (kind : StoreKind) (x v : ℕ) → kind ≡ Sb
    → SameByte needs j f g x ↔ SameCovered needs j f g (Some (record { kind = kind; address = x; value = v }))
unfolding accesses
covered_byte needs j f g kind x v e = rw e (
  λ s. record { same = λ p c. let q = eqb-true (p / 1) (x / 1) c in one_of needs j f g p x (omega arith) s },
  λ s. s.same x (accessed 1 x x refl),
)

pub covered_half : (needs : Needs) (j : ℕ) (f g : ℕ → ℕ) (kind : StoreKind) (x v : ℕ) → kind ≡ Sh
    → SameRun needs j f g (x / 2 * 2) 2 ↔ SameCovered needs j f g (Some (record { kind = kind; address = x; value = v }))
unfolding accesses
covered_half needs j f g kind x v e = rw e (
  λ s. record { same = λ p c. let q = eqb-true (p / 2) (x / 2) c in s.same p (omega arith) (omega arith) },
  λ s. record { same = λ p l m. s.same p (accessed 2 x p (omega arith)) },
)

pub covered_word : (needs : Needs) (j : ℕ) (f g : ℕ → ℕ) (kind : StoreKind) (x v : ℕ) → kind ≡ Sw
    → SameRun needs j f g (x / 4 * 4) 4 ↔ SameCovered needs j f g (Some (record { kind = kind; address = x; value = v }))
unfolding accesses
covered_word needs j f g kind x v e = rw e (
  λ s. record { same = λ p c. let q = eqb-true (p / 4) (x / 4) c in s.same p (omega arith) (omega arith) },
  λ s. record { same = λ p l m. s.same p (accessed 4 x p (omega arith)) },
)

pub chained : {A B C : Type 0} → A ↔ B → B ↔ C → A ↔ C
chained x y = (λ a. y.0 (x.0 a), λ c. x.1 (y.1 c))
