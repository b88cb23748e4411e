-- The walk over a run, from its last instruction to its first.
use Rattle.std.proofs.Common.{◌≡◌, ◌↔◌, ◌⊎◌, ℕ, ◌+◌, ◌-◌, ◌%◌, ◌^◌, ◌≤◌, List, [], ◌∷◌, length, drop, get_or, refl, sym, ◌∙◌, ap, arith, inl, inr}
use Rattle.std.specs.Int.{bit_at}
use Rattle.std.specs.Prelude.{Some, slice_get, replicate}
use Rattle.std.proofs.lemmas.Bool.{cases_lt}
use Rattle.std.proofs.lemmas.List.{drop_all, drop_more, length-replicate, get_or-replicate, get_or_past}
use Rattle.std.proofs.lemmas.Option.{slice_get_within, get_or_from_slice_get}
use Rattle.std.proofs.lemmas.Nat.Bits.{bit_at-zero}
use Rattle.bit_field.proofs.Low.{bit_at-mod}
use Rattle.rv_isa.specs.declared.effect.Retired.{Retired}
use Rattle.need_pass.specs.Histories.{mask_after, mask_at}
use Rattle.need_pass.specs.Links.{Link}
use Rattle.need_pass.specs.Needed.{Root, Needed}
use Rattle.need_pass.specs.ProgramBits.{ProgramBit, Register, Byte, IsProgramBit}
use Rattle.need_pass.specs.Steps.{StepsBack, IsSettled}
use Rattle.need_pass.specs.Tables.{register_mask, byte_mask, need_bit, reg_need, byte_need, IsNeedOf}
use Rattle.need_pass.specs.declared.history.Change.{Change}

-- Before instruction `at` and each later one the masks have the needed bits, and before the earlier ones those of `at`.
pub record IsPassed (entries : List Retired) (registers : List (List Change)) (bytes : List (ℕ × List Change)) (at : ℕ) : Type 0 where
  pub count : length registers ≡ 31
  pub settled : IsSettled registers bytes at
  pub exact : (p : ProgramBit) (i : ℕ) → IsProgramBit p → at ≤ i → (need_bit registers bytes p i ≡ 1) ↔ Needed (drop i entries) p

pub needed_bit : (entries : List Retired) (p : ProgramBit) → Needed entries p → IsProgramBit p
unfolding Needed
needed_bit [] p n = absurd n
needed_bit (i ∷ later) p n = n.0

-- what is needed before an instruction, by it and by the others
needed_more : (i : Retired) (later : List Retired) (p : ProgramBit) → IsProgramBit p → (B : ProgramBit → Type 0) → ((q : ProgramBit) → IsProgramBit q → B q ↔ Needed later q) → (Root i p ⊎ ((q : ProgramBit) × IsProgramBit q × Link i p q × B q)) ↔ Needed (i ∷ later) p
unfolding Needed
needed_more i later p is B same = (
  λ s. elim s [ inl root ↦ (is, inl root) | inr (q, qs, link, b) ↦ (is, inr (q, link, (same q qs).0 b)) ],
  λ n. elim n.1 [ inl root ↦ inl root | inr (q, link, m) ↦ let qs = needed_bit later q m in inr (q, qs, link, (same q qs).1 m) ],
)

-- at the first instruction the need is that of `at`
at_first : (registers : List (List Change)) (bytes : List (ℕ × List Change)) (at : ℕ) → IsSettled registers bytes at → (p : ProgramBit) → IsProgramBit p → need_bit registers bytes p 0 ≡ need_bit registers bytes p at
at_first registers bytes at s (Register r k) (a, b, c) = ap (λ m. bit_at m k) (sym (s.register r at a b (omega arith)))
at_first registers bytes at s (Byte p k) (a, b) = ap (λ m. bit_at m k) (sym (s.byte p at a (omega arith)))

pub passed_more : (entries : List Retired) (registers registers' : List (List Change)) (bytes bytes' : List (ℕ × List Change)) (at : ℕ) (entry : Retired) → slice_get entries at ≡ Some entry → length registers' ≡ length registers → IsPassed entries registers bytes (at + 1) → StepsBack entry at registers bytes registers' bytes' → IsPassed entries registers' bytes' at
passed_more entries registers registers' bytes bytes' at entry found same h step =
    record { count = omega (arith, h.count); settled = settled; exact = exact }
  where
    settled : IsSettled registers' bytes' at
    settled = step.settled (record { register = λ r i a b l. h.settled.register r i a b (omega arith); byte = λ p i a l. h.settled.byte p i a (omega arith) })

    before : (q : ProgramBit) → IsProgramBit q → (need_bit registers bytes q 0 ≡ 1) ↔ Needed (drop (at + 1) entries) q
    before q is =
        let e : need_bit registers bytes q 0 ≡ need_bit registers bytes q (at + 1) = at_first registers bytes (at + 1) h.settled q is in
        let x = h.exact q (at + 1) is (omega arith) in
        (λ one. x.0 (sym e ∙ one), λ n. e ∙ x.1 n)

    here : (p : ProgramBit) → IsProgramBit p → (need_bit registers' bytes' p at ≡ 1) ↔ Needed (drop at entries) p
    here p is =
        let e : need_bit registers' bytes' p 0 ≡ need_bit registers' bytes' p at = at_first registers' bytes' at settled p is in
        let d : drop at entries ≡ entry ∷ drop (at + 1) entries = drop_more entries at entry (slice_get_within entries at entry found) ∙ ap (λ x. x ∷ drop (at + 1) entries) (get_or_from_slice_get entries at entry entry found) in
        let more = needed_more entry (drop (at + 1) entries) p is (λ q. need_bit registers bytes q 0 ≡ 1) (before) in
        (λ one. rw d (more.0 ((step.now p is).0 (e ∙ one))), λ n. sym e ∙ (step.now p is).1 (more.1 (rw d at n)))

    exact : (p : ProgramBit) (i : ℕ) → IsProgramBit p → at ≤ i → (need_bit registers' bytes' p i ≡ 1) ↔ Needed (drop i entries) p
    exact p i is l =
        elim (cases_lt at i) [
          | inl m ↦
              let e : need_bit registers' bytes' p i ≡ need_bit registers bytes p i = step.later p i is m in
              let x = h.exact p i is (omega arith) in
              (λ one. x.0 (sym e ∙ one), λ n. e ∙ x.1 n)
          | inr m ↦ let e : i ≡ at = omega arith in rw e (here p is)
        ]

abbrev none : List Change
none = []

none_at : (n k : ℕ) → get_or (replicate n none) k none ≡ none
none_at n k =
    elim (cases_lt k n) [
      | inl l ↦ get_or-replicate n k none none l
      | inr l ↦ get_or_past (replicate n none) k none (omega (arith, length-replicate n none))
    ]

mask_none : (i : ℕ) → mask_at [] i ≡ 0
unfolding mask_after
mask_none i = refl

needed_none : (p : ProgramBit) → Needed [] p → ⊥
unfolding Needed
needed_none p n = n

pub passed_none : (entries : List Retired) (registers : List (List Change)) → registers ≡ replicate 31 [] → IsPassed entries registers [] (length entries)
passed_none entries registers e = record {
  count = ap length e ∙ length-replicate 31 none;
  settled = record { register = λ r i a b l. no_register r i ∙ sym (no_register r 0); byte = λ p i a l. no_byte p i ∙ sym (no_byte p 0) };
  exact = exact;
}
  where
    no_register : (r i : ℕ) → register_mask registers r i ≡ 0
    no_register r i = ap (λ xs. mask_at (get_or xs (r - 1) []) i) e ∙ ap (λ x. mask_at x i) (none_at 31 (r - 1)) ∙ mask_none i

    no_byte : (p i : ℕ) → byte_mask [] p i ≡ 0
    no_byte p i = mask_none i

    never : (i : ℕ) (p : ProgramBit) → length entries ≤ i → Needed (drop i entries) p → ⊥
    never i p l n = needed_none p (rw (drop_all i entries l) at n)

    exact : (p : ProgramBit) (i : ℕ) → IsProgramBit p → length entries ≤ i → (need_bit registers [] p i ≡ 1) ↔ Needed (drop i entries) p
    exact (Register r k) i is l = (λ one. absurd (omega (arith, bit_at-zero k, rw (no_register r i) at one)), λ n. absurd (never i (Register r k) l n))
    exact (Byte p k) i is l = (λ one. absurd (omega (arith, bit_at-zero k, rw (no_byte p i) at one)), λ n. absurd (never i (Byte p k) l n))

pub passed_all : (entries : List Retired) (registers : List (List Change)) (bytes : List (ℕ × List Change)) (count : ℕ) → count ≡ length entries → IsPassed entries registers bytes 0 → IsNeedOf entries (record { count = count; registers = registers; bytes = bytes })
unfolding reg_need byte_need
passed_all entries registers bytes count e h = record {
  count = e;
  register = λ r k i a b c. h.exact (Register r k) i (a, b, c) (omega arith);
  byte = λ p k i a b.
      let is = h.exact (Byte p k) i (a, b) (omega arith) in
      let low : bit_at (byte_mask bytes p i % 2 ^ 8) k ≡ bit_at (byte_mask bytes p i) k = bit_at-mod (byte_mask bytes p i) 8 k b in
      (λ one. is.0 (sym low ∙ one), λ n. low ∙ is.1 n);
}
