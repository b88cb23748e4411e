-- One instruction's step back: the parts of the pass, put together, are the roots and the links.
use Rattle.std.proofs.Common.{◌≡◌, ◌↔◌, ◌⊎◌, ℕ, ◌+◌, ◌*◌, ◌/◌, ◌^◌, ◌<◌, ◌≤◌, Bool, true, false, cond, leb, eqb, refl, sym, ◌∙◌, ap, arith, eq-eqb, inl, inr}
use Rattle.std.specs.Int.{bit_at}
use Rattle.std.specs.Prelude.{bit_or, ◌&&◌}
use Rattle.std.proofs.lemmas.Bool.{cases_eq, false≢true}
use Rattle.std.proofs.lemmas.Bool.Decides.{nat_tests}
use Rattle.std.proofs.lemmas.Nat.Bits.{bit_at-lt, bit_at-zero, bit_at_or}
use Rattle.bit_field.proofs.Low.{bit_at-mod, bit_at-shr}
use Rattle.rv_isa.specs.declared.effect.Retired.{Retired}
use Rattle.rv_table.specs.Accesses.{byte_of}
use Rattle.rv_table.specs.Operations.{operation_of}
use Rattle.need_pass.specs.Links.{LinkA, LinkB, LinkLoaded, writes, loads, stores, byte_number, stored_bytes}
use Rattle.need_pass.specs.Masks.{IsMaskOf, HasOne}
use Rattle.need_pass.specs.Needed.{RootA, RootB}

abbrev pub IsRegister : ℕ → Type 0
IsRegister r = (0 < r) × (r < 32)

-- The masks of the registers (R0 before the step, R3 after it) and of the bytes, and the masks of the instruction's operands.
pub record Parts (i : Retired) (at : ℕ) (R0 R1 R2 R3 B0 B1 B2 : ℕ → ℕ → ℕ) : Type 0 where
  pub result : ℕ  -- the bits of the written register
  pub loaded : ℕ  -- the bits of the loaded bytes
  pub a : ℕ
  pub b : ℕ
  pub loaded_below : loaded < 2 ^ 32
  pub result_is : IsMaskOf result (λ k. (s : ℕ) × (0 < s) × (s < 32) × (writes i s ≡ true) × (bit_at (R0 s 0) k ≡ 1))
  pub loaded_is : IsMaskOf loaded (λ k. HasOne result (LinkLoaded (operation_of i.op.code) k))
  pub a_is : IsMaskOf a (λ k. HasOne result (LinkA (operation_of i.op.code) i.op i.a i.b k) ⊎ RootA (operation_of i.op.code) i.op k)
  pub b_is : IsMaskOf b (λ k. (HasOne result (LinkB (operation_of i.op.code) i.a i.b k) ⊎ RootB (operation_of i.op.code) i.a k) ⊎ ((p j : ℕ) × (p < 2 ^ 32) × (j < 8) × (stores i p ≡ true) × (k ≡ 8 * byte_number (stored_bytes i.effect.store) p + j) × (bit_at (B0 p 0) j ≡ 1)))
  pub take : (s x : ℕ) → 0 < s → s < 32 → R1 s x ≡ cond (writes i s && leb x at) 0 (R0 s x)
  pub add_a : (s x : ℕ) → 0 < s → s < 32 → R2 s x ≡ cond (eqb s i.op.rs1 && leb x at) (bit_or (R1 s 0) a) (R1 s x)
  pub add_b : (s x : ℕ) → 0 < s → s < 32 → R3 s x ≡ cond (eqb s i.op.rs2 && leb x at) (bit_or (R2 s 0) b) (R2 s x)
  pub clear : (p x : ℕ) → p < 2 ^ 32 → B1 p x ≡ cond (stores i p && leb x at) 0 (B0 p x)
  pub load : (p x : ℕ) → p < 2 ^ 32 → B2 p x ≡ cond (loads i p && leb x at) (bit_or (B1 p 0) (byte_of loaded (byte_number i.effect.load p))) (B1 p x)

-- a change that reaches up to `at`, at a later and at an earlier instruction
skip : (w : Bool) (x at m v : ℕ) → at < x → cond (w && leb x at) m v ≡ v
skip true x at m v l = let e : leb x at ≡ false = grind (arith, nat_tests) in rw e refl
skip false x at m v l = refl

reach : (w : Bool) (x at m v : ℕ) → x ≤ at → cond (w && leb x at) m v ≡ cond w m v
reach true x at m v l = let e : leb x at ≡ true = grind (arith, nat_tests) in rw e refl
reach false x at m v l = refl

-- ---- the masks behind the instruction stay, and those before it are the same at each instruction

pub register_later : (i : Retired) (at : ℕ) (R0 R1 R2 R3 B0 B1 B2 : ℕ → ℕ → ℕ) → Parts i at R0 R1 R2 R3 B0 B1 B2 → (s x : ℕ) → 0 < s → s < 32 → at < x → R3 s x ≡ R0 s x
register_later i at R0 R1 R2 R3 B0 B1 B2 h s x p l m =
    h.add_b s x p l ∙ skip (eqb s i.op.rs2) x at (bit_or (R2 s 0) h.b) (R2 s x) m
    ∙ h.add_a s x p l ∙ skip (eqb s i.op.rs1) x at (bit_or (R1 s 0) h.a) (R1 s x) m
    ∙ h.take s x p l ∙ skip (writes i s) x at 0 (R0 s x) m

pub byte_later : (i : Retired) (at : ℕ) (R0 R1 R2 R3 B0 B1 B2 : ℕ → ℕ → ℕ) → Parts i at R0 R1 R2 R3 B0 B1 B2 → (p x : ℕ) → p < 2 ^ 32 → at < x → B2 p x ≡ B0 p x
byte_later i at R0 R1 R2 R3 B0 B1 B2 h p x l m =
    h.load p x l ∙ skip (loads i p) x at (bit_or (B1 p 0) (byte_of h.loaded (byte_number i.effect.load p))) (B1 p x) m
    ∙ h.clear p x l ∙ skip (stores i p) x at 0 (B0 p x) m

taken : (i : Retired) (at : ℕ) (R0 R1 R2 R3 B0 B1 B2 : ℕ → ℕ → ℕ) → Parts i at R0 R1 R2 R3 B0 B1 B2 → (s x : ℕ) → 0 < s → s < 32 → x ≤ at → R1 s x ≡ cond (writes i s) 0 (R0 s x)
taken i at R0 R1 R2 R3 B0 B1 B2 h s x p l m = h.take s x p l ∙ reach (writes i s) x at 0 (R0 s x) m

added_a : (i : Retired) (at : ℕ) (R0 R1 R2 R3 B0 B1 B2 : ℕ → ℕ → ℕ) (h : Parts i at R0 R1 R2 R3 B0 B1 B2) → (s x : ℕ) → 0 < s → s < 32 → x ≤ at → R2 s x ≡ cond (eqb s i.op.rs1) (bit_or (R1 s 0) h.a) (R1 s x)
added_a i at R0 R1 R2 R3 B0 B1 B2 h s x p l m = h.add_a s x p l ∙ reach (eqb s i.op.rs1) x at (bit_or (R1 s 0) h.a) (R1 s x) m

added_b : (i : Retired) (at : ℕ) (R0 R1 R2 R3 B0 B1 B2 : ℕ → ℕ → ℕ) (h : Parts i at R0 R1 R2 R3 B0 B1 B2) → (s x : ℕ) → 0 < s → s < 32 → x ≤ at → R3 s x ≡ cond (eqb s i.op.rs2) (bit_or (R2 s 0) h.b) (R2 s x)
added_b i at R0 R1 R2 R3 B0 B1 B2 h s x p l m = h.add_b s x p l ∙ reach (eqb s i.op.rs2) x at (bit_or (R2 s 0) h.b) (R2 s x) m

pub register_settled : (i : Retired) (at : ℕ) (R0 R1 R2 R3 B0 B1 B2 : ℕ → ℕ → ℕ) → Parts i at R0 R1 R2 R3 B0 B1 B2 → (s x : ℕ) → 0 < s → s < 32 → x ≤ at → R0 s x ≡ R0 s 0 → R3 s x ≡ R3 s 0
register_settled i at R0 R1 R2 R3 B0 B1 B2 h s x p l m same =
    let z : 0 ≤ at = omega arith in
    let e1 : R1 s x ≡ R1 s 0 = taken i at R0 R1 R2 R3 B0 B1 B2 h s x p l m ∙ ap (λ v. cond (writes i s) 0 v) same ∙ sym (taken i at R0 R1 R2 R3 B0 B1 B2 h s 0 p l z) in
    let e2 : R2 s x ≡ R2 s 0 = added_a i at R0 R1 R2 R3 B0 B1 B2 h s x p l m ∙ ap (λ v. cond (eqb s i.op.rs1) (bit_or (R1 s 0) h.a) v) e1 ∙ sym (added_a i at R0 R1 R2 R3 B0 B1 B2 h s 0 p l z) in
    added_b i at R0 R1 R2 R3 B0 B1 B2 h s x p l m ∙ ap (λ v. cond (eqb s i.op.rs2) (bit_or (R2 s 0) h.b) v) e2 ∙ sym (added_b i at R0 R1 R2 R3 B0 B1 B2 h s 0 p l z)

cleared : (i : Retired) (at : ℕ) (R0 R1 R2 R3 B0 B1 B2 : ℕ → ℕ → ℕ) → Parts i at R0 R1 R2 R3 B0 B1 B2 → (p x : ℕ) → p < 2 ^ 32 → x ≤ at → B1 p x ≡ cond (stores i p) 0 (B0 p x)
cleared i at R0 R1 R2 R3 B0 B1 B2 h p x l m = h.clear p x l ∙ reach (stores i p) x at 0 (B0 p x) m

added_loaded : (i : Retired) (at : ℕ) (R0 R1 R2 R3 B0 B1 B2 : ℕ → ℕ → ℕ) (h : Parts i at R0 R1 R2 R3 B0 B1 B2) → (p x : ℕ) → p < 2 ^ 32 → x ≤ at → B2 p x ≡ cond (loads i p) (bit_or (B1 p 0) (byte_of h.loaded (byte_number i.effect.load p))) (B1 p x)
added_loaded i at R0 R1 R2 R3 B0 B1 B2 h p x l m = h.load p x l ∙ reach (loads i p) x at (bit_or (B1 p 0) (byte_of h.loaded (byte_number i.effect.load p))) (B1 p x) m

pub byte_settled : (i : Retired) (at : ℕ) (R0 R1 R2 R3 B0 B1 B2 : ℕ → ℕ → ℕ) → Parts i at R0 R1 R2 R3 B0 B1 B2 → (p x : ℕ) → p < 2 ^ 32 → x ≤ at → B0 p x ≡ B0 p 0 → B2 p x ≡ B2 p 0
byte_settled i at R0 R1 R2 R3 B0 B1 B2 h p x l m same =
    let z : 0 ≤ at = omega arith in
    let e1 : B1 p x ≡ B1 p 0 = cleared i at R0 R1 R2 R3 B0 B1 B2 h p x l m ∙ ap (λ v. cond (stores i p) 0 v) same ∙ sym (cleared i at R0 R1 R2 R3 B0 B1 B2 h p 0 l z) in
    added_loaded i at R0 R1 R2 R3 B0 B1 B2 h p x l m ∙ ap (λ v. cond (loads i p) (bit_or (B1 p 0) (byte_of h.loaded (byte_number i.effect.load p))) v) e1 ∙ sym (added_loaded i at R0 R1 R2 R3 B0 B1 B2 h p 0 l z)

-- ---- and they are the roots and the links

or_bits : (a b k : ℕ) → (bit_at (bit_or a b) k ≡ 1) ↔ ((bit_at a k ≡ 1) ⊎ (bit_at b k ≡ 1))
or_bits a b k = (
  λ one. elim (cases_eq (bit_at a k) 1) [ inl e ↦ inl e | inr e ↦ inr (omega (arith, bit_at_or a b k, bit_at-lt a k, bit_at-lt b k)) ],
  λ s. elim s [ inl e ↦ omega (arith, bit_at_or a b k, bit_at-lt b k) | inr e ↦ omega (arith, bit_at_or a b k, bit_at-lt a k) ],
)

-- a mask with another added where a test holds
added_bits : (w : Bool) (a b k : ℕ) → (bit_at (cond w (bit_or a b) a) k ≡ 1) ↔ ((bit_at a k ≡ 1) ⊎ ((w ≡ true) × (bit_at b k ≡ 1)))
added_bits true a b k = (
  λ one. elim ((or_bits a b k).0 one) [ inl e ↦ inl e | inr e ↦ inr (refl, e) ],
  λ s. elim s [ inl e ↦ (or_bits a b k).1 (inl e) | inr e ↦ (or_bits a b k).1 (inr e.1) ],
)
added_bits false a b k = (λ one. inl one, λ s. elim s [ inl e ↦ e | inr e ↦ absurd (false≢true e.0) ])

-- and taken out
taken_bits : (w : Bool) (a k : ℕ) → (bit_at (cond w 0 a) k ≡ 1) ↔ ((w ≡ false) × (bit_at a k ≡ 1))
taken_bits true a k = (λ one. absurd (omega (arith, bit_at-zero k)), λ e. absurd (false≢true (sym e.0)))
taken_bits false a k = (λ one. (refl, one), λ e. e.1)

bit_at-byte_of : (word n k : ℕ) → k < 8 → bit_at (byte_of word n) k ≡ bit_at word (8 * n + k)
unfolding byte_of
bit_at-byte_of word n k l = bit_at-mod (word / 2 ^ (8 * n)) 8 k l ∙ bit_at-shr word (8 * n) k

-- the bits of a register's mask: its own, and those of the operands
pub register_bits : (i : Retired) (at : ℕ) (R0 R1 R2 R3 B0 B1 B2 : ℕ → ℕ → ℕ) (h : Parts i at R0 R1 R2 R3 B0 B1 B2) → (r k : ℕ) → 0 < r → r < 32 → (bit_at (R3 r 0) k ≡ 1) ↔ ((((writes i r ≡ false) × (bit_at (R0 r 0) k ≡ 1)) ⊎ ((r ≡ i.op.rs1) × (bit_at h.a k ≡ 1))) ⊎ ((r ≡ i.op.rs2) × (bit_at h.b k ≡ 1)))
register_bits i at R0 R1 R2 R3 B0 B1 B2 h r k p l =
    let z : 0 ≤ at = omega arith in
    let e1 : bit_at (R1 r 0) k ≡ bit_at (cond (writes i r) 0 (R0 r 0)) k = ap (λ m. bit_at m k) (taken i at R0 R1 R2 R3 B0 B1 B2 h r 0 p l z) in
    let e2 : bit_at (R2 r 0) k ≡ bit_at (cond (eqb r i.op.rs1) (bit_or (R1 r 0) h.a) (R1 r 0)) k = ap (λ m. bit_at m k) (added_a i at R0 R1 R2 R3 B0 B1 B2 h r 0 p l z) in
    let e3 : bit_at (R3 r 0) k ≡ bit_at (cond (eqb r i.op.rs2) (bit_or (R2 r 0) h.b) (R2 r 0)) k = ap (λ m. bit_at m k) (added_b i at R0 R1 R2 R3 B0 B1 B2 h r 0 p l z) in
    let b1 = taken_bits (writes i r) (R0 r 0) k in
    let b2 = added_bits (eqb r i.op.rs1) (R1 r 0) h.a k in
    let b3 = added_bits (eqb r i.op.rs2) (R2 r 0) h.b k in (
      λ one.
          elim (b3.0 (sym e3 ∙ one)) [
            | inl x ↦
                elim (b2.0 (sym e2 ∙ x)) [
                  | inl y ↦ inl (inl (b1.0 (sym e1 ∙ y)))
                  | inr y ↦ inl (inr (same_number r i.op.rs1 y.0, y.1))
                ]
            | inr x ↦ inr (same_number r i.op.rs2 x.0, x.1)
          ],
      λ s.
          elim s [
            | inl t ↦
                elim t [
                  | inl y ↦ e3 ∙ b3.1 (inl (e2 ∙ b2.1 (inl (e1 ∙ b1.1 y))))
                  | inr y ↦ e3 ∙ b3.1 (inl (e2 ∙ b2.1 (inr (eq-eqb r i.op.rs1 y.0, y.1))))
                ]
            | inr y ↦ e3 ∙ b3.1 (inr (eq-eqb r i.op.rs2 y.0, y.1))
          ],
    )
  where
    same_number : (a b : ℕ) → eqb a b ≡ true → a ≡ b
    same_number a b e = grind (arith, nat_tests)

-- and those of a byte's
pub byte_bits : (i : Retired) (at : ℕ) (R0 R1 R2 R3 B0 B1 B2 : ℕ → ℕ → ℕ) (h : Parts i at R0 R1 R2 R3 B0 B1 B2) → (p k : ℕ) → p < 2 ^ 32 → k < 8 → (bit_at (B2 p 0) k ≡ 1) ↔ (((stores i p ≡ false) × (bit_at (B0 p 0) k ≡ 1)) ⊎ ((loads i p ≡ true) × (bit_at h.loaded (8 * byte_number i.effect.load p + k) ≡ 1)))
byte_bits i at R0 R1 R2 R3 B0 B1 B2 h p k l m =
    let z : 0 ≤ at = omega arith in
    let n : ℕ = byte_number i.effect.load p in
    let e1 : bit_at (B1 p 0) k ≡ bit_at (cond (stores i p) 0 (B0 p 0)) k = ap (λ v. bit_at v k) (cleared i at R0 R1 R2 R3 B0 B1 B2 h p 0 l z) in
    let e2 : bit_at (B2 p 0) k ≡ bit_at (cond (loads i p) (bit_or (B1 p 0) (byte_of h.loaded n)) (B1 p 0)) k = ap (λ v. bit_at v k) (added_loaded i at R0 R1 R2 R3 B0 B1 B2 h p 0 l z) in
    let b1 = taken_bits (stores i p) (B0 p 0) k in
    let b2 = added_bits (loads i p) (B1 p 0) (byte_of h.loaded n) k in
    let b : bit_at (byte_of h.loaded n) k ≡ bit_at h.loaded (8 * n + k) = bit_at-byte_of h.loaded n k m in (
      λ one. elim (b2.0 (sym e2 ∙ one)) [ inl x ↦ inl (b1.0 (sym e1 ∙ x)) | inr x ↦ inr (x.0, sym b ∙ x.1) ],
      λ s. elim s [ inl x ↦ e2 ∙ b2.1 (inl (e1 ∙ b1.1 x)) | inr x ↦ e2 ∙ b2.1 (inr (x.0, b ∙ x.1)) ],
    )
