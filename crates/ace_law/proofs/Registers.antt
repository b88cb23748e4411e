-- Register files that differ in one bit of one register.
use Rattle.std.proofs.Common.{◌≡◌, ◌+◌, ◌-◌, ◌<◌, ◌^◌, ◌/◌, ◌%◌, ℕ, Bool, true, false, List, length, arith, refl, ap, sym, subst, ◌∙◌}
use Rattle.std.specs.Int.{bit_at}
use Rattle.std.specs.Prelude.{◌≢◌, ◌==◌, if◌then◌else◌, slice_index, slice_set}
use Rattle.std.proofs.Math.Path.{fun_ext}
use Rattle.std.proofs.lemmas.Bool.Decides.{nat_tests}
use Rattle.bit_field.specs.Layouts.{flip}
use Rattle.bit_field.proofs.Bits.{bit_at-flip_other, flip_below}
use Rattle.rv_isa.specs.Instruction.{put_reg}
use Rattle.rv_isa.proofs.Lists.{indexed_at}
use Rattle.cyc_machine.specs.Pipeline.{register}
use Rattle.cyc_machine.specs.RegisterBits.{file_flipped}

-- register q of the second differs in bit b at most
pub record IsNear (q b : ℕ) (f g : ℕ → ℕ) : Type 0 where
  pub others : (r : ℕ) → r ≢ q → g r ≡ f r
  pub bits : (j : ℕ) → j ≢ b → bit_at (g q) j ≡ bit_at (f q) j
  pub below : f q < 2 ^ 32 → g q < 2 ^ 32

put_at : (rd value : ℕ) (f : ℕ → ℕ) (r : ℕ) → put_reg rd value f r ≡ (if rd == 0 then f r else (if r == rd then value else f r))
put_at rd value f r = go (rd == 0)
  where
    go : (b : Bool) → (if b then f else (λ (s : ℕ). if s == rd then value else f s)) r ≡ (if b then f r else (if r == rd then value else f r))
    go true = refl
    go false = refl

both : (P : ℕ → ℕ → Type 0) (rd value : ℕ) (f g : ℕ → ℕ) (r : ℕ) → P value value → P (f r) (g r) → P (put_reg rd value f r) (put_reg rd value g r)
both P rd value f g r same other = go (rd == 0) (r == rd)
  where
    go : (b c : Bool) → P ((if b then f else (λ (s : ℕ). if s == rd then value else f s)) r)
        ((if b then g else (λ (s : ℕ). if s == rd then value else g s)) r)
    go true c = other
    go false c = inside (r == rd)
      where
        inside : (d : Bool) → P (if d then value else f r) (if d then value else g r)
        inside true = same
        inside false = other

-- a write keeps them so
pub near-put : (q b rd value : ℕ) (f g : ℕ → ℕ) → IsNear q b f g → IsNear q b (put_reg rd value f) (put_reg rd value g)
near-put q b rd value f g near = record {
  others = λ r other. both (λ x y. y ≡ x) rd value f g r refl (near.others r other);
  bits = λ j other. both (λ x y. bit_at y j ≡ bit_at x j) rd value f g q refl (near.bits j other);
  below = both (λ x y. x < 2 ^ 32 → y < 2 ^ 32) rd value f g q (λ h. h) near.below;
}

-- and one to register q makes them equal
pub put-same : (q b rd value : ℕ) (f g : ℕ → ℕ) → IsNear q b f g → rd ≡ q → q ≢ 0 → put_reg rd value g ≡ put_reg rd value f
put-same q b rd value f g near e some = fun_ext (λ r. put_at rd value g r ∙ go r (r == rd) refl ∙ sym (put_at rd value f r))
  where
    go : (r : ℕ) (c : Bool) → (r == rd) ≡ c
        → (if rd == 0 then g r else (if r == rd then value else g r)) ≡ (if rd == 0 then f r else (if r == rd then value else f r))
    go r true c = grind (arith, nat_tests)
    go r false c =
        let other : r ≢ q = λ h. absurd (grind (arith, nat_tests)) in
        ap (λ x. if rd == 0 then x else (if r == rd then value else x)) (near.others r other)

-- ---- a flipped file

register-set : (registers : List ℕ) (i v r : ℕ) → i < length registers
    → register (slice_set registers i v) r ≡ (if r == 0 then 0 else (if r - 1 == i then v else slice_index registers (r - 1)))
unfolding register
register-set registers i v r l = ap (λ x. if r == 0 then 0 else x) (indexed_at registers i v (r - 1) l)

unread : (registers : List ℕ) (i v r : ℕ) → r ≢ i + 1
    → (if r == 0 then 0 else (if r - 1 == i then v else slice_index registers (r - 1))) ≡ register registers r
unfolding register
unread registers i v r other = grind (arith, nat_tests)

register-next : (registers : List ℕ) (i : ℕ) → register registers (i + 1) ≡ slice_index registers i
unfolding register
register-next registers i = go (i + 1 == 0) refl
  where
    go : (b : Bool) → (i + 1 == 0) ≡ b → (if b then 0 else slice_index registers (i + 1 - 1)) ≡ slice_index registers i
    go true e = absurd (grind (arith, nat_tests))
    go false e = ap (slice_index registers) (omega arith)

next-set : (registers : List ℕ) (i v : ℕ) → i < length registers → register (slice_set registers i v) (i + 1) ≡ v
next-set registers i v l = register-next (slice_set registers i v) i ∙ indexed_at registers i v i l ∙ go (i == i) refl
  where
    go : (b : Bool) → (i == i) ≡ b → (if b then v else slice_index registers i) ≡ v
    go true e = refl
    go false e = absurd (grind (arith, nat_tests))

others-set : (registers : List ℕ) (i v r : ℕ) → i < length registers → r ≢ i + 1 → register (slice_set registers i v) r ≡ register registers r
others-set registers i v r l other = register-set registers i v r l ∙ elsewhere
  where
    elsewhere : (if r == 0 then 0 else (if r - 1 == i then v else slice_index registers (r - 1))) ≡ register registers r
    elsewhere = unread registers i v r other

set-near : (registers : List ℕ) (i v b : ℕ) → i < length registers → ((j : ℕ) → j ≢ b → bit_at v j ≡ bit_at (slice_index registers i) j)
    → (slice_index registers i < 2 ^ 32 → v < 2 ^ 32) → IsNear (i + 1) b (register registers) (register (slice_set registers i v))
set-near registers i v b l bits below = record {
  others = λ r other. others-set registers i v r l other;
  bits = λ j other.
      ap (λ x. bit_at x j) (next-set registers i v l) ∙ bits j other ∙ sym (ap (λ x. bit_at x j) (register-next registers i));
  below = λ h. subst (λ x. x < 2 ^ 32) (sym (next-set registers i v l)) (below (subst (λ x. x < 2 ^ 32) (register-next registers i) h));
}

-- bit k of the file is bit k % 32 of register k / 32 + 1
pub file-near : (registers : List ℕ) (k : ℕ) → k / 32 < length registers
    → IsNear (k / 32 + 1) (k % 32) (register registers) (register (file_flipped registers k))
file-near registers k l =
    set-near registers (k / 32) (flip (slice_index registers (k / 32)) (k % 32)) (k % 32) l
    (λ j other. bit_at-flip_other (slice_index registers (k / 32)) (k % 32) j other)
    (λ h. flip_below (slice_index registers (k / 32)) (k % 32) 32 h (omega arith))

-- a bit of another register, or another bit
pub near-bit : (q b : ℕ) (f g : ℕ → ℕ) → IsNear q b f g → (r j : ℕ) → (r ≡ q → j ≡ b → ⊥) → bit_at (g r) j ≡ bit_at (f r) j
near-bit q b f g near r j other = go (r == q) (j == b) refl refl
  where
    go : (c d : Bool) → (r == q) ≡ c → (j == b) ≡ d → bit_at (g r) j ≡ bit_at (f r) j
    go true true e h = absurd (other (grind (arith, nat_tests)) (grind (arith, nat_tests)))
    go true false e h =
        let same : r ≡ q = grind (arith, nat_tests) in
        ap (λ x. bit_at (g x) j) same ∙ near.bits j (λ n. absurd (grind (arith, nat_tests))) ∙ sym (ap (λ x. bit_at (f x) j) same)
    go false d e h = ap (λ x. bit_at x j) (near.others r (λ n. absurd (grind (arith, nat_tests))))

-- in range where they were
pub near-below : (q b : ℕ) (f g : ℕ → ℕ) → IsNear q b f g → ((r : ℕ) → f r < 2 ^ 32) → (r : ℕ) → g r < 2 ^ 32
near-below q b f g near h r = go (r == q) refl
  where
    go : (c : Bool) → (r == q) ≡ c → g r < 2 ^ 32
    go true e = let same : r ≡ q = grind (arith, nat_tests) in subst (λ x. g x < 2 ^ 32) (sym same) (near.below (h q))
    go false e = subst (λ x. x < 2 ^ 32) (sym (near.others r (λ n. absurd (grind (arith, nat_tests))))) (h r)
