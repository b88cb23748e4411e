-- Which bits of a latch are in which of its fields.
use Rattle.std.proofs.Common.{◌≡◌, ℕ, ◌+◌, ◌-◌, ◌<◌, ◌≤◌, List, [], ◌∷◌, ◌++◌, Bool, true, false, refl, sym, ◌∙◌, ap, arith, inl, inr}
use Rattle.std.specs.Prelude.{Option, Some, None}
use Rattle.std.proofs.lemmas.Bool.{cases_lt}
use Rattle.bit_field.specs.Layouts.{bits_of, flip, flip_by, located}
use Rattle.bit_field.proofs.Located.{located-here, located-none, located-on}
use Rattle.pipe_latch.specs.DecodedBits as decoded
use Rattle.pipe_latch.specs.ExecutedBits as executed
use Rattle.pipe_latch.specs.Latches.{DecodedLatch, ExecutedLatch, ResultLatch}
use Rattle.pipe_latch.specs.ResultBits as result
use Rattle.pipe_latch.specs.declared.ex_mem.ExMemField.TheVariants.{Valid as Occupied, Kind, Rd as Result, X, Y, Cause}
use Rattle.pipe_latch.specs.declared.mem_wb.MemWbField.TheVariants.{Rd as Target, Value}
use Rattle.pipe_latch.specs.declared.id_ex.IdExField.{IdExField}
use Rattle.pipe_latch.specs.declared.id_ex.IdExField.TheVariants.{Valid, Pc, Op, Rd, Rs1, Rs2, A, B, Imm, Count}
use Rattle.eval_mask.specs.LatchMasks.{decoded_field, executed_field, is_in, result_field}

-- what holds of the field of bit k: it is the first, or one of the others
by_field : {F : Type 0} (width : F → ℕ) (chosen : F → Bool) (is : Bool) (f : F) (fs : List F) (k : ℕ) → (k < width f → chosen f ≡ is)
    → (width f ≤ k → is_in chosen (located width fs (k - width f)) ≡ is) → is_in chosen (located width (f ∷ fs) k) ≡ is
by_field width chosen is f fs k here on =
    elim (cases_lt k (width f)) [
      | inl l ↦ ap (is_in chosen) (located-here width f fs k l) ∙ here l
      | inr l ↦ ap (is_in chosen) (located-on width f fs k l) ∙ on l
    ]

by_none : {F : Type 0} (width : F → ℕ) (chosen : F → Bool) (k : ℕ) → is_in chosen (located width [] k) ≡ false
by_none width chosen k = ap (is_in chosen) (located-none width k)

pub decoded_inside : (k : ℕ) → 31 ≤ k → k < 148 → is_in decoded_field (decoded.field_of k) ≡ true
decoded_inside k h l =
    by_field decoded.width decoded_field true _ _ k (λ a. absurd (omega arith))
    (λ a0.
    by_field decoded.width decoded_field true _ _ _ (λ a. absurd (omega arith))
    (λ b1.
    by_field decoded.width decoded_field true _ _ _ (λ a. refl)
    (λ c2.
    by_field decoded.width decoded_field true _ _ _ (λ a. refl)
    (λ d3.
    by_field decoded.width decoded_field true _ _ _ (λ a. refl)
    (λ e4.
    by_field decoded.width decoded_field true _ _ _ (λ a. refl)
    (λ f5.
    by_field decoded.width decoded_field true _ _ _ (λ a. refl)
    (λ g6.
    by_field decoded.width decoded_field true _ _ _ (λ a. refl)
    (λ h7.
    by_field decoded.width decoded_field true _ _ _ (λ a. refl)
    (λ i8. absurd (omega arith))))))))))

pub decoded_front : (k : ℕ) → k < 31 → is_in decoded_field (decoded.field_of k) ≡ false
decoded_front k h =
    by_field decoded.width decoded_field false _ _ k (λ a. refl)
    (λ a0.
    by_field decoded.width decoded_field false _ _ _ (λ a. refl)
    (λ b1. absurd (omega arith)))

pub decoded_end : (k : ℕ) → 148 ≤ k → is_in decoded_field (decoded.field_of k) ≡ false
decoded_end k h =
    by_field decoded.width decoded_field false _ _ k (λ a. absurd (omega arith))
    (λ a0.
    by_field decoded.width decoded_field false _ _ _ (λ a. absurd (omega arith))
    (λ b1.
    by_field decoded.width decoded_field false _ _ _ (λ a. absurd (omega arith))
    (λ c2.
    by_field decoded.width decoded_field false _ _ _ (λ a. absurd (omega arith))
    (λ d3.
    by_field decoded.width decoded_field false _ _ _ (λ a. absurd (omega arith))
    (λ e4.
    by_field decoded.width decoded_field false _ _ _ (λ a. absurd (omega arith))
    (λ f5.
    by_field decoded.width decoded_field false _ _ _ (λ a. absurd (omega arith))
    (λ g6.
    by_field decoded.width decoded_field false _ _ _ (λ a. absurd (omega arith))
    (λ h7.
    by_field decoded.width decoded_field false _ _ _ (λ a. absurd (omega arith))
    (λ i8.
    by_field decoded.width decoded_field false _ _ _ (λ a. refl)
    (λ j9. by_none decoded.width decoded_field _))))))))))

pub executed_inside : (k : ℕ) → k < 75 → is_in executed_field (executed.field_of k) ≡ true
executed_inside k h =
    by_field executed.width executed_field true _ _ k (λ a. refl)
    (λ a0.
    by_field executed.width executed_field true _ _ _ (λ a. refl)
    (λ b1.
    by_field executed.width executed_field true _ _ _ (λ a. refl)
    (λ c2.
    by_field executed.width executed_field true _ _ _ (λ a. refl)
    (λ d3.
    by_field executed.width executed_field true _ _ _ (λ a. refl)
    (λ e4. absurd (omega arith))))))

pub executed_end : (k : ℕ) → 75 ≤ k → is_in executed_field (executed.field_of k) ≡ false
executed_end k h =
    by_field executed.width executed_field false _ _ k (λ a. absurd (omega arith))
    (λ a0.
    by_field executed.width executed_field false _ _ _ (λ a. absurd (omega arith))
    (λ b1.
    by_field executed.width executed_field false _ _ _ (λ a. absurd (omega arith))
    (λ c2.
    by_field executed.width executed_field false _ _ _ (λ a. absurd (omega arith))
    (λ d3.
    by_field executed.width executed_field false _ _ _ (λ a. absurd (omega arith))
    (λ e4.
    by_field executed.width executed_field false _ _ _ (λ a. refl)
    (λ f5. by_none executed.width executed_field _))))))

pub written_inside : (k : ℕ) → k < 37 → is_in result_field (result.field_of k) ≡ true
written_inside k h =
    by_field result.width result_field true _ _ k (λ a. refl)
    (λ a0.
    by_field result.width result_field true _ _ _ (λ a. refl)
    (λ b1. absurd (omega arith)))

pub written_end : (k : ℕ) → 37 ≤ k → is_in result_field (result.field_of k) ≡ false
written_end k h =
    by_field result.width result_field false _ _ k (λ a. absurd (omega arith))
    (λ a0.
    by_field result.width result_field false _ _ _ (λ a. absurd (omega arith))
    (λ b1. by_none result.width result_field _))

-- a flip in one of ID/EX's fields whose bits can be masked leaves whether it is occupied, and where
keeps_by : (d : DecodedLatch) (place : Option (IdExField × ℕ)) → is_in decoded_field place ≡ true
    → ((flip_by (decoded.flip_in d) d place).valid ≡ d.valid) × ((flip_by (decoded.flip_in d) d place).pc ≡ d.pc)
keeps_by d None e = (refl, refl)
keeps_by d (Some (Valid, i)) e = absurd (grind arith)
keeps_by d (Some (Pc, i)) e = absurd (grind arith)
keeps_by d (Some (Op, i)) e = (refl, refl)
keeps_by d (Some (Rd, i)) e = (refl, refl)
keeps_by d (Some (Rs1, i)) e = (refl, refl)
keeps_by d (Some (Rs2, i)) e = (refl, refl)
keeps_by d (Some (A, i)) e = (refl, refl)
keeps_by d (Some (B, i)) e = (refl, refl)
keeps_by d (Some (Imm, i)) e = (refl, refl)
keeps_by d (Some (Count, i)) e = (refl, refl)

pub flip_keeps : (d : DecodedLatch) (k : ℕ) → 31 ≤ k → k < 148
    → ((decoded.flipped d k).valid ≡ d.valid) × ((decoded.flipped d k).pc ≡ d.pc)
flip_keeps d k h l = keeps_by d (decoded.field_of k) (decoded_inside k h l)

-- ---- the fields of operands and registers

skip : {F : Type 0} (width : F → ℕ) (before rest : List F) (i : ℕ) → located width (before ++ rest) (bits_of width before + i) ≡ located width rest i
skip width [] rest i = ap (located width rest) (omega arith)
skip width (f ∷ fs) rest i =
    let back : width f + bits_of width fs + i - width f ≡ bits_of width fs + i = omega arith in
    located-on width f (fs ++ rest) (width f + bits_of width fs + i) (omega arith) ∙ ap (located width (fs ++ rest)) back ∙ skip width fs rest i

place_of : {F : Type 0} (width : F → ℕ) (before : List F) (f : F) (after : List F) (i : ℕ) → i < width f
    → located width (before ++ (f ∷ after)) (bits_of width before + i) ≡ Some (f, i)
place_of width before f after i l = skip width before (f ∷ after) i ∙ located-here width f after i l

pub op_flipped : (d : DecodedLatch) (i : ℕ) → i < 6 → (record d { op = flip d.op i }) ≡ decoded.flipped d (31 + i)
op_flipped d i l = sym (ap (flip_by (decoded.flip_in d) d) (place_of decoded.width (Valid ∷ Pc ∷ []) Op (Rd ∷ Rs1 ∷ Rs2 ∷ A ∷ B ∷ Imm ∷ Count ∷ []) i l))

pub rd_flipped : (d : DecodedLatch) (i : ℕ) → i < 5 → (record d { rd = flip d.rd i }) ≡ decoded.flipped d (37 + i)
rd_flipped d i l = sym (ap (flip_by (decoded.flip_in d) d) (place_of decoded.width (Valid ∷ Pc ∷ Op ∷ []) Rd (Rs1 ∷ Rs2 ∷ A ∷ B ∷ Imm ∷ Count ∷ []) i l))

pub rs1_flipped : (d : DecodedLatch) (i : ℕ) → i < 5 → (record d { rs1 = flip d.rs1 i }) ≡ decoded.flipped d (42 + i)
rs1_flipped d i l = sym (ap (flip_by (decoded.flip_in d) d) (place_of decoded.width (Valid ∷ Pc ∷ Op ∷ Rd ∷ []) Rs1 (Rs2 ∷ A ∷ B ∷ Imm ∷ Count ∷ []) i l))

pub rs2_flipped : (d : DecodedLatch) (i : ℕ) → i < 5 → (record d { rs2 = flip d.rs2 i }) ≡ decoded.flipped d (47 + i)
rs2_flipped d i l = sym (ap (flip_by (decoded.flip_in d) d) (place_of decoded.width (Valid ∷ Pc ∷ Op ∷ Rd ∷ Rs1 ∷ []) Rs2 (A ∷ B ∷ Imm ∷ Count ∷ []) i l))

pub a_flipped : (d : DecodedLatch) (i : ℕ) → i < 32 → (record d { a = flip d.a i }) ≡ decoded.flipped d (52 + i)
a_flipped d i l = sym (ap (flip_by (decoded.flip_in d) d) (place_of decoded.width (Valid ∷ Pc ∷ Op ∷ Rd ∷ Rs1 ∷ Rs2 ∷ []) A (B ∷ Imm ∷ Count ∷ []) i l))

pub b_flipped : (d : DecodedLatch) (i : ℕ) → i < 32 → (record d { b = flip d.b i }) ≡ decoded.flipped d (84 + i)
b_flipped d i l = sym (ap (flip_by (decoded.flip_in d) d) (place_of decoded.width (Valid ∷ Pc ∷ Op ∷ Rd ∷ Rs1 ∷ Rs2 ∷ A ∷ []) B (Imm ∷ Count ∷ []) i l))

pub immediate_flipped : (d : DecodedLatch) (i : ℕ) → i < 32 → (record d { imm = flip d.imm i }) ≡ decoded.flipped d (116 + i)
immediate_flipped d i l =
    sym (ap (flip_by (decoded.flip_in d) d) (place_of decoded.width (Valid ∷ Pc ∷ Op ∷ Rd ∷ Rs1 ∷ Rs2 ∷ A ∷ B ∷ []) Imm (Count ∷ []) i l))

pub y_flipped : (m : ExecutedLatch) (i : ℕ) → i < 32 → (record m { y = flip m.y i }) ≡ executed.flipped m (43 + i)
y_flipped m i l = sym (ap (flip_by (executed.flip_in m) m) (place_of executed.width (Occupied ∷ Kind ∷ Result ∷ X ∷ []) Y (Cause ∷ []) i l))

pub x_flipped : (m : ExecutedLatch) (i : ℕ) → i < 32 → (record m { x = flip m.x i }) ≡ executed.flipped m (11 + i)
x_flipped m i l = sym (ap (flip_by (executed.flip_in m) m) (place_of executed.width (Occupied ∷ Kind ∷ Result ∷ []) X (Y ∷ Cause ∷ []) i l))

pub value_flipped : (w : ResultLatch) (i : ℕ) → i < 32 → (record w { value = flip w.value i }) ≡ result.flipped w (5 + i)
value_flipped w i l = sym (ap (flip_by (result.flip_in w) w) (place_of result.width (Target ∷ []) Value [] i l))
