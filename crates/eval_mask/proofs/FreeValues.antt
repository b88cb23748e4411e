-- A value that ID/EX doesn't take: its masked bits are those that aren't needed afterwards.
use Rattle.std.proofs.Common.{◌≡◌, ◌↔◌, ◌⊎◌, ℕ, ◌+◌, ◌-◌, ◌^◌, ◌<◌, Bool, true, false, refl, sym, ◌∙◌, ap, subst, arith, inl, inr}
use Rattle.std.specs.Int.{bit_at}
use Rattle.std.specs.Prelude.{◌==◌, bit_xor, IsTrue, not, if◌then◌else◌}
use Rattle.std.proofs.lemmas.Bool.{cases_eq, cases_lt}
use Rattle.std.proofs.lemmas.Bool.Decides.{nat_tests}
use Rattle.std.proofs.lemmas.Nat.Bits.{bit_at-lt, bit_at_above, bit_at_ones, bit_at_ones_above, bit_at_xor, bit_at-pow_same, bit_at-pow_other}
use Rattle.elf_load.specs.Image.{LoadedImage}
use Rattle.bit_field.specs.Layouts.{flip}
use Rattle.rv_table.specs.declared.action.Action.{Action}
use Rattle.rv_table.specs.declared.action.Action.TheVariants.{Nothing, Writes}
use Rattle.rv_isa.specs.Architecture.{ArchState, state_of}
use Rattle.pipe_latch.specs.LatchedActions.{action_by, action_of, kind_of}
use Rattle.pipe_latch.specs.Latches.{DecodedLatch, ExecutedLatch, ResultLatch}
use Rattle.pipe_latch.specs.declared.kinds.ExMemKind.{ExMemKind}
use Rattle.pipe_latch.specs.declared.kinds.ExMemKind.TheVariants.{WriteBack, Load, Store, Put, Exit, Trap}
use Rattle.need_pass.specs.Tables.{Needs}
use Rattle.eval_mask.specs.Aftermaths.{change_of}
use Rattle.eval_mask.specs.Cases.{IsCase, IsMaskBelow}
use Rattle.eval_mask.specs.Compared.{SameWhere}
use Rattle.eval_mask.specs.LatchMasks.{IsExecutedMasked, IsResultMasked}
use Rattle.eval_mask.specs.WrittenValues.{SameValues, is_taken, is_write, with_value}
use Rattle.eval_mask.specs.declared.cases.Case.{Case}
use Rattle.eval_mask.specs.declared.completing.Change.{Change}
use Rattle.eval_mask.specs.declared.completing.Write.{Write}
use Rattle.eval_mask.proofs.Differences.{same_all}
use Rattle.eval_mask.proofs.Fields.{executed_inside, value_flipped, written_inside, x_flipped}
use Rattle.eval_mask.proofs.Masked.{IsAskedOf, executed_exactly, not_true, written_exactly}
use Rattle.eval_mask.proofs.Moved.{first_never}
use Rattle.eval_mask.proofs.OwnChange.{own_below}
use Rattle.eval_mask.proofs.SameRegister.{below_lasts}
use Rattle.eval_mask.proofs.UnreadMasks.{none_masked, whole_by}
use Rattle.eval_mask.proofs.UnreadBits.{unread_exactly}
use Rattle.eval_mask.proofs.WrittenValues.{below_asked, below_free, below_never, by_reached, first_asked, first_free, own_first}

-- ---- a flipped bit

pub flip_same : (mask v i : ℕ) → i < 32 → IsTrue (bit_at mask i == 0) ↔ SameWhere 32 mask (flip v i) v
flip_same mask v i l = (
  λ t. record {
    same =
        λ k h one.
        elim (cases_eq k i) [
          | inl e ↦ let z : bit_at mask i ≡ 1 = subst (λ (q : ℕ). bit_at mask q ≡ 1) e one in absurd (grind (arith, nat_tests))
          | inr ne ↦ omega (arith, bit_at_xor v (2 ^ i) k, bit_at-pow_other i k ne, bit_at-lt v k)
        ];
  },
  λ s.
      elim (cases_eq (bit_at mask i) 1) [
        | inl one ↦
            let e = s.same i l one in
            absurd (omega (arith, e, bit_at_xor v (2 ^ i) i, bit_at-pow_same i, bit_at-lt v i))
        | inr no_one ↦ let z : bit_at mask i ≡ 0 = omega (arith, no_one, bit_at-lt mask i) in grind (arith, nat_tests)
      ],
)

unneeded_mask : (needed mask : ℕ) (P : ℕ → Type 0) → IsMaskBelow 32 (λ i. bit_at needed i ≡ 0) mask
    → ((i : ℕ) → i < 32 → IsTrue (bit_at needed i == 0) ↔ P i) → IsMaskBelow 32 P mask
unneeded_mask needed mask P is same = record {
  bits =
      λ k. (
        λ one.
            let zero_bit = (is.bits k).0 one in
            (zero_bit.0, (same k (zero_bit.0)).0 (let z = zero_bit.1 in grind (arith, nat_tests))),
        λ h.
            let t = (same k (h.0)).1 (h.1) in
            (is.bits k).1 (h.0, grind (arith, nat_tests)),
      );
}

-- ---- MEM/WB's value

same_first : (needs : Needs) (arch : ArchState) (w : ResultLatch) (m : ExecutedLatch) (d : DecodedLatch) (case : Case) (i : ℕ) → IsCase needs arch w m d case → i < 32
    → IsTrue (bit_at case.lasting.first i == 0) ↔ SameValues case (flip w.value i) case.own.below.write.value case.own.above.write.value
same_first needs arch w m d case i is l =
    let held : case.own.first.value ≡ w.value = ap (λ (o : Write). o.value) (own_first needs arch w m d case is) in
    let same = flip_same case.lasting.first w.value i l in (
      λ t. record {
        first = subst (λ (v : ℕ). SameWhere 32 case.lasting.first (flip w.value i) v) (sym held) (same.0 t);
        below = same_all 32 _ _ _ refl;
        above = same_all 32 _ _ _ refl;
      },
      λ s. same.1 (subst (λ (v : ℕ). SameWhere 32 case.lasting.first (flip w.value i) v) held s.first),
    )

value_bit : (needs : Needs) (arch : ArchState) (w : ResultLatch) (m : ExecutedLatch) (d : DecodedLatch) (case : Case) (i : ℕ) (r : Bool) → IsCase needs arch w m d case → i < 32
    → IsTrue r ↔ IsAskedOf needs arch case (record { w = w; m = m; d = d }) (record { w = record w { value = flip w.value i }; m = m; d = d })
    → IsTrue r ↔ IsResultMasked needs arch (record { w = w; m = m; d = d }) case.oldest.value case.npc case.issued (5 + i)
value_bit needs arch w m d case i r is l h =
    written_exactly needs arch w m d case (5 + i) r is (written_inside (5 + i) (omega arith))
    (subst (λ (v : ResultLatch). IsTrue r ↔ IsAskedOf needs arch case (record { w = w; m = m; d = d }) (record { w = v; m = m; d = d })) (value_flipped w i l) h)

pub first_field : (needs : Needs) (arch : ArchState) (w : ResultLatch) (m : ExecutedLatch) (d : DecodedLatch) (case : Case) (mask : ℕ) → IsCase needs arch w m d case
    → (w.rd ≡ case.own.below.write.rd) ⊎ (is_taken case d w.rd ≡ false) → (case.reads_clock ≡ true → mask ≡ 0)
    → (case.reads_clock ≡ false → IsMaskBelow 32 (λ i. bit_at case.lasting.first i ≡ 0) mask)
    → IsMaskBelow 32 (λ i. IsResultMasked needs arch (record { w = w; m = m; d = d }) case.oldest.value case.npc case.issued (5 + i)) mask
first_field needs arch w m d case mask is free clock bits =
    let P = λ (i : ℕ). IsResultMasked needs arch (record { w = w; m = m; d = d }) case.oldest.value case.npc case.issued (5 + i) in
    by_reached case.reads_clock (IsMaskBelow 32 P mask)
    (λ reads.
    subst (IsMaskBelow 32 P) (sym (clock reads))
    (none_masked P
    (λ i l p.
    not_true ((value_bit needs arch w m d case i false is l (first_never needs arch w m d case (record w { value = flip w.value i }) is reads)).1 p))))
    (λ unread.
    unneeded_mask case.lasting.first mask P (bits unread)
    (λ i l.
    value_bit needs arch w m d case i (bit_at case.lasting.first i == 0) is l
    (first_asked needs arch w (record w { value = flip w.value i }) m d case (bit_at case.lasting.first i == 0) is unread
    (first_free needs arch w (record w { value = flip w.value i }) m d case (bit_at case.lasting.first i == 0) is refl free
    (same_first needs arch w m d case i is l)))))

-- ---- EX/MEM's result

write_by : (occupied : Bool) (kind : ExMemKind) (m : ExecutedLatch) (u : ℕ) → is_write (if occupied then action_by kind m else Nothing) ≡ true
    → ((if occupied then action_by kind (record m { x = u }) else Nothing) ≡ Writes m.rd u) × ((if occupied then action_by kind m else Nothing) ≡ Writes m.rd m.x)
write_by true WriteBack m u e = (refl, refl)
write_by true (Load kind) m u e = absurd (grind arith)
write_by true (Store kind) m u e = absurd (grind arith)
write_by true Put m u e = absurd (grind arith)
write_by true Exit m u e = absurd (grind arith)
write_by true Trap m u e = absurd (grind arith)
write_by false kind m u e = absurd (grind arith)

write_with : (m : ExecutedLatch) (u : ℕ) → is_write (action_of m) ≡ true → (action_of (record m { x = u }) ≡ Writes m.rd u) × (action_of m ≡ Writes m.rd m.x)
unfolding action_of
write_with m u e = write_by m.valid (kind_of m.kind) m u e

value_with : (image : LoadedImage) (rd v u : ℕ) (memory : ℕ → ℕ) → change_of image (Writes rd u) memory ≡ with_value (change_of image (Writes rd v) memory) u
unfolding change_of
value_with image rd v u memory = refl

value_of : (image : LoadedImage) (rd v : ℕ) (memory : ℕ → ℕ) → (change_of image (Writes rd v) memory).write.value ≡ v
unfolding change_of
value_of image rd v memory = refl

own_written : (needs : Needs) (arch : ArchState) (w : ResultLatch) (m : ExecutedLatch) (d : DecodedLatch) (case : Case) → IsCase needs arch w m d case
    → is_write case.executed ≡ true → case.own.below ≡ change_of arch.image (Writes m.rd m.x) (state_of arch).memory
own_written needs arch w m d case is writes =
    own_below needs arch w m d case is
    ∙ ap (λ (done : Action). change_of arch.image done (state_of arch).memory) ((write_with m m.x (ap is_write (sym is.executed) ∙ writes)).1)

pub other_written : (needs : Needs) (arch : ArchState) (w : ResultLatch) (m : ExecutedLatch) (d : DecodedLatch) (case : Case) (u : ℕ) → IsCase needs arch w m d case
    → is_write case.executed ≡ true
    → (change_of arch.image (action_of (record m { x = u })) (state_of arch).memory ≡ with_value case.own.below u) × (case.own.below.write.value ≡ m.x)
other_written needs arch w m d case u is writes =
    let memory = (state_of arch).memory in
    let own = own_written needs arch w m d case is writes in (
      ap (λ (done : Action). change_of arch.image done memory) ((write_with m u (ap is_write (sym is.executed) ∙ writes)).0)
          ∙ value_with arch.image m.rd m.x u memory
          ∙ ap (λ (c : Change). with_value c u) (sym own),
      ap (λ (c : Change). c.write.value) own ∙ value_of arch.image m.rd m.x memory,
    )

pub result_bit : (needs : Needs) (arch : ArchState) (w : ResultLatch) (m : ExecutedLatch) (d : DecodedLatch) (case : Case) (i : ℕ) (r : Bool) → IsCase needs arch w m d case → i < 32
    → IsTrue r ↔ IsAskedOf needs arch case (record { w = w; m = m; d = d }) (record { w = w; m = record m { x = flip m.x i }; d = d })
    → IsTrue r ↔ IsExecutedMasked needs arch (record { w = w; m = m; d = d }) case.oldest.value case.npc case.issued (11 + i)
result_bit needs arch w m d case i r is l h =
    executed_exactly needs arch w m d case (11 + i) r is (executed_inside (11 + i) (omega arith))
    (subst (λ (n : ExecutedLatch). IsTrue r ↔ IsAskedOf needs arch case (record { w = w; m = m; d = d }) (record { w = w; m = n; d = d })) (x_flipped m i l) h)

same_below : (case : Case) (x i : ℕ) → case.own.below.write.value ≡ x → i < 32
    → IsTrue (bit_at case.lasting.below i == 0) ↔ SameValues case case.own.first.value (flip x i) case.own.above.write.value
same_below case x i held l =
    let same = flip_same case.lasting.below x i l in (
      λ t. record {
        first = same_all 32 _ _ _ refl;
        below = subst (λ (v : ℕ). SameWhere 32 case.lasting.below (flip x i) v) (sym held) (same.0 t);
        above = same_all 32 _ _ _ refl;
      },
      λ s. same.1 (subst (λ (v : ℕ). SameWhere 32 case.lasting.below (flip x i) v) held s.below),
    )

-- a bit that is needed afterwards isn't masked
pub needed_bit : (needs : Needs) (arch : ArchState) (w : ResultLatch) (m : ExecutedLatch) (d : DecodedLatch) (case : Case) (i : ℕ) → IsCase needs arch w m d case → i < 32
    → is_write case.executed ≡ true → case.reads_clock ≡ false → bit_at case.lasting.below i ≡ 1
    → IsTrue false ↔ IsExecutedMasked needs arch (record { w = w; m = m; d = d }) case.oldest.value case.npc case.issued (11 + i)
needed_bit needs arch w m d case i is l writes unread one =
    let other = other_written needs arch w m d case (flip m.x i) is writes in
    result_bit needs arch w m d case i false is l
    (below_asked needs arch w m (record m { x = flip m.x i }) d case _ (flip m.x i) false is refl (other.0) unread (
      λ t. absurd (not_true t),
      λ a.
          let s = below_lasts needs arch w m d case (flip m.x i) is a in
          let t = (flip_same case.lasting.below m.x i l).1 (subst (λ (v : ℕ). SameWhere 32 case.lasting.below (flip m.x i) v) (other.1) s) in
          absurd (grind (arith, nat_tests)),
    ))

pub below_field : (needs : Needs) (arch : ArchState) (w : ResultLatch) (m : ExecutedLatch) (d : DecodedLatch) (case : Case) (mask : ℕ) → IsCase needs arch w m d case
    → is_write case.executed ≡ true → is_taken case d case.own.below.write.rd ≡ false → (case.reads_clock ≡ true → mask ≡ 0)
    → (case.reads_clock ≡ false → IsMaskBelow 32 (λ i. bit_at case.lasting.below i ≡ 0) mask)
    → IsMaskBelow 32 (λ i. IsExecutedMasked needs arch (record { w = w; m = m; d = d }) case.oldest.value case.npc case.issued (11 + i)) mask
below_field needs arch w m d case mask is writes free clock bits =
    let P = λ (i : ℕ). IsExecutedMasked needs arch (record { w = w; m = m; d = d }) case.oldest.value case.npc case.issued (11 + i) in
    by_reached case.reads_clock (IsMaskBelow 32 P mask)
    (λ reads.
    subst (IsMaskBelow 32 P) (sym (clock reads))
    (none_masked P
    (λ i l p.
    let other = other_written needs arch w m d case (flip m.x i) is writes in
    not_true
    ((result_bit needs arch w m d case i false is l
    (below_never needs arch w m (record m { x = flip m.x i }) d case _ (flip m.x i) is refl (other.0) reads)).1
    p))))
    (λ unread.
    unneeded_mask case.lasting.below mask P (bits unread)
    (λ i l.
    let other = other_written needs arch w m d case (flip m.x i) is writes in
    result_bit needs arch w m d case i (bit_at case.lasting.below i == 0) is l
    (below_asked needs arch w m (record m { x = flip m.x i }) d case _ (flip m.x i) (bit_at case.lasting.below i == 0) is refl (other.0) unread
    (below_free needs arch w m d case (flip m.x i) (bit_at case.lasting.below i == 0) is free (same_below case m.x i (other.1) l)))))

-- ---- an EX/MEM that does nothing

nothing_by : (occupied : Bool) (kind : ExMemKind) (m : ExecutedLatch) (u : ℕ) → (if occupied then action_by kind m else Nothing) ≡ Nothing
    → (if occupied then action_by kind (record m { x = u }) else Nothing) ≡ (if occupied then action_by kind m else Nothing)
nothing_by false kind m u e = refl
nothing_by true WriteBack m u e = absurd (grind arith)
nothing_by true (Load kind) m u e = absurd (grind arith)
nothing_by true (Store kind) m u e = absurd (grind arith)
nothing_by true Put m u e = absurd (grind arith)
nothing_by true Exit m u e = absurd (grind arith)
nothing_by true Trap m u e = absurd (grind arith)

nothing_with : (m : ExecutedLatch) (u : ℕ) → action_of m ≡ Nothing → action_of (record m { x = u }) ≡ action_of m
unfolding action_of
nothing_with m u e = nothing_by m.valid (kind_of m.kind) m u e

nothing_bit : (needs : Needs) (arch : ArchState) (w : ResultLatch) (m : ExecutedLatch) (d : DecodedLatch) (case : Case) (i : ℕ) → IsCase needs arch w m d case
    → case.executed ≡ Nothing → i < 32
    → IsTrue (not case.reads_clock) ↔ IsExecutedMasked needs arch (record { w = w; m = m; d = d }) case.oldest.value case.npc case.issued (11 + i)
nothing_bit needs arch w m d case i is none l =
    result_bit needs arch w m d case i (not case.reads_clock) is l
    (unread_exactly needs arch w m (record m { x = flip m.x i }) d case is (nothing_with m (flip m.x i) (sym is.executed ∙ none)))

pub nothing_field : (needs : Needs) (arch : ArchState) (w : ResultLatch) (m : ExecutedLatch) (d : DecodedLatch) (case : Case) → IsCase needs arch w m d case
    → case.executed ≡ Nothing
    → IsMaskBelow 32 (λ i. IsExecutedMasked needs arch (record { w = w; m = m; d = d }) case.oldest.value case.npc case.issued (11 + i)) (if case.reads_clock then 0 else 2 ^ 32 - 1)
nothing_field needs arch w m d case is none =
    whole_by case.reads_clock (λ i. IsExecutedMasked needs arch (record { w = w; m = m; d = d }) case.oldest.value case.npc case.issued (11 + i))
    (λ unread i l. (nothing_bit needs arch w m d case i is none l).0 (rw unread refl))
    (λ reads i l s. not_read case.reads_clock reads ((nothing_bit needs arch w m d case i is none l).1 s))
  where
    not_read : (t : Bool) → t ≡ true → IsTrue (not t) → ⊥
    not_read t e n = grind arith

-- ---- the bits that a number of 32 bits doesn't have

pub other_bits : (needed : ℕ) → needed < 2 ^ 32 → IsMaskBelow 32 (λ i. bit_at needed i ≡ 0) (bit_xor needed (2 ^ 32 - 1))
other_bits needed fits = record {
  bits =
      λ k.
      elim (cases_lt k 32) [
        | inl l ↦ (
          λ one. (l, omega (arith, one, bit_at_xor needed (2 ^ 32 - 1) k, bit_at_ones 32 k l, bit_at-lt needed k)),
          λ h. omega (arith, h.1, bit_at_xor needed (2 ^ 32 - 1) k, bit_at_ones 32 k l),
        )
        | inr h ↦ (
          λ one. absurd (omega (arith, one, bit_at_xor needed (2 ^ 32 - 1) k, bit_at_ones_above 32 k h, bit_at_above needed 32 k fits h)),
          λ p. absurd (omega (arith, p.0, h)),
        )
      ];
}
