-- Bits of the operands of a completed branch.
use Rattle.std.proofs.Common.{◌≡◌, ◌↔◌, ℕ, ◌+◌, ◌<◌, Bool, true, false, refl, sym, ◌∙◌, ap, subst, arith, inl, inr}
use Rattle.std.specs.Prelude.{◌⊎◌, IsTrue, not}
use Rattle.bit_field.specs.Layouts.{flip}
use Rattle.rv_table.specs.Actions.{holds}
use Rattle.rv_table.specs.Operations.{operation_of}
use Rattle.rv_table.specs.declared.operation.BranchKind.{BranchKind}
use Rattle.rv_table.specs.declared.operation.Operation.TheVariants.{Branch}
use Rattle.rv_isa.specs.Architecture.{ArchState, state_of}
use Rattle.pipe_latch.specs.DecodedBits as decoded
use Rattle.pipe_latch.specs.Latches.{DecodedLatch, ExecutedLatch, ResultLatch}
use Rattle.need_pass.specs.Tables.{Needs}
use Rattle.eval_mask.specs.Aftermaths.{doing_after, left_by, operand_after}
use Rattle.eval_mask.specs.Cases.{IsCase, IsMaskBelow}
use Rattle.eval_mask.specs.LatchMasks.{IsDecodedMasked}
use Rattle.eval_mask.specs.OtherDoings.{DoesAlike, first_bit}
use Rattle.eval_mask.specs.QuickDoings.{StaysOr, way_doing}
use Rattle.eval_mask.specs.Unread.{is_forwarded}
use Rattle.eval_mask.specs.declared.cases.Case.{Case}
use Rattle.eval_mask.specs.declared.completing.Doing.{Doing}
use Rattle.eval_mask.specs.declared.inputs.Input.{Input}
use Rattle.eval_mask.specs.declared.inputs.Input.TheVariants.{A, B}
use Rattle.eval_mask.proofs.Doings.{agrees_itself, own_left}
use Rattle.eval_mask.proofs.Fields.{a_flipped, b_flipped}
use Rattle.eval_mask.proofs.QuickDoings.{branch_is}
use Rattle.eval_mask.proofs.ReadInputs.{input_exactly, input_inside, input_keeps, own_doing}
use Rattle.eval_mask.proofs.ValueBits.{as_mask, held_on}

-- ---- one of two ways

either_way : (t own : Bool) → (t ≡ own) ⊎ (t ≡ not own)
either_way true true = inl refl
either_way true false = inr refl
either_way false true = inr refl
either_way false false = inl refl

not_self : (t : Bool) → not t ≡ t → ⊥
not_self true e = grind arith
not_self false e = grind arith

-- a branch whose own way is worked out, and what turning it leaves
record IsWay (needs : Needs) (arch : ArchState) (w : ResultLatch) (m : ExecutedLatch) (d : DecodedLatch) (case : Case) (own turned : Bool) : Type 0 where
  is : IsCase needs arch w m d case
  on : case.on_path ≡ true
  reached : case.reached ≡ true
  unread : case.reads_clock ≡ false
  own_way : case.doing ≡ way_doing d own
  other_way : IsTrue turned ↔ DoesAlike needs arch case (way_doing d (not own))

own_alike : (needs : Needs) (arch : ArchState) (w : ResultLatch) (m : ExecutedLatch) (d : DecodedLatch) (case : Case) (own turned : Bool)
    → IsWay needs arch w m d case own turned → DoesAlike needs arch case (way_doing d own)
own_alike needs arch w m d case own turned k =
    agrees_itself needs arch case _
    (ap (λ (z : Doing). left_by arch.image case.own.first case.own.below z (state_of arch).memory) (sym k.own_way)
    ∙ sym (own_left needs arch w m d case k.is k.reached))

stays_exactly : (needs : Needs) (arch : ArchState) (w : ResultLatch) (m : ExecutedLatch) (d : DecodedLatch) (case : Case) (own turned t : Bool)
    → IsWay needs arch w m d case own turned → StaysOr t own turned ↔ DoesAlike needs arch case (way_doing d t)
stays_exactly needs arch w m d case own turned t k = (
  λ s.
      elim s.stays [
        | inl e ↦ subst (λ (v : Bool). DoesAlike needs arch case (way_doing d v)) (sym e) (own_alike needs arch w m d case own turned k)
        | inr u ↦
            elim (either_way t own) [
              | inl e ↦ subst (λ (v : Bool). DoesAlike needs arch case (way_doing d v)) (sym e) (own_alike needs arch w m d case own turned k)
              | inr e ↦ subst (λ (v : Bool). DoesAlike needs arch case (way_doing d v)) (sym e) (k.other_way.0 u)
            ]
      ],
  λ a.
      elim (either_way t own) [
        | inl e ↦ record { stays = inl e }
        | inr e ↦ record { stays = inr (k.other_way.1 (subst (λ (v : Bool). DoesAlike needs arch case (way_doing d v)) e a)) }
      ],
)

-- whether it stays, as a test
stays_test : (t own turned : Bool) → (r : Bool) × (IsTrue r ↔ StaysOr t own turned)
stays_test true true turned = (true, (λ u. record { stays = inl refl }, λ s. refl))
stays_test false false turned = (true, (λ u. record { stays = inl refl }, λ s. refl))
stays_test true false turned = (turned, (λ u. record { stays = inr u }, λ s. elim s.stays [ inl e ↦ absurd (grind arith) | inr u ↦ u ]))
stays_test false true turned = (turned, (λ u. record { stays = inr u }, λ s. elim s.stays [ inl e ↦ absurd (grind arith) | inr u ↦ u ]))

way_exactly : (needs : Needs) (arch : ArchState) (w : ResultLatch) (m : ExecutedLatch) (d : DecodedLatch) (case : Case) (own turned t : Bool) (input : Input) (i : ℕ)
    → IsWay needs arch w m d case own turned → i < 32
    → way_doing d t ≡ doing_after arch.image w (decoded.flipped d (first_bit input + i)) case.own.below.write case.issued
    → StaysOr t own turned ↔ IsDecodedMasked needs arch (record { w = w; m = m; d = d }) case.oldest.value case.npc case.issued (first_bit input + i)
way_exactly needs arch w m d case own turned t input i k l e =
    let other = decoded.flipped d (first_bit input + i) in
    let keeps = input_keeps d input i l in
    let inside = input_inside input i l in
    let test = stays_test t own turned in
    let same = stays_exactly needs arch w m d case own turned t k in
    let alike : IsTrue test.0 ↔ DoesAlike needs arch case (way_doing d t) = (λ u. same.0 (test.1.0 u), λ a. test.1.1 (same.1 a)) in
    let masked =
    input_exactly needs arch w m d other case (first_bit input + i) test.0 k.is k.on k.reached k.unread inside.0 inside.1 refl keeps.0
    (subst (λ (z : Doing). IsTrue test.0 ↔ DoesAlike needs arch case z) e alike) in
    (λ s. masked.0 (test.1.1 s), λ s. test.1.0 (masked.1 s))

own_way : (needs : Needs) (arch : ArchState) (w : ResultLatch) (m : ExecutedLatch) (d : DecodedLatch) (case : Case) (kind : BranchKind) → IsCase needs arch w m d case
    → operation_of d.op ≡ Branch kind → case.doing ≡ way_doing d (holds kind case.a case.held)
own_way needs arch w m d case kind is o =
    own_doing needs arch w m d case is ∙ sym (branch_is arch.image d case.issued case.a case.held kind o)

pub first_way_bits : (needs : Needs) (arch : ArchState) (w : ResultLatch) (m : ExecutedLatch) (d : DecodedLatch) (case : Case) (kind : BranchKind) (turned : Bool) (mask : ℕ)
    → IsCase needs arch w m d case → case.on_path ≡ true → case.reached ≡ true → case.reads_clock ≡ false
    → operation_of d.op ≡ Branch kind → is_forwarded case.own.below.write w d.rs1 ≡ false
    → IsTrue turned ↔ DoesAlike needs arch case (way_doing d (not (holds kind case.a case.held)))
    → IsMaskBelow 32 (λ i. StaysOr (holds kind (flip case.a i) case.held) (holds kind case.a case.held) turned) mask
    → IsMaskBelow 32 (λ i. IsDecodedMasked needs arch (record { w = w; m = m; d = d }) case.oldest.value case.npc case.issued (52 + i)) mask
first_way_bits needs arch w m d case kind turned mask is on reached unread o held other h =
    let below = case.own.below.write in
    let a : case.a ≡ d.a = is.a ∙ held_on below w d.rs1 d.a held in
    as_mask _ _ mask
    (λ i l.
    way_exactly needs arch w m d case (holds kind case.a case.held) turned (holds kind (flip case.a i) case.held) A i
    (record { is = is; on = on; reached = reached; unread = unread; own_way = own_way needs arch w m d case kind is o; other_way = other }) l
    (subst (λ (z : DecodedLatch). way_doing d (holds kind (flip case.a i) case.held) ≡ doing_after arch.image w z below case.issued) (a_flipped d i l)
    (ap (λ (v : ℕ). way_doing d (holds kind v case.held)) (ap (λ (v : ℕ). flip v i) a ∙ sym (held_on below w d.rs1 (flip d.a i) held))
    ∙ ap (λ (v : ℕ). way_doing d (holds kind (operand_after below w d.rs1 (flip d.a i)) v)) is.held
    ∙ branch_is arch.image (record d { a = flip d.a i }) case.issued (operand_after below w d.rs1 (flip d.a i)) (operand_after below w d.rs2 d.b) kind o)))
    h

pub second_way_bits : (needs : Needs) (arch : ArchState) (w : ResultLatch) (m : ExecutedLatch) (d : DecodedLatch) (case : Case) (kind : BranchKind) (turned : Bool) (mask : ℕ)
    → IsCase needs arch w m d case → case.on_path ≡ true → case.reached ≡ true → case.reads_clock ≡ false
    → operation_of d.op ≡ Branch kind → is_forwarded case.own.below.write w d.rs2 ≡ false
    → IsTrue turned ↔ DoesAlike needs arch case (way_doing d (not (holds kind case.a case.held)))
    → IsMaskBelow 32 (λ i. StaysOr (holds kind case.a (flip case.held i)) (holds kind case.a case.held) turned) mask
    → IsMaskBelow 32 (λ i. IsDecodedMasked needs arch (record { w = w; m = m; d = d }) case.oldest.value case.npc case.issued (84 + i)) mask
second_way_bits needs arch w m d case kind turned mask is on reached unread o held other h =
    let below = case.own.below.write in
    let b : case.held ≡ d.b = is.held ∙ held_on below w d.rs2 d.b held in
    as_mask _ _ mask
    (λ i l.
    way_exactly needs arch w m d case (holds kind case.a case.held) turned (holds kind case.a (flip case.held i)) B i
    (record { is = is; on = on; reached = reached; unread = unread; own_way = own_way needs arch w m d case kind is o; other_way = other }) l
    (subst (λ (z : DecodedLatch). way_doing d (holds kind case.a (flip case.held i)) ≡ doing_after arch.image w z below case.issued) (b_flipped d i l)
    (ap (λ (v : ℕ). way_doing d (holds kind case.a v)) (ap (λ (v : ℕ). flip v i) b ∙ sym (held_on below w d.rs2 (flip d.b i) held))
    ∙ ap (λ (v : ℕ). way_doing d (holds kind v (operand_after below w d.rs2 (flip d.b i)))) is.a
    ∙ branch_is arch.image (record d { b = flip d.b i }) case.issued (operand_after below w d.rs1 d.a) (operand_after below w d.rs2 (flip d.b i)) kind o)))
    h
