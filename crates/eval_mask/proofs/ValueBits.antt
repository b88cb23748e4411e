-- Bits of a completed ID/EX that computes a value.
use Rattle.std.proofs.Common.{◌≡◌, ◌↔◌, ℕ, ◌+◌, ◌^◌, ◌<◌, true, false, refl, sym, ◌∙◌, ap, subst, arith}
use Rattle.std.specs.Prelude.{bit_and, bit_xor, nat_eq}
use Rattle.std.proofs.lemmas.Bool.Decides.{nat_tests}
use Rattle.bit_field.specs.Layouts.{flip}
use Rattle.rv_table.specs.Arithmetic.{alu}
use Rattle.rv_table.specs.Operations.{operation_of}
use Rattle.rv_table.specs.declared.operation.AluKind.{AluKind}
use Rattle.rv_table.specs.declared.operation.Operation.TheVariants.{Alu, AluImmediate}
use Rattle.rv_isa.specs.Architecture.{ArchState}
use Rattle.pipe_latch.specs.DecodedBits as decoded
use Rattle.pipe_latch.specs.Latches.{DecodedLatch, ExecutedLatch, ResultLatch}
use Rattle.need_pass.specs.Tables.{Needs}
use Rattle.eval_mask.specs.Aftermaths.{doing_after, doing_with, operand_after, plain_doing}
use Rattle.eval_mask.specs.Cases.{IsCase, IsMaskBelow}
use Rattle.eval_mask.specs.Compared.{SameWhere}
use Rattle.eval_mask.specs.LatchMasks.{IsDecodedMasked}
use Rattle.eval_mask.specs.OtherDoings.{first_bit}
use Rattle.eval_mask.specs.Unread.{is_forwarded}
use Rattle.eval_mask.specs.declared.cases.Case.{Case}
use Rattle.eval_mask.specs.declared.completing.Write.{Write}
use Rattle.eval_mask.specs.declared.inputs.Input.{Input}
use Rattle.eval_mask.specs.declared.inputs.Input.TheVariants.{A, B, Immediate}
use Rattle.eval_mask.proofs.Completed.{alu_doing, immediate_doing}
use Rattle.eval_mask.proofs.Differences.{same_needed}
use Rattle.eval_mask.proofs.Fields.{a_flipped, b_flipped, immediate_flipped}
use Rattle.eval_mask.proofs.ReadInputs.{input_exactly, input_inside, input_keeps, like_of, plain_alike}

pub held_on : (below : Write) (w : ResultLatch) (rs v : ℕ) → is_forwarded below w rs ≡ false → operand_after below w rs v ≡ v
held_on below w rs v e = grind (arith, nat_tests)

-- the same mask, of what holds of the same bits
pub as_mask : (P Q : ℕ → Type 0) (mask : ℕ) → ((i : ℕ) → i < 32 → P i ↔ Q i) → IsMaskBelow 32 P mask → IsMaskBelow 32 Q mask
as_mask P Q mask same is = record {
  bits =
      λ k. (
        λ one. let h = (is.bits k).0 one in (h.0, (same k h.0).0 h.1),
        λ h. (is.bits k).1 (h.0, (same k h.0).1 h.1),
      );
}

-- a latch of which the own outcome is worked out, and whose operation writes the value y of its operands
record IsValue (needs : Needs) (arch : ArchState) (w : ResultLatch) (m : ExecutedLatch) (d : DecodedLatch) (case : Case) (y : ℕ) : Type 0 where
  is : IsCase needs arch w m d case
  on : case.on_path ≡ true
  reached : case.reached ≡ true
  unread : case.reads_clock ≡ false
  own : plain_doing d y ≡ doing_with arch.image d case.issued case.a case.held
  fits : case.known.above.mask < 2 ^ 32

-- a latch writes the value v of its operands and goes on
abbrev DoesWrite : ArchState → ResultLatch → Case → ℕ → DecodedLatch → Type 0
DoesWrite arch w case v other = plain_doing other v ≡ doing_after arch.image w other case.own.below.write case.issued

value_exactly : (needs : Needs) (arch : ArchState) (w : ResultLatch) (m : ExecutedLatch) (d : DecodedLatch) (case : Case) (y : ℕ) (input : Input) (i v : ℕ)
    → IsValue needs arch w m d case y → i < 32
    → DoesWrite arch w case v (decoded.flipped d (first_bit input + i))
    → SameWhere 32 case.known.above.mask v case.own.above.write.value
    ↔ IsDecodedMasked needs arch (record { w = w; m = m; d = d }) case.oldest.value case.npc case.issued (first_bit input + i)
unfolding like_of
value_exactly needs arch w m d case y input i v k l e =
    let other = decoded.flipped d (first_bit input + i) in
    let keeps = input_keeps d input i l in
    let inside = input_inside input i l in
    let r = nat_eq (bit_and case.known.above.mask (bit_xor v case.own.above.write.value)) 0 in
    let same = same_needed 32 case.known.above.mask v case.own.above.write.value k.fits in
    let masked =
    input_exactly needs arch w m d other case (first_bit input + i) r k.is k.on k.reached k.unread inside.0 inside.1 refl keeps.0
    (plain_alike needs arch case other _ _ v y r
    (like_of needs arch w m d other case k.is k.reached keeps.0 keeps.1 keeps.2) k.is.need k.own e same) in
    (λ s. masked.0 (same.1 s), λ s. same.0 (masked.1 s))

pub alu_first_bits : (needs : Needs) (arch : ArchState) (w : ResultLatch) (m : ExecutedLatch) (d : DecodedLatch) (case : Case) (kind : AluKind) (mask : ℕ)
    → IsCase needs arch w m d case → case.on_path ≡ true → case.reached ≡ true → case.reads_clock ≡ false → case.known.above.mask < 2 ^ 32
    → operation_of d.op ≡ Alu kind → is_forwarded case.own.below.write w d.rs1 ≡ false
    → IsMaskBelow 32 (λ i. SameWhere 32 case.known.above.mask (alu kind (flip case.a i) case.held) case.own.above.write.value) mask
    → IsMaskBelow 32 (λ i. IsDecodedMasked needs arch (record { w = w; m = m; d = d }) case.oldest.value case.npc case.issued (52 + i)) mask
alu_first_bits needs arch w m d case kind mask is on reached unread fits o held h =
    let below = case.own.below.write in
    let a : case.a ≡ d.a = is.a ∙ held_on below w d.rs1 d.a held in
    as_mask _ _ mask
    (λ i l.
    value_exactly needs arch w m d case (alu kind case.a case.held) A i (alu kind (flip case.a i) case.held)
    (record { is = is; on = on; reached = reached; unread = unread; own = alu_doing arch.image d case.issued case.a case.held kind o; fits = fits }) l
    (subst (DoesWrite arch w case (alu kind (flip case.a i) case.held)) (a_flipped d i l)
    (ap (λ (v : ℕ). plain_doing d (alu kind v case.held)) (ap (λ (v : ℕ). flip v i) a ∙ sym (held_on below w d.rs1 (flip d.a i) held))
    ∙ ap (λ (v : ℕ). plain_doing d (alu kind (operand_after below w d.rs1 (flip d.a i)) v)) is.held
    ∙ alu_doing arch.image (record d { a = flip d.a i }) case.issued _ _ kind o)))
    h

pub alu_second_bits : (needs : Needs) (arch : ArchState) (w : ResultLatch) (m : ExecutedLatch) (d : DecodedLatch) (case : Case) (kind : AluKind) (mask : ℕ)
    → IsCase needs arch w m d case → case.on_path ≡ true → case.reached ≡ true → case.reads_clock ≡ false → case.known.above.mask < 2 ^ 32
    → operation_of d.op ≡ Alu kind → is_forwarded case.own.below.write w d.rs2 ≡ false
    → IsMaskBelow 32 (λ i. SameWhere 32 case.known.above.mask (alu kind case.a (flip case.held i)) case.own.above.write.value) mask
    → IsMaskBelow 32 (λ i. IsDecodedMasked needs arch (record { w = w; m = m; d = d }) case.oldest.value case.npc case.issued (84 + i)) mask
alu_second_bits needs arch w m d case kind mask is on reached unread fits o held h =
    let below = case.own.below.write in
    let b : case.held ≡ d.b = is.held ∙ held_on below w d.rs2 d.b held in
    as_mask _ _ mask
    (λ i l.
    value_exactly needs arch w m d case (alu kind case.a case.held) B i (alu kind case.a (flip case.held i))
    (record { is = is; on = on; reached = reached; unread = unread; own = alu_doing arch.image d case.issued case.a case.held kind o; fits = fits }) l
    (subst (DoesWrite arch w case (alu kind case.a (flip case.held i))) (b_flipped d i l)
    (ap (λ (v : ℕ). plain_doing d (alu kind case.a v)) (ap (λ (v : ℕ). flip v i) b ∙ sym (held_on below w d.rs2 (flip d.b i) held))
    ∙ ap (λ (v : ℕ). plain_doing d (alu kind v (operand_after below w d.rs2 (flip d.b i)))) is.a
    ∙ alu_doing arch.image (record d { b = flip d.b i }) case.issued _ _ kind o)))
    h

pub immediate_first_bits : (needs : Needs) (arch : ArchState) (w : ResultLatch) (m : ExecutedLatch) (d : DecodedLatch) (case : Case) (kind : AluKind) (mask : ℕ)
    → IsCase needs arch w m d case → case.on_path ≡ true → case.reached ≡ true → case.reads_clock ≡ false → case.known.above.mask < 2 ^ 32
    → operation_of d.op ≡ AluImmediate kind → is_forwarded case.own.below.write w d.rs1 ≡ false
    → IsMaskBelow 32 (λ i. SameWhere 32 case.known.above.mask (alu kind (flip case.a i) d.imm) case.own.above.write.value) mask
    → IsMaskBelow 32 (λ i. IsDecodedMasked needs arch (record { w = w; m = m; d = d }) case.oldest.value case.npc case.issued (52 + i)) mask
immediate_first_bits needs arch w m d case kind mask is on reached unread fits o held h =
    let below = case.own.below.write in
    let a : case.a ≡ d.a = is.a ∙ held_on below w d.rs1 d.a held in
    as_mask _ _ mask
    (λ i l.
    value_exactly needs arch w m d case (alu kind case.a d.imm) A i (alu kind (flip case.a i) d.imm)
    (record { is = is; on = on; reached = reached; unread = unread; own = immediate_doing arch.image d case.issued case.a case.held kind o; fits = fits }) l
    (subst (DoesWrite arch w case (alu kind (flip case.a i) d.imm)) (a_flipped d i l)
    (ap (λ (v : ℕ). plain_doing d (alu kind v d.imm)) (ap (λ (v : ℕ). flip v i) a ∙ sym (held_on below w d.rs1 (flip d.a i) held))
    ∙ immediate_doing arch.image (record d { a = flip d.a i }) case.issued _ _ kind o)))
    h

pub immediate_second_bits : (needs : Needs) (arch : ArchState) (w : ResultLatch) (m : ExecutedLatch) (d : DecodedLatch) (case : Case) (kind : AluKind) (mask : ℕ)
    → IsCase needs arch w m d case → case.on_path ≡ true → case.reached ≡ true → case.reads_clock ≡ false → case.known.above.mask < 2 ^ 32
    → operation_of d.op ≡ AluImmediate kind
    → IsMaskBelow 32 (λ i. SameWhere 32 case.known.above.mask (alu kind case.a (flip d.imm i)) case.own.above.write.value) mask
    → IsMaskBelow 32 (λ i. IsDecodedMasked needs arch (record { w = w; m = m; d = d }) case.oldest.value case.npc case.issued (116 + i)) mask
immediate_second_bits needs arch w m d case kind mask is on reached unread fits o h =
    let below = case.own.below.write in
    as_mask _ _ mask
    (λ i l.
    value_exactly needs arch w m d case (alu kind case.a d.imm) Immediate i (alu kind case.a (flip d.imm i))
    (record { is = is; on = on; reached = reached; unread = unread; own = immediate_doing arch.image d case.issued case.a case.held kind o; fits = fits }) l
    (subst (DoesWrite arch w case (alu kind case.a (flip d.imm i))) (immediate_flipped d i l)
    (ap (λ (v : ℕ). plain_doing d (alu kind v (flip d.imm i))) is.a
    ∙ immediate_doing arch.image (record d { imm = flip d.imm i }) case.issued _ _ kind o)))
    h
