-- The word of an operation, form by form: it decodes to the operation.
use Rattle.std.proofs.Common.{◌≡◌, ℕ, ◌+◌, ◌*◌, ◌/◌, ◌%◌, ◌^◌, ◌<◌, ◌&&◌, Bool, true, false, arith, ap, sym, ◌∙◌, refl}
use Rattle.std.proofs.lemmas.Bool.{ltb-true, eqb-true}
use Rattle.rv_table.proofs.CodesOfWords.{code_of-by}
use Rattle.rv_table.proofs.Fields.{HasFields, fields_of, extended_12, extended_13, extended_21}
use Rattle.rv_table.proofs.WordTable.{decoded}
use Rattle.rv_table.specs.Codes.{code_by, code_of, field_bits}
use Rattle.rv_table.specs.Operations.{form_of}
use Rattle.rv_table.specs.Words.{decode, op_of_form, funct3_of, funct7_of, sign_extended, immediate_b, immediate_i, immediate_j, immediate_s, immediate_u}
use Rattle.rv_table.specs.WellFormed.{fits, is_signed}
use Rattle.rv_table.specs.declared.form.Form.{Form}
use Rattle.rv_table.specs.declared.form.Form.TheVariants.{U, J, I, B, S, Shift, R, Call, Counter, NoFields}
use Rattle.rv_table.specs.declared.op.Op.{Op}

-- a word that is in range and decodes to the operation
pub record Encodes (w : ℕ) (op : Op) : Type 0 where
  pub below : w < 2 ^ 32
  pub decodes : decode w ≡ op

abbrev made : ℕ → ℕ → ℕ → ℕ → ℕ → Op
made c d s t i = record { code = c; rd = d; rs1 = s; rs2 = t; imm = i }

pub same_op : (op : Op) (c d s t i : ℕ) → c ≡ op.code → d ≡ op.rd → s ≡ op.rs1 → t ≡ op.rs2 → i ≡ op.imm → record { code = c; rd = d; rs1 = s; rs2 = t; imm = i } ≡ op
same_op op c d s t i a b e f g =
    ap (λ x. made x d s t i) a ∙ ap (λ x. made op.code x s t i) b ∙ ap (λ x. made op.code op.rd x t i) e
    ∙ ap (λ x. made op.code op.rd op.rs1 x i) f ∙ ap (λ x. made op.code op.rd op.rs1 op.rs2 x) g

decodes_by : (w code : ℕ) (form : Form) (op : Op) → code_of w ≡ code → form_of code ≡ form → op_of_form form code w ≡ op → decode w ≡ op
decodes_by w code form op a b e = sym (decoded w) ∙ ap (λ c. op_of_form (form_of c) c w) a ∙ ap (λ f. op_of_form f code w) b ∙ e

-- the code, by the fields that its row fixes
code_3 : (w o f code : ℕ) → w % 2 ^ 7 ≡ o → w / 2 ^ 12 % 2 ^ 3 ≡ f → ((g v : ℕ) → code_by o f g v ≡ code) → code_of w ≡ code
code_3 w o f code a b law = code_of-by w o a ∙ ap (λ x. code_by o x (funct7_of w) w) b ∙ law (funct7_of w) w

code_7 : (w o f g code : ℕ) → w % 2 ^ 7 ≡ o → w / 2 ^ 12 % 2 ^ 3 ≡ f → w / 2 ^ 25 ≡ g → ((v : ℕ) → code_by o f g v ≡ code) → code_of w ≡ code
code_7 w o f g code a b c law = code_of-by w o a ∙ ap (λ x. code_by o x (funct7_of w) w) b ∙ ap (λ x. code_by o f x w) c ∙ law w

-- the parts of a test
four : (a b c d : Bool) → (a && b && c && d) ≡ true → (a ≡ true) × (b ≡ true) × (c ≡ true) × (d ≡ true)
four true true true true h = (refl, refl, refl, refl)
four true true true false h = absurd cc
four true true false d h = absurd cc
four true false c d h = absurd cc
four false b c d h = absurd cc

five : (a b c d e : Bool) → (a && b && c && d && e) ≡ true → (a ≡ true) × (b ≡ true) × (c ≡ true) × (d ≡ true) × (e ≡ true)
five true true true true true h = (refl, refl, refl, refl, refl)
five true true true true false h = absurd cc
five true true true false e h = absurd cc
five true true false d e h = absurd cc
five true false c d e h = absurd cc
five false b c d e h = absurd cc

pub encoded_u : (op : Op) (o : ℕ) → o < 2 ^ 7 → ((f g v : ℕ) → code_by o f g v ≡ op.code) → form_of op.code ≡ U → op.imm < 2 ^ 32 → fits U op ≡ true → Encodes (o + field_bits U op) op
unfolding fits field_bits
encoded_u op o ho law form him h =
    let p = four _ _ _ _ h in
    let rd : op.rd < 32 = ltb-true _ _ p.0 in
    let rs1 : op.rs1 ≡ 0 = eqb-true _ _ p.1 in
    let rs2 : op.rs2 ≡ 0 = eqb-true _ _ p.2 in
    let low : op.imm % 2 ^ 12 ≡ 0 = eqb-true _ _ p.3 in
    let w : ℕ = o + field_bits U op in
    let at : HasFields w o op.rd (op.imm / 2 ^ 12 % 2 ^ 3) (op.imm / 2 ^ 15 % 2 ^ 5) (op.imm / 2 ^ 20 % 2 ^ 5) (op.imm / 2 ^ 25) =
    fields_of _ _ _ _ _ _ _ (record { opcode = ho; rd = rd; funct3 = omega arith; rs1 = omega arith; rs2 = omega arith; funct7 = omega arith }) (omega arith) in
    let imm : immediate_u w ≡ op.imm = omega arith in
    record {
      below = at.below;
      decodes = decodes_by w op.code U op (code_of-by w o at.opcode ∙ law (funct3_of w) (funct7_of w) w) form (same_op op _ _ _ _ _ refl at.rd (sym rs1) (sym rs2) imm);
    }

pub encoded_j : (op : Op) (o : ℕ) → o < 2 ^ 7 → ((f g v : ℕ) → code_by o f g v ≡ op.code) → form_of op.code ≡ J → op.imm < 2 ^ 32 → fits J op ≡ true → Encodes (o + field_bits J op) op
unfolding fits field_bits
encoded_j op o ho law form him h =
    let p = five _ _ _ _ _ h in
    let rd : op.rd < 32 = ltb-true _ _ p.0 in
    let rs1 : op.rs1 ≡ 0 = eqb-true _ _ p.1 in
    let rs2 : op.rs2 ≡ 0 = eqb-true _ _ p.2 in
    let even : op.imm % 2 ≡ 0 = eqb-true _ _ p.3 in
    let signed : is_signed 21 op.imm ≡ true = p.4 in
    let w : ℕ = o + field_bits J op in
    let at : HasFields w o (op.rd) (op.imm / 2 ^ 12 % 2 ^ 3) (op.imm / 2 ^ 15 % 2 ^ 5) (op.imm / 2 ^ 11 % 2 + 2 * (op.imm / 2 % 2 ^ 4)) (op.imm / 2 ^ 5 % 2 ^ 6 + 2 ^ 6 * (op.imm / 2 ^ 20 % 2)) =
    fields_of _ _ _ _ _ _ _ (record { opcode = ho; rd = rd; funct3 = omega arith; rs1 = omega arith; rs2 = omega arith; funct7 = omega arith }) (omega arith) in
    let low : w / 2 ^ 31 * 2 ^ 20 + w / 2 ^ 12 % 2 ^ 8 * 2 ^ 12 + w / 2 ^ 20 % 2 * 2 ^ 11 + w / 2 ^ 21 % 2 ^ 10 * 2 ≡ op.imm % 2 ^ 21 = omega arith in
    let imm : immediate_j w ≡ op.imm = ap (sign_extended 21) low ∙ extended_21 op.imm him signed in
    record {
      below = at.below;
      decodes = decodes_by w op.code J op (code_of-by w o at.opcode ∙ law (funct3_of w) (funct7_of w) w) form (same_op op _ _ _ _ _ refl (at.rd) (sym rs1) (sym rs2) imm);
    }

pub encoded_i : (op : Op) (o f : ℕ) → o < 2 ^ 7 → f < 2 ^ 3 → ((g v : ℕ) → code_by o f g v ≡ op.code) → form_of op.code ≡ I → op.imm < 2 ^ 32 → fits I op ≡ true → Encodes (o + f * 2 ^ 12 + field_bits I op) op
unfolding fits field_bits
encoded_i op o f ho hf law form him h =
    let p = four _ _ _ _ h in
    let rd : op.rd < 32 = ltb-true _ _ p.0 in
    let rs1 : op.rs1 < 32 = ltb-true _ _ p.1 in
    let rs2 : op.rs2 ≡ 0 = eqb-true _ _ p.2 in
    let signed : is_signed 12 op.imm ≡ true = p.3 in
    let w : ℕ = o + f * 2 ^ 12 + field_bits I op in
    let at : HasFields w o (op.rd) (f) (op.rs1) (op.imm % 2 ^ 5) (op.imm / 2 ^ 5 % 2 ^ 7) =
    fields_of _ _ _ _ _ _ _ (record { opcode = ho; rd = rd; funct3 = hf; rs1 = rs1; rs2 = omega arith; funct7 = omega arith }) (omega arith) in
    let low : w / 2 ^ 20 ≡ op.imm % 2 ^ 12 = omega arith in
    let imm : immediate_i w ≡ op.imm = ap (sign_extended 12) low ∙ extended_12 op.imm him signed in
    record {
      below = at.below;
      decodes = decodes_by w op.code I op (code_3 w o f op.code at.opcode at.funct3 law) form (same_op op _ _ _ _ _ refl (at.rd) (at.rs1) (sym rs2) imm);
    }

pub encoded_b : (op : Op) (o f : ℕ) → o < 2 ^ 7 → f < 2 ^ 3 → ((g v : ℕ) → code_by o f g v ≡ op.code) → form_of op.code ≡ B → op.imm < 2 ^ 32 → fits B op ≡ true → Encodes (o + f * 2 ^ 12 + field_bits B op) op
unfolding fits field_bits
encoded_b op o f ho hf law form him h =
    let p = five _ _ _ _ _ h in
    let rd : op.rd ≡ 0 = eqb-true _ _ p.0 in
    let rs1 : op.rs1 < 32 = ltb-true _ _ p.1 in
    let rs2 : op.rs2 < 32 = ltb-true _ _ p.2 in
    let even : op.imm % 2 ≡ 0 = eqb-true _ _ p.3 in
    let signed : is_signed 13 op.imm ≡ true = p.4 in
    let w : ℕ = o + f * 2 ^ 12 + field_bits B op in
    let at : HasFields w o (op.imm / 2 ^ 11 % 2 + 2 * (op.imm / 2 % 2 ^ 4)) (f) (op.rs1) (op.rs2) (op.imm / 2 ^ 5 % 2 ^ 6 + 2 ^ 6 * (op.imm / 2 ^ 12 % 2)) =
    fields_of _ _ _ _ _ _ _ (record { opcode = ho; rd = omega arith; funct3 = hf; rs1 = rs1; rs2 = rs2; funct7 = omega arith }) (omega arith) in
    let low : w / 2 ^ 31 * 2 ^ 12 + w / 2 ^ 7 % 2 * 2 ^ 11 + w / 2 ^ 25 % 2 ^ 6 * 2 ^ 5 + w / 2 ^ 8 % 2 ^ 4 * 2 ≡ op.imm % 2 ^ 13 = omega arith in
    let imm : immediate_b w ≡ op.imm = ap (sign_extended 13) low ∙ extended_13 op.imm him signed in
    record {
      below = at.below;
      decodes = decodes_by w op.code B op (code_3 w o f op.code at.opcode at.funct3 law) form (same_op op _ _ _ _ _ refl (sym rd) (at.rs1) (at.rs2) imm);
    }

pub encoded_s : (op : Op) (o f : ℕ) → o < 2 ^ 7 → f < 2 ^ 3 → ((g v : ℕ) → code_by o f g v ≡ op.code) → form_of op.code ≡ S → op.imm < 2 ^ 32 → fits S op ≡ true → Encodes (o + f * 2 ^ 12 + field_bits S op) op
unfolding fits field_bits
encoded_s op o f ho hf law form him h =
    let p = four _ _ _ _ h in
    let rd : op.rd ≡ 0 = eqb-true _ _ p.0 in
    let rs1 : op.rs1 < 32 = ltb-true _ _ p.1 in
    let rs2 : op.rs2 < 32 = ltb-true _ _ p.2 in
    let signed : is_signed 12 op.imm ≡ true = p.3 in
    let w : ℕ = o + f * 2 ^ 12 + field_bits S op in
    let at : HasFields w o (op.imm % 2 ^ 5) (f) (op.rs1) (op.rs2) (op.imm / 2 ^ 5 % 2 ^ 7) =
    fields_of _ _ _ _ _ _ _ (record { opcode = ho; rd = omega arith; funct3 = hf; rs1 = rs1; rs2 = rs2; funct7 = omega arith }) (omega arith) in
    let low : w / 2 ^ 25 * 2 ^ 5 + w / 2 ^ 7 % 2 ^ 5 ≡ op.imm % 2 ^ 12 = omega arith in
    let imm : immediate_s w ≡ op.imm = ap (sign_extended 12) low ∙ extended_12 op.imm him signed in
    record {
      below = at.below;
      decodes = decodes_by w op.code S op (code_3 w o f op.code at.opcode at.funct3 law) form (same_op op _ _ _ _ _ refl (sym rd) (at.rs1) (at.rs2) imm);
    }

pub encoded_shift : (op : Op) (o f g : ℕ) → o < 2 ^ 7 → f < 2 ^ 3 → g < 2 ^ 7 → ((v : ℕ) → code_by o f g v ≡ op.code) → form_of op.code ≡ Shift → op.imm < 2 ^ 32 → fits Shift op ≡ true → Encodes (o + f * 2 ^ 12 + g * 2 ^ 25 + field_bits Shift op) op
unfolding fits field_bits
encoded_shift op o f g ho hf hg law form him h =
    let p = four _ _ _ _ h in
    let rd : op.rd < 32 = ltb-true _ _ p.0 in
    let rs1 : op.rs1 < 32 = ltb-true _ _ p.1 in
    let rs2 : op.rs2 ≡ 0 = eqb-true _ _ p.2 in
    let amount : op.imm < 32 = ltb-true _ _ p.3 in
    let w : ℕ = o + f * 2 ^ 12 + g * 2 ^ 25 + field_bits Shift op in
    let at : HasFields w o (op.rd) (f) (op.rs1) (op.imm) (g) =
    fields_of _ _ _ _ _ _ _ (record { opcode = ho; rd = rd; funct3 = hf; rs1 = rs1; rs2 = amount; funct7 = hg }) (omega arith) in
    let imm = at.rs2 in
    record {
      below = at.below;
      decodes = decodes_by w op.code Shift op (code_7 w o f g op.code at.opcode at.funct3 at.funct7 law) form (same_op op _ _ _ _ _ refl (at.rd) (at.rs1) (sym rs2) imm);
    }

pub encoded_r : (op : Op) (o f g : ℕ) → o < 2 ^ 7 → f < 2 ^ 3 → g < 2 ^ 7 → ((v : ℕ) → code_by o f g v ≡ op.code) → form_of op.code ≡ R → op.imm < 2 ^ 32 → fits R op ≡ true → Encodes (o + f * 2 ^ 12 + g * 2 ^ 25 + field_bits R op) op
unfolding fits field_bits
encoded_r op o f g ho hf hg law form him h =
    let p = four _ _ _ _ h in
    let rd : op.rd < 32 = ltb-true _ _ p.0 in
    let rs1 : op.rs1 < 32 = ltb-true _ _ p.1 in
    let rs2 : op.rs2 < 32 = ltb-true _ _ p.2 in
    let none : op.imm ≡ 0 = eqb-true _ _ p.3 in
    let w : ℕ = o + f * 2 ^ 12 + g * 2 ^ 25 + field_bits R op in
    let at : HasFields w o (op.rd) (f) (op.rs1) (op.rs2) (g) =
    fields_of _ _ _ _ _ _ _ (record { opcode = ho; rd = rd; funct3 = hf; rs1 = rs1; rs2 = rs2; funct7 = hg }) (omega arith) in
    record {
      below = at.below;
      decodes = decodes_by w op.code R op (code_7 w o f g op.code at.opcode at.funct3 at.funct7 law) form (same_op op _ _ _ _ _ refl (at.rd) (at.rs1) (at.rs2) (sym none));
    }

pub encoded_call : (op : Op) (word : ℕ) → word < 2 ^ 32 → code_of word ≡ op.code → form_of op.code ≡ Call → fits Call op ≡ true → Encodes (word + field_bits Call op) op
unfolding fits field_bits
encoded_call op word hw law form h =
    let w : ℕ = word + field_bits Call op in
    let same : w ≡ word = omega arith in
    let below : w < 2 ^ 32 = omega arith in
    let p = four _ _ _ _ h in
    record {
      below = below;
      decodes = decodes_by w op.code Call op (ap code_of same ∙ law) form (same_op op _ _ _ _ _ refl (sym (eqb-true _ _ p.0)) (sym (eqb-true _ _ p.1)) (sym (eqb-true _ _ p.2)) (sym (eqb-true _ _ p.3)));
    }

pub encoded_bare : (op : Op) (word : ℕ) → word < 2 ^ 32 → code_of word ≡ op.code → form_of op.code ≡ NoFields → fits NoFields op ≡ true → Encodes (word + field_bits NoFields op) op
unfolding fits field_bits
encoded_bare op word hw law form h =
    let w : ℕ = word + field_bits NoFields op in
    let same : w ≡ word = omega arith in
    let below : w < 2 ^ 32 = omega arith in
    let p = four _ _ _ _ h in
    record {
      below = below;
      decodes = decodes_by w op.code NoFields op (ap code_of same ∙ law) form (same_op op _ _ _ _ _ refl (sym (eqb-true _ _ p.0)) (sym (eqb-true _ _ p.1)) (sym (eqb-true _ _ p.2)) (sym (eqb-true _ _ p.3)));
    }

pub encoded_counter : (op : Op) (word : ℕ) → word < 2 ^ 32 → word / 2 ^ 7 % 2 ^ 5 ≡ 0 → ((d : ℕ) → d < 2 ^ 5 → code_of (word + d * 2 ^ 7) ≡ op.code) → form_of op.code ≡ Counter → fits Counter op ≡ true → Encodes (word + field_bits Counter op) op
unfolding fits field_bits
encoded_counter op word hw free law form h =
    let p = four _ _ _ _ h in
    let rd : op.rd < 32 = ltb-true _ _ p.0 in
    let w : ℕ = word + field_bits Counter op in
    let d : w / 2 ^ 7 % 2 ^ 5 ≡ op.rd = omega arith in
    record {
      below = omega arith;
      decodes = decodes_by w op.code Counter op (law op.rd rd) form (same_op op _ _ _ _ _ refl d (sym (eqb-true _ _ p.1)) (sym (eqb-true _ _ p.2)) (sym (eqb-true _ _ p.3)));
    }
