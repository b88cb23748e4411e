-- The word of an operation decodes to it: the bits that its row fixes give its code, and the others its fields.
use Rattle.std.proofs.Common.{◌≡◌, ℕ, ◌+◌, ◌<◌, ◌^◌, ◌==◌, ◌||◌, ◌&&◌, Bool, true, false, IsTrue, ap, sym, ◌∙◌, refl, lit<, subst, arith}
use Rattle.std.proofs.lemmas.Bool.{and_parts, eqb-true}
use Rattle.std.proofs.lemmas.Bool.Decides.{nat_tests}
use Rattle.rv_table.proofs.Forms.{Encodes, encoded_u, encoded_j, encoded_i, encoded_b, encoded_s, encoded_shift, encoded_r, encoded_call, encoded_bare, encoded_counter}
use Rattle.rv_table.proofs.Lawful.{RowLaw, row_lawful}
use Rattle.rv_table.specs.Codes.{code_of, field_bits, fixed_bits, word_of}
use Rattle.rv_table.specs.Operations.{form_of, has_row, of_registers}
use Rattle.rv_table.specs.Rows.{has_word, row_of}
use Rattle.rv_table.specs.Words.{decode, row_of_word}
use Rattle.rv_table.specs.WellFormed.{fits, well_formed}
use Rattle.rv_table.specs.declared.row.Pattern.{Pattern}
use Rattle.rv_table.specs.declared.row.Pattern.TheVariants.{NoWord, Opcode, Funct3, Funct7, Word, WordButRd}
use Rattle.rv_table.specs.declared.form.Form.{Form}
use Rattle.rv_table.specs.declared.form.Form.TheVariants.{U, J, I, B, S, Shift, R, Call, Counter, NoFields}
use Rattle.rv_table.specs.declared.op.Op.{Op}

-- a word of these bits, which are written in another way
as_bits : (op : Op) (m n : ℕ) (form : Form) → n ≡ m → Encodes (m + field_bits form op) op → Encodes (n + field_bits form op) op
as_bits op m n form e enc = subst (λ (x : ℕ). Encodes (x + field_bits form op) op) (sym e) enc

-- by the pattern and the form of its row
encoded_by : (fixed : Pattern) (form : Form) (op : Op) (bits : ℕ) → RowLaw op.code bits fixed form → has_word fixed ≡ true
    → form_of op.code ≡ form → fits form op ≡ true → op.imm < 2 ^ 32 → Encodes (bits + field_bits form op) op
encoded_by NoWord form op bits law has e h k = absurd cc
encoded_by (Opcode o) U op bits law has e h k = as_bits op o bits U law.0 (encoded_u op o law.1 law.2 e k h)
encoded_by (Opcode o) J op bits law has e h k = as_bits op o bits J law.0 (encoded_j op o law.1 law.2 e k h)
encoded_by (Funct3 o f) I op bits law has e h k = as_bits op _ bits I law.0 (encoded_i op o f law.1 law.2 law.3 e k h)
encoded_by (Funct3 o f) B op bits law has e h k = as_bits op _ bits B law.0 (encoded_b op o f law.1 law.2 law.3 e k h)
encoded_by (Funct3 o f) S op bits law has e h k = as_bits op _ bits S law.0 (encoded_s op o f law.1 law.2 law.3 e k h)
encoded_by (Funct3 o f) NoFields op bits law has e h k = encoded_bare op bits law.0 law.1 e h
encoded_by (Funct7 o f g) Shift op bits law has e h k = as_bits op _ bits Shift law.0 (encoded_shift op o f g law.1 law.2 law.3 law.4 e k h)
encoded_by (Funct7 o f g) R op bits law has e h k = as_bits op _ bits R law.0 (encoded_r op o f g law.1 law.2 law.3 law.4 e k h)
encoded_by (Word word) Call op bits law has e h k = encoded_call op bits law.0 law.1 e h
encoded_by (Word word) NoFields op bits law has e h k = encoded_bare op bits law.0 law.1 e h
encoded_by (WordButRd word) Counter op bits law has e h k = encoded_counter op bits law.0 law.1 law.2 e h
encoded_by _ _ op bits law has e h k = absurd law

-- ---- the word of an operation

encoded_row : (op : Op) → has_row op.code ≡ true → fits (form_of op.code) op ≡ true → op.imm < 2 ^ 32
    → Encodes (fixed_bits op.code + field_bits (form_of op.code) op) op
unfolding has_row
encoded_row op has h k = encoded_by (row_of op.code).fixed (form_of op.code) op (fixed_bits op.code) (row_lawful op.code) has refl h k

illegal_form : form_of 0 ≡ NoFields
unfolding form_of row_of
illegal_form = refl

illegal_code : code_of 0 ≡ 0
unfolding code_of row_of_word
illegal_code = refl

illegal_bits : fixed_bits 0 ≡ 0
unfolding fixed_bits row_of
illegal_bits = refl

encoded_illegal : (op : Op) → op.code ≡ 0 → fits (form_of op.code) op ≡ true → Encodes (fixed_bits op.code + field_bits (form_of op.code) op) op
encoded_illegal op e h =
    let form : form_of op.code ≡ NoFields = ap form_of e ∙ illegal_form in
    let bits : fixed_bits op.code ≡ 0 = ap fixed_bits e ∙ illegal_bits in
    let bare = encoded_bare op 0 (lit< tt) (illegal_code ∙ sym e) form (ap (λ f. fits f op) (sym form) ∙ h) in
    as_bits op 0 (fixed_bits op.code) (form_of op.code) bits (subst (λ (f : Form). Encodes (0 + field_bits f op) op) (sym form) bare)

encoded_op : (t : Bool) (op : Op) → (op.code == 0) ≡ t → (t || has_row op.code) ≡ true → fits (form_of op.code) op ≡ true → op.imm < 2 ^ 32
    → Encodes (fixed_bits op.code + field_bits (form_of op.code) op) op
encoded_op true op e has h k = encoded_illegal op (eqb-true _ _ e) h
encoded_op false op e has h k = encoded_row op has h k

pub fits_form : (op : Op) → well_formed op ≡ true → fits (form_of op.code) op ≡ true
unfolding well_formed
fits_form op h = (and_parts _ _ h).1

encoded : (op : Op) → well_formed op ≡ true → op.imm < 2 ^ 32 → Encodes (fixed_bits op.code + field_bits (form_of op.code) op) op
unfolding well_formed
encoded op h k = encoded_op (op.code == 0) op refl (and_parts _ _ h).0 (and_parts _ _ h).1 k

pub word_below : (op : Op) → well_formed op ≡ true → op.imm < 2 ^ 32 → fixed_bits op.code + field_bits (form_of op.code) op < 2 ^ 32
word_below op h k = (encoded op h k).below

pub decode-encoded : (op : Op) → well_formed op ≡ true → op.imm < 2 ^ 32 → decode (fixed_bits op.code + field_bits (form_of op.code) op) ≡ op
decode-encoded op h k = (encoded op h k).decodes

-- for other crates: an operation that has a word is well-formed where its fields fit
pub well_formed-row : (op : Op) → has_row op.code ≡ true → well_formed op ≡ fits (form_of op.code) op
unfolding well_formed
well_formed-row op h = go (op.code == 0) (has_row op.code) h
  where
    go : (t u : Bool) → u ≡ true → ((t || u) && fits (form_of op.code) op) ≡ fits (form_of op.code) op
    go true u e = refl
    go false true e = refl
    go false false e = absurd cc

-- and so an operation whose fields fit the form of its row
pub fit : (form : Form) (op : Op) → has_row op.code ≡ true → form_of op.code ≡ form → fits form op ≡ true → IsTrue (well_formed op)
fit form op row is h = well_formed-row op row ∙ ap (λ f. fits f op) is ∙ h

-- three registers fit the form that has just them
pub fits_r : (code rd rs1 rs2 : ℕ) → rd < 32 → rs1 < 32 → rs2 < 32 → fits R (of_registers code rd rs1 rs2) ≡ true
unfolding fits
fits_r code rd rs1 rs2 p q r = grind (arith, nat_tests)

pub word_of-below : (op : Op) → well_formed op ≡ true → op.imm < 2 ^ 32 → word_of op < 2 ^ 32
unfolding word_of
word_of-below op h k = word_below op h k

pub decode-word_of : (op : Op) → well_formed op ≡ true → op.imm < 2 ^ 32 → decode (word_of op) ≡ op
unfolding word_of
decode-word_of op h k = decode-encoded op h k

pub ruleset encoding = (fits_form, word_below, decode-encoded)
