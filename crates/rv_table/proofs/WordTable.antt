-- Decoding in two steps, first the code and then the fields of its form, gives the row of the word.
use Rattle.std.proofs.Common.{◌≡◌, ℕ, ap, refl, ◌<◌, subst, arith}
use Rattle.std.proofs.lemmas.Bool.Decides.{nat_tests}
use Rattle.std.specs.Prelude.{nat_lt, true}
use Rattle.rv_table.proofs.RowLookups.{each_row, row_of-word}
use Rattle.rv_table.specs.Codes.{code_of}
use Rattle.rv_table.specs.Operations.{form_of}
use Rattle.rv_table.specs.Rows.{row_of}
use Rattle.rv_table.specs.Words.{decode, op_of_form, illegal, row_of_word}
use Rattle.rv_table.specs.declared.op.Op.{Op}
use Rattle.rv_table.specs.declared.form.Form.{Form}

pub decoded : (w : ℕ) → op_of_form (form_of (code_of w)) (code_of w) w ≡ decode w
unfolding code_of decode form_of
decoded w = ap (λ r. op_of_form r.form (row_of_word w).code w) (row_of-word w)

-- ---- the widths of the fields

code_of-below : (w : ℕ) → code_of w < 64
unfolding code_of
code_of-below w =
    let test : nat_lt (row_of (row_of_word w).code).code 64 ≡ true = each_row (λ r. nat_lt r.code 64) refl (row_of_word w).code in
    let same : (row_of (row_of_word w).code).code ≡ (row_of_word w).code = ap (λ r. r.code) (row_of-word w) in
    grind (arith, nat_tests)

pub form_code : (form : Form) (code w : ℕ) → (op_of_form form code w).code ≡ code
form_code form code w = grind arith

form_rd : (form : Form) (code w : ℕ) → (op_of_form form code w).rd < 32
form_rd form code w = grind arith

form_rs1 : (form : Form) (code w : ℕ) → (op_of_form form code w).rs1 < 32
form_rs1 form code w = grind arith

form_rs2 : (form : Form) (code w : ℕ) → (op_of_form form code w).rs2 < 32
form_rs2 form code w = grind arith

pub decode-code : (w : ℕ) → (decode w).code < 64
decode-code w =
    let e : (op_of_form (form_of (code_of w)) (code_of w) w).code ≡ (decode w).code = ap (λ op. op.code) (decoded w) in
    omega (arith, e, form_code (form_of (code_of w)) (code_of w) w, code_of-below w)

pub decode-rd : (w : ℕ) → (decode w).rd < 32
decode-rd w = let P : Op → Type 0 = λ op. op.rd < 32 in subst P (decoded w) (form_rd (form_of (code_of w)) (code_of w) w)

pub decode-rs1 : (w : ℕ) → (decode w).rs1 < 32
decode-rs1 w = let P : Op → Type 0 = λ op. op.rs1 < 32 in subst P (decoded w) (form_rs1 (form_of (code_of w)) (code_of w) w)

pub decode-rs2 : (w : ℕ) → (decode w).rs2 < 32
decode-rs2 w = let P : Op → Type 0 = λ op. op.rs2 < 32 in subst P (decoded w) (form_rs2 (form_of (code_of w)) (code_of w) w)

pub decode-zero : decode 0 ≡ illegal
unfolding decode row_of_word
decode-zero = refl
