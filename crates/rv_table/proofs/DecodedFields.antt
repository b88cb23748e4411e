-- The fields of a decoded operation are in range.
use Rattle.std.proofs.Common.{ℕ, ◌+◌, ◌-◌, ◌*◌, ◌/◌, ◌%◌, ◌^◌, ◌<◌, ◌≤◌, true, false, cond, ltb, arith, lit<}
use Rattle.rv_table.proofs.WordTable.{decode-rd, decode-rs1, decode-rs2}
use Rattle.rv_table.specs.Words.{decode, op_of_form, row_of_word, sign_extended}
use Rattle.rv_table.specs.declared.form.Form.{Form}
use Rattle.rv_table.specs.declared.form.Form.TheVariants.{U, J, I, B, S, Shift}
use Rattle.rv_table.specs.declared.op.Op.{Op}

pub record IsFields (op : Op) : Type 0 where
  pub rd : op.rd < 32
  pub rs1 : op.rs1 < 32
  pub rs2 : op.rs2 < 32
  pub imm : op.imm < 2 ^ 32

sign_below : (bits v : ℕ) → v < 2 ^ bits → 2 ^ bits ≤ 2 ^ 32 → sign_extended bits v < 2 ^ 32
sign_below bits v h l = elim (ltb v (2 ^ (bits - 1))) as (λ t. cond t v (v + (2 ^ 32 - 2 ^ bits)) < 2 ^ 32) [ true ↦ omega arith | false ↦ omega arith ]

form_imm : (form : Form) (code w : ℕ) → w < 2 ^ 32 → (op_of_form form code w).imm < 2 ^ 32
form_imm U code w h = omega arith
form_imm J code w h =
    sign_below 21 (w / 2 ^ 31 * 2 ^ 20 + w / 2 ^ 12 % 2 ^ 8 * 2 ^ 12 + w / 2 ^ 20 % 2 * 2 ^ 11 + w / 2 ^ 21 % 2 ^ 10 * 2) (omega arith) (omega arith)
form_imm I code w h = sign_below 12 (w / 2 ^ 20) (omega arith) (omega arith)
form_imm B code w h =
    sign_below 13 (w / 2 ^ 31 * 2 ^ 12 + w / 2 ^ 7 % 2 * 2 ^ 11 + w / 2 ^ 25 % 2 ^ 6 * 2 ^ 5 + w / 2 ^ 8 % 2 ^ 4 * 2) (omega arith) (omega arith)
form_imm S code w h = sign_below 12 (w / 2 ^ 25 * 2 ^ 5 + w / 2 ^ 7 % 2 ^ 5) (omega arith) (omega arith)
form_imm Shift code w h = omega arith
form_imm _ code w h = lit< tt

pub decode-imm : (w : ℕ) → w < 2 ^ 32 → (decode w).imm < 2 ^ 32
unfolding decode
decode-imm w h = form_imm (row_of_word w).form (row_of_word w).code w h

pub decode_fields : (w : ℕ) → w < 2 ^ 32 → IsFields (decode w)
decode_fields w h = record { rd = decode-rd w; rs1 = decode-rs1 w; rs2 = decode-rs2 w; imm = decode-imm w h }
