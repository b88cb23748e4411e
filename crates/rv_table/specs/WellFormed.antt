-- Which operations have a word: the fields fit the row of the code.
use Rattle.std.specs.Prelude.{ℕ, ◌-◌, ◌%◌, ◌^◌, ◌==◌, ◌&&◌, ◌||◌, Bool, nat_lt, nat_le}
use Rattle.rv_table.specs.declared.form.Form.{Form}
use Rattle.rv_table.specs.declared.form.Form.TheVariants.{U, J, I, B, S, Shift, R, Call, Counter, NoFields}
use Rattle.rv_table.specs.declared.op.Op.{Op}
use Rattle.rv_table.specs.declared.op.TheConstants.{ILLEGAL_CODE}
use Rattle.rv_table.specs.Operations.{form_of, has_row}

abbrev pub is_register : ℕ → Bool
is_register r = nat_lt r 32

-- a signed number of this many bits, as 32 bits
abbrev pub is_signed : ℕ → ℕ → Bool
is_signed bits v = nat_lt v (2 ^ (bits - 1)) || nat_le (2 ^ 32 - 2 ^ (bits - 1)) v

-- registers below 32, an immediate that the form can hold, 0 in each field that the form doesn't have
unfoldable pub fits : Form → Op → Bool
fits U op = is_register op.rd && op.rs1 == 0 && op.rs2 == 0 && op.imm % 2 ^ 12 == 0
fits J op = is_register op.rd && op.rs1 == 0 && op.rs2 == 0 && op.imm % 2 == 0 && is_signed 21 op.imm
fits I op = is_register op.rd && is_register op.rs1 && op.rs2 == 0 && is_signed 12 op.imm
fits B op = op.rd == 0 && is_register op.rs1 && is_register op.rs2 && op.imm % 2 == 0 && is_signed 13 op.imm
fits S op = op.rd == 0 && is_register op.rs1 && is_register op.rs2 && is_signed 12 op.imm
fits Shift op = is_register op.rd && is_register op.rs1 && op.rs2 == 0 && nat_lt op.imm 32
fits R op = is_register op.rd && is_register op.rs1 && is_register op.rs2 && op.imm == 0
fits Call op = op.rd == 0 && op.rs1 == 17 && op.rs2 == 10 && op.imm == 0
fits Counter op = is_register op.rd && op.rs1 == 0 && op.rs2 == 0 && op.imm == 0
fits NoFields op = op.rd == 0 && op.rs1 == 0 && op.rs2 == 0 && op.imm == 0

-- ILLEGAL with all fields 0, or an operation that has a word and fits the row of its code
unfoldable pub well_formed : Op → Bool
well_formed op = (op.code == ILLEGAL_CODE || has_row op.code) && fits (form_of op.code) op
