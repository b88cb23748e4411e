-- From a word to its operation: the fields of a word, and the row of the word table whose fixed bits it has.
use Rattle.std.specs.Prelude.{ℕ, ◌+◌, ◌-◌, ◌*◌, ◌/◌, ◌%◌, ◌^◌, ◌==◌, ◌&&◌, Bool, false, List, [], ◌∷◌, nat_lt, if◌then◌else◌}
use Rattle.rv_table.specs.declared.form.Form.{Form}
use Rattle.rv_table.specs.declared.form.Form.TheVariants.{U, J, I, B, S, Shift, R, Call, Counter, NoFields}
use Rattle.rv_table.specs.declared.op.Op.{Op}
use Rattle.rv_table.specs.declared.op.TheConstants.{ILLEGAL_CODE, FETCH_FAULT_CODE}
use Rattle.rv_table.specs.declared.row.Pattern.{Pattern}
use Rattle.rv_table.specs.declared.row.Pattern.TheVariants.{NoWord, Opcode, Funct3, Funct7, Word, WordButRd}
use Rattle.rv_table.specs.Rows.{Row, illegal_row, rows}

-- the fields of a word
abbrev pub opcode_of : ℕ → ℕ
opcode_of w = w % 2 ^ 7

abbrev pub rd_of : ℕ → ℕ
rd_of w = w / 2 ^ 7 % 2 ^ 5

abbrev pub funct3_of : ℕ → ℕ
funct3_of w = w / 2 ^ 12 % 2 ^ 3

abbrev pub rs1_of : ℕ → ℕ
rs1_of w = w / 2 ^ 15 % 2 ^ 5

abbrev pub rs2_of : ℕ → ℕ
rs2_of w = w / 2 ^ 20 % 2 ^ 5

abbrev pub funct7_of : ℕ → ℕ
funct7_of w = w / 2 ^ 25

-- a number of this many bits, sign-extended to 32
abbrev pub sign_extended : ℕ → ℕ → ℕ
sign_extended bits v = if nat_lt v (2 ^ (bits - 1)) then v else v + (2 ^ 32 - 2 ^ bits)

-- The immediates of the formats.
abbrev pub immediate_u : ℕ → ℕ
immediate_u w = w / 2 ^ 12 * 2 ^ 12

abbrev pub immediate_i : ℕ → ℕ
immediate_i w = sign_extended 12 (w / 2 ^ 20)

abbrev pub immediate_s : ℕ → ℕ
immediate_s w = sign_extended 12 (w / 2 ^ 25 * 2 ^ 5 + w / 2 ^ 7 % 2 ^ 5)

-- bit 12 from w 31, 11 from w 7, 10 to 5 from w 30 to 25, 4 to 1 from w 11 to 8
abbrev pub immediate_b : ℕ → ℕ
immediate_b w = sign_extended 13 (w / 2 ^ 31 * 2 ^ 12 + w / 2 ^ 7 % 2 * 2 ^ 11 + w / 2 ^ 25 % 2 ^ 6 * 2 ^ 5 + w / 2 ^ 8 % 2 ^ 4 * 2)

-- bit 20 from w 31, 19 to 12 from w 19 to 12, 11 from w 20, 10 to 1 from w 30 to 21
abbrev pub immediate_j : ℕ → ℕ
immediate_j w = sign_extended 21 (w / 2 ^ 31 * 2 ^ 20 + w / 2 ^ 12 % 2 ^ 8 * 2 ^ 12 + w / 2 ^ 20 % 2 * 2 ^ 11 + w / 2 ^ 21 % 2 ^ 10 * 2)

-- whether a word has these fixed bits
abbrev pub matches : Pattern → ℕ → Bool
matches NoWord w = false
matches (Opcode opcode) w = opcode_of w == opcode
matches (Funct3 opcode funct3) w = opcode_of w == opcode && funct3_of w == funct3
matches (Funct7 opcode funct3 funct7) w = opcode_of w == opcode && (funct3_of w == funct3 && funct7_of w == funct7)
matches (Word word) w = w == word
matches (WordButRd word) w = w / 2 ^ 12 == word / 2 ^ 12 && w % 2 ^ 7 == word % 2 ^ 7

-- the operation of this code with the form's fields of a word; a field that the form doesn't have is 0
abbrev pub op_of_form : Form → ℕ → ℕ → Op
op_of_form U code w = record { code = code; rd = rd_of w; rs1 = 0; rs2 = 0; imm = immediate_u w }
op_of_form J code w = record { code = code; rd = rd_of w; rs1 = 0; rs2 = 0; imm = immediate_j w }
op_of_form I code w = record { code = code; rd = rd_of w; rs1 = rs1_of w; rs2 = 0; imm = immediate_i w }
op_of_form B code w = record { code = code; rd = 0; rs1 = rs1_of w; rs2 = rs2_of w; imm = immediate_b w }
op_of_form S code w = record { code = code; rd = 0; rs1 = rs1_of w; rs2 = rs2_of w; imm = immediate_s w }
op_of_form Shift code w = record { code = code; rd = rd_of w; rs1 = rs1_of w; rs2 = 0; imm = rs2_of w }
op_of_form R code w = record { code = code; rd = rd_of w; rs1 = rs1_of w; rs2 = rs2_of w; imm = 0 }
op_of_form Call code w = record { code = code; rd = 0; rs1 = 17; rs2 = 10; imm = 0 }
op_of_form Counter code w = record { code = code; rd = rd_of w; rs1 = 0; rs2 = 0; imm = 0 }
op_of_form NoFields code w = record { code = code; rd = 0; rs1 = 0; rs2 = 0; imm = 0 }

-- the row of a word: the one whose fixed bits it has, and ILLEGAL where there is none
abbrev pub row_matching : List Row → ℕ → Row
row_matching [] w = illegal_row
row_matching (r ∷ rs) w = if matches r.fixed w then r else row_matching rs w

unfoldable pub row_of_word : ℕ → Row
row_of_word w = row_matching rows w

-- the operation of a word: its row's code, with the fields of its form
unfoldable pub decode : ℕ → Op
decode w = op_of_form (row_of_word w).form (row_of_word w).code w

-- ILLEGAL with all fields 0, and what is fetched at an address whose word isn't executable
abbrev pub illegal : Op
illegal = record { code = ILLEGAL_CODE; rd = 0; rs1 = 0; rs2 = 0; imm = 0 }

abbrev pub fetch_fault : Op
fetch_fault = record { code = FETCH_FAULT_CODE; rd = 0; rs1 = 0; rs2 = 0; imm = 0 }
