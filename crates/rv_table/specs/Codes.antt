-- The word table read in two steps, as the code does: first the code of a word, then the fields of the code's form.
use Rattle.std.specs.Prelude.{ℕ, ◌+◌, ◌*◌, ◌/◌, ◌%◌, ◌^◌, ◌==◌, ◌&&◌, Bool, false, List, [], ◌∷◌, if◌then◌else◌}
use Rattle.rv_table.specs.declared.form.Form.{Form}
use Rattle.rv_table.specs.declared.form.Form.TheVariants.{U, J, I, B, S, Shift, R, Call, Counter, NoFields}
use Rattle.rv_table.specs.declared.op.Op.{Op}
use Rattle.rv_table.specs.declared.operation.Operation.{Operation}
use Rattle.rv_table.specs.declared.operation.Operation.TheVariants.{Fence}
use Rattle.rv_table.specs.declared.row.Pattern.{Pattern}
use Rattle.rv_table.specs.declared.row.Pattern.TheVariants.{NoWord, Opcode, Funct3, Funct7, Word, WordButRd}
use Rattle.rv_table.specs.Operations.{form_of}
use Rattle.rv_table.specs.Rows.{Row, row_of, rows}
use Rattle.rv_table.specs.Words.{opcode_of, row_of_word}

-- the code of a word, 0 where it is in no row
unfoldable pub code_of : ℕ → ℕ
code_of w = (row_of_word w).code

-- the same by the fields of a word, for the cases of an opcode
abbrev pub matches_by : Pattern → ℕ → ℕ → ℕ → ℕ → Bool
matches_by NoWord opcode funct3 funct7 w = false
matches_by (Opcode o) opcode funct3 funct7 w = opcode == o
matches_by (Funct3 o f) opcode funct3 funct7 w = opcode == o && funct3 == f
matches_by (Funct7 o f g) opcode funct3 funct7 w = opcode == o && (funct3 == f && funct7 == g)
matches_by (Word word) opcode funct3 funct7 w = opcode == opcode_of word && w == word
matches_by (WordButRd word) opcode funct3 funct7 w = opcode == opcode_of word && w / 2 ^ 12 == word / 2 ^ 12

abbrev pub first_by : List Row → ℕ → ℕ → ℕ → ℕ → ℕ
first_by [] opcode funct3 funct7 w = 0
first_by (r ∷ rs) opcode funct3 funct7 w = if matches_by r.fixed opcode funct3 funct7 w then r.code else first_by rs opcode funct3 funct7 w

unfoldable pub code_by : ℕ → ℕ → ℕ → ℕ → ℕ
code_by opcode funct3 funct7 w = first_by rows opcode funct3 funct7 w

-- From an operation to its word: the bits that its row fixes, 0 in the others.
abbrev pub fixed_word : Pattern → ℕ
fixed_word NoWord = 0
fixed_word (Opcode o) = o
fixed_word (Funct3 o f) = o + f * 2 ^ 12
fixed_word (Funct7 o f g) = o + f * 2 ^ 12 + g * 2 ^ 25
fixed_word (Word word) = word
fixed_word (WordButRd word) = word

-- FENCE, whose other bits are free, is encoded with all of its sets
abbrev pub with_sets : Operation → ℕ → ℕ
with_sets Fence bits = bits + 0x0FF00000
with_sets _ bits = bits

unfoldable pub fixed_bits : ℕ → ℕ
fixed_bits code = with_sets (row_of code).operation (fixed_word (row_of code).fixed)

-- and the bits of the fields
abbrev pub offset_bits_b : ℕ → ℕ
offset_bits_b imm = imm / 2 ^ 11 % 2 * 2 ^ 7 + imm / 2 % 2 ^ 4 * 2 ^ 8 + imm / 2 ^ 5 % 2 ^ 6 * 2 ^ 25 + imm / 2 ^ 12 % 2 * 2 ^ 31

abbrev pub offset_bits_j : ℕ → ℕ
offset_bits_j imm = imm / 2 ^ 12 % 2 ^ 8 * 2 ^ 12 + imm / 2 ^ 11 % 2 * 2 ^ 20 + imm / 2 % 2 ^ 10 * 2 ^ 21 + imm / 2 ^ 20 % 2 * 2 ^ 31

unfoldable pub field_bits : Form → Op → ℕ
field_bits U op = op.rd * 2 ^ 7 + op.imm
field_bits J op = op.rd * 2 ^ 7 + offset_bits_j op.imm
field_bits I op = op.rd * 2 ^ 7 + op.rs1 * 2 ^ 15 + op.imm % 2 ^ 12 * 2 ^ 20
field_bits B op = op.rs1 * 2 ^ 15 + op.rs2 * 2 ^ 20 + offset_bits_b op.imm
field_bits S op = op.rs1 * 2 ^ 15 + op.rs2 * 2 ^ 20 + (op.imm % 2 ^ 5 * 2 ^ 7 + op.imm / 2 ^ 5 % 2 ^ 7 * 2 ^ 25)
field_bits Shift op = op.rd * 2 ^ 7 + op.rs1 * 2 ^ 15 + op.imm * 2 ^ 20
field_bits R op = op.rd * 2 ^ 7 + op.rs1 * 2 ^ 15 + op.rs2 * 2 ^ 20
field_bits Call op = 0
field_bits Counter op = op.rd * 2 ^ 7
field_bits NoFields op = 0

-- the word of a well-formed operation
unfoldable pub word_of : Op → ℕ
word_of op = fixed_bits op.code + field_bits (form_of op.code) op
