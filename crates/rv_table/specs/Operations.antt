-- What the codes mean.
use Rattle.std.specs.Prelude.{ℕ, Bool}
use Rattle.rv_table.specs.Rows.{has_word, row_of}
use Rattle.rv_table.specs.declared.form.Form.{Form}
use Rattle.rv_table.specs.declared.op.Op.{Op}
use Rattle.rv_table.specs.declared.operation.Operation.{Operation}

-- the operation of a code; a code with no row acts as ILLEGAL
unfoldable pub operation_of : ℕ → Operation
operation_of code = (row_of code).operation

-- how many cycles more than others it stays in EX
unfoldable pub delay_of : ℕ → ℕ
delay_of code = (row_of code).delay

-- which fields its word has
unfoldable pub form_of : ℕ → Form
form_of code = (row_of code).form

-- whether a code has words
unfoldable pub has_row : ℕ → Bool
has_row code = has_word (row_of code).fixed

-- the operation of these registers, without an immediate
abbrev pub of_registers : ℕ → ℕ → ℕ → ℕ → Op
of_registers code rd rs1 rs2 = record { code = code; rd = rd; rs1 = rs1; rs2 = rs2; imm = 0 }
