-- The assembler's spelling of an operation: its mnemonic and its operands.
use Rattle.std.specs.Prelude.{ℕ, ◌/◌, ◌^◌, ◌||◌, Bool, true, false, not, IsTrue, List, [], ◌∷◌, codes, decimal, slice_index_or, if◌then◌else◌}
use Rattle.std.specs.List.{concat}
use Rattle.std.specs.Fmt.{signed_decimal}
use Rattle.rv_table.specs.Arithmetic.{signed}
use Rattle.rv_table.specs.Operations.{form_of, has_row, operation_of}
use Rattle.rv_table.specs.Rows.{row_of}
use Rattle.rv_table.specs.WellFormed.{well_formed}
use Rattle.rv_table.specs.declared.form.Form.{Form}
use Rattle.rv_table.specs.declared.form.Form.TheVariants.{U, J, I, B, S, Shift, R, Call, Counter, NoFields}
use Rattle.rv_table.specs.declared.op.Op.{Op}
use Rattle.rv_table.specs.declared.operation.Operation.{Operation}
use Rattle.rv_table.specs.declared.operation.Operation.TheVariants.{Jalr, Load}

-- the mnemonic of a code
unfoldable pub mnemonic : ℕ → List ℕ
mnemonic code = (row_of code).mnemonic

-- the names of the registers, in their order
abbrev pub register_names : List (List ℕ)
register_names =
    codes "zero" ∷ codes "ra" ∷ codes "sp" ∷ codes "gp" ∷ codes "tp" ∷ codes "t0" ∷ codes "t1" ∷ codes "t2" ∷
    codes "s0" ∷ codes "s1" ∷ codes "a0" ∷ codes "a1" ∷ codes "a2" ∷ codes "a3" ∷ codes "a4" ∷ codes "a5" ∷
    codes "a6" ∷ codes "a7" ∷ codes "s2" ∷ codes "s3" ∷ codes "s4" ∷ codes "s5" ∷ codes "s6" ∷ codes "s7" ∷
    codes "s8" ∷ codes "s9" ∷ codes "s10" ∷ codes "s11" ∷ codes "t3" ∷ codes "t4" ∷ codes "t5" ∷ codes "t6" ∷
    []

unfoldable pub register_name : ℕ → List ℕ
register_name r = slice_index_or register_names r []

-- a signed number, in decimal
abbrev pub signed_text : ℕ → List ℕ
signed_text imm = signed_decimal (signed imm)

-- the operands: three, or two, of which the last may be an address `n(rs1)`
abbrev pub three : List ℕ → List ℕ → List ℕ → List ℕ → List ℕ
three name first second third = concat (name ∷ codes " " ∷ first ∷ codes ", " ∷ second ∷ codes ", " ∷ third ∷ [])

abbrev pub two : List ℕ → List ℕ → List ℕ → List ℕ
two name first second = concat (name ∷ codes " " ∷ first ∷ codes ", " ∷ second ∷ [])

abbrev pub at_address : List ℕ → List ℕ → List ℕ → List ℕ → List ℕ
at_address name first offset base = concat (name ∷ codes " " ∷ first ∷ codes ", " ∷ offset ∷ codes "(" ∷ base ∷ codes ")" ∷ [])

-- JALR and the loads name an address
abbrev pub names_address : Operation → Bool
names_address Jalr = true
names_address (Load kind) = true
names_address _ = false

unfoldable pub text_by : Form → Op → List ℕ
text_by U op = two (mnemonic op.code) (register_name op.rd) (decimal (op.imm / 2 ^ 12))
text_by J op = two (mnemonic op.code) (register_name op.rd) (signed_text op.imm)
text_by I op =
    if names_address (operation_of op.code)
    then at_address (mnemonic op.code) (register_name op.rd) (signed_text op.imm) (register_name op.rs1)
    else three (mnemonic op.code) (register_name op.rd) (register_name op.rs1) (signed_text op.imm)
text_by B op = three (mnemonic op.code) (register_name op.rs1) (register_name op.rs2) (signed_text op.imm)
text_by S op = at_address (mnemonic op.code) (register_name op.rs2) (signed_text op.imm) (register_name op.rs1)
text_by Shift op = three (mnemonic op.code) (register_name op.rd) (register_name op.rs1) (decimal op.imm)
text_by R op = three (mnemonic op.code) (register_name op.rd) (register_name op.rs1) (register_name op.rs2)
text_by Call op = mnemonic op.code
text_by Counter op = concat (mnemonic op.code ∷ codes " " ∷ register_name op.rd ∷ [])
text_by NoFields op = mnemonic op.code

unfoldable pub text : Op → List ℕ
text op = text_by (form_of op.code) op

-- an operation that is well-formed, or whose code is 0 or 1 or has no row
abbrev pub HasText : Op → Type 0
HasText op = IsTrue (well_formed op || not (has_row op.code))
