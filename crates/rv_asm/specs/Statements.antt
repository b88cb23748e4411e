-- Statements: what the keyword and the operands of a line mean.
use Rattle.std.specs.Prelude.{ℕ, ℤ, Bool, true, false, if◌then◌else◌, List, Option, Some, None}
use Rattle.rv_table.specs.Operations.{form_of, of_registers, operation_of}
use Rattle.rv_table.specs.Texts.{names_address}
use Rattle.rv_table.specs.declared.codes.TheConstants.{ADDI, BEQ, BNE, JAL, JALR}
use Rattle.rv_table.specs.declared.form.Form.{Form}
use Rattle.rv_table.specs.declared.form.Form.TheVariants.{U, J, I, B, S, Shift, R, Call as SystemCall, Counter, NoFields}
use Rattle.rv_table.specs.declared.op.Op.{Op}
use Rattle.rv_asm.specs.Chains.{◌>>=◌}
use Rattle.rv_asm.specs.Names.{label, register}
use Rattle.rv_asm.specs.Numbers.{number}
use Rattle.rv_asm.specs.Tokens.{Token, address_of, end, one_of, three_of, two_of}
use Rattle.rv_asm.specs.declared.keyword.Keyword.{Keyword}
use Rattle.rv_asm.specs.declared.keyword.Keyword.TheVariants.{Instruction, Nop, Move, Jump, Call, JumpRegister, Return, BranchIfZero, BranchIfNotZero}
use Rattle.rv_asm.specs.declared.keyword.Keyword.TheVariants.{LoadImmediate, LoadAddress, TextPart, DataPart, Word, Byte, Space}
use Rattle.rv_asm.specs.declared.statement.TheConstants.{A0, A7, RA}

pub data Statement : Type 0 where
  -- no statement
  Blank : Statement
  -- the part that the lines behind stand in
  Part : (in_data : Bool) → Statement
  -- a word, a byte, so many zero bytes
  DataWord : (n : ℤ) → Statement
  DataByte : (n : ℤ) → Statement
  DataSpace : (n : ℤ) → Statement
  -- an instruction: complete, with a number to come as its immediate, with the offset of a label to come
  Ready : (op : Op) → Statement
  WithNumber : (op : Op) → (n : ℤ) → Statement
  WithLabel : (op : Op) → (target : List ℕ) → Statement
  -- one or two instructions that put a number or the address of a label into a register
  NumberInto : (rd : ℕ) → (n : ℤ) → Statement
  AddressInto : (rd : ℕ) → (target : List ℕ) → Statement

-- Instructions of the word table, by the form of their row

-- rd, n
unfoldable pub upper : ℕ → List Token → Option Statement
upper code ts = do
  o ← two_of ts
  rd ← register o.0
  n ← number o.1
  Some (WithNumber (of_registers code rd 0 0) n)

-- rd, label
unfoldable pub jump : ℕ → List Token → Option Statement
jump code ts = do
  o ← two_of ts
  rd ← register o.0
  target ← label o.1
  Some (WithLabel (of_registers code rd 0 0) target)

-- rd, rs1, n
unfoldable pub immediate : ℕ → List Token → Option Statement
immediate code ts = do
  o ← three_of ts
  rd ← register o.0
  rs1 ← register o.1
  n ← number o.2
  Some (WithNumber (of_registers code rd rs1 0) n)

-- rd, n(rs1)
unfoldable pub load : ℕ → List Token → Option Statement
load code ts = do
  o ← address_of ts
  rd ← register o.0
  n ← number o.1
  rs1 ← register o.2
  Some (WithNumber (of_registers code rd rs1 0) n)

-- rs2, n(rs1)
unfoldable pub store : ℕ → List Token → Option Statement
store code ts = do
  o ← address_of ts
  rs2 ← register o.0
  n ← number o.1
  rs1 ← register o.2
  Some (WithNumber (of_registers code 0 rs1 rs2) n)

-- rs1, rs2, label
unfoldable pub branch : ℕ → List Token → Option Statement
branch code ts = do
  o ← three_of ts
  rs1 ← register o.0
  rs2 ← register o.1
  target ← label o.2
  Some (WithLabel (of_registers code 0 rs1 rs2) target)

-- rd, rs1, rs2
unfoldable pub registers : ℕ → List Token → Option Statement
registers code ts = do
  o ← three_of ts
  rd ← register o.0
  rs1 ← register o.1
  rs2 ← register o.2
  Some (Ready (of_registers code rd rs1 rs2))

-- an address for JALR and the loads, a number for the others
abbrev pub with_number : ℕ → List Token → Option Statement
with_number code ts = if names_address (operation_of code) then load code ts else immediate code ts

-- no operands
unfoldable pub bare : Statement → List Token → Option Statement
bare statement ts = do
  none ← end ts
  Some statement

unfoldable pub by_form : Form → ℕ → List Token → Option Statement
by_form U code ts = upper code ts
by_form J code ts = jump code ts
by_form I code ts = with_number code ts
by_form B code ts = branch code ts
by_form S code ts = store code ts
by_form Shift code ts = immediate code ts
by_form R code ts = registers code ts
by_form SystemCall code ts = bare (Ready (of_registers code 0 A7 A0)) ts
by_form Counter code ts = None
by_form NoFields code ts = bare (Ready (of_registers code 0 0 0)) ts

unfoldable pub instruction : ℕ → List Token → Option Statement
instruction code ts = by_form (form_of code) code ts

-- The further forms and the directives

-- rd, rs is ADDI with 0
unfoldable pub move_register : List Token → Option Statement
move_register ts = do
  o ← two_of ts
  rd ← register o.0
  rs ← register o.1
  Some (Ready (of_registers ADDI rd rs 0))

-- label, with the return address in rd
unfoldable pub jump_to : ℕ → List Token → Option Statement
jump_to rd ts = do
  o ← one_of ts
  target ← label o
  Some (WithLabel (of_registers JAL rd 0 0) target)

-- rs
unfoldable pub jump_register : List Token → Option Statement
jump_register ts = do
  o ← one_of ts
  rs ← register o
  Some (Ready (of_registers JALR 0 rs 0))

-- rs, label: a comparison with register 0
unfoldable pub branch_zero : ℕ → List Token → Option Statement
branch_zero code ts = do
  o ← two_of ts
  rs ← register o.0
  target ← label o.1
  Some (WithLabel (of_registers code 0 rs 0) target)

-- rd, n
unfoldable pub load_immediate : List Token → Option Statement
load_immediate ts = do
  o ← two_of ts
  rd ← register o.0
  n ← number o.1
  Some (NumberInto rd n)

-- rd, label
unfoldable pub load_address : List Token → Option Statement
load_address ts = do
  o ← two_of ts
  rd ← register o.0
  target ← label o.1
  Some (AddressInto rd target)

-- n
unfoldable pub one_number : List Token → Option ℤ
one_number ts = do
  o ← one_of ts
  number o

unfoldable pub data_word : List Token → Option Statement
data_word ts = do
  n ← one_number ts
  Some (DataWord n)

unfoldable pub data_byte : List Token → Option Statement
data_byte ts = do
  n ← one_number ts
  Some (DataByte n)

unfoldable pub data_space : List Token → Option Statement
data_space ts = do
  n ← one_number ts
  Some (DataSpace n)

-- what a keyword and the tokens behind it mean
unfoldable pub statement_by : Keyword → List Token → Option Statement
statement_by (Instruction code) ts = instruction code ts
statement_by Nop ts = bare (Ready (of_registers ADDI 0 0 0)) ts
statement_by Move ts = move_register ts
statement_by Jump ts = jump_to 0 ts
statement_by Call ts = jump_to RA ts
statement_by JumpRegister ts = jump_register ts
statement_by Return ts = bare (Ready (of_registers JALR 0 RA 0)) ts
statement_by BranchIfZero ts = branch_zero BEQ ts
statement_by BranchIfNotZero ts = branch_zero BNE ts
statement_by LoadImmediate ts = load_immediate ts
statement_by LoadAddress ts = load_address ts
statement_by TextPart ts = bare (Part false) ts
statement_by DataPart ts = bare (Part true) ts
statement_by Word ts = data_word ts
statement_by Byte ts = data_byte ts
statement_by Space ts = data_space ts
