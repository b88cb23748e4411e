-- The word table: which word is which instruction, and what else the instruction set says of each, as the RISC-V
-- specification prints it.
use Rattle.std.specs.Prelude.{ℕ, ◌==◌, ◌&&◌, Bool, true, false, List, [], ◌∷◌, Option, bytes_eq, codes, find, if◌then◌else◌}
use Rattle.rv_table.specs.declared.form.Form.{Form}
use Rattle.rv_table.specs.declared.form.Form.TheVariants.{U, J, I, B, S, Shift, R, Call, Counter, NoFields}
use Rattle.rv_table.specs.declared.operation.Operation.{Operation}
use Rattle.rv_table.specs.declared.operation.Operation.TheVariants.{Illegal, FetchFault, Lui, Auipc, Jal, Jalr, Branch, Load, Store}
use Rattle.rv_table.specs.declared.operation.Operation.TheVariants.{AluImmediate, Alu}
use Rattle.rv_table.specs.declared.operation.Operation.TheVariants.{Fence, Ecall, Ebreak, ReadCounter}
use Rattle.rv_table.specs.declared.operation.BranchKind.TheVariants.{Beq, Bne, Blt, Bge, Bltu, Bgeu}
use Rattle.rv_table.specs.declared.operation.LoadKind.TheVariants.{Lb, Lh, Lw, Lbu, Lhu}
use Rattle.rv_table.specs.declared.operation.StoreKind.TheVariants.{Sb, Sh, Sw}
use Rattle.rv_table.specs.declared.operation.AluKind.TheVariants.{Add, Sub, Sll, Slt, Sltu, Xor, Srl, Sra, Or, And}
use Rattle.rv_table.specs.declared.operation.AluKind.TheVariants.{Mul, Mulh, Mulhsu, Mulhu, Div, Divu, Rem, Remu}
use Rattle.rv_table.specs.declared.operation.CounterKind.TheVariants.{Cycle, Instret, Cycleh, Instreth}
use Rattle.rv_table.specs.declared.row.InstructionRow.{InstructionRow}
use Rattle.rv_table.specs.declared.row.Pattern.{Pattern}
use Rattle.rv_table.specs.declared.row.Pattern.TheVariants.{NoWord, Opcode, Funct3, Funct7, Word, WordButRd}
use Rattle.rv_table.specs.declared.row.TheConstants.{MULTIPLY_DELAY, DIVIDE_DELAY}
use Rattle.rv_table.specs.declared.codes.TheConstants.{LUI, AUIPC, JAL, JALR, BEQ, BNE, BLT, BGE, BLTU, BGEU, LB, LH, LW, LBU}
use Rattle.rv_table.specs.declared.codes.TheConstants.{LHU, SB, SH, SW, ADDI, SLTI, SLTIU, XORI, ORI, ANDI, SLLI, SRLI, SRAI, ADD}
use Rattle.rv_table.specs.declared.codes.TheConstants.{SUB, SLL, SLT, SLTU, XOR, SRL, SRA, OR, AND, MUL, MULH, MULHSU, MULHU, DIV}
use Rattle.rv_table.specs.declared.codes.TheConstants.{DIVU, REM, REMU, FENCE, ECALL, EBREAK, RDCYCLE, RDINSTRET, RDCYCLEH, RDINSTRETH}
use Rattle.rv_table.specs.declared.op.TheConstants.{ILLEGAL_CODE, FETCH_FAULT_CODE}

pub record Row : Type 0 where
  pub code : ℕ
  pub mnemonic : List ℕ  -- its name, as the assembler has it
  pub fixed : Pattern  -- the bits of a word that make it this instruction
  pub form : Form  -- the fields of its word
  pub operation : Operation  -- what it does
  pub delay : ℕ  -- how many cycles more than others it stays in EX

abbrev pub row : ℕ → List ℕ → Pattern → Form → Operation → ℕ → Row
row code mnemonic fixed form operation delay =
    record { code = code; mnemonic = mnemonic; fixed = fixed; form = form; operation = operation; delay = delay }

-- every word that is in no other row
abbrev pub illegal_row : Row
illegal_row = row ILLEGAL_CODE (codes "illegal") NoWord NoFields Illegal 0

-- the rows in the order of their codes
abbrev pub rows : List Row
rows =
    illegal_row ∷
    row FETCH_FAULT_CODE (codes "fault") NoWord NoFields FetchFault 0 ∷
    row LUI (codes "lui") (Opcode 0x37) U Lui 0 ∷
    row AUIPC (codes "auipc") (Opcode 0x17) U Auipc 0 ∷
    row JAL (codes "jal") (Opcode 0x6F) J Jal 0 ∷
    row JALR (codes "jalr") (Funct3 0x67 0) I Jalr 0 ∷
    row BEQ (codes "beq") (Funct3 0x63 0) B (Branch Beq) 0 ∷
    row BNE (codes "bne") (Funct3 0x63 1) B (Branch Bne) 0 ∷
    row BLT (codes "blt") (Funct3 0x63 4) B (Branch Blt) 0 ∷
    row BGE (codes "bge") (Funct3 0x63 5) B (Branch Bge) 0 ∷
    row BLTU (codes "bltu") (Funct3 0x63 6) B (Branch Bltu) 0 ∷
    row BGEU (codes "bgeu") (Funct3 0x63 7) B (Branch Bgeu) 0 ∷
    row LB (codes "lb") (Funct3 0x03 0) I (Load Lb) 0 ∷
    row LH (codes "lh") (Funct3 0x03 1) I (Load Lh) 0 ∷
    row LW (codes "lw") (Funct3 0x03 2) I (Load Lw) 0 ∷
    row LBU (codes "lbu") (Funct3 0x03 4) I (Load Lbu) 0 ∷
    row LHU (codes "lhu") (Funct3 0x03 5) I (Load Lhu) 0 ∷
    row SB (codes "sb") (Funct3 0x23 0) S (Store Sb) 0 ∷
    row SH (codes "sh") (Funct3 0x23 1) S (Store Sh) 0 ∷
    row SW (codes "sw") (Funct3 0x23 2) S (Store Sw) 0 ∷
    row ADDI (codes "addi") (Funct3 0x13 0) I (AluImmediate Add) 0 ∷
    row SLTI (codes "slti") (Funct3 0x13 2) I (AluImmediate Slt) 0 ∷
    row SLTIU (codes "sltiu") (Funct3 0x13 3) I (AluImmediate Sltu) 0 ∷
    row XORI (codes "xori") (Funct3 0x13 4) I (AluImmediate Xor) 0 ∷
    row ORI (codes "ori") (Funct3 0x13 6) I (AluImmediate Or) 0 ∷
    row ANDI (codes "andi") (Funct3 0x13 7) I (AluImmediate And) 0 ∷
    row SLLI (codes "slli") (Funct7 0x13 1 0x00) Shift (AluImmediate Sll) 0 ∷
    row SRLI (codes "srli") (Funct7 0x13 5 0x00) Shift (AluImmediate Srl) 0 ∷
    row SRAI (codes "srai") (Funct7 0x13 5 0x20) Shift (AluImmediate Sra) 0 ∷
    row ADD (codes "add") (Funct7 0x33 0 0x00) R (Alu Add) 0 ∷
    row SUB (codes "sub") (Funct7 0x33 0 0x20) R (Alu Sub) 0 ∷
    row SLL (codes "sll") (Funct7 0x33 1 0x00) R (Alu Sll) 0 ∷
    row SLT (codes "slt") (Funct7 0x33 2 0x00) R (Alu Slt) 0 ∷
    row SLTU (codes "sltu") (Funct7 0x33 3 0x00) R (Alu Sltu) 0 ∷
    row XOR (codes "xor") (Funct7 0x33 4 0x00) R (Alu Xor) 0 ∷
    row SRL (codes "srl") (Funct7 0x33 5 0x00) R (Alu Srl) 0 ∷
    row SRA (codes "sra") (Funct7 0x33 5 0x20) R (Alu Sra) 0 ∷
    row OR (codes "or") (Funct7 0x33 6 0x00) R (Alu Or) 0 ∷
    row AND (codes "and") (Funct7 0x33 7 0x00) R (Alu And) 0 ∷
    row MUL (codes "mul") (Funct7 0x33 0 0x01) R (Alu Mul) MULTIPLY_DELAY ∷
    row MULH (codes "mulh") (Funct7 0x33 1 0x01) R (Alu Mulh) MULTIPLY_DELAY ∷
    row MULHSU (codes "mulhsu") (Funct7 0x33 2 0x01) R (Alu Mulhsu) MULTIPLY_DELAY ∷
    row MULHU (codes "mulhu") (Funct7 0x33 3 0x01) R (Alu Mulhu) MULTIPLY_DELAY ∷
    row DIV (codes "div") (Funct7 0x33 4 0x01) R (Alu Div) DIVIDE_DELAY ∷
    row DIVU (codes "divu") (Funct7 0x33 5 0x01) R (Alu Divu) DIVIDE_DELAY ∷
    row REM (codes "rem") (Funct7 0x33 6 0x01) R (Alu Rem) DIVIDE_DELAY ∷
    row REMU (codes "remu") (Funct7 0x33 7 0x01) R (Alu Remu) DIVIDE_DELAY ∷
    row FENCE (codes "fence") (Funct3 0x0F 0) NoFields Fence 0 ∷
    row ECALL (codes "ecall") (Word 0x00000073) Call Ecall 0 ∷
    row EBREAK (codes "ebreak") (Word 0x00100073) NoFields Ebreak 0 ∷
    row RDCYCLE (codes "rdcycle") (WordButRd 0xC0002073) Counter (ReadCounter Cycle) 0 ∷
    row RDINSTRET (codes "rdinstret") (WordButRd 0xC0202073) Counter (ReadCounter Instret) 0 ∷
    row RDCYCLEH (codes "rdcycleh") (WordButRd 0xC8002073) Counter (ReadCounter Cycleh) 0 ∷
    row RDINSTRETH (codes "rdinstreth") (WordButRd 0xC8202073) Counter (ReadCounter Instreth) 0 ∷
    []

-- whether a row has words
abbrev pub has_word : Pattern → Bool
has_word NoWord = false
has_word _ = true

-- the row of a code; a code that has none acts as ILLEGAL
abbrev pub row_in : List Row → ℕ → Row
row_in [] code = illegal_row
row_in (r ∷ rs) code = if code == r.code then r else row_in rs code

unfoldable pub row_of : ℕ → Row
row_of code = row_in rows code

-- the row of the instruction that the assembler calls so
abbrev pub is_named : List ℕ → Row → Bool
is_named name r = has_word r.fixed && bytes_eq r.mnemonic name

unfoldable pub row_named : List ℕ → Option Row
row_named name = find (is_named name) rows

-- a row as the program holds it
abbrev pub shown : InstructionRow → Row
shown r = record { code = r.code; mnemonic = r.mnemonic.now; fixed = r.fixed; form = r.form; operation = r.operation; delay = r.delay }
