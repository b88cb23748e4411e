-- What the first word of a statement can be.
use Rattle.std.specs.Prelude.{ℕ, Bool, true, false, List, [], ◌∷◌, bytes_eq, codes, find, Option, Some, None, option_map, if◌then◌else◌}
use Rattle.std.specs.Option.{option_or}
use Rattle.rv_table.specs.Rows.{row_named}
use Rattle.rv_table.specs.declared.form.Form.{Form}
use Rattle.rv_table.specs.declared.form.Form.TheVariants.{Counter}
use Rattle.rv_asm.specs.Chains.{◌>>=◌}
use Rattle.rv_asm.specs.declared.keyword.Keyword.{Keyword}
use Rattle.rv_asm.specs.declared.keyword.Keyword.TheVariants.{Instruction, Nop, Move, Jump, Call, JumpRegister, Return, BranchIfZero, BranchIfNotZero}
use Rattle.rv_asm.specs.declared.keyword.Keyword.TheVariants.{LoadImmediate, LoadAddress, TextPart, DataPart, Word, Byte, Space}
use Rattle.rv_asm.specs.declared.keyword.NamedKeyword.{NamedKeyword}

-- the further forms and the directives, by name
abbrev pub further : List (List ℕ × Keyword)
further =
    (codes "nop", Nop) ∷
    (codes "mv", Move) ∷
    (codes "j", Jump) ∷
    (codes "call", Call) ∷
    (codes "jr", JumpRegister) ∷
    (codes "ret", Return) ∷
    (codes "beqz", BranchIfZero) ∷
    (codes "bnez", BranchIfNotZero) ∷
    (codes "li", LoadImmediate) ∷
    (codes "la", LoadAddress) ∷
    (codes ".text", TextPart) ∷
    (codes ".data", DataPart) ∷
    (codes ".word", Word) ∷
    (codes ".byte", Byte) ∷
    (codes ".space", Space) ∷
    []

unfoldable pub further_named : List ℕ → Option Keyword
further_named word = option_map (λ k. k.1) (find (λ k. bytes_eq word k.0) further)

-- a counter read has no mnemonic here
abbrev pub is_counter_read : Form → Bool
is_counter_read Counter = true
is_counter_read _ = false

-- an instruction of the word table, by its mnemonic
unfoldable pub instruction_named : List ℕ → Option Keyword
instruction_named word = do
  row ← row_named word
  if is_counter_read row.form then None else Some (Instruction row.code)

unfoldable pub keyword_named : List ℕ → Option Keyword
keyword_named word = option_or (further_named word) (instruction_named word)

-- a keyword as the program holds it
abbrev pub shown : NamedKeyword → List ℕ × Keyword
shown k = (k.name.now, k.keyword)
