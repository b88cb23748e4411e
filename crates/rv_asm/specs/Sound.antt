-- What holds of the instructions of each statement that is read: with the immediate to come they have a word.
use Rattle.std.specs.Prelude.{◌≡◌, ◌<◌, ℕ, Bool, true, false, IsTrue, ◌==◌, ◌||◌}
use Rattle.rv_table.specs.declared.codes.TheConstants.{BEQ, BNE}
use Rattle.rv_table.specs.Operations.{form_of, has_row}
use Rattle.rv_table.specs.WellFormed.{well_formed}
use Rattle.rv_table.specs.declared.form.Form.{Form}
use Rattle.rv_table.specs.declared.form.Form.TheVariants.{U, J, I, B, S, Shift}
use Rattle.rv_table.specs.declared.op.Op.{Op}
use Rattle.rv_asm.specs.Statements.{Statement, Ready, WithNumber, WithLabel, NumberInto, AddressInto}
use Rattle.rv_asm.specs.declared.keyword.Keyword.{Keyword}
use Rattle.rv_asm.specs.declared.keyword.Keyword.TheVariants.{Instruction}

-- a keyword of an instruction names one that has words
abbrev pub is_known : Keyword → Bool
is_known (Instruction code) = has_row code
is_known _ = true

-- the forms whose immediate is a number in the source, and those in which it is the offset of a label
abbrev pub takes_number : Form → Bool
takes_number U = true
takes_number I = true
takes_number S = true
takes_number Shift = true
takes_number _ = false

abbrev pub takes_offset : Form → Bool
takes_offset J = true
takes_offset B = true
takes_offset _ = false

-- the forms with rd, rs1 and a number
abbrev pub takes_two : Form → Bool
takes_two I = true
takes_two Shift = true
takes_two _ = false

-- the codes of the branches that compare with register 0
abbrev pub branches : ℕ → Bool
branches code = code == BEQ || code == BNE

-- it has a word with immediate 0, and its form takes what comes
pub record IsReadyFor (takes : Form → Bool) (op : Op) : Type 0 where
  pub formed : IsTrue (well_formed op)
  pub zero_immediate : op.imm ≡ 0
  pub taking : IsTrue (takes (form_of op.code))

abbrev pub IsSound : Statement → Type 0
IsSound (Ready op) = IsTrue (well_formed op)
IsSound (WithNumber op n) = IsReadyFor takes_number op
IsSound (WithLabel op target) = IsReadyFor takes_offset op
IsSound (NumberInto rd n) = rd < 32
IsSound (AddressInto rd target) = rd < 32
IsSound _ = Unit {0}
