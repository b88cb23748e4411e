-- What holds of the word table as a whole.
use Rattle.std.specs.Prelude.{◌≡◌, ℕ, true, Some, slice_get}
use Rattle.rv_table.specs.Operations.{has_row}
use Rattle.rv_table.specs.Rows.{Row, row_named, row_of, rows}
use Rattle.rv_table.specs.Words.{decode, matches, op_of_form}

pub record TableLaw : Type 0 where
  -- the rows stand in the order of their codes
  pub in_order : (i : ℕ) (r : Row) → slice_get rows i ≡ Some r → r.code ≡ i
  -- no word has the fixed bits of two rows
  pub one_row : (w i j : ℕ) (r s : Row) → slice_get rows i ≡ Some r → slice_get rows j ≡ Some s
      → matches r.fixed w ≡ true → matches s.fixed w ≡ true → i ≡ j
  -- so a word with the fixed bits of a row is that instruction, with the fields of its form
  pub decodes : (w i : ℕ) (r : Row) → slice_get rows i ≡ Some r → matches r.fixed w ≡ true → decode w ≡ op_of_form r.form r.code w
  -- each instruction that has words is found by its name, and no other has that name
  pub one_name : (code : ℕ) → has_row code ≡ true → row_named (row_of code).mnemonic ≡ Some (row_of code)
