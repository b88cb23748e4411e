-- Lines: what a line of a source says, and the lines of a source.
use Rattle.std.specs.Prelude.{ℕ, ◌-◌, ◌==◌, Bool, true, not, if◌then◌else◌, List, []}
use Rattle.std.specs.Prelude.{◌∷◌, length, take, slice_index, Option, Some, None, Result, Ok, Err}
use Rattle.std.specs.Option.{ok_or}
use Rattle.std.specs.List.{list_all, slice_split, take_while}
use Rattle.rv_asm.specs.Bytes.{is_allowed}
use Rattle.rv_asm.specs.Keywords.{keyword_named}
use Rattle.rv_asm.specs.Names.{label}
use Rattle.rv_asm.specs.Statements.{Statement, Blank, Part, DataWord, DataByte, DataSpace, statement_by}
use Rattle.rv_asm.specs.Tokens.{Token, Word, Colon, tokens}
use Rattle.rv_asm.specs.declared.bytes.TheConstants.{CARRIAGE_RETURN, COMMENT, LINE_FEED}
use Rattle.rv_asm.specs.declared.fault.Fault.{Fault}
use Rattle.rv_asm.specs.declared.fault.Fault.TheVariants.{BadByte, UnknownWord, BadForm}

-- Steps that may fail with a fault, one after the other
infixl 10 ◌>>=◌
abbrev pub ◌>>=◌ : {A B : Type 0} → Result A Fault → (A → Result B Fault) → Result B Fault
Ok x >>= next = next x
Err fault >>= next = Err fault

-- Instructions stand in the text part, words, bytes and space in the data part.
abbrev pub stands_in : Bool → Statement → Bool
stands_in in_data Blank = true
stands_in in_data (Part part) = true
stands_in in_data (DataWord n) = in_data
stands_in in_data (DataByte n) = in_data
stands_in in_data (DataSpace n) = in_data
stands_in in_data _ = not in_data

unfoldable pub placed : Bool → Statement → Result Statement Fault
placed in_data statement = if stands_in in_data statement then Ok statement else Err BadForm

-- a statement of a first word and what stands behind it
unfoldable pub spoken : Bool → List ℕ → List Token → Result Statement Fault
spoken in_data word ts = do
  keyword ← ok_or (keyword_named word) UnknownWord
  statement ← ok_or (statement_by keyword ts) BadForm
  placed in_data statement

-- a statement begins with a word, or there is none
unfoldable pub statement_of : Bool → List Token → Result Statement Fault
statement_of in_data [] = Ok Blank
statement_of in_data (Word word ∷ ts) = spoken in_data word ts
statement_of in_data _ = Err UnknownWord

pub record Line : Type 0 where
  pub name : Option (List ℕ)  -- the label that it defines
  pub statement : Statement

unfoldable pub without_label : Bool → List Token → Result Line Fault
without_label in_data ts = do
  statement ← statement_of in_data ts
  Ok (record { name = None; statement = statement })

unfoldable pub with_label : Bool → List ℕ → List Token → Result Line Fault
with_label in_data word ts = do
  name ← ok_or (label word) UnknownWord
  statement ← statement_of in_data ts
  Ok (record { name = Some name; statement = statement })

-- a label with a colon, if there is one, and a statement, if there is one
unfoldable pub labelled : Bool → List Token → Result Line Fault
labelled in_data (Word word ∷ Colon ∷ ts) = with_label in_data word ts
labelled in_data ts = without_label in_data ts

-- What a line says in the text part or the data part: its bytes are allowed, and its tokens stand before the comment.
unfoldable pub line_of : Bool → List ℕ → Result Line Fault
line_of in_data line =
    if list_all is_allowed line then labelled in_data (tokens (take_while (λ b. not (b == COMMENT)) line)) else Err BadByte

-- The lines of a source

-- a carriage return before the line feed is passed over
unfoldable pub without_return : List ℕ → List ℕ
without_return line = if slice_index line (length line - 1) == CARRIAGE_RETURN then take (length line - 1) line else line

-- each line feed ends a line; the last line may lack it
unfoldable pub ended : List (List ℕ) → List (List ℕ)
ended [] = []
ended ([] ∷ []) = []
ended ((b ∷ bs) ∷ []) = (b ∷ bs) ∷ []
ended (line ∷ next ∷ rest) = without_return line ∷ ended (next ∷ rest)

unfoldable pub lines : List ℕ → List (List ℕ)
lines source = ended (slice_split (λ b. b == LINE_FEED) source)
