-- Words for a file that is read in pieces.
use Rattle.std.specs.Prelude.{◌≡◌, ℕ, ◌+◌, ◌*◌, ◌≤◌, ◌==◌, ◌||◌, false, nat_lt, if◌then◌else◌, List, ◌∷◌, ◌++◌, drop, length, take}
use Rattle.std.specs.Prelude.{Option, None, Some, IfSome, Result, Ok, Err, ⊤}
use Rattle.std.specs.List.{AllByRecursion}
use Rattle.ace_rules.specs.Notes.{Story}
use Rattle.class_map.specs.Checks.{ArePassed, IsFirstFault}
use Rattle.class_map.specs.Faults.{FileLine, fault_number, lines_of}
use Rattle.class_map.specs.Judging.{ended_line}
use Rattle.class_map.specs.Texts.{line_feed}
use Rattle.class_map.specs.declared.error.MapError.{MapError}
use Rattle.class_map.specs.declared.error.MapError.TheVariants.{Bad, ReadFault}
use Rattle.class_map.specs.declared.fault.Fault.{Fault}
use Rattle.class_map.specs.declared.fault.Fault.TheVariants.{Misspelled}
use Rattle.class_map.specs.declared.judge.TheConstants.{LONGEST_LINE}
use Rattle.class_map.specs.declared.progress.Progress.{Progress}

-- what is told of a fault of the next line
abbrev pub refusal : Progress → Fault → MapError
refusal p fault = Bad (p.seen + 1) (fault_number fault)

-- the answer at the end of the file, where so many bytes are left behind the last line feed
abbrev pub ended : Progress → ℕ → Result ℕ MapError
ended p left = if nat_lt 0 left || nat_lt p.seen 3 then Err (refusal p Misspelled) else Ok p.pairs

abbrev pub HasNoFeed : List ℕ → Type 0
HasNoFeed bytes = AllByRecursion (λ b. (b == line_feed) ≡ false) bytes

-- the next line of a piece behind the bytes that are used
pub record IsNextText (piece : List ℕ) (used : ℕ) (text : List ℕ) : Type 0 where
  pub cut : (more : List ℕ) → lines_of (drop used piece ++ more)
      ≡ ended_line text ∷ lines_of (drop (used + (length text + 1)) piece ++ more)
  pub within : used + (length text + 1) ≤ length piece

-- So many bytes of a piece are whole lines without a fault, whatever bytes come behind the piece; the rest has no line feed.
pub record AreJudged (story : Story) (p : Progress) (piece : List ℕ) (used : ℕ) (q : Progress) : Type 0 where
  pub lines : List FileLine
  pub passed : ArePassed story p lines q
  pub cut : (more : List ℕ) → lines_of (piece ++ more) ≡ lines ++ lines_of (drop used piece ++ more)
  pub rest : HasNoFeed (drop used piece)
  pub within : used ≤ length piece
  pub few : used + (LONGEST_LINE + 1) * p.seen ≤ (LONGEST_LINE + 1) * q.seen

-- a fault of a line of the piece, whatever bytes come behind it
abbrev pub IsRefusal : Story → Progress → List ℕ → MapError → Type 0
IsRefusal story p piece (Bad number cause) = (more : List ℕ) → IsFirstFault story p (lines_of (piece ++ more)) number cause
IsRefusal story p piece ReadFault = ⊥

-- these bytes stand in the file from this offset on, where that is told
abbrev pub IsKept : Option (List ℕ) → ℕ → List ℕ → Type 0
IsKept None at bytes = ⊤
IsKept (Some contents) at bytes = drop at contents ≡ bytes ++ drop (at + length bytes) contents

-- so many bytes more were read; none only at the end of the file
pub record IsMore (known : Option (List ℕ)) (at kept n : ℕ) (buf : List ℕ) : Type 0 where
  pub room : kept + n ≤ length buf
  pub stand : IsKept known at (take (kept + n) buf)
  pub ended : n ≡ 0 → IfSome known (λ contents. length contents ≤ at + kept)
