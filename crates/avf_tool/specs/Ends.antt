-- How a call of the tool ends.
use Rattle.std.specs.Prelude.{◌≡◌, ◌≢◌, ℕ, List, Option, Some, None, IfSome, ◌⊎◌, ◌↔◌, Result, Ok, Err}
use Rattle.avf_base.specs.Causes.{Rose}
use Rattle.avf_base.specs.Moves.{Grows, GrowsByFront}
use Rattle.avf_base.specs.Refusals.{status_of, line_of, Cause, ByWords, ByShelf, ByContents, ByOut, Free, cause_of}
use Rattle.avf_base.specs.declared.refusal.Refusal.{Refusal}
use Rattle.avf_base.specs.declared.refusal.Refusal.TheVariants.{Usage, BadImage, BadSource, BadMap, OutOfMemory}
use Rattle.avf_tool.specs.Answers.{answer}
use Rattle.avf_tool.specs.Due.{Answer, Text, Refused}
use Rattle.avf_tool.specs.Told.{told_to}
use Rattle.avf_tool.specs.Words.{Job}

-- a count of faults, before a call and after it
pub record Faults : Type 0 where
  pub before : ℕ
  pub now : ℕ

abbrev pub Rise : Faults → Type 0
Rise faults = Rose faults.before faults.now

-- what a sink took before a call and after it, where that is told, and its faults
pub record Use : Type 0 where
  pub old : Option (List ℕ)
  pub new : Option (List ℕ)
  pub faults : Faults

abbrev pub TookNothing : Use → Type 0
TookNothing sink = sink.new ≡ sink.old

-- from what a sink's trait says of it
abbrev pub use_of : {S : Type 0} → (S → Option (List ℕ)) → (S → ℕ) → S → S → Use
use_of taken count old new = record { old = taken old; new = taken new; faults = record { before = count old; now = count new } }

abbrev pub faults_of : {S : Type 0} → (S → ℕ) → S → S → Faults
faults_of count old new = record { before = count old; now = count new }

-- a front of the line was taken, and all of it where no fault came
pub record TookLine (line : List ℕ) (sink : Use) : Type 0 where
  pub front : GrowsByFront sink.old sink.new line
  pub whole : (Rise sink.faults → ⊥) → Grows sink.old sink.new line

-- this is due to a job whose files hold what is told
abbrev pub Due : Job → (List ℕ → Option (List ℕ)) → Answer → Type 0
Due job holds due = IfSome (told_to job holds) (λ contents. answer job holds contents due)

-- When a refusal comes, and what `out` took then.
abbrev pub ComesBy : Cause → Job → (List ℕ → Option (List ℕ)) → Faults → Use → Refusal → Type 0
ComesBy ByWords job holds shelf out refusal = ⊥
ComesBy ByShelf job holds shelf out refusal = Rise shelf × TookNothing out
ComesBy ByContents job holds shelf out refusal = Due job holds (Refused refusal) × TookNothing out
ComesBy ByOut job holds shelf out refusal =
    (text : List ℕ) × Due job holds (Text text) × Rise out.faults × GrowsByFront out.old out.new text
ComesBy Free job holds shelf out refusal = TookNothing out

abbrev pub Comes : Option Job → (List ℕ → Option (List ℕ)) → Faults → Use → Refusal → Type 0
Comes None holds shelf out refusal = (refusal ≡ Usage) × TookNothing out
Comes (Some job) holds shelf out refusal = ComesBy (cause_of refusal) job holds shelf out refusal

-- What a call of the tool does to `out`, and when it is refused.
abbrev pub Serves : Option Job → (List ℕ → Option (List ℕ)) → Faults → Use → Result (Unit {0}) Refusal → Type 0
Serves asked holds shelf out (Err refusal) = Comes asked holds shelf out refusal
Serves None holds shelf out (Ok done) = ⊥
Serves (Some job) holds shelf out (Ok done) = (text : List ℕ) × Due job holds (Text text) × Grows out.old out.new text

-- Which refusal is told. One whose line takes memory may be told as want of memory.
abbrev pub MayTell : Refusal → Refusal → Type 0
MayTell (BadImage k) told = (told ≡ BadImage k) ⊎ (told ≡ OutOfMemory)
MayTell (BadSource line cause) told = (told ≡ BadSource line cause) ⊎ (told ≡ OutOfMemory)
MayTell (BadMap line cause) told = (told ≡ BadMap line cause) ⊎ (told ≡ OutOfMemory)
MayTell refusal told = told ≡ refusal

-- What a call of the tool says on `err`, and its status.
abbrev pub Says : Use → ℕ → Result (Unit {0}) Refusal → Type 0
Says err status (Ok done) = (status ≡ 0) × TookNothing err
Says err status (Err refusal) = (status ≡ status_of refusal) × TookLine (line_of refusal) err

-- Some end serves so and says so: the whole meaning of a call of the tool.
abbrev pub Ends : Option Job → (List ℕ → Option (List ℕ)) → Faults → Use → Use → ℕ → Type 0
Ends asked holds shelf out err status = (end : Result (Unit {0}) Refusal) × Serves asked holds shelf out end × Says err status end

-- the status of an answer
abbrev pub status_due : Answer → ℕ
status_due (Text text) = 0
status_due (Refused refusal) = status_of refusal

-- The same, read by the status.
pub record ByStatus (asked : Option Job) (holds : List ℕ → Option (List ℕ)) (shelf : Faults) (out err : Use) (status : ℕ) : Type 0 where
  -- exactly where the words are no command
  pub usage : (status ≡ 2) ↔ (asked ≡ None)
  pub read_fault : status ≡ 3 → Rise shelf
  pub write_fault : status ≡ 7 → Rise out.faults
  -- each other status but 8 is the one that the contents are due
  pub due : (job : Job) (contents : List ℕ) (due : Answer) → asked ≡ Some job → told_to job holds ≡ Some contents → answer job holds contents due
      → (status ≡ status_due due) ⊎ ((status ≡ 3) ⊎ ((status ≡ 7) ⊎ (status ≡ 8)))
  -- the text is written, and at every status but 0 and 7 nothing
  pub text : (job : Job) (contents text : List ℕ) → status ≡ 0 → asked ≡ Some job → told_to job holds ≡ Some contents → answer job holds contents (Text text)
      → Grows out.old out.new text
  pub nothing : status ≢ 0 → status ≢ 7 → TookNothing out
  pub silent : status ≡ 0 → TookNothing err
  -- a command that meets no fault is answered by what is due, or by want of memory
  pub complete : (job : Job) (contents : List ℕ) (due : Answer) → asked ≡ Some job → told_to job holds ≡ Some contents → answer job holds contents due
      → (Rise shelf → ⊥) → (Rise out.faults → ⊥) → (status ≡ status_due due) ⊎ (status ≡ 8)

-- a count of faults that is always 0, as that of a shelf or a sink of which no call fails
abbrev pub NeverFails : {S : Type 0} → (S → ℕ) → Type 0
NeverFails {S} count = (s : S) → count s ≡ 0

-- neither the status of a read fault nor that of a write fault
pub record IsNoFault (status : ℕ) : Type 0 where
  pub no_read_fault : status ≢ 3
  pub no_write_fault : status ≢ 7
