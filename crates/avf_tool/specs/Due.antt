-- What a command can answer, and when it is due.
use Rattle.std.specs.Prelude.{◌≡◌, ℕ, List}
use Rattle.avf_base.specs.declared.refusal.Refusal.{Refusal}

-- a text, or a refusal
pub data Answer : Type 0 where
  Text : List ℕ → Answer
  Refused : Refusal → Answer

-- this answer is due, and no other
abbrev pub only : Answer → Answer → Type 0
only answer due = answer ≡ due
