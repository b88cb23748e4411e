-- What reading a whole file answers.
use Rattle.std.specs.Prelude.{◌≡◌, ℕ, ◌<◌, ◌≤◌, List, length, Option, IfSome, Result, Ok, Err, Vec, ⊤}
use Rattle.std.specs.declared.alloc.Global.{Global}
use Rattle.avf_base.specs.Causes.{Rose}
use Rattle.avf_base.specs.declared.transfer.ReadError.{ReadError}
use Rattle.avf_base.specs.declared.transfer.ReadError.TheVariants.{TooLong, Failed, OutOfMemory}

-- `known` is what the file holds, where that is told, and the two numbers are the shelf's faults before the call and after it.
-- The answer is all of the file, at most `limit` bytes, or `TooLong` where it has more,
-- or `Failed`, only where the count of faults rose, or `OutOfMemory`.
abbrev pub IsFileRead : Option (List ℕ) → ℕ → ℕ → ℕ → Result (Vec ℕ Global) ReadError → Type 0
IsFileRead known limit before now (Ok v) = (length v.items ≤ limit) × IfSome known (λ contents. v.items ≡ contents)
IsFileRead known limit before now (Err TooLong) = IfSome known (λ contents. limit < length contents)
IsFileRead known limit before now (Err Failed) = Rose before now
IsFileRead known limit before now (Err OutOfMemory) = ⊤
