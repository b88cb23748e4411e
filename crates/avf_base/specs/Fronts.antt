-- What was read of a file so far.
use Rattle.std.specs.Prelude.{◌≡◌, ◌<◌, ℕ, List, ◌++◌, length, drop, Bool, true, false, Option, None, Some, IfSome, Result, Ok, Err, ⊤}
use Rattle.avf_base.specs.Causes.{Rose}
use Rattle.avf_base.specs.declared.transfer.ReadError.{ReadError}
use Rattle.avf_base.specs.declared.transfer.ReadError.TheVariants.{TooLong, Failed, OutOfMemory}

-- these bytes are a front of the contents, where those are told
abbrev pub IsFront : Option (List ℕ) → List ℕ → Type 0
IsFront None bytes = ⊤
IsFront (Some contents) bytes = contents ≡ bytes ++ drop (length bytes) contents

-- `true`: the bytes grew, and are a front again. `false`: they are all that there is.
abbrev pub MoreRead : Bool → Option (List ℕ) → List ℕ → List ℕ → Type 0
MoreRead true known old new = (length old < length new) × IsFront known new
MoreRead false known old new = (new ≡ old) × IfSome known (λ contents. contents ≡ old)

-- `Failed` comes only where the count rose, and `TooLong` never
abbrev pub MayFail : {T : Type 0} → ℕ → ℕ → Result T ReadError → Type 0
MayFail before now (Ok x) = ⊤
MayFail before now (Err Failed) = Rose before now
MayFail before now (Err OutOfMemory) = ⊤
MayFail before now (Err TooLong) = ⊥
