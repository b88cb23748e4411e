-- The need of one register or byte over a run, as the instructions at which it changes.
use Rattle.std.specs.Prelude.{⊤, ℕ, ◌<◌, ◌≤◌, List, [], ◌∷◌, length, nat_le, slice_index_or, Option, Some, None, option_map, if◌then◌else◌}
use Rattle.std.specs.BTreeMap.{is_at}
use Rattle.std.specs.Map.{lookup}
use Rattle.std.specs.Option.{unwrap_or}
use Rattle.std.specs.Ordering.{nat_cmp}
use Rattle.need_pass.specs.declared.history.Change.{Change}

-- The mask before instruction i: that of the last change that stands at i or later, and `mask` where there is none. The changes
-- stand from the last instruction to the first.
unfoldable pub mask_after : ℕ → List Change → ℕ → ℕ
mask_after mask [] i = mask
mask_after mask (change ∷ earlier) i = if nat_le i change.at then mask_after change.mask earlier i else mask

-- nothing is needed after the last change
abbrev pub mask_at : List Change → ℕ → ℕ
mask_at changes i = mask_after 0 changes i

-- the last change that stands at instruction i or later, and `last` where there is none
unfoldable pub change_after : Option Change → List Change → ℕ → Option Change
change_after last [] i = last
change_after last (change ∷ earlier) i = if nat_le i change.at then change_after (Some change) earlier i else last

-- the last instruction up to and with which the mask is that before instruction i, none where it is so for ever
abbrev pub until_at : List Change → ℕ → Option ℕ
until_at changes i = option_map (λ change. change.at) (change_after None changes i)

-- instruction k isn't behind the last one, if there is a last one
abbrev pub IsUpTo : ℕ → Option ℕ → Type 0
IsUpTo k None = ⊤
IsUpTo k (Some last) = k ≤ last

-- each change stands at an earlier instruction than the one before it
abbrev pub IsFalling : List Change → Type 0
IsFalling changes = (i j : ℕ) (d : Change) → i < j → j < length changes → (slice_index_or changes j d).at < (slice_index_or changes i d).at

-- the changes of the byte at address p, none where no change is kept
abbrev pub changes_of : List (ℕ × List Change) → ℕ → List Change
changes_of histories p = unwrap_or (lookup (is_at (nat_cmp p)) histories) []
