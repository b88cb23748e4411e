-- The bits of an entry of the branch target buffer.
use Rattle.std.specs.Prelude.{ℕ, not, Option}
use Rattle.bit_field.specs.Layouts as layouts
use Rattle.bit_field.specs.Layouts.{Layout, flip, number_of}
use Rattle.predictor.specs.Tables.{Target as Entry}
use Rattle.predictor.specs.declared.targets.BranchTargetField.{BranchTargetField}
use Rattle.predictor.specs.declared.targets.BranchTargetField.TheVariants.{Valid, Tag, Target}
use Rattle.predictor.specs.declared.targets.TheConstants.{BRANCH_TARGET_FIELDS}

-- the number of bits of each field, in bit order
abbrev pub width : BranchTargetField → ℕ
width Valid = 1
width Tag = 26
width Target = 30

-- the number that a field holds
abbrev pub value : Entry → BranchTargetField → ℕ
value x Valid = number_of x.valid
value x Tag = x.tag
value x Target = x.target

-- the entry with bit i of a field flipped
abbrev pub flip_in : Entry → BranchTargetField → ℕ → Entry
flip_in x Valid i = record x { valid = not x.valid }
flip_in x Tag i = record x { tag = flip x.tag i }
flip_in x Target i = record x { target = flip x.target i }

abbrev pub layout : Layout Entry BranchTargetField
layout = record { fields = BRANCH_TARGET_FIELDS; width = width; value = value; flip_in = flip_in }

-- each field is below its width
abbrev pub IsFit : Entry → Type 0
IsFit = layouts.IsFit layout

-- the field that holds bit k, and which of the field's own bits that is
abbrev pub field_of : ℕ → Option (BranchTargetField × ℕ)
field_of = layouts.field_of layout

-- bit k, 0 or 1
abbrev pub bit_of : Entry → ℕ → ℕ
bit_of = layouts.bit_of layout

-- the entry with bit k flipped
abbrev pub flipped : Entry → ℕ → Entry
flipped = layouts.flipped layout
