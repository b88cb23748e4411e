-- A refusal that is told as want of memory.
use Rattle.std.proofs.Common.{◌≡◌, ℕ, List, Option, None, Some, rules, sym, subst, inl, inr}
use Rattle.avf_base.specs.declared.refusal.Refusal.{Refusal}
use Rattle.avf_base.specs.declared.refusal.Refusal.TheVariants.{Usage, ReadFault, BadImage, NoEnd, NoSuchBit, WriteFault, OutOfMemory, BadSource, BadMap}
use Rattle.avf_tool.specs.Ends.{Comes, MayTell, Faults, Use}
use Rattle.avf_tool.specs.Words.{Job}

same : (asked : Option Job) (holds : List ℕ → Option (List ℕ)) (shelf : Faults) (out : Use) (r told : Refusal) → told ≡ r → Comes asked holds shelf out r
    → Comes asked holds shelf out told
same asked holds shelf out r told e h = subst (Comes asked holds shelf out) (sym e) h

image_told : (asked : Option Job) (holds : List ℕ → Option (List ℕ)) (shelf : Faults) (out : Use) (k : ℕ) → Comes asked holds shelf out (BadImage k)
    → Comes asked holds shelf out OutOfMemory
image_told None holds shelf out k h = search rules
image_told (Some job) holds shelf out k h = h.1

source_told : (asked : Option Job) (holds : List ℕ → Option (List ℕ)) (shelf : Faults) (out : Use) (line cause : ℕ)
    → Comes asked holds shelf out (BadSource line cause) → Comes asked holds shelf out OutOfMemory
source_told None holds shelf out line cause h = search rules
source_told (Some job) holds shelf out line cause h = h.1

map_told : (asked : Option Job) (holds : List ℕ → Option (List ℕ)) (shelf : Faults) (out : Use) (line cause : ℕ)
    → Comes asked holds shelf out (BadMap line cause) → Comes asked holds shelf out OutOfMemory
map_told None holds shelf out line cause h = search rules
map_told (Some job) holds shelf out line cause h = h.1

pub retold : (asked : Option Job) (holds : List ℕ → Option (List ℕ)) (shelf : Faults) (out : Use) (r told : Refusal) → MayTell r told
    → Comes asked holds shelf out r → Comes asked holds shelf out told
retold asked holds shelf out (BadImage k) told (inl e) h = same asked holds shelf out (BadImage k) told e h
retold asked holds shelf out (BadImage k) told (inr e) h = same asked holds shelf out OutOfMemory told e (image_told asked holds shelf out k h)
retold asked holds shelf out (BadSource line cause) told (inl e) h = same asked holds shelf out (BadSource line cause) told e h
retold asked holds shelf out (BadSource line cause) told (inr e) h =
    same asked holds shelf out OutOfMemory told e (source_told asked holds shelf out line cause h)
retold asked holds shelf out (BadMap line cause) told (inl e) h = same asked holds shelf out (BadMap line cause) told e h
retold asked holds shelf out (BadMap line cause) told (inr e) h =
    same asked holds shelf out OutOfMemory told e (map_told asked holds shelf out line cause h)
retold asked holds shelf out Usage told e h = same asked holds shelf out Usage told e h
retold asked holds shelf out ReadFault told e h = same asked holds shelf out ReadFault told e h
retold asked holds shelf out NoEnd told e h = same asked holds shelf out NoEnd told e h
retold asked holds shelf out NoSuchBit told e h = same asked holds shelf out NoSuchBit told e h
retold asked holds shelf out WriteFault told e h = same asked holds shelf out WriteFault told e h
retold asked holds shelf out OutOfMemory told e h = same asked holds shelf out OutOfMemory told e h
