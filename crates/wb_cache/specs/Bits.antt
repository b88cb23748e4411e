-- The bits of the cache: of each of its five arrays, element after element, each from its lowest bit.
use Rattle.std.specs.Prelude.{ℕ, ◌^◌, ◌<◌, ⊤, List, bit_xor}
use Rattle.std.specs.Int.{bit_at}
use Rattle.bit_field.specs.Arrays.{bit_of_array, flip_array, bit_of_flags, flip_flag}
use Rattle.bit_field.specs.Shapes.{tag_bits, bits_in}
use Rattle.bit_field.specs.declared.places.Place.{Place}
use Rattle.bit_field.specs.declared.places.Structure.{Structure}
use Rattle.bit_field.specs.declared.places.Structure.TheVariants.{CData, CTag, CValid, CDirty, CLru}
use Rattle.wb_cache.specs.Contents.{Contents}

-- bit k of byte b is bit 8 b + k
abbrev pub bit_of_data : List ℕ → ℕ → ℕ
bit_of_data = bit_of_array 8 0 bit_at

abbrev pub flip_data : List ℕ → ℕ → List ℕ
flip_data = flip_array 8 0 (λ v j. bit_xor v (2 ^ j))

-- bit k of slot l is bit width * l + k
abbrev pub bit_of_tags : ℕ → List ℕ → ℕ → ℕ
bit_of_tags width = bit_of_array width 0 bit_at

abbrev pub flip_tag : ℕ → List ℕ → ℕ → List ℕ
flip_tag width = flip_array width 0 (λ v j. bit_xor v (2 ^ j))

-- a bit of one of the five structures of the cache
abbrev pub bit_in : Structure → Contents → ℕ → ℕ
bit_in CData c k = bit_of_data c.bytes k
bit_in CTag c k = bit_of_tags (tag_bits c.shape) c.tags k
bit_in CValid c k = bit_of_flags c.valid k
bit_in CDirty c k = bit_of_flags c.dirty k
bit_in CLru c k = bit_of_flags c.nodes k
bit_in _ c k = 0

-- the contents with that bit flipped, and nothing else changed
abbrev pub flip_in : Structure → Contents → ℕ → Contents
flip_in CData c k = record c { bytes = flip_data c.bytes k }
flip_in CTag c k = record c { tags = flip_tag (tag_bits c.shape) c.tags k }
flip_in CValid c k = record c { valid = flip_flag c.valid k }
flip_in CDirty c k = record c { dirty = flip_flag c.dirty k }
flip_in CLru c k = record c { nodes = flip_flag c.nodes k }
flip_in _ c k = c

abbrev pub IsCache : Structure → Type 0
IsCache CData = ⊤
IsCache CTag = ⊤
IsCache CValid = ⊤
IsCache CDirty = ⊤
IsCache CLru = ⊤
IsCache _ = ⊥

-- a place in one of the five structures
abbrev pub IsCachePlace : Contents → Place → Type 0
IsCachePlace c p = IsCache p.structure × (p.bit < bits_in p.structure c.shape)
