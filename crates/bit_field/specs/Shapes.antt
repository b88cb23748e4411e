-- The places where a strike can flip a bit: the structures of the machine and the number of their bits,
-- by the shape of its data cache.
use Rattle.std.specs.Prelude.{◌≡◌, ◌⊎◌, ℕ, ◌-◌, ◌*◌, ◌<◌, ◌≤◌, ◌==◌, cond}
use Rattle.bit_field.specs.declared.places.Structure.{Structure}
use Rattle.bit_field.specs.declared.places.Structure.TheVariants.{Pc, Npc, Bht, Btb, Ib, IdEx, ExMem, MemWb, Rf, Sb, Port, CData, CTag, CValid, CDirty, CLru}
use Rattle.bit_field.specs.declared.places.Place.{Place}
use Rattle.bit_field.specs.declared.shapes.Shape.{Shape}
use Rattle.bit_field.specs.declared.shapes.TheConstants.{COUNTER_BITS, BHT_BITS, BTB_BITS, IB_BITS, ID_EX_BITS, EX_MEM_BITS, MEM_WB_BITS, RF_BITS}
use Rattle.bit_field.specs.declared.shapes.TheConstants.{SB_BITS, PORT_BITS}

-- a shape that the machine can have: its RAM in MiB, and the sets and ways of its data cache
pub record IsShape (s : Shape) : Type 0 where
  pub mib : (1 ≤ s.mib) × (s.mib ≤ 16)
  pub sets : (s.sets ≡ 16) ⊎ (s.sets ≡ 32) ⊎ (s.sets ≡ 64) ⊎ (s.sets ≡ 128)
  pub ways : (s.ways ≡ 1) ⊎ (s.ways ≡ 2) ⊎ (s.ways ≡ 4)

-- 1 MiB of RAM, 32 sets of 2 ways
abbrev pub plain : Shape
plain = record { mib = 1; sets = 32; ways = 2 }

-- the binary logarithm of the number of sets
abbrev pub index_bits : ℕ → ℕ
index_bits sets = cond (sets == 16) 4 (cond (sets == 32) 5 (cond (sets == 64) 6 7))

-- a line is an address divided by 16, so it has 28 bits; its tag is what its set leaves of them
abbrev pub tag_bits : Shape → ℕ
tag_bits s = 28 - index_bits s.sets

-- line slots
abbrev pub slots : Shape → ℕ
slots s = s.sets * s.ways

-- the number of bits of a structure
abbrev pub bits_in : Structure → Shape → ℕ
bits_in Pc s = COUNTER_BITS
bits_in Npc s = COUNTER_BITS
bits_in Bht s = BHT_BITS
bits_in Btb s = BTB_BITS
bits_in Ib s = IB_BITS
bits_in IdEx s = ID_EX_BITS
bits_in ExMem s = EX_MEM_BITS
bits_in MemWb s = MEM_WB_BITS
bits_in Rf s = RF_BITS
bits_in Sb s = SB_BITS
bits_in Port s = PORT_BITS
bits_in CData s = slots s * 128
bits_in CTag s = slots s * tag_bits s
bits_in CValid s = slots s
bits_in CDirty s = slots s
bits_in CLru s = s.sets * (s.ways - 1)

-- the place is a bit of its structure
abbrev pub IsPlaceIn : Shape → Place → Type 0
IsPlaceIn s p = p.bit < bits_in p.structure s
