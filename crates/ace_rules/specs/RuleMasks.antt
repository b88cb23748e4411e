-- The classes of bits by masks of the rules.
use Rattle.std.specs.Prelude.{ℕ, ◌+◌, ◌-◌, ◌==◌, ◌&&◌, nat_le, nat_lt, Bool, List, [], ◌∷◌, if◌then◌else◌}
use Rattle.std.specs.Int.{bit_at}
use Rattle.elf_load.specs.Image.{LoadedImage}
use Rattle.need_pass.specs.Tables.{Needs}
use Rattle.store_buf.specs.EntryBits.{flipped}
use Rattle.store_buf.specs.Pending.{slot_of}
use Rattle.ace_class.specs.declared.class.Class.{Class}
use Rattle.ace_class.specs.declared.class.Class.TheVariants.{Ace, UnAce}
use Rattle.ace_rules.specs.Asked.{is_harmless_in}
use Rattle.ace_rules.specs.PipelineTests.{becomes_next}
use Rattle.ace_rules.specs.declared.note.Note.{Note}
use Rattle.ace_rules.specs.declared.tally.RuleMask.{RuleMask}

-- a bit of a mask is set
abbrev pub is_set : ℕ → ℕ → Bool
is_set mask k = bit_at mask k == 1

-- the class of bit k: un-ACE by the first rule whose mask has the bit
abbrev pub first_of : List RuleMask → ℕ → Class
first_of [] k = Ace
first_of (m ∷ masks) k = if is_set m.mask k then UnAce m.rule else first_of masks k

-- bit k is one of `count` bits from bit `first` on, and passes a test of its place among them
abbrev pub is_place_of : (ℕ → Bool) → ℕ → ℕ → ℕ → Bool
is_place_of test first count k = nat_le first k && (nat_lt k (first + count) && test (k - first))

-- bit k is one of an address that begins at bit `first`, and with it flipped the first entry that isn't on path would be the next instruction
abbrev pub is_next_bit : Note → ℕ → ℕ → Bool
is_next_bit note first k = is_place_of (becomes_next note) first 30 k

-- it does no harm that the store in slot i, with its address changed, no longer writes the bytes of its word
abbrev pub is_left_harmless : LoadedImage → Needs → Note → ℕ → Bool
is_left_harmless image needs note i = is_harmless_in image needs note i (flipped (slot_of note.stores i) 4) (slot_of note.stores i).addr

-- it does no harm that the store with bit b flipped writes the bytes of the word that it then names
abbrev pub is_met_harmless : LoadedImage → Needs → Note → ℕ → ℕ → Bool
is_met_harmless image needs note i b =
    is_harmless_in image needs note i (flipped (slot_of note.stores i) b) (flipped (slot_of note.stores i) b).addr
