-- What the code asks of a note and of the masks of words, for bits of the instruction buffer. No clause of a public call speaks of it.
use Rattle.std.specs.Prelude.{ℕ, ◌+◌, ◌==◌, Bool, true, false, not, ◌&&◌, ◌||◌, nat_le, nat_lt}
use Rattle.std.specs.Prelude.{List, Option, Some, None, slice_get, if◌then◌else◌}
use Rattle.std.specs.Int.{bit_at}
use Rattle.inst_buf.specs.declared.slots.SlotField.{SlotField}
use Rattle.inst_buf.specs.declared.slots.SlotField.TheVariants.{Valid, Pc, Word}
use Rattle.ace_rules.specs.declared.note.Note.{Note}
use Rattle.ace_rules.specs.declared.first_rule.RuleTests.{RuleTests}
use Rattle.ace_rules.specs.FirstRules.{no_rule}
use Rattle.ace_rules.specs.PipelineTests.{becomes_next, is_next}

-- the number on the path of the entry in slot i
unfoldable pub number_of_slot : Note → ℕ → ℕ
number_of_slot note i = if note.decoded then i + 1 else i

-- the slot holds an entry, on path or off it
unfoldable pub is_waiting : Note → ℕ → Bool
is_waiting note i = nat_lt i note.waiting

unfoldable pub is_on_path : Note → ℕ → Bool
is_on_path note i = is_waiting note i && nat_lt (number_of_slot note i) note.on_path

unfoldable pub is_off_path : Note → ℕ → Bool
is_off_path note i = is_waiting note i && nat_le note.on_path (number_of_slot note i)

abbrev pub is_slot_valid : SlotField → Bool
is_slot_valid Valid = true
is_slot_valid _ = false

unfoldable pub is_wrong : Note → ℕ → SlotField → ℕ → Bool
is_wrong note i Pc j = not (number_of_slot note i == note.on_path && becomes_next note j)
is_wrong note i _ j = true

-- all entries are on path, and the next instruction is at address 0
unfoldable pub is_zero_next : Note → Bool
is_zero_next note = number_of_slot note note.waiting == note.on_path && is_next note 0

unfoldable pub is_place : Note → ℕ → SlotField → Bool
is_place note i Valid = is_on_path note i || (not (is_waiting note i) && not (is_zero_next note))
is_place note i Pc = is_on_path note i
is_place note i _ = false

-- bit j of the mask that stands there, if one does
abbrev pub has_bit : Option ℕ → ℕ → Bool
has_bit None j = false
has_bit (Some mask) j = bit_at mask j == 1

unfoldable pub is_masked_in : List ℕ → ℕ → ℕ → Bool
is_masked_in words i j = has_bit (slice_get words i) j

unfoldable pub is_masked : Note → List ℕ → ℕ → SlotField → ℕ → Bool
is_masked note words i Word j = is_on_path note i && is_masked_in words (note.executed + number_of_slot note i) j
is_masked note words i _ j = false

unfoldable pub fetched_tests : Note → List ℕ → Bool → ℕ → SlotField → ℕ → RuleTests
fetched_tests note words quiet i field j =
    record no_rule {
      empty_place = not (is_waiting note i) && not (is_slot_valid field);
      wrong_path = quiet && (is_off_path note i && is_wrong note i field j);
      on_path = quiet && is_place note i field;
      masked = quiet && is_masked note words i field j;
    }
