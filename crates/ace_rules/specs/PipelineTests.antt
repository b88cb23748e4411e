-- What the code asks of a note and of the needs, for bits of the pipeline and of registers. No clause of a public call speaks of it.
use Rattle.std.specs.Prelude.{◌≡◌, ◌↔◌, ℕ, ⊤, ◌+◌, ◌-◌, ◌/◌, ◌%◌, ◌==◌, Bool, true, false, not, ◌&&◌, ◌||◌, nat_lt}
use Rattle.std.specs.Prelude.{Option, Some, None, if◌then◌else◌}
use Rattle.std.specs.Int.{bit_at}
use Rattle.bit_field.specs.declared.places.Structure.{Structure}
use Rattle.bit_field.specs.declared.places.Structure.TheVariants.{Pc, Bht, Btb, Port, CLru}
use Rattle.bit_field.specs.Layouts.{flip}
use Rattle.pipe_latch.specs.declared.id_ex.IdExField.{IdExField}
use Rattle.pipe_latch.specs.declared.id_ex.IdExField.TheVariants as of_decoded
use Rattle.pipe_latch.specs.declared.ex_mem.ExMemField.{ExMemField}
use Rattle.pipe_latch.specs.declared.ex_mem.ExMemField.TheVariants as of_executed
use Rattle.pipe_latch.specs.declared.mem_wb.MemWbField.{MemWbField}
use Rattle.pipe_latch.specs.declared.mem_wb.MemWbField.TheVariants as of_result
use Rattle.need_pass.specs.Tables.{Needs, reg_need}
use Rattle.ace_class.specs.declared.class.Class.{Class}
use Rattle.ace_law.specs.Classes.{IsClass}
use Rattle.ace_law.specs.Moments.{IsQuiet, Moment}
use Rattle.ace_rules.specs.declared.note.Note.{Note}
use Rattle.ace_rules.specs.declared.first_rule.RuleTests.{RuleTests}
use Rattle.ace_rules.specs.FirstRules.{no_rule}

-- ---- registers

-- how many instructions have left EX or are held on path by ID/EX
unfoldable pub decoded_by : Note → ℕ
decoded_by note = if note.decoded_on_path then note.executed + 1 else note.executed

-- MEM/WB, EX/MEM or, on path, ID/EX writes the register
unfoldable pub is_overwritten : Note → ℕ → Bool
is_overwritten note r = note.result_rd == r || (note.executed_rd == r || (note.decoded_on_path && note.decoded_rd == r))

unfoldable pub is_needed : Needs → Note → ℕ → ℕ → Bool
is_needed needs note r k = bit_at (reg_need needs r (decoded_by note)) k == 1

unfoldable pub register_tests : Needs → Note → Bool → ℕ → RuleTests
register_tests needs note quiet k =
    record no_rule { dead_register = quiet && (is_overwritten note (k / 32 + 1) || not (is_needed needs note (k / 32 + 1) (k % 32))) }

-- ---- prediction and timing

-- the structures whose bits all only change what is predicted, or when something is done
abbrev pub IsOfTiming : Structure → Type 0
IsOfTiming Pc = ⊤
IsOfTiming Bht = ⊤
IsOfTiming Btb = ⊤
IsOfTiming Port = ⊤
IsOfTiming CLru = ⊤
IsOfTiming _ = ⊥

-- this is the class of each bit of each of them in a moment, by whether it is quiet
abbrev pub IsTimingClass : Class → Bool → Type 0
IsTimingClass class quiet =
    (a : Moment) (s : Structure) (k : ℕ) → ((quiet ≡ true) ↔ IsQuiet a) → IsOfTiming s → IsClass class a (record { structure = s; bit = k })

unfoldable pub timing_tests : Bool → RuleTests
timing_tests quiet = record no_rule { timing = quiet }

-- ---- MEM/WB and EX/MEM

abbrev pub is_value : MemWbField → Bool
is_value of_result.Value = true
is_value _ = false

abbrev pub is_executed_valid : ExMemField → Bool
is_executed_valid of_executed.Valid = true
is_executed_valid _ = false

abbrev pub is_cause : ExMemField → Bool
is_cause of_executed.Cause = true
is_cause _ = false

unfoldable pub result_tests : Note → Bool → ℕ → MemWbField → RuleTests
result_tests note quiet k field =
    record no_rule { empty_place = note.result_rd == 0 && is_value field; masked = quiet && bit_at note.masks.memwb k == 1 }

unfoldable pub executed_tests : Note → Bool → ℕ → ExMemField → RuleTests
executed_tests note quiet k field =
    record no_rule {
      empty_place = not note.occupied && not (is_executed_valid field);
      masked = quiet && bit_at note.masks.exmem k == 1;
      no_trap_cause = note.occupied && (not note.traps && is_cause field);
    }

-- ---- what is on path

abbrev pub is_address : Option ℕ → ℕ → Bool
is_address None pc = false
is_address (Some next) pc = pc == next

-- an instruction comes behind the entries on path, and is at this word address
unfoldable pub is_next : Note → ℕ → Bool
is_next note pc = is_address note.next pc

-- the same of an address with bit j flipped, if there is one
abbrev pub is_next_flipped : Note → Option ℕ → ℕ → Bool
is_next_flipped note None j = false
is_next_flipped note (Some pc) j = is_next note (flip pc j)

-- the first entry that isn't on path would be there with bit j of its address flipped
unfoldable pub becomes_next : Note → ℕ → Bool
becomes_next note j = is_next_flipped note note.missed j

-- ---- ID/EX

abbrev pub is_count : IdExField → Bool
is_count of_decoded.Count = true
is_count _ = false

abbrev pub is_unused_decoded : IdExField → Bool
is_unused_decoded of_decoded.Valid = false
is_unused_decoded of_decoded.Count = false
is_unused_decoded _ = true

unfoldable pub is_wrong_decoded : Note → IdExField → ℕ → Bool
is_wrong_decoded note of_decoded.Pc j = not (becomes_next note j)
is_wrong_decoded note of_decoded.Count j = false
is_wrong_decoded note _ j = true

unfoldable pub is_place_of_decoded : Note → IdExField → Bool
is_place_of_decoded note of_decoded.Valid = note.decoded_on_path || (not note.decoded && not note.decoded_next)
is_place_of_decoded note of_decoded.Pc = note.decoded_on_path
is_place_of_decoded note _ = false

unfoldable pub is_masked_decoded : Note → ℕ → Bool
is_masked_decoded note k = if nat_lt k 128 then bit_at note.masks.idex_low k == 1 else bit_at note.masks.idex_high (k - 128) == 1

unfoldable pub decoded_tests : Note → Bool → ℕ → IdExField → ℕ → RuleTests
decoded_tests note quiet k field j =
    record no_rule {
      timing = quiet && is_count field;
      empty_place = not note.decoded && is_unused_decoded field;
      wrong_path = quiet && (note.decoded && (not note.decoded_on_path && is_wrong_decoded note field j));
      on_path = quiet && is_place_of_decoded note field;
      masked = quiet && is_masked_decoded note k;
    }
