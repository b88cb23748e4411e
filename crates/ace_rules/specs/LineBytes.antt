-- What the code asks of the eight data bits of a byte of a line slot at once. No clause of a public call speaks of it.
use Rattle.std.specs.Prelude.{◌≡◌, ◌<◌, ℕ, List, [], ◌∷◌}
use Rattle.line_life.specs.Lives.{Lives, next_in}
use Rattle.need_pass.specs.Tables.{Needs}
use Rattle.slot_history.specs.Histories.{Histories}
use Rattle.slot_history.specs.declared.changes.Held.{Held}
use Rattle.ace_rules.specs.LineData.{data_class_in}
use Rattle.ace_rules.specs.RuleMasks.{first_of}
use Rattle.ace_rules.specs.Stays.{IsDataUntil}
use Rattle.ace_rules.specs.declared.line_bytes.ByteStay.{ByteStay}
use Rattle.ace_rules.specs.declared.note.Note.{Note}

-- The classes of the bits of byte o of slot l, which are un-ACE where the rule has the bit, and up to which cycle they stay, by what the slot
-- holds up to cycle `change`.
pub record IsByteStay (needs : Needs) (notes : List Note) (note : Note) (quiet : ℕ) (life : Lives) (lines : Histories) (l o from change : ℕ)
    (held : Held) (stay : ByteStay) : Type 0 where
  pub classes : (j : ℕ) → j < 8 → first_of (stay.found ∷ []) j ≡ data_class_in needs notes quiet lines from l o j held (next_in life l o from)
  pub stays : (j : ℕ) → j < 8 → IsDataUntil needs notes note quiet life l o j from change held stay.until
