-- Other values in place of those that the latches write.
use Rattle.std.specs.Prelude.{◌≡◌, ℕ, ◌==◌, ◌&&◌, ◌||◌, Bool, false, true, not, is_none, Option, Some, None, if◌then◌else◌}
use Rattle.elf_load.specs.Image.{LoadedImage}
use Rattle.rv_table.specs.Arithmetic.{alu}
use Rattle.rv_table.specs.Operations.{operation_of}
use Rattle.rv_table.specs.declared.action.Action.{Action}
use Rattle.rv_table.specs.declared.action.Action.TheVariants.{Writes}
use Rattle.rv_table.specs.declared.operation.Operation.{Operation}
use Rattle.rv_table.specs.declared.operation.Operation.TheVariants.{Alu, AluImmediate}
use Rattle.pipe_latch.specs.Latches.{DecodedLatch, ResultLatch}
use Rattle.need_pass.specs.Tables.{Needs}
use Rattle.eval_mask.specs.Aftermaths.{doing_after, left_by, write_held}
use Rattle.eval_mask.specs.Compared.{SameWhere, need_at}
use Rattle.eval_mask.specs.declared.cases.Case.{Case}
use Rattle.eval_mask.specs.declared.completing.Aftermath.{Aftermath}
use Rattle.eval_mask.specs.declared.completing.Change.{Change}
use Rattle.eval_mask.specs.declared.completing.Write.{Write}
use Rattle.eval_mask.specs.declared.written.Lasting.{Lasting}

-- the needed bits of register rd, none where it is written again
abbrev pub unless_replaced : ℕ → ℕ → Write → ℕ
unless_replaced mask rd by = if by.rd == rd then 0 else mask

-- The bits of the written values that are needed before instruction j: none of a value that a later one replaces, and none where the
-- run has ended.
pub record IsLasting (needs : Needs) (j : ℕ) (own : Aftermath) (lasting : Lasting) : Type 0 where
  pub first : own.end ≡ None → lasting.first
      ≡ unless_replaced (unless_replaced (need_at needs own.first.rd j) own.first.rd own.below.write) own.first.rd own.above.write
  pub below : own.end ≡ None → lasting.below ≡ unless_replaced (need_at needs own.below.write.rd j) own.below.write.rd own.above.write
  pub above : own.end ≡ None → lasting.above ≡ need_at needs own.above.write.rd j
  pub ended : is_none own.end ≡ false → (lasting.first ≡ 0) × (lasting.below ≡ 0) × (lasting.above ≡ 0)

-- what is left, with other values
abbrev pub with_value : Change → ℕ → Change
with_value change value = record change { write = record change.write { value = value } }

abbrev pub with_values : Aftermath → ℕ → ℕ → ℕ → Aftermath
with_values own first below above =
    record own { first = record own.first { value = first }; below = with_value own.below below; above = with_value own.above above }

-- these values are the same as those of a case in the bits that last
pub record SameValues (case : Case) (x y z : ℕ) : Type 0 where
  pub first : SameWhere 32 case.lasting.first x case.own.first.value
  pub below : SameWhere 32 case.lasting.below y case.own.below.write.value
  pub above : SameWhere 32 case.lasting.above z case.own.above.write.value

-- an action that writes a value into a register, and does nothing else
abbrev pub is_write : Action → Bool
is_write (Writes rd value) = true
is_write _ = false

-- what ID/EX writes with these operands, where it does nothing else
abbrev pub plain_by : Operation → ℕ → ℕ → ℕ → Option ℕ
plain_by (AluImmediate kind) a held immediate = Some (alu kind a immediate)
plain_by (Alu kind) a held immediate = Some (alu kind a held)
plain_by _ a held immediate = None

abbrev pub plain_value : DecodedLatch → ℕ → ℕ → Option ℕ
plain_value d a held = plain_by (operation_of d.op) a held d.imm

-- ID/EX is completed and takes the value of register rd
abbrev pub is_taken : Case → DecodedLatch → ℕ → Bool
is_taken case d rd = case.reached && (not (rd == 0) && (d.rs1 == rd || d.rs2 == rd))

-- an operand once register rd has another value
abbrev pub operand_given : ℕ → ℕ → ℕ → ℕ → ℕ
operand_given rs rd value held = if rs == rd then value else held

-- what is left where EX/MEM writes another value, which a completed ID/EX takes
abbrev pub left_below : LoadedImage → ResultLatch → DecodedLatch → (ℕ → ℕ) → Case → ℕ → Aftermath
left_below image w d memory case value =
    let below = with_value case.own.below value in
    if case.reached
    then left_by image case.own.first below (doing_after image w d below.write case.issued) memory
    else record case.own { below = below }

-- what is left where MEM/WB is another one
abbrev pub left_first : LoadedImage → ResultLatch → DecodedLatch → (ℕ → ℕ) → Case → Aftermath
left_first image w d memory case =
    if case.reached
    then left_by image (write_held w) case.own.below (doing_after image w d case.own.below.write case.issued) memory
    else record case.own { first = write_held w }
