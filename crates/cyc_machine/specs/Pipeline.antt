-- The pipeline in one cycle: what becomes of ID/EX, and the next value of each part by one equation over the old state.
use Rattle.std.specs.Prelude.{ℕ, ◌-◌, ◌==◌, ◌&&◌, Bool, true, false, nat_lt, if◌then◌else◌, List, [], ◌∷◌, ◌++◌, length, Option, Some, None, pred, drop}
use Rattle.std.specs.Prelude.{slice_get, slice_index, slice_set}
use Rattle.elf_load.specs.Image.{LoadedImage, fetch}
use Rattle.rv_table.specs.Actions.{is_counter, with_counter}
use Rattle.rv_table.specs.Operations.{delay_of}
use Rattle.rv_table.specs.Words.{decode}
use Rattle.rv_table.specs.declared.op.TheConstants.{FETCH_FAULT_CODE}
use Rattle.rv_table.specs.declared.op.Op.{Op}
use Rattle.rv_table.specs.declared.action.Action.{Action}
use Rattle.pipe_latch.specs.Latches.{DecodedLatch, ExecutedLatch, ResultLatch, no_decoded, no_executed, op_of_latch}
use Rattle.pipe_latch.specs.Forwarding.{late, operand}
use Rattle.pipe_latch.specs.Execution.{executed, learned, next_of}
use Rattle.pipe_latch.specs.declared.forward.Forwarded.{Forwarded}
use Rattle.pipe_latch.specs.declared.forward.Forwarded.TheVariants.{Value, Wait}
use Rattle.rv_isa.specs.Instruction.{next_count}
use Rattle.predictor.specs.Tables.{Tables, trained}
use Rattle.inst_buf.specs.Entry.{Entry}
use Rattle.inst_buf.specs.declared.buffer.TheConstants.{SLOTS}
use Rattle.cyc_machine.specs.declared.fate.Fate.{Fate}
use Rattle.cyc_machine.specs.declared.fate.Fate.TheVariants.{Absent, Dropped, Stays, Goes}

-- the register file: registers 1 to 31 in order
unfoldable pub register : List ℕ → ℕ → ℕ
register registers r = if r == 0 then 0 else slice_index registers (r - 1)

-- the register file takes W
unfoldable pub written_registers : ResultLatch → List ℕ → List ℕ
written_registers w registers = if w.rd == 0 then registers else slice_set registers (w.rd - 1) w.value

-- EX.

abbrev pub goes_with : Forwarded → Forwarded → Fate
goes_with (Value a) (Value b) = Goes a b
goes_with Wait _ = Stays
goes_with (Value a) Wait = Stays

-- operand b of D; a counter never waits
unfoldable pub operand_b : DecodedLatch → Action → ResultLatch → Forwarded
operand_b d m w = if is_counter (op_of_latch d) then Value 0 else operand m w d.rs2 d.b

-- `mem_goes`: whether M leaves in this cycle
unfoldable pub fate_of : DecodedLatch → ℕ → Action → ResultLatch → Bool → Fate
fate_of d npc m w mem_goes =
    if d.valid then
    (if d.pc == npc then
    (if d.count == 0 && mem_goes then goes_with (operand m w d.rs1 d.a) (operand_b d m w) else Stays)
    else Dropped)
    else Absent

-- operand b as EX takes it: a counter read gets the number of this cycle, or the count of instructions that left EX before
unfoldable pub counted : DecodedLatch → ℕ → ℕ → ℕ → ℕ
counted d cycle issued b = with_counter (op_of_latch d) cycle issued b

-- the next EX/MEM
unfoldable pub executed_after : LoadedImage → Fate → Bool → DecodedLatch → ℕ → ℕ → ExecutedLatch → ExecutedLatch
executed_after image (Goes a b) mem_goes d cycle issued m = executed image d a (counted d cycle issued b)
executed_after image _ mem_goes d cycle issued m = if mem_goes then no_executed else m

unfoldable pub npc_after : Fate → DecodedLatch → ℕ → ℕ → ℕ → ℕ
npc_after (Goes a b) d cycle issued npc = next_of d a (counted d cycle issued b)
npc_after _ d cycle issued npc = npc

unfoldable pub issued_after : Fate → ℕ → ℕ
issued_after (Goes a b) issued = next_count issued
issued_after _ issued = issued

-- what the predictor learns in this cycle: the address, whether it was taken, and where it went
unfoldable pub lesson : Fate → DecodedLatch → ℕ → ℕ → Option (Bool × ℕ)
lesson (Goes a b) d cycle issued = learned d a (counted d cycle issued b)
lesson _ d cycle issued = None

abbrev pub trained_by : Option (Bool × ℕ) → ℕ → Tables → Tables
trained_by (Some (taken, target)) pc tables = trained tables pc taken target
trained_by None pc tables = tables

-- ID.

-- the operation of an entry: its word's, and the fetch fault's code where its fault bit is set
abbrev pub op_of_entry : Entry → Op
op_of_entry e = if e.fault then record (decode e.word) { code = FETCH_FAULT_CODE } else decode e.word

-- the value that decoding holds for a register
abbrev pub held_value : ResultLatch → List ℕ → ℕ → ℕ
held_value w registers rs = if rs == 0 then 0 else late w rs (register registers rs)

unfoldable pub decoded : Entry → ResultLatch → List ℕ → DecodedLatch
decoded e w registers =
    let op = op_of_entry e in
    record {
      valid = true;
      pc = e.pc;
      op = op.code;
      rd = op.rd;
      rs1 = op.rs1;
      rs2 = op.rs2;
      a = held_value w registers op.rs1;
      b = held_value w registers op.rs2;
      imm = op.imm;
      count = delay_of op.code;
    }

-- D once the first entry is taken, or no D where there is none
abbrev pub taken : Option Entry → ResultLatch → List ℕ → DecodedLatch
taken None w registers = no_decoded
taken (Some e) w registers = decoded e w registers

-- D that stays takes the late values, and waits one cycle less
abbrev pub stalled : DecodedLatch → ResultLatch → DecodedLatch
stalled d w = record d { a = late w d.rs1 d.a; b = late w d.rs2 d.b; count = pred d.count }

unfoldable pub decoded_after : Fate → DecodedLatch → List Entry → ResultLatch → List ℕ → DecodedLatch
decoded_after Dropped d entries w registers = no_decoded
decoded_after Stays d entries w registers = stalled d w
decoded_after _ d entries w registers = taken (slice_get entries 0) w registers

-- IF.

abbrev pub entry_of_word : ℕ → Option ℕ → Entry
entry_of_word pc (Some word) = record { valid = true; fault = false; pc = pc; word = word }
entry_of_word pc None = record { valid = true; fault = true; pc = pc; word = 0 }

-- the entry that is fetched at a word address
abbrev pub fetched : LoadedImage → ℕ → Entry
fetched image pc = entry_of_word pc (fetch image pc)

-- the entries after fetching one more where a slot is free
abbrev pub filled : LoadedImage → ℕ → List Entry → List Entry
filled image pc entries = if nat_lt (length entries) SLOTS then entries ++ fetched image pc ∷ [] else entries

unfoldable pub entries_after : LoadedImage → Fate → ℕ → List Entry → List Entry
entries_after image Dropped pc entries = []
entries_after image Absent pc entries = filled image pc (drop 1 entries)
entries_after image Stays pc entries = filled image pc entries
entries_after image (Goes a b) pc entries = filled image pc (drop 1 entries)

-- fetching goes on at the predicted address where a slot is free
abbrev pub if_room : ℕ → ℕ → ℕ → ℕ
if_room remaining predicted pc = if nat_lt remaining SLOTS then predicted else pc

unfoldable pub pc_after : Fate → ℕ → List Entry → ℕ → ℕ → ℕ
pc_after Dropped predicted entries npc pc = npc
pc_after Absent predicted entries npc pc = if_room (length (drop 1 entries)) predicted pc
pc_after Stays predicted entries npc pc = if_room (length entries) predicted pc
pc_after (Goes a b) predicted entries npc pc = if_room (length (drop 1 entries)) predicted pc
