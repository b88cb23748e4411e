-- One cycle of the machine: each structure's next value, main memory, and what is reported, from the whole old state.
use Rattle.std.specs.Prelude.{ℕ, ◌+◌, ◌/◌, ◌%◌, ◌&&◌, Bool, is_some, if◌then◌else◌, Option, Some, None}
use Rattle.avf_base.specs.declared.end.End.{End}
use Rattle.rv_table.specs.Accesses.{lane_mask, load_size}
use Rattle.rv_table.specs.Effects.{byte_put}
use Rattle.rv_table.specs.declared.action.Action.{Action}
use Rattle.rv_table.specs.declared.action.Action.TheVariants.{Loads, Nothing}
use Rattle.rv_isa.specs.Instruction.{end_of}
use Rattle.pipe_latch.specs.Latches.{DecodedLatch}
use Rattle.pipe_latch.specs.LatchedActions.{action_of}
use Rattle.wb_cache.specs.Contents.{Contents}
use Rattle.wb_cache.specs.declared.event.EventKind.{EventKind}
use Rattle.inst_buf.specs.Buffer.{entries, packed as packed_entries}
use Rattle.predictor.specs.Tables.{predicted}
use Rattle.store_buf.specs.Pending.{packed as packed_stores, pending}
use Rattle.wb_cache.specs.Lookup.{set_of}
use Rattle.wb_cache.specs.declared.event.CacheEvent.{CacheEvent}
use Rattle.wb_cache.specs.declared.event.EventKind.TheVariants.{Read, Write, Miss, Fill}
use Rattle.cyc_machine.specs.declared.port.Move.{Move}
use Rattle.cyc_machine.specs.declared.port.Move.TheVariants.{Reads, Drains, Misses, Fills}
use Rattle.cyc_machine.specs.declared.memory_stage.Served.{Served}
use Rattle.cyc_machine.specs.declared.fate.Fate.{Fate}
use Rattle.cyc_machine.specs.declared.fate.Fate.TheVariants.{Goes}
use Rattle.cyc_machine.specs.Memory.{cache_after, load_client, memory_after, move_of, port_after, result_after, served, store_client, stores_after, word_read}
use Rattle.cyc_machine.specs.Pipeline.{decoded_after, entries_after, executed_after, fate_of, issued_after, lesson, npc_after, pc_after, trained_by}
use Rattle.cyc_machine.specs.Pipeline.{written_registers}
use Rattle.cyc_machine.specs.State.{State}

-- what M does in this cycle
abbrev pub action_in_m : State → Action
action_in_m s = action_of s.m

-- what the port does
abbrev pub move : State → Move
move s = move_of s.port s.cache (load_client s.image (action_in_m s) (pending s.stores)) (store_client s.image (pending s.stores))

-- whether M leaves, and the value for its register
abbrev pub served_m : State → Served
served_m s = served s.image (action_in_m s) (pending s.stores) (word_read (move s) s.cache)

-- what the memory stage is done with in this cycle
abbrev pub done_in : State → Action
done_in s = if (served_m s).goes then action_in_m s else Nothing

-- what becomes of ID/EX
abbrev pub fate : State → Fate
fate s = fate_of s.d s.npc (action_in_m s) s.w (served_m s).goes

-- the word address that is fetched next
abbrev pub next_fetch : Fate → State → ℕ
next_fetch fate s = pc_after fate (predicted s.tables s.pc) (entries s.buffer) s.npc s.pc

-- The next state. Each part has one equation over the whole old state.
unfoldable pub cycled : Fate → Move → Served → State → State
cycled fate move served s =
    record {
      image = s.image;
      pc = next_fetch fate s;
      npc = npc_after fate s.d s.cycle s.issued s.npc;
      tables = trained_by (lesson fate s.d s.cycle s.issued) s.d.pc s.tables;
      buffer = packed_entries (entries_after s.image fate s.pc (entries s.buffer));
      d = decoded_after fate s.d (entries s.buffer) s.w s.registers;
      m = executed_after s.image fate served.goes s.d s.cycle s.issued s.m;
      w = result_after (action_in_m s) served;
      registers = written_registers s.w s.registers;
      stores = packed_stores (stores_after s.image (action_in_m s) move (pending s.stores));
      port = port_after move s.port;
      cache = cache_after s.image move s.memory s.cache;
      memory = memory_after s.image move s.cache s.memory;
      cycle = s.cycle + 1;
      issued = issued_after fate s.issued;
      ended = is_some (end_of (action_in_m s));
    }

-- the state after the cycle
abbrev pub cycle : State → State
cycle s = cycled (fate s) (move s) (served_m s) s

-- What the cycle reports.

-- the byte that it puts, and the end that it brings
abbrev pub put_in : State → Option ℕ
put_in s = byte_put (action_in_m s)

abbrev pub end_in : State → Option End
end_in s = end_of (action_in_m s)

-- the word address of the instruction that leaves EX
abbrev pub issued_from : Fate → DecodedLatch → Option ℕ
issued_from (Goes a b) d = Some d.pc
issued_from _ d = None

-- whether an occupied EX/MEM is left
abbrev pub retires : State → Bool
retires s = s.m.valid && (served_m s).goes

-- the lanes that a load takes
abbrev pub lanes_of : Action → ℕ
lanes_of (Loads kind rd x) = lane_mask (load_size kind) x
lanes_of _ = 0

-- an event of a whole line
abbrev pub line_event : ℕ → EventKind → ℕ → ℕ → ℕ → CacheEvent
line_event cycle kind line set way = record { cycle = cycle; kind = kind; line = line; set = set; way = way; mask = 0; word = 0 }

abbrev pub event_by : Move → Action → ℕ → Contents → Option CacheEvent
event_by (Reads word way) m cycle c =
    Some (record { cycle = cycle; kind = Read; line = word / 4; set = set_of c.shape (word / 4); way = way; mask = lanes_of m; word = word % 4 })
event_by (Drains e way) m cycle c =
    Some (record { cycle = cycle; kind = Write; line = e.addr / 4; set = set_of c.shape (e.addr / 4); way = way; mask = e.mask; word = e.addr % 4 })
event_by (Misses line way count owner) m cycle c = Some (line_event cycle Miss line (set_of c.shape line) way)
event_by (Fills line way) m cycle c = Some (line_event cycle Fill line (set_of c.shape line) way)
event_by _ m cycle c = None

-- what happens to the cache
abbrev pub event_in : State → Option CacheEvent
event_in s = event_by (move s) (action_in_m s) s.cycle s.cache
