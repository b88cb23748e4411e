-- Scaffolding for the contracts of private functions, of which the meaning of a cycle says nothing: M's turn at memory, and the
-- states in which some parts have taken their next values.
use Rattle.cyc_machine.specs.declared.parts.Turn.{Turn}
use Rattle.cyc_machine.specs.Cycle.{action_in_m, event_in, move, served_m}
use Rattle.cyc_machine.specs.State.{State}

-- M's turn in a state
abbrev pub turn_of : State → Turn
turn_of s = record { action = action_in_m s; motion = move s; event = event_in s; served = served_m s }

-- The cache and main memory have their values in the next state; all else stays.
abbrev pub with_storage : State → State → State
with_storage next s = record s { cache = next.cache; memory = next.memory }

-- What EX, ID and IF write has its value in the next state; all else stays.
abbrev pub with_pipeline : State → State → State
with_pipeline next s =
    record s {
      pc = next.pc;
      npc = next.npc;
      tables = next.tables;
      buffer = next.buffer;
      d = next.d;
      m = next.m;
      issued = next.issued;
    }
