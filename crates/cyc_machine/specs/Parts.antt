-- Scaffolding for the contracts of private functions: the machine's parts as one state.
use Rattle.cyc_machine.specs.State.{State}
use Rattle.cyc_machine.specs.declared.parts.Parts.{Parts}

abbrev pub state_of : Parts → State
state_of parts =
    record {
      image = parts.image.now;
      pc = parts.pc;
      npc = parts.npc;
      tables = parts.predictor;
      buffer = parts.buffer;
      d = parts.decoded;
      m = parts.executed;
      w = parts.written;
      registers = parts.registers;
      stores = parts.stores;
      port = parts.port;
      cache = parts.storage.cache;
      memory = parts.storage.memory.items;
      cycle = parts.cycle;
      issued = parts.issued;
      ended = parts.ended;
    }
