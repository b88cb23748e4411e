-- What is written down of a cycle.
use Rattle.std.specs.Prelude.{◌≡◌, ℕ, ◌+◌, Bool, is_some, ◌&&◌, [], Option, if◌then◌else◌}
use Rattle.std.specs.Bool.{then_some}
use Rattle.cyc_machine.specs.declared.report.CycleReport.{CycleReport}
use Rattle.avf_base.specs.declared.end.End.{End}
use Rattle.elf_load.specs.Image.{LoadedImage}
use Rattle.bit_field.specs.declared.shapes.Shape.{Shape}
use Rattle.wb_cache.specs.declared.event.CacheEvent.{CacheEvent}
use Rattle.cyc_machine.specs.Cycle.{event_in, put_in, retires}
use Rattle.cyc_machine.specs.Run.{cycle_if, issues, issues_clock, with_one}
use Rattle.cyc_machine.specs.State.{State}
use Rattle.run_record.specs.Run.{RecordedRun}
use Rattle.run_record.specs.declared.journal.Journal.{Journal}

pub record IsEmpty (journal : Journal) : Type 0 where
  pub output : journal.output.items ≡ []
  pub events : journal.events.items ≡ []
  pub issues : journal.issues.items ≡ []
  pub clocks : journal.clocks.items ≡ []
  pub retired : journal.retired ≡ 0

-- what one cycle adds to the journal of a run
pub record Entry : Type 0 where
  pub put : Option ℕ
  pub event : Option CacheEvent
  pub issued : Option ℕ  -- the cycle's number, where an instruction left EX
  pub clocked : Option ℕ  -- the same, where that was a read of the cycle counter
  pub retired : Bool

-- each list grows by it, at its end
pub record Adds (entry : Entry) (old new : Journal) : Type 0 where
  pub output : new.output.items ≡ with_one old.output.items entry.put
  pub events : new.events.items ≡ with_one old.events.items entry.event
  pub issues : new.issues.items ≡ with_one old.issues.items entry.issued
  pub clocks : new.clocks.items ≡ with_one old.clocks.items entry.clocked
  pub retired : new.retired ≡ (if entry.retired then old.retired + 1 else old.retired)

-- of the cycle from a state
abbrev pub entry_of : State → Entry
entry_of s =
    record {
      put = put_in s;
      event = event_in s;
      issued = cycle_if (issues s) s;
      clocked = cycle_if (issues_clock s) s;
      retired = retires s;
    }

-- of the cycle of this number by its report, where it is known whether ID/EX held a read of the cycle counter
abbrev pub entry_by : CycleReport → ℕ → Bool → Entry
entry_by report cycle reads_clock =
    record {
      put = report.put;
      event = report.event;
      issued = then_some (is_some report.issued) cycle;
      clocked = then_some (is_some report.issued && reads_clock) cycle;
      retired = report.retired;
    }

-- the record of a run that ended after so many cycles
abbrev pub closed : LoadedImage → Shape → ℕ → End → Journal → RecordedRun
closed image shape cycles end journal =
    record {
      image = image;
      shape = shape;
      cycles = cycles;
      instructions = journal.retired;
      output = journal.output.items;
      end = end;
      events = journal.events.items;
      issues = journal.issues.items;
      clocks = journal.clocks.items;
    }
