-- What is recorded of a run of an image.
use Rattle.std.specs.Prelude.{◌≡◌, ◌+◌, ℕ, List, Some}
use Rattle.avf_base.specs.declared.end.End.{End}
use Rattle.elf_load.specs.Image.{LoadedImage}
use Rattle.bit_field.specs.Shapes.{IsShape}
use Rattle.bit_field.specs.declared.shapes.Shape.{Shape}
use Rattle.wb_cache.specs.declared.event.CacheEvent.{CacheEvent}
use Rattle.cyc_machine.specs.Cycle.{end_in}
use Rattle.cyc_machine.specs.Run.{IsRunning, clocks_below, events_below, issues_below, output_below, retired_below, state_at}

pub record RecordedRun : Type 0 where
  pub image : LoadedImage
  pub shape : Shape
  pub cycles : ℕ  -- the ending cycle included
  pub instructions : ℕ  -- how many were retired
  pub output : List ℕ
  pub end : End
  pub events : List CacheEvent
  pub issues : List ℕ  -- of each instruction the cycle in which it left EX
  pub clocks : List ℕ  -- the cycles in which a read of the cycle counter left EX

-- the record is that of the image's run on a machine of its shape: it ends in its last cycle and not before
pub record IsRecord (r : RecordedRun) : Type 0 where
  pub fits : IsShape r.shape
  pub last : ℕ
  pub cycles : r.cycles ≡ last + 1
  pub running : IsRunning r.image r.shape last
  pub ends : end_in (state_at r.image r.shape last) ≡ Some r.end
  pub instructions : r.instructions ≡ retired_below r.image r.shape r.cycles
  pub output : r.output ≡ output_below r.image r.shape r.cycles
  pub events : r.events ≡ events_below r.image r.shape r.cycles
  pub issues : r.issues ≡ issues_below r.image r.shape r.cycles
  pub clocks : r.clocks ≡ clocks_below r.image r.shape r.cycles
