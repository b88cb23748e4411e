-- The record of a run that ends within so many cycles.
use Rattle.std.specs.Prelude.{◌≡◌, ◌≤◌, ℕ, ◌+◌, Bool, Option, is_some, option_and_then, option_map}
use Rattle.avf_base.specs.declared.end.End.{End}
use Rattle.bit_field.specs.declared.shapes.Shape.{Shape}
use Rattle.elf_load.specs.Image.{LoadedImage}
use Rattle.wb_cache.specs.Lookup.{first_below}
use Rattle.cyc_machine.specs.Cycle.{end_in}
use Rattle.cyc_machine.specs.Run.{clocks_below, events_below, issues_below, output_below, retired_below, state_at}
use Rattle.run_record.specs.Run.{IsRecord, RecordedRun}

-- whether cycle t of the run from reset brings an end
abbrev pub ends_at : LoadedImage → Shape → ℕ → Bool
ends_at image shape t = is_some (end_in (state_at image shape t))

-- the record of the cycles up to and with this last one, which brings this end
abbrev pub record_to : LoadedImage → Shape → ℕ → End → RecordedRun
record_to image shape last end =
    record {
      image = image;
      shape = shape;
      cycles = last + 1;
      instructions = retired_below image shape (last + 1);
      output = output_below image shape (last + 1);
      end = end;
      events = events_below image shape (last + 1);
      issues = issues_below image shape (last + 1);
      clocks = clocks_below image shape (last + 1);
    }

-- the record of the image's run, where one of its first n cycles ends it: up to the first that brings an end
unfoldable pub record_within : LoadedImage → Shape → ℕ → Option RecordedRun
record_within image shape n =
    option_and_then (λ t. option_map (record_to image shape t) (end_in (state_at image shape t))) (first_below n (ends_at image shape))

-- it is the record of a run on this image, in at most n cycles
pub record IsRecordOf (image : LoadedImage) (shape : Shape) (n : ℕ) (r : RecordedRun) : Type 0 where
  pub image_is : r.image ≡ image
  pub shape_is : r.shape ≡ shape
  pub within : r.cycles ≤ n
  pub is_record : IsRecord r
