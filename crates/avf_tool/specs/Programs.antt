-- The instruction set's run that a recorded run is of.
use Rattle.std.specs.Prelude.{List, map}
use Rattle.std.specs.List.{range_with_len}
use Rattle.rv_isa.specs.Effects.{retired_at}
use Rattle.rv_isa.specs.Runs.{ProgramTrace, trace_at}
use Rattle.rv_isa.specs.declared.effect.Retired.{Retired}
use Rattle.run_record.specs.Run.{RecordedRun}

-- what the instruction set runs with the recorded clock values: as many instructions as were retired
abbrev pub instructions_of : RecordedRun → List Retired
instructions_of run = map (λ i. retired_at run.image (trace_at run.image run.clocks i)) (range_with_len 0 run.instructions)

-- that run: its instructions, and the recorded output and end
abbrev pub program_of : RecordedRun → ProgramTrace
program_of run = record { entries = instructions_of run; output = run.output; end = run.end }
