-- Statements as the program holds them.
use Rattle.std.specs.Prelude.{ℕ, Option, Result, Ok, Err, option_map}
use Rattle.rv_asm.specs.declared.statement.Statement.{Statement as CodeStatement}
use Rattle.rv_asm.specs.declared.statement.Statement.TheVariants as code
use Rattle.rv_asm.specs.declared.fault.Fault.{Fault}
use Rattle.rv_asm.specs.declared.line.Line.{Line as CodeLine}
use Rattle.rv_asm.specs.declared.search.LineFault.{LineFault}
use Rattle.rv_asm.specs.Lines.{Line}
use Rattle.rv_asm.specs.Statements.{Statement, Blank, Part, DataWord, DataByte, DataSpace, Ready, WithNumber, WithLabel, NumberInto, AddressInto}

abbrev pub shown : CodeStatement → Statement
shown code.Blank = Blank
shown (code.Part in_data) = Part in_data
shown (code.DataWord n) = DataWord n
shown (code.DataByte n) = DataByte n
shown (code.DataSpace n) = DataSpace n
shown (code.Ready op) = Ready op
shown (code.WithNumber op n) = WithNumber op n
shown (code.WithLabel op target) = WithLabel op target.now
shown (code.NumberInto rd n) = NumberInto rd n
shown (code.AddressInto rd target) = AddressInto rd target.now

abbrev pub shown_result : Result CodeStatement Fault → Result Statement Fault
shown_result (Ok statement) = Ok (shown statement)
shown_result (Err fault) = Err fault

abbrev pub shown_line : CodeLine → Line
shown_line line = record { name = option_map (λ name. name.now) line.name; statement = shown line.statement }

abbrev pub shown_lines : Result CodeLine Fault → Result Line Fault
shown_lines (Ok line) = Ok (shown_line line)
shown_lines (Err fault) = Err fault

-- a fault and its line, where there is one
abbrev pub shown_fault : Option LineFault → Option (ℕ × Fault)
shown_fault fault = option_map (λ f. (f.line, f.fault)) fault
