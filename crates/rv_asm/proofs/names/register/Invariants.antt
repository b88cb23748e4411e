use Rattle.std.proofs.Common.{◌≡◌, ◌-◌, find}
use Rattle.std.specs.List.{range_with_len}
use Rattle.rv_asm.specs.Names.{names_register}
use Rattle.rv_asm.proofs.names.register.Given as goal

-- no register before is named
abbrev pub invariant-loop-register : goal.invariant-loop-register
invariant-loop-register l = find (names_register l.word) (range_with_len l.register (32 - l.register)) ≡ find (names_register l.word) (range_with_len 0 32)
