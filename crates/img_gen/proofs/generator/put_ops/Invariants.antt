use Rattle.std.proofs.Common.{◌≡◌, ◌++◌, drop}
use Rattle.std.specs.List.{flat_map}
use Rattle.elf_write.specs.Code.{op_bytes}
use Rattle.img_gen.proofs.generator.put_ops.Given as goal

-- what is put and what is left make all instructions
abbrev pub invariant-loop-op : goal.invariant-loop-op
invariant-loop-op l = l.text.items ++ flat_map op_bytes (drop l.op-index l.ops) ≡ l.initial.text.items ++ flat_map op_bytes l.ops
