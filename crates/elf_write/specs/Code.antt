-- The bytes of an instruction in a text part.
use Rattle.std.specs.Prelude.{◌≡◌, ℕ, List}
use Rattle.byteorder.specs.Endian.{little_bytes}
use Rattle.rv_table.specs.Codes.{word_of}
use Rattle.rv_table.specs.Words.{decode}
use Rattle.rv_table.specs.declared.op.Op.{Op}

-- its word, lowest byte first
unfoldable pub op_bytes : Op → List ℕ
op_bytes op = little_bytes 4 (word_of op)

-- what is written for it decodes to it
abbrev pub IsCoded : Op → Type 0
IsCoded op = decode (word_of op) ≡ op
