-- The writer of the table.
use Rattle.std.specs.Prelude.{◌≡◌, ℕ, List, ◌++◌, false, Vec}
use Rattle.std.specs.declared.alloc.Global.{Global}
use Rattle.csv.specs.Writing.{default_writer, fields_written, has_written, writer_pending, writer_setup, writer_under}
use Rattle.csv.specs.declared.writer.Writer.{Writer}

-- it writes with the crate's defaults, and stands between two rows
pub record IsReady (w : Writer (Vec ℕ Global)) : Type 0 where
  pub setup : writer_setup w ≡ default_writer
  pub fields : fields_written w ≡ 0
  pub blank : has_written w ≡ false

-- what was written so far
abbrev pub written : Writer (Vec ℕ Global) → List ℕ
written w = (writer_under w).items ++ writer_pending w
