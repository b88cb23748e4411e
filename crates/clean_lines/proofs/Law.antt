-- The law of struck bits of clean lines.
use Rattle.clean_lines.specs.CleanLaw.{CleanLaw}
use Rattle.clean_lines.proofs.Alike.{does-alike, ends-alike}
use Rattle.clean_lines.proofs.DataCycles.{data-cycle}
use Rattle.clean_lines.proofs.DataRuns.{data-run}
use Rattle.clean_lines.proofs.TagCycles.{tag-cycle}
use Rattle.clean_lines.proofs.TagRuns.{tag-run}

pub clean-law : CleanLaw
clean-law = record {
  data_cycle = λ s k is below clean. data-cycle s k is below clean;
  data_run = λ n s k is below clean. data-run s k is below clean n;
  tag_cycle = λ s k is busy below clean apart. tag-cycle s k is busy below clean apart;
  tag_run = λ n s k is busy below clean line near. tag-run s k is busy below clean n line near;
  alike = does-alike;
  ends = ends-alike;
}
