use Rattle.std.proofs.Common.{◌≡◌, take}
use Rattle.elf_fixture.specs.Files.{segment_bytes, segment_headers}
use Rattle.elf_fixture.proofs.segmented.Given as goal

abbrev pub invariant-loop-segment : goal.invariant-loop-segment
invariant-loop-segment l = record {
  headers : l.headers.items ≡ segment_headers l.start (take l.segment-index l.segments);
  bytes : l.bytes.items ≡ segment_bytes (take l.segment-index l.segments);
}
