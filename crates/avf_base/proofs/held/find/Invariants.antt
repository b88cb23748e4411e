use Rattle.std.proofs.Common.{◌≡◌, drop}
use Rattle.avf_base.specs.Entries.{entries_of}
use Rattle.avf_base.specs.States.{holding}
use Rattle.avf_base.proofs.held.find.Given as goal

abbrev pub invariant-loop-file : goal.invariant-loop-file
invariant-loop-file l = holding (entries_of l.files) l.name ≡ holding (entries_of (drop l.file-index l.files)) l.name
