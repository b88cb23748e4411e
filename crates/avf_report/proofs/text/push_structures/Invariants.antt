use Rattle.std.proofs.Common.{◌≡◌, ◌++◌, string_bytes, take}
use Rattle.std.specs.List.{flat_map}
use Rattle.avf_report.specs.Texts as texts
use Rattle.avf_report.proofs.text.push_structures.Given as goal

abbrev pub invariant-loop-s : goal.invariant-loop-s
invariant-loop-s l =
    string_bytes l.text ≡ string_bytes l.fn.text ++ flat_map (λ s. texts.line_of (texts.structure_line l.counts s)) (take l.s-index l.structures)
