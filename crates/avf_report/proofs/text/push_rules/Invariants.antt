use Rattle.std.proofs.Common.{◌≡◌, ◌++◌, string_bytes, take}
use Rattle.std.specs.List.{flat_map}
use Rattle.avf_report.specs.Texts as texts
use Rattle.avf_report.proofs.text.push_rules.Given as goal

abbrev pub invariant-loop-rule : goal.invariant-loop-rule
invariant-loop-rule l =
    string_bytes l.text ≡ string_bytes l.fn.text ++ flat_map (λ rule. texts.line_of (texts.rule_line l.counts rule)) (take l.rule-index l.rules)
