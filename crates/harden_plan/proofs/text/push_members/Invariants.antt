use Rattle.std.proofs.Common.{◌≡◌, ◌++◌, string_bytes, take}
use Rattle.std.specs.List.{flat_map}
use Rattle.harden_plan.specs.PlanTexts.{member_text}
use Rattle.harden_plan.proofs.text.push_members.Given as goal

abbrev pub invariant-loop-s : goal.invariant-loop-s
invariant-loop-s l = string_bytes l.text ≡ string_bytes l.fn.text ++ flat_map (member_text l.set) (take l.s-index l.structures)
