use Rattle.std.proofs.Common.{ℕ, Bool, not, ap, ◌∙◌}
use Rattle.std.specs.Prelude.{if◌then◌else◌}
use Rattle.need_pass.specs.Tables.{reg_need}
use Rattle.ace_rules.proofs.RegisterMarks.{register-marked}
use Rattle.ace_rules.proofs.tally_registers.register_masks.Goals as goal

pub returns : goal.returns
returns c =
    register-marked c.args.needs.now c.args.note.now c.args.quiet c.args.r c.from-needed.result c.when-kept.result c.without-dead.result
    c.when.result c.requires.above
    (c.from-needed.ensures ∙ c.reg_need.ensures ∙ ap (λ (i : ℕ). reg_need c.args.needs.now c.args.r i) c.decoded.ensures)
    (c.when-kept.ensures ∙ ap (λ (b : Bool). if not b then c.from-needed.result else 0) c.is_overwritten.ensures) c.without-dead.ensures
    c.when.ensures
