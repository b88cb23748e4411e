use Rattle.std.proofs.Common.{◌≡◌, sym, ap, subst, ◌∙◌}
use Rattle.std.specs.Prelude.{option_copied}
use Rattle.event_log.proofs.Searches.{copied-item}
use Rattle.slot_history.specs.declared.changes.Held.{Held}
use Rattle.ace_rules.specs.LineData.{is_dead_line}
use Rattle.ace_rules.specs.RuleMasks.{is_set}
use Rattle.ace_rules.proofs.ByteBits.{dead-none, dead-some}
use Rattle.ace_rules.proofs.line_bytes.dead_bits_in.Goals as goal

pub returns-in-None : goal.returns-in-None
returns-in-None c = λ j l.
    dead-none c.args.needs.now c.args.quiet c.args.slots.now c.args.slot c.args.offset j c.args.cycle _
    (sym (copied-item _ _ _ c.get.ensures.lookup) ∙ ap option_copied c.in-None.is) l

pub returns-in-Some : goal.returns-in-Some
returns-in-Some c = λ j l.
    dead-some c.args.needs.now c.args.quiet c.args.slots.now c.args.slot c.args.offset j c.args.cycle _ c.in-Some.note.now c.dead_bits_of.result
    c.when.result (sym (copied-item _ _ _ c.get.ensures.lookup) ∙ ap option_copied c.in-Some.is) c.when.ensures
    (subst (λ (h : Held). is_set c.dead_bits_of.result j ≡ is_dead_line c.args.needs.now c.in-Some.note.now h c.args.offset j) c.held.ensures
    (c.dead_bits_of.ensures j l))
