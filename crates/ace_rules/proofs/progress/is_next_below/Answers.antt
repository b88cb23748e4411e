use Rattle.std.proofs.Common.{◌≡◌, ◌≤◌, ℕ, Some, slice_get, arith, sym, ap, subst, ◌∙◌}
use Rattle.std.specs.Prelude.{option_copied}
use Rattle.std.proofs.lemmas.Bool.Decides.{nat_tests}
use Rattle.event_log.proofs.Searches.{copied-item}
use Rattle.ace_rules.proofs.KeptFacts.{before-bound}
use Rattle.ace_rules.proofs.progress.is_next_below.Goals as goal

pub returns-in-Some : goal.returns-in-Some
returns-in-Some c = λ h.
    let low : c.retired.result ≤ c.args.instruction = grind (arith, nat_tests) in
    before-bound c.args.notes.now c.requires c.args.instruction c.args.bound c.in-Some.note.now
    (subst (λ (i : ℕ). slice_get c.args.notes.now i ≡ Some c.in-Some.note.now) c.saturating_sub.ensures
    (sym (copied-item _ _ _ c.get.ensures.lookup) ∙ ap option_copied c.in-Some.is))
    (omega (arith, low, c.retired.ensures))
