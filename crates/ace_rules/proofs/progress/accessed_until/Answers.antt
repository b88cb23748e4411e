use Rattle.std.proofs.Common.{◌≡◌, ℕ, true, Option, Some, None, arith, ap, subst, sym, ◌∙◌}
use Rattle.std.proofs.lemmas.Bool.Decides.{nat_tests}
use Rattle.need_pass.specs.Histories.{IsUpTo}
use Rattle.tag_dist.specs.Tables.{last_in}
use Rattle.ace_rules.specs.Asked.{is_later, retired_by}
use Rattle.ace_rules.proofs.progress.accessed_until.Goals as goal

up-to-later : (last : Option ℕ) (first n : ℕ) → is_later last first ≡ true → IsUpTo n last → is_later last n ≡ true
unfolding is_later
up-to-later None first n h u = h
up-to-later (Some i) first n h u = grind (arith, nat_tests)

pub returns-then-is_later : goal.returns-then-is_later
returns-then-is_later c =
    let last = c.last_access-last.ensures in
    let later : is_later (last_in c.args.tags.now.last c.args.line) (retired_by c.args.note.now) ≡ true =
    sym (c.is_later.ensures ∙ ap (is_later c.last_access-last.result) c.retired.ensures
    ∙ ap (λ (o : Option ℕ). is_later o (retired_by c.args.note.now)) last) ∙ c.if-is_later.true in
    record {
      later = λ h t other below get.
          up-to-later (last_in c.args.tags.now.last c.args.line) (retired_by c.args.note.now) (retired_by other) later
          (subst (IsUpTo (retired_by other)) last (c.past.ensures t other below get));
      free = λ e l. absurd cc;
    }
