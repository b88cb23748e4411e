-- What memory makes of an action, for a caller that asks only about the action's own access.
use Rattle.std.proofs.Common.{◌≡◌, ℕ, ◌/◌, Bool, Some, None, arith}
use Rattle.std.proofs.lemmas.Bool.Decides.{nat_tests}
use Rattle.rv_table.specs.Actions.{access_of, judged, judged_by, some_executable}
use Rattle.rv_table.specs.declared.action.Access.{Access}
use Rattle.rv_table.specs.declared.action.Action.{Action}

pub judged-at_access : (ram executable : ℕ → Bool) (action : Action) (access : Access) → access_of action ≡ Some access → judged ram executable action ≡ judged_by (ram (access.address / 4)) (some_executable executable access.address access.size) action
unfolding judged judged_by access_of
judged-at_access ram executable action access e = grind (arith, nat_tests)

pub judged-no_access : (ram executable : ℕ → Bool) (action : Action) → access_of action ≡ None → judged ram executable action ≡ action
unfolding judged access_of
judged-no_access ram executable action e = grind (arith, nat_tests)

-- for a Rust caller's `match` on `action.access()`
pub ruleset judging = (judged-at_access, judged-no_access)
