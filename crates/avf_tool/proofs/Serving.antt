-- A command that was performed is served.
use Rattle.std.proofs.Common.{◌≡◌, ℕ, List, Option, Some, Result, Ok, Err, sym, subst}
use Rattle.std.specs.Result.{IsErrAnd}
use Rattle.avf_base.specs.Moves.{Grows, GrowsByFront}
use Rattle.avf_base.specs.Refusals.{Cause, ByWords, ByShelf, ByContents, ByOut, Free, cause_of}
use Rattle.avf_base.specs.declared.refusal.Refusal.{Refusal}
use Rattle.avf_base.specs.declared.refusal.Refusal.TheVariants.{WriteFault}
use Rattle.avf_tool.specs.Answers.{answer}
use Rattle.avf_tool.specs.Due.{Text}
use Rattle.avf_tool.specs.Ends.{Comes, ComesBy, Due, Faults, Rise, Serves, TookNothing, Use}
use Rattle.avf_tool.specs.Stages.{Performed}
use Rattle.avf_tool.specs.Told.{told_to}
use Rattle.avf_tool.specs.Words.{Job}

module _ (asked : Option Job) (job : Job) (holds : List ℕ → Option (List ℕ)) (shelf : Faults) (out : Use) (is : asked ≡ Some job) where
  -- its text was taken
  pub text_serves : (text : List ℕ) → Due job holds (Text text) → Grows out.old out.new text → Serves asked holds shelf out (Ok tt)
  text_serves text due grows =
      let P : Option Job → Type 0 = λ o. Serves o holds shelf out (Ok tt) in subst P (sym is) (text, due, grows)

  -- a write of its text failed
  pub fault_serves : (text : List ℕ) → Due job holds (Text text) → Rise out.faults → GrowsByFront out.old out.new text → Comes asked holds shelf out WriteFault
  fault_serves text due rise front =
      let P : Option Job → Type 0 = λ o. Comes o holds shelf out WriteFault in subst P (sym is) (text, due, rise, front)

  comes_by : (cause : Cause) (r : Refusal) → Performed cause (answer job holds) (told_to job holds) shelf.before shelf.now r → TookNothing out
      → ComesBy cause job holds shelf out r
  comes_by ByContents r h none = (h, none)
  comes_by ByShelf r h none = (h, none)
  comes_by Free r h none = none
  comes_by ByWords r h none = h
  comes_by ByOut r h none = absurd h

  refusal_comes : (r : Refusal) → Performed (cause_of r) (answer job holds) (told_to job holds) shelf.before shelf.now r → TookNothing out
      → Serves asked holds shelf out (Err r)
  refusal_comes r h none =
      let P : Option Job → Type 0 = λ o. Serves o holds shelf out (Err r) in subst P (sym is) (comes_by (cause_of r) r h none)

  -- it was refused
  pub refusal_serves : (r : Refusal) (result : Result (Unit {0}) Refusal) → IsErrAnd result (λ e. e ≡ r)
      → Performed (cause_of r) (answer job holds) (told_to job holds) shelf.before shelf.now r → TookNothing out → Serves asked holds shelf out result
  refusal_serves r (Ok done) e h none = absurd e
  refusal_serves r (Err other) e h none =
      let P : Refusal → Type 0 = λ x. Serves asked holds shelf out (Err x) in subst P (sym e) (refusal_comes r h none)
