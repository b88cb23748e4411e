-- The cells, outcome by outcome.
use Rattle.std.proofs.Common.{◌≡◌, ◌+◌, ◌*◌, ◌<◌, ◌≤◌, ℕ, zero, suc, List, [], ◌∷◌, ◌++◌, Bool, true, false, length, length-append, refl, sym, ap, ◌∙◌, subst, arith}
use Rattle.std.specs.Prelude.{Some, slice_get}
use Rattle.std.proofs.lemmas.List.Sums.{sum_by_push}
use Rattle.std.proofs.lemmas.Nat.{mul-le}
use Rattle.std.proofs.lemmas.Option.{none-some, same_Some}
use Rattle.ace_class.specs.declared.class.Class.{Class}
use Rattle.ace_class.specs.declared.class.Class.TheVariants.{Ace, UnAce}
use Rattle.ace_class.specs.declared.class.Rule.{Rule}
use Rattle.cyc_machine.specs.State.{State}
use Rattle.run_record.specs.Run.{RecordedRun}
use Rattle.run_record.specs.Verdict.{HasOneVerdict, HasSame, IsVerdict}
use Rattle.run_record.specs.declared.verdict.Verdict.{Verdict}
use Rattle.run_record.specs.declared.verdict.Verdict.TheVariants.{Same, Differs, NoEnd}
use Rattle.ace_rules.specs.Notes.{Story}
use Rattle.strike_campaign.specs.Campaigns.{AreOutcomes, IsCampaign, IsHarmless, IsOutcome}
use Rattle.strike_campaign.specs.Cells.{all_in, cells_of, is_same, is_un_ace, with_outcome}
use Rattle.strike_campaign.specs.declared.outcome.Cells.{Cells}
use Rattle.strike_campaign.specs.declared.outcome.Outcome.{Outcome}

pub campaign-first : (story : Story) (seed : ℕ) → IsCampaign story seed 0 (cells_of [])
campaign-first story seed = record {
  outcomes = [];
  are = record { number = refl; each = λ k outcome e. absurd (none-some outcome e) };
  counted = refl;
  all = refl;
  no_difference = refl;
  no_endless = refl;
}

-- what holds of each item by its place holds with one more behind them
appended : {A : Type 0} (P : ℕ → A → Type 0) (xs : List A) (x : A) → ((k : ℕ) (y : A) → slice_get xs k ≡ Some y → P k y) → P (length xs) x
    → (k : ℕ) (y : A) → slice_get (xs ++ x ∷ []) k ≡ Some y → P k y
appended P [] x each last zero y e = subst (P 0) (same_Some x y e) last
appended P [] x each last (suc k) y e = absurd (none-some y e)
appended P (z ∷ xs) x each last zero y e = each 0 y e
appended P (z ∷ xs) x each last (suc k) y e = appended (λ n. P (suc n)) xs x (λ n. each (suc n)) last k y e

outcomes-on : (story : Story) (seed k : ℕ) (outcomes : List Outcome) (outcome : Outcome) → AreOutcomes story seed k outcomes → IsOutcome story seed k outcome
    → AreOutcomes story seed (k + 1) (outcomes ++ outcome ∷ [])
outcomes-on story seed k outcomes outcome h is = record {
  number = length-append outcomes (outcome ∷ []) ∙ ap (λ n. n + 1) h.number;
  each = appended (IsOutcome story seed) outcomes outcome h.each (subst (λ n. IsOutcome story seed n outcome) (sym h.number) is);
}

-- one more outcome
cells-on : (outcomes : List Outcome) (outcome : Outcome) → with_outcome (is_un_ace outcome.class) outcome.verdict (cells_of outcomes) ≡ cells_of (outcomes ++ outcome ∷ [])
cells-on outcomes outcome = simp sum_by_push refl

-- it is in one cell
all-on : (un_ace : Bool) (verdict : Verdict) (cells : Cells) → all_in (with_outcome un_ace verdict cells) ≡ all_in cells + 1
all-on true (Same n) cells = omega arith
all-on true (Differs n) cells = omega arith
all-on true (NoEnd n) cells = omega arith
all-on false (Same n) cells = omega arith
all-on false (Differs n) cells = omega arith
all-on false (NoEnd n) cells = omega arith

-- and in none of the two where an un-ACE bit is seen
difference-on : (class : Class) (verdict : Verdict) (cells : Cells) → ((rule : Rule) → class ≡ UnAce rule → is_same verdict ≡ true)
    → (with_outcome (is_un_ace class) verdict cells).unace_differs ≡ cells.unace_differs
difference-on Ace verdict cells h = omega arith
difference-on (UnAce rule) (Same n) cells h = omega arith
difference-on (UnAce rule) (Differs n) cells h = let no : false ≡ true = h rule refl in absurd cc
difference-on (UnAce rule) (NoEnd n) cells h = omega arith

endless-on : (class : Class) (verdict : Verdict) (cells : Cells) → ((rule : Rule) → class ≡ UnAce rule → is_same verdict ≡ true)
    → (with_outcome (is_un_ace class) verdict cells).unace_noend ≡ cells.unace_noend
endless-on Ace verdict cells h = omega arith
endless-on (UnAce rule) (Same n) cells h = omega arith
endless-on (UnAce rule) (Differs n) cells h = omega arith
endless-on (UnAce rule) (NoEnd n) cells h = let no : false ≡ true = h rule refl in absurd cc

pub campaign-on : (story : Story) (seed k : ℕ) (cells next : Cells) (outcome : Outcome) → next ≡ with_outcome (is_un_ace outcome.class) outcome.verdict cells
    → IsCampaign story seed k cells → IsOutcome story seed k outcome → IsHarmless outcome → IsCampaign story seed (k + 1) next
campaign-on story seed k cells next outcome e h is harmless = record {
  outcomes = h.outcomes ++ outcome ∷ [];
  are = outcomes-on story seed k h.outcomes outcome h.are is;
  counted = e ∙ ap (with_outcome (is_un_ace outcome.class) outcome.verdict) h.counted ∙ cells-on h.outcomes outcome;
  all = ap all_in e ∙ all-on (is_un_ace outcome.class) outcome.verdict cells ∙ ap (λ n. n + 1) h.all;
  no_difference = ap (λ (x : Cells). x.unace_differs) e ∙ difference-on outcome.class outcome.verdict cells harmless ∙ h.no_difference;
  no_endless = ap (λ (x : Cells). x.unace_noend) e ∙ endless-on outcome.class outcome.verdict cells harmless ∙ h.no_endless;
}

-- what the classes call harmless has the verdict that says so
pub same-verdict : (r : RecordedRun) (t : ℕ) (u : State) (verdict : Verdict) → HasOneVerdict r t u → IsVerdict r t u verdict → HasSame r t u
    → is_same verdict ≡ true
same-verdict r t u verdict one is same =
    ap is_same (one.only verdict is ∙ sym (one.only (Same same.cycles) same.same))

-- the bound on steps, after one more strike and in the end
pub steps-on : (k most old before new : ℕ) → before ≤ old + k * most → new ≤ before + most → new ≤ old + (k + 1) * most
steps-on k most old before new h l = omega (arith, h, l)

pub steps-within : (k strikes most old before new : ℕ) → k < strikes → before ≤ old + k * most → new ≤ before + most → new ≤ old + strikes * most
steps-within k strikes most old before new few h l =
    let one = steps-on k most old before new h l in
    let all = mul-le (k + 1) most strikes most (omega arith) (omega arith) in
    omega (arith, one, all)
