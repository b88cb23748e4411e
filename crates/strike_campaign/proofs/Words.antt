-- The words of a seed, two at a time.
use Rattle.std.proofs.Common.{◌≡◌, ◌+◌, ◌*◌, ℕ, zero, suc, refl, sym, ap, ◌∙◌, subst, add-one, arith}
use Rattle.rand_core.specs.Pcg32Seed.{pcg32_seed}
use Rattle.rand_pcg.specs.Lcg.{Lcg, advance, next, next_state, state_after}
use Rattle.rand_pcg.specs.Pcg.{multiplier_64, pcg32_of_seed}
use Rattle.run_record.specs.Run.{RecordedRun}
use Rattle.ace_rules.specs.Notes.{Story}
use Rattle.strike_campaign.specs.Campaigns.{IsJudged, IsOutcome}
use Rattle.strike_campaign.specs.Strikes.{IsStrike, IsStrikeOf, after, generator, word, word_of}
use Rattle.strike_campaign.specs.declared.outcome.Outcome.{Outcome}
use Rattle.strike_campaign.specs.declared.strikes.Strike.{Strike}

last_step : (w m increment n s : ℕ) → state_after w m increment n (next_state w m increment s) ≡ next_state w m increment (state_after w m increment n s)
unfolding state_after
last_step w m increment zero s = refl
last_step w m increment (suc n) s = last_step w m increment n (next_state w m increment s)

-- one more word
one_more : (w m n : ℕ) (g : Lcg) → next w m (advance w m n g) ≡ advance w m (n + 1) g
unfolding state_after
one_more w m n g =
    let P : ℕ → Lcg = λ (s : ℕ). record g { state = s } in
    ap P (sym (last_step w m g.increment n g.state)) ∙ ap (λ (k : ℕ). advance w m k g) (sym (add-one n))

-- no word was drawn
pub words-first : (seed : ℕ) (new : Lcg) → new ≡ pcg32_of_seed (pcg32_seed 16 seed) → new ≡ generator seed 0
unfolding state_after
words-first seed new e = e

pub generator-on : (seed k : ℕ) → after (generator seed k) ≡ generator seed (k + 1)
generator-on seed k = one_more 64 multiplier_64 k _

two_more : (k : ℕ) → 2 * k + 1 + 1 ≡ 2 * (k + 1)
two_more k = omega arith

pub words-on : (seed k : ℕ) (old new : Lcg) → old ≡ generator seed (2 * k) → new ≡ after (after old) → new ≡ generator seed (2 * (k + 1))
words-on seed k old new e f =
    f ∙ ap (λ (g : Lcg). after (after g)) e ∙ ap after (generator-on seed (2 * k)) ∙ generator-on seed (2 * k + 1) ∙ ap (generator seed) (two_more k)

pub is_strike : (r : RecordedRun) (seed k : ℕ) (old : Lcg) (strike : Strike) → old ≡ generator seed (2 * k)
    → IsStrikeOf r (word old) (word (after old)) strike → IsStrike r seed k strike
is_strike r seed k old strike e h =
    let first : word old ≡ word_of seed (2 * k) = ap word e in
    let second : word (after old) ≡ word_of seed (2 * k + 1) = ap word (ap after e ∙ generator-on seed (2 * k)) in
    subst (λ n. IsStrikeOf r n (word_of seed (2 * k + 1)) strike) first (subst (λ n. IsStrikeOf r (word old) n strike) second h)

-- what becomes of the strike that is drawn
pub is_outcome : (story : Story) (seed k : ℕ) (old : Lcg) (strike : Strike) (outcome : Outcome) → old ≡ generator seed (2 * k)
    → IsStrikeOf story.r (word old) (word (after old)) strike → outcome.strike ≡ strike → IsJudged story outcome → IsOutcome story seed k outcome
is_outcome story seed k old strike outcome e h same judged = record {
  strike = subst (IsStrike story.r seed k) (sym same) (is_strike story.r seed k old strike e h);
  judged = judged;
}
