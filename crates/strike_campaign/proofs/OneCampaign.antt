-- What a campaign answers is determined by the recorded run, the seed and the number of strikes.
use Rattle.std.proofs.Common.{◌≡◌, ◌<◌, ℕ, List, length, get_or, sym, ap, ◌∙◌, subst}
use Rattle.std.proofs.lemmas.List.{same_lists}
use Rattle.std.proofs.lemmas.Option.{slice_get-get_or}
use Rattle.bit_field.specs.declared.places.Place.{Place}
use Rattle.ace_class.specs.declared.class.Class.{Class}
use Rattle.run_record.specs.Run.{RecordedRun}
use Rattle.run_record.specs.Verdict.{IsVerdict, flipped}
use Rattle.run_record.specs.declared.verdict.Verdict.{Verdict}
use Rattle.run_record.proofs.Verdicts.{one_verdict}
use Rattle.ace_law.specs.Classes.{IsClass}
use Rattle.ace_rules.specs.Notes.{Story, moment}
use Rattle.strike_campaign.proofs.Indices.{one_place}
use Rattle.ace_rules.proofs.OneClass.{one_class}
use Rattle.strike_campaign.specs.Campaigns.{AreOutcomes, IsCampaign, IsOutcome}
use Rattle.strike_campaign.specs.Cells.{cells_of}
use Rattle.strike_campaign.specs.Strikes.{IsStrike}
use Rattle.strike_campaign.specs.declared.outcome.Cells.{Cells}
use Rattle.strike_campaign.specs.declared.outcome.Outcome.{Outcome}
use Rattle.strike_campaign.specs.declared.strikes.Strike.{Strike}

same_strike : (s t : Strike) → s.place ≡ t.place → s.cycle ≡ t.cycle → s ≡ t
same_strike s t e f =
    let P : Place → Strike = λ (p : Place). record { place = p; cycle = s.cycle } in
    let C : ℕ → Strike = λ (c : ℕ). record { place = t.place; cycle = c } in
    ap P e ∙ ap C f

one_strike : (r : RecordedRun) (seed k : ℕ) (s t : Strike) → IsStrike r seed k s → IsStrike r seed k t → s ≡ t
one_strike r seed k s t hs ht = same_strike s t (one_place r.shape _ s.place t.place hs.place ht.place) (hs.cycle ∙ sym ht.cycle)

same_outcome : (a b : Outcome) → a.strike ≡ b.strike → a.class ≡ b.class → a.verdict ≡ b.verdict → a ≡ b
same_outcome a b e f g =
    let S : Strike → Outcome = λ (s : Strike). record { strike = s; class = a.class; verdict = a.verdict } in
    let C : Class → Outcome = λ (c : Class). record { strike = b.strike; class = c; verdict = a.verdict } in
    let V : Verdict → Outcome = λ (v : Verdict). record { strike = b.strike; class = b.class; verdict = v } in
    ap S e ∙ ap C f ∙ ap V g

one_outcome : (story : Story) (seed k : ℕ) (a b : Outcome) → IsOutcome story seed k a → IsOutcome story seed k b → a ≡ b
one_outcome story seed k a b ha hb =
    let e : a.strike ≡ b.strike = one_strike story.r seed k a.strike b.strike ha.strike hb.strike in
    let class : IsClass a.class (moment story b.strike.cycle) b.strike.place =
    subst (λ (s : Strike). IsClass a.class (moment story s.cycle) s.place) e ha.judged.class in
    let verdict : IsVerdict story.r b.strike.cycle (flipped story.r b.strike.cycle b.strike.place) a.verdict =
    subst (λ (s : Strike). IsVerdict story.r s.cycle (flipped story.r s.cycle s.place) a.verdict) e ha.judged.verdict in
    let one = one_verdict story.r b.strike.cycle (flipped story.r b.strike.cycle b.strike.place) in
    same_outcome a b e
    (one_class (moment story b.strike.cycle) b.strike.place a.class b.class class hb.judged.class)
    (one.only a.verdict verdict ∙ sym (one.only b.verdict hb.judged.verdict))

same_outcomes : (story : Story) (seed strikes : ℕ) (xs ys : List Outcome) → AreOutcomes story seed strikes xs → AreOutcomes story seed strikes ys → xs ≡ ys
same_outcomes story seed strikes xs ys hx hy =
    same_lists xs ys (hx.number ∙ sym hy.number) at_index
  where
    at_index : (k : ℕ) (d : Outcome) → k < length xs → get_or xs k d ≡ get_or ys k d
    at_index k d l =
        let m : k < length ys = subst (λ n. k < n) (hx.number ∙ sym hy.number) l in
        one_outcome story seed k (get_or xs k d) (get_or ys k d) (hx.each k (get_or xs k d) (slice_get-get_or xs k d l))
        (hy.each k (get_or ys k d) (slice_get-get_or ys k d m))

-- at most one answer is due
pub one_campaign : (story : Story) (seed strikes : ℕ) (a b : Cells) → IsCampaign story seed strikes a → IsCampaign story seed strikes b → a ≡ b
one_campaign story seed strikes a b ha hb =
    ha.counted ∙ ap cells_of (same_outcomes story seed strikes ha.outcomes hb.outcomes ha.are hb.are) ∙ sym hb.counted
