-- The verdict on a flipped bit is what is due to a flip.
use Rattle.std.proofs.Common.{◌≡◌, ℕ, ◌<◌, Result, refl, sym, ◌∙◌, subst}
use Rattle.std.specs.Prelude.{Vec}
use Rattle.std.specs.declared.alloc.Global.{Global}
use Rattle.avf_base.specs.declared.refusal.Refusal.{Refusal}
use Rattle.bit_field.specs.Shapes.{IsPlaceIn}
use Rattle.bit_field.specs.declared.places.Place.{Place}
use Rattle.cyc_machine.specs.State.{State}
use Rattle.run_record.specs.Run.{RecordedRun}
use Rattle.run_record.specs.Verdict.{HasSame, IsVerdict, bound, flipped}
use Rattle.run_record.specs.declared.verdict.Verdict.{Verdict}
use Rattle.run_record.specs.declared.verdict.Verdict.TheVariants.{Same}
use Rattle.run_record.proofs.Verdicts.{one_verdict}
use Rattle.avf_tool.specs.BitAnswers.{IsHarmless, IsSameWithin, verdict_due}
use Rattle.avf_tool.specs.Due.{Text, only}
use Rattle.avf_tool.specs.Stages.{IsText}
use Rattle.avf_tool.specs.Texts.{verdict_text}
use Rattle.avf_tool.proofs.Chains.{text_due}

-- a run has one verdict
pub same_verdict : (r : RecordedRun) (t : ℕ) (u : State) (v w : Verdict) → IsVerdict r t u v → IsVerdict r t u w → v ≡ w
same_verdict r t u v w a b = let one = one_verdict r t u in one.only v a ∙ sym (one.only w b)

same_within : (r : RecordedRun) (t : ℕ) (u : State) (v : Verdict) → IsVerdict r t u v → HasSame r t u → IsSameWithin (bound r t) v
same_within r t u v is h =
    let e : Same h.cycles ≡ v = same_verdict r t u (Same h.cycles) v h.same is in subst (IsSameWithin (bound r t)) e h.same.within

verdict_told : (run : RecordedRun) (place : Place) (cycle : ℕ) (verdict : Verdict) → IsHarmless run → IsPlaceIn run.shape place → cycle < run.cycles
    → IsVerdict run cycle (flipped run cycle place) verdict → verdict_due run cycle place (Text (verdict_text verdict))
verdict_told run place cycle verdict harmless inside below is = (
  verdict,
  record {
    is = is;
    harmless = λ rule class. same_within run cycle (flipped run cycle place) verdict is (harmless place cycle rule inside below class);
  },
  refl,
)

pub verdict_answered : (run : RecordedRun) (place : Place) (cycle : ℕ) (verdict : Verdict) (text : Result (Vec ℕ Global) Refusal) → IsHarmless run
    → IsPlaceIn run.shape place → cycle < run.cycles → IsVerdict run cycle (flipped run cycle place) verdict
    → IsText (only (Text (verdict_text verdict))) text → IsText (verdict_due run cycle place) text
verdict_answered run place cycle verdict text harmless inside below is h =
    text_due (only (Text (verdict_text verdict))) (verdict_due run cycle place)
    (λ due e. subst (verdict_due run cycle place) e (verdict_told run place cycle verdict harmless inside below is)) text h
