-- The class of a bit is what is due to a query.
use Rattle.std.proofs.Common.{◌≡◌, ℕ, Result, refl, sym, subst}
use Rattle.std.specs.Prelude.{Vec}
use Rattle.std.specs.declared.alloc.Global.{Global}
use Rattle.avf_base.specs.declared.refusal.Refusal.{Refusal}
use Rattle.bit_field.specs.declared.places.Place.{Place}
use Rattle.rv_isa.specs.Runs.{IsTrace}
use Rattle.run_record.specs.Verdict.{HasSame, flipped}
use Rattle.run_log.specs.Answers.{IsProgram}
use Rattle.ace_class.specs.declared.class.Class.{Class}
use Rattle.ace_class.specs.declared.class.Class.TheVariants.{UnAce}
use Rattle.ace_class.specs.declared.class.Rule.{Rule}
use Rattle.ace_law.specs.Classes.{IsClass}
use Rattle.ace_rules.specs.Notes.{Story, moment}
use Rattle.avf_tool.specs.BitAnswers.{class_due}
use Rattle.avf_tool.specs.Due.{Text, only}
use Rattle.avf_tool.specs.Stages.{IsText}
use Rattle.avf_tool.proofs.Chains.{text_due}
use Rattle.avf_tool.specs.Programs.{program_of}
use Rattle.avf_tool.specs.Texts.{class_text}
use Rattle.avf_tool.proofs.Traces.{program_is}

-- what is told of an analysed run
class_told : (story : Story) (place : Place) (cycle : ℕ) (class : Class) → IsProgram story.r → IsTrace story.r.image story.r.clocks story.run
    → IsClass class (moment story cycle) place
    → ((rule : Rule) → class ≡ UnAce rule → HasSame story.r cycle (flipped story.r cycle place))
    → class_due story.r cycle place (Text (class_text class))
class_told story place cycle class program traced is harmless =
    let same : story.run ≡ program_of story.r = sym (program_is story.r story.run program traced) in (
      class,
      record {
        is = subst (λ run. IsClass class (record { r = story.r; run = run; t = cycle }) place) same is;
        harmless = harmless;
      },
      refl,
    )

pub class_answered : (story : Story) (place : Place) (cycle : ℕ) (class : Class) (text : Result (Vec ℕ Global) Refusal) → IsProgram story.r
    → IsTrace story.r.image story.r.clocks story.run → IsClass class (moment story cycle) place
    → ((rule : Rule) → class ≡ UnAce rule → HasSame story.r cycle (flipped story.r cycle place))
    → IsText (only (Text (class_text class))) text → IsText (class_due story.r cycle place) text
class_answered story place cycle class text program traced is harmless h =
    let told : class_due story.r cycle place (Text (class_text class)) = class_told story place cycle class program traced is harmless in
    text_due (only (Text (class_text class))) (class_due story.r cycle place) (λ due e. subst (class_due story.r cycle place) e told) text h
