-- One answer is due to a command.
use Rattle.std.proofs.Common.{◌≡◌, ℕ, List, Option, None, Some, refl, sym, ap, subst, inl, inr, ◌∙◌}
use Rattle.bit_field.specs.declared.places.Place.{Place}
use Rattle.bit_field.specs.declared.places.Structure.{Structure}
use Rattle.bit_field.specs.declared.shapes.Shape.{Shape}
use Rattle.elf_load.specs.Meaning.{image_of}
use Rattle.run_record.specs.Run.{RecordedRun}
use Rattle.run_record.specs.Within.{record_within}
use Rattle.ace_class.specs.Counts.{Counted}
use Rattle.ace_count.proofs.OneCount.{counts_unique}
use Rattle.ace_rules.proofs.OneClass.{one_class}
use Rattle.avf_report.specs.Tables.{report_csv_of}
use Rattle.avf_report.specs.Texts.{report_text_of}
use Rattle.avf_base.specs.declared.refusal.Refusal.TheVariants.{BadMap}
use Rattle.avf_tool.specs.Answers.{answer, check_answer, image_answer, on_image, on_run, ram_size, reason_in, task_answer}
use Rattle.avf_tool.specs.BitAnswers.{class_due, place_in, unless_nowhere, verdict_due}
use Rattle.avf_tool.specs.CheckAnswers.{check_due, map_checked}
use Rattle.avf_tool.specs.Due.{Answer, Text, Refused, only}
use Rattle.avf_tool.specs.Answers.{unless_endless, unless_refused}
use Rattle.avf_tool.specs.ReportAnswers.{counts_due, plan_due, story_of}
use Rattle.avf_tool.specs.Texts.{accepted_text, class_text, verdict_text}
use Rattle.harden_plan.proofs.BestSets.{one_plan}
use Rattle.harden_plan.specs.PlanTexts.{plan_text_of}
use Rattle.harden_plan.specs.Plans.{IsPlan}
use Rattle.harden_plan.specs.declared.plan.Plan as plans
use Rattle.strike_campaign.proofs.OneCampaign.{one_campaign}
use Rattle.strike_campaign.specs.CampaignTexts.{campaign_text_of}
use Rattle.avf_tool.specs.CampaignAnswers.{campaign_due}
use Rattle.avf_tool.specs.declared.command.StrikesOfSeed.{StrikesOfSeed}
use Rattle.class_map.proofs.OneMap.{one_map}
use Rattle.class_map.proofs.Outcomes.{one_count, one_fault, one_outcome}
use Rattle.class_map.specs.Checks.{IsFirstFault}
use Rattle.class_map.specs.Faults.{lines_of, start}
use Rattle.class_map.specs.Written.{text_of}
use Rattle.due_parity.specs.DueTexts.{due_text_of}
use Rattle.avf_tool.specs.DueAnswers.{rows_due, structures_in}
use Rattle.avf_tool.specs.MapAnswers.{map_due}
use Rattle.avf_tool.proofs.DueTold.{one_rows}
use Rattle.avf_tool.proofs.Flips.{same_verdict}
use Rattle.avf_tool.specs.Words.{CheckJob, ImageJob, Job, OnImage, Bench, CheckMap, Assemble, bench_run}
use Rattle.avf_tool.specs.declared.command.Task.{Task}
use Rattle.avf_tool.specs.declared.command.Task.TheVariants.{Run, Dead, Report, Csv, Plan, Campaign, Due, Map, Query, Flip}

-- at most one answer is due
HasOne : (Answer → Type 0) → Type 0
HasOne due = (a b : Answer) → due a → due b → a ≡ b

one_only : (due : Answer) → HasOne (only due)
unfolding HasOne
one_only due a b h k = sym h ∙ k

one_class_due : (run : RecordedRun) (cycle : ℕ) (place : Place) → HasOne (class_due run cycle place)
unfolding HasOne
one_class_due run cycle place a b h k =
    sym h.2 ∙ ap (λ c. Text (class_text c)) (one_class _ place h.0 k.0 h.1.is k.1.is) ∙ k.2

one_verdict_due : (run : RecordedRun) (cycle : ℕ) (place : Place) → HasOne (verdict_due run cycle place)
unfolding HasOne
one_verdict_due run cycle place a b h k =
    sym h.2 ∙ ap (λ v. Text (verdict_text v)) (same_verdict run cycle _ h.0 k.0 h.1.is k.1.is) ∙ k.2

one_place : (place : Option Place) (next : Place → Answer → Type 0) → ((p : Place) → HasOne (next p)) → HasOne (unless_nowhere place next)
one_place (Some place) next one = one place
one_place None next one = one_only _

one_counts : (run : RecordedRun) (text : Counted → List ℕ) → HasOne (counts_due run text)
unfolding HasOne
one_counts run text a b h k = sym h.2 ∙ ap (λ c. Text (text c)) (counts_unique (story_of run) h.0 k.0 h.1.are k.1.are) ∙ k.2

same_plan : (bits : ℕ) (c d : Counted) (p q : plans.Plan) → c ≡ d → IsPlan c bits p → IsPlan d bits q → Text (plan_text_of c p) ≡ Text (plan_text_of d q)
same_plan bits c d p q e h k =
    let same : p ≡ q = one_plan c bits p q h (subst (λ x. IsPlan x bits q) (sym e) k) in rw (e, same) refl

one_plan_due : (run : RecordedRun) (bits : ℕ) → HasOne (plan_due run bits)
unfolding HasOne
one_plan_due run bits a b h k =
    sym h.4 ∙ same_plan bits h.0 k.0 h.1 k.1 (counts_unique (story_of run) h.0 k.0 h.2.are k.2.are) h.3 k.3 ∙ k.4

one_campaign_due : (run : RecordedRun) (asked : StrikesOfSeed) → HasOne (campaign_due run asked)
unfolding HasOne
one_campaign_due run asked a b h k =
    sym h.2 ∙ ap (λ c. Text (campaign_text_of asked.strikes c)) (one_campaign (story_of run) asked.seed asked.strikes h.0 k.0 h.1 k.1) ∙ k.2

one_rows_due : (run : RecordedRun) (structures : List Structure) → HasOne (rows_due run structures)
unfolding HasOne
one_rows_due run structures a b h k =
    sym h.2
    ∙ ap (λ rows. Text (due_text_of run.cycles rows))
    (one_rows (story_of run) h.0 k.0 (h.1.named ∙ sym k.1.named) h.1.each k.1.each) ∙ k.2

one_map_due : (run : RecordedRun) → HasOne (map_due run)
unfolding HasOne
one_map_due run a b h k = sym h.2 ∙ ap (λ lines. Text (text_of (story_of run) lines)) (one_map (story_of run) h.0 k.0 h.1.all k.1.all) ∙ k.2

one_fault_due : (run : RecordedRun) (map : List ℕ) (line cause other_line other_cause : ℕ) → IsFirstFault (story_of run) start (lines_of map) line cause
    → IsFirstFault (story_of run) start (lines_of map) other_line other_cause → Refused (BadMap line cause) ≡ Refused (BadMap other_line other_cause)
one_fault_due run map line cause other_line other_cause h k =
    let same = one_fault (story_of run) (lines_of map) line cause other_line other_cause h k in rw (same.numbers, same.causes) refl

one_checked : (run : RecordedRun) (map : List ℕ) → HasOne (map_checked run map)
unfolding HasOne
one_checked run map a b (inl h) (inl k) =
    sym h.2 ∙ ap (λ n. Text (accepted_text n)) (one_count (story_of run) (lines_of map) h.0 k.0 h.1.accepted k.1.accepted) ∙ k.2
one_checked run map a b (inl h) (inr k) = absurd (one_outcome (story_of run) (lines_of map) h.0 k.0 k.1 h.1.accepted k.2)
one_checked run map a b (inr h) (inl k) = absurd (one_outcome (story_of run) (lines_of map) k.0 h.0 h.1 k.1.accepted h.2)
one_checked run map a b (inr h) (inr k) = sym h.3 ∙ one_fault_due run map h.0 h.1 k.0 k.1 h.2 k.2 ∙ k.3

one_check_due : (map : Option (List ℕ)) (run : RecordedRun) → HasOne (check_due map run)
unfolding HasOne
one_check_due None run a b h k = absurd h
one_check_due (Some map) run a b h k = one_checked run map a b h k

one_task : (task : Task) (run : RecordedRun) → HasOne (task_answer task run)
one_task Run run = one_only _
one_task Dead run = one_only _
one_task Report run = one_counts run (report_text_of run)
one_task Csv run = one_counts run report_csv_of
one_task (Plan bits) run = one_plan_due run bits
one_task (Campaign asked) run = one_campaign_due run asked
one_task (Due protected) run = one_rows_due run (structures_in protected)
one_task Map run = one_map_due run
one_task (Query asked) run = one_place (place_in run asked) (class_due run asked.cycle) (one_class_due run asked.cycle)
one_task (Flip asked) run = one_place (place_in run asked) (verdict_due run asked.cycle) (one_verdict_due run asked.cycle)

one_run : (next : RecordedRun → Answer → Type 0) (run : Option RecordedRun) → ((r : RecordedRun) → HasOne (next r)) → HasOne (unless_endless run next)
one_run next (Some run) one = one run
one_run next None one = one_only _

one_refusal : (bad : Option ℕ) (next : Answer → Type 0) → HasOne next → HasOne (unless_refused bad next)
one_refusal (Some k) next h = one_only _
one_refusal None next h = h

-- of the run of an image, where there is one
one_of_run : (shape : Shape) (budget : ℕ) (contents : List ℕ) (next : RecordedRun → Answer → Type 0) → ((r : RecordedRun) → HasOne (next r))
    → HasOne (on_image shape contents (on_run shape budget next))
one_of_run shape budget contents next one =
    one_refusal (reason_in shape contents) (on_run shape budget next (image_of contents (ram_size shape)))
    (one_run next (record_within (image_of contents (ram_size shape)) shape budget) one)

one_image : (job : ImageJob) (contents : List ℕ) → HasOne (image_answer job contents)
one_image job contents = one_of_run job.shape job.budget contents (task_answer job.task) (one_task job.task)

one_check : (job : CheckJob) (map : Option (List ℕ)) (contents : List ℕ) → HasOne (check_answer job map contents)
one_check job map contents = one_of_run job.shape job.budget contents (check_due map) (one_check_due map)

one_due : (job : Job) (holds : List ℕ → Option (List ℕ)) (contents : List ℕ) → HasOne (answer job holds contents)
one_due (OnImage job) holds contents = one_image job contents
one_due (Bench job) holds contents = one_image (bench_run job) contents
one_due (CheckMap job) holds contents = one_check job (holds job.map) contents
one_due (Assemble name) holds contents = one_only _

pub one_answer : (job : Job) (holds : List ℕ → Option (List ℕ)) (contents : List ℕ) (a b : Answer) → answer job holds contents a
    → answer job holds contents b → a ≡ b
unfolding HasOne
one_answer job holds contents = one_due job holds contents
