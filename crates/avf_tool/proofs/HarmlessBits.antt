-- The bits that a rule calls un-ACE are harmless, in every run that is recorded. No table of needs has to be made for it.
use Rattle.std.proofs.Common.{◌≡◌, ℕ, ◌≤◌, ◌^◌, length, Some, ◌∙◌, ap, subst, sym, arith}
use Rattle.std.proofs.lemmas.List.FromFn.{get_or-map-range_with_len, length-map-range_with_len}
use Rattle.std.proofs.lemmas.Option.{slice_get-get_or}
use Rattle.elf_load.specs.Image.{IsImage}
use Rattle.rv_isa.specs.Effects.{retired_at}
use Rattle.rv_isa.specs.Runs.{IsTrace, trace_at}
use Rattle.rv_isa.specs.declared.effect.Retired.{Retired}
use Rattle.need_pass.proofs.NeedLaw.{need_law}
use Rattle.cyc_machine.specs.State.{State}
use Rattle.run_record.specs.Run.{IsRecord, RecordedRun}
use Rattle.run_record.specs.Verdict.{HasSame, IsVerdict}
use Rattle.run_record.specs.declared.verdict.Verdict.{Verdict}
use Rattle.run_record.specs.declared.verdict.Verdict.TheVariants.{Same, Differs, NoEnd}
use Rattle.run_record.proofs.Timed.{record_timed}
use Rattle.run_record.proofs.Verdicts.{one_verdict}
use Rattle.run_log.specs.Answers.{IsProgram}
use Rattle.ace_law.specs.UnAceLaw.{UnAceIsHarmless}
use Rattle.ace_rules.proofs.Told.{told_of}
use Rattle.avf_tool.specs.BitAnswers.{IsHarmless, moment_of}
use Rattle.avf_tool.specs.Programs.{instructions_of, program_of}
use Rattle.avf_tool.proofs.SomeNeeds.{some_needs}

-- the instruction set's run that the record is of is its trace
pub traced : (run : RecordedRun) → IsProgram run → IsTrace run.image run.clocks (program_of run)
traced run is =
    let at : ℕ → Retired = λ i. retired_at run.image (trace_at run.image run.clocks i) in
    let count : length (instructions_of run) ≡ run.instructions = length-map-range_with_len at 0 run.instructions in
    record {
      retired = λ i l.
          slice_get-get_or (instructions_of run) i (at i) l
          ∙ ap Some (get_or-map-range_with_len at 0 run.instructions i i (at i) (omega (arith, l, count)) (omega arith));
      running = λ i l. is.running i (omega (arith, l, count));
      ends = subst (λ n. (trace_at run.image run.clocks n).stop ≡ Some run.end) (sym count) is.ends;
      puts = subst (λ n. (trace_at run.image run.clocks n).log.output ≡ run.output) (sym count) is.puts;
    }

-- exactly one verdict holds, so a flipped run that can't but be the same is the same
same_by : (r : RecordedRun) (t : ℕ) (u : State) (v : Verdict) → IsVerdict r t u v → ((other : Verdict) → IsVerdict r t u other → other ≡ v)
    → ((HasSame r t u → ⊥) → ⊥) → HasSame r t u
same_by r t u (Same cycles) is only must = record { cycles = cycles; same = is }
same_by r t u (Differs cycle) is only must =
    absurd (must (λ h. let e : Same h.cycles ≡ Differs cycle = only (Same h.cycles) h.same in absurd cc))
same_by r t u (NoEnd cycle) is only must =
    absurd (must (λ h. let e : Same h.cycles ≡ NoEnd cycle = only (Same h.cycles) h.same in absurd cc))

must_be_same : (r : RecordedRun) (t : ℕ) (u : State) → ((HasSame r t u → ⊥) → ⊥) → HasSame r t u
must_be_same r t u must = let one = one_verdict r t u in same_by r t u one.verdict one.is one.only must

pub harmless : UnAceIsHarmless → (run : RecordedRun) → IsImage run.image → IsRecord run → run.cycles ≤ 2 ^ 31 → IsProgram run → IsHarmless run
harmless law run image is short program place cycle rule inside below class =
    must_be_same run cycle _
    (λ none. some_needs (instructions_of run) (λ table needs. none
    (law (moment_of run cycle) table place rule
    (told_of run (program_of run) table image is (record_timed run is) short (traced run program)
    (λ i clocks at fit trace. need_law i clocks (program_of run) at fit trace) needs)
    below inside class.0)))
