-- What is told of a recorded run.
use Rattle.std.proofs.Common.{◌≡◌, ◌≤◌, ◌<◌, ◌^◌, ℕ, suc, Bool, true, false, List, [], ◌∷◌, arith, refl, sym, ◌∙◌, subst}
use Rattle.std.specs.Prelude.{None, Err, filter, nat_lt, if◌then◌else◌}
use Rattle.std.proofs.lemmas.Bool.Decides.{nat_tests}
use Rattle.std.proofs.lemmas.List.Elements.{All-cons, All-nil}
use Rattle.std.specs.List.{All}
use Rattle.elf_load.specs.Image.{IsImage, LoadedImage}
use Rattle.bit_field.specs.declared.shapes.Shape.{Shape}
use Rattle.cyc_machine.specs.EventsLaw.{EventsLaw}
use Rattle.cyc_machine.specs.Run.{clocks_below, events_below, output_below, retired_below}
use Rattle.cyc_machine.specs.State.{reset}
use Rattle.cyc_machine.proofs.Events.{events-law}
use Rattle.cyc_machine.proofs.Sizes.Lasting.{steady-reset}
use Rattle.wb_cache.specs.Contents.{empty}
use Rattle.event_log.specs.Events.{IsEventLog}
use Rattle.rv_isa.specs.Runs.{IsAnswer, IsTrace, ProgramTrace, trace_at}
use Rattle.rv_isa.specs.declared.error.IsaError.{IsaError}
use Rattle.rv_isa.specs.declared.error.IsaError.TheVariants.{NoEnd}
use Rattle.need_pass.specs.Law.{HasNeedLaw}
use Rattle.need_pass.specs.Tables.{IsNeedOf, Needs}
use Rattle.flush_view.specs.RunLaw.{EndsAfter}
use Rattle.flush_view.proofs.Run.RunLaw.{run-ends}
use Rattle.run_record.specs.Run.{IsRecord, RecordedRun}
use Rattle.run_record.specs.Times.{IsTimed}
use Rattle.ace_law.specs.Moments.{IsTold}

log-by : (image : LoadedImage) (shape : Shape) (n : ℕ) → EventsLaw n (reset image shape) → IsEventLog shape (events_below image shape n)
unfolding reset empty
log-by image shape n law = record { rising = law.rising; sets = law.sets; ways = law.ways }

pub event_log : (r : RecordedRun) → IsImage r.image → IsRecord r → IsEventLog r.shape r.events
event_log r image is = rw is.events (log-by r.image r.shape r.cycles (events-law r.cycles (reset r.image r.shape)
    (steady-reset r.image r.shape image is.fits)))

ends-by : (r : RecordedRun) (last : ℕ) → IsRecord r → r.cycles ≡ suc last
    → EndsAfter r.image (clocks_below r.image r.shape (suc last)) (retired_below r.image r.shape (suc last)) r.end (output_below r.image r.shape
    (suc last))
    → EndsAfter r.image r.clocks r.instructions r.end r.output
ends-by r last is e h = rw (is.clocks, is.instructions, is.output, e) h

record-ends : (r : RecordedRun) → IsImage r.image → IsRecord r → EndsAfter r.image r.clocks r.instructions r.end r.output
record-ends r image is =
    let last = is.cycles in
    ends-by r is.last is (omega (arith, last)) (run-ends r.image r.shape image is.fits is.last r.end is.running is.ends)

-- so the instruction set's run has an end within the recorded number of instructions
pub has_end : (r : RecordedRun) → IsImage r.image → IsRecord r → (trace_at r.image r.clocks r.instructions).stop ≡ None → ⊥
has_end r image is none = let ends = (record-ends r image is).ends in absurd cc

pub no_end : (r : RecordedRun) (image : LoadedImage) (clocks : List ℕ) (limit : ℕ) (error : IsaError) → IsImage r.image → IsRecord r → image ≡ r.image
    → clocks ≡ r.clocks → limit ≡ r.instructions → IsAnswer image clocks limit (Err error) → error ≡ NoEnd → ⊥
no_end r image clocks limit error loaded is i c l answer e =
    let none : (trace_at image clocks limit).stop ≡ None = subst (λ (error : IsaError). IsAnswer image clocks limit (Err error)) e answer in
    has_end r loaded is (rw (← i, ← c, ← l) none)

-- clock values are numbers of cycles
small_more : (n x : ℕ) (xs : List ℕ) → n ≤ 2 ^ 31 → All (λ clock. clock < 2 ^ 32) xs → (b : Bool) → nat_lt x n ≡ b
    → All (λ clock. clock < 2 ^ 32) (if b then x ∷ xs else xs)
small_more n x xs l all true e =
    let below : x < n = grind (arith, nat_tests) in
    All-cons (λ clock. clock < 2 ^ 32) x xs (omega (arith, below, l)) all
small_more n x xs l all false e = all

small : (n : ℕ) (xs : List ℕ) → n ≤ 2 ^ 31 → All (λ clock. clock < 2 ^ 32) (filter (λ c. nat_lt c n) xs)
small n [] l = All-nil (λ clock. clock < 2 ^ 32)
small n (x ∷ xs) l = small_more n x (filter (λ c. nat_lt c n) xs) l (small n xs l) (nat_lt x n) refl

clocks-small : (r : RecordedRun) → IsRecord r → IsTimed r → r.cycles ≤ 2 ^ 31 → All (λ clock. clock < 2 ^ 32) r.clocks
clocks-small r is timed short =
    subst (All (λ clock. clock < 2 ^ 32)) (sym (is.clocks ∙ timed.clocks r.cycles (omega arith))) (small r.cycles r.clocks short)

pub told_of : (r : RecordedRun) (run : ProgramTrace) (table : Needs) → IsImage r.image → IsRecord r → IsTimed r → r.cycles ≤ 2 ^ 31
    → IsTrace r.image r.clocks run → HasNeedLaw run → IsNeedOf run.entries table → IsTold r run table
told_of r run table image is timed short traced law needs =
    let clocks = clocks-small r is timed short in
    record {
      image = image;
      recorded = is;
      short = short;
      clocks = clocks;
      traced = traced;
      law = law r.image r.clocks image clocks traced;
      needs = needs;
    }
