-- The trace of a recorded run has the instructions that the record speaks of.
use Rattle.std.proofs.Common.{◌≡◌, ℕ, suc, ◌+◌, ◌<◌, List, [], ◌∷◌, length, map, None, Some, refl, sym, ap, ◌∙◌, arith, inl, inr}
use Rattle.std.specs.Prelude.{◌≢◌, Option, slice_get}
use Rattle.std.specs.List.{range_with_len}
use Rattle.std.proofs.lemmas.Bool.{cases_order}
use Rattle.avf_base.specs.declared.end.End.{End}
use Rattle.elf_load.specs.Image.{LoadedImage}
use Rattle.rv_isa.specs.Effects.{retired_at}
use Rattle.rv_isa.specs.Runs.{IsTrace, ProgramTrace, trace_at}
use Rattle.run_record.specs.Run.{RecordedRun}
use Rattle.run_log.specs.Answers.{IsProgram}
use Rattle.avf_tool.specs.Programs.{instructions_of, program_of}

some_end : (o : Option End) (end : End) → o ≡ Some end → o ≡ None → ⊥
some_end o end e h = absurd cc

-- it ends within the instructions that were retired
pub ends : (run : RecordedRun) → IsProgram run → (trace_at run.image run.clocks run.instructions).stop ≢ None
ends run is none = some_end (trace_at run.image run.clocks run.instructions).stop run.end is.ends none

some_is : {A : Type 0} (x y : A) → Some x ≡ Some y → x ≡ y
some_is x y e = cc

-- a list by its elements
map_range : {A : Type 0} (f : ℕ → A) (xs : List A) (from : ℕ) → ((i : ℕ) → i < length xs → slice_get xs i ≡ Some (f (from + i)))
    → map f (range_with_len from (length xs)) ≡ xs
map_range f [] from h = refl
map_range f (x ∷ xs) from h =
    let at : from + 0 ≡ from = omega arith in
    let head : f from ≡ x = sym (some_is x (f from) (h 0 (omega arith) ∙ ap (λ i. Some (f i)) at)) in
    let next : (i : ℕ) → i < length xs → slice_get xs i ≡ Some (f (from + 1 + i)) = λ i l.
    h (suc i) (omega (arith, l)) ∙ ap (λ k. Some (f k)) (omega arith) in
    rw (head, map_range f xs (from + 1) next) refl

-- a run has one length
one_length : (image : LoadedImage) (clocks : List ℕ) (k n : ℕ) (last end : End) → ((i : ℕ) → i < k → (trace_at image clocks i).stop ≡ None)
    → (trace_at image clocks k).stop ≡ Some last
    → ((i : ℕ) → i < n → (trace_at image clocks i).stop ≡ None) → (trace_at image clocks n).stop ≡ Some end → k ≡ n
one_length image clocks k n last end running ends going over =
    elim (cases_order k n) [
      | inl same ↦ same
      | inr (inl before) ↦ absurd (some_end (trace_at image clocks k).stop last ends (going k before))
      | inr (inr behind) ↦ absurd (some_end (trace_at image clocks n).stop end over (running n behind))
    ]

same_length : (run : RecordedRun) (trace : ProgramTrace) → IsProgram run → IsTrace run.image run.clocks trace → length trace.entries ≡ run.instructions
same_length run trace is h =
    one_length run.image run.clocks (length trace.entries) run.instructions trace.end run.end h.running h.ends is.running is.ends

pub traced : (run : RecordedRun) (trace : ProgramTrace) → IsProgram run → IsTrace run.image run.clocks trace → instructions_of run ≡ trace.entries
traced run trace is h =
    let n : length trace.entries ≡ run.instructions = same_length run trace is h in
    ap (λ k. map (λ i. retired_at run.image (trace_at run.image run.clocks i)) (range_with_len 0 k)) (sym n)
    ∙ map_range (λ i. retired_at run.image (trace_at run.image run.clocks i)) trace.entries 0
    (λ i l. h.retired i l ∙ ap (λ k. Some (retired_at run.image (trace_at run.image run.clocks k))) (omega arith))

parts_are : (run : RecordedRun) (trace : ProgramTrace) → instructions_of run ≡ trace.entries → run.output ≡ trace.output → run.end ≡ trace.end
    → program_of run ≡ trace
parts_are run trace entries output end = rw (entries, output, end) refl

-- the trace is the instruction set's run
pub program_is : (run : RecordedRun) (trace : ProgramTrace) → IsProgram run → IsTrace run.image run.clocks trace → program_of run ≡ trace
program_is run trace is h =
    let n : length trace.entries ≡ run.instructions = same_length run trace is h in
    parts_are run trace (traced run trace is h)
    (sym is.puts ∙ ap (λ k. (trace_at run.image run.clocks k).log.output) (sym n) ∙ h.puts)
    (some_is run.end trace.end (sym is.ends ∙ ap (λ k. (trace_at run.image run.clocks k).stop) (sym n) ∙ h.ends))
