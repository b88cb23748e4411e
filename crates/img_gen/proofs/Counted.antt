-- How many instructions the run of a generated program has, and how it ends.
use Rattle.std.proofs.Common.{◌≡◌, ℕ, ◌+◌, ◌*◌, ◌<◌, ◌≤◌, [], ◌∷◌, List, length, Option, None, Some, inl, inr, refl, sym, ap, ◌∙◌, arith}
use Rattle.std.proofs.Common.{lit<}
use Rattle.std.specs.List.{flat_map}
use Rattle.std.proofs.lemmas.Bool.{cases_lt}
use Rattle.avf_base.specs.declared.end.End.{End}
use Rattle.avf_base.specs.declared.end.End.TheVariants.{Exit}
use Rattle.elf_load.specs.Image.{LoadedImage}
use Rattle.elf_load.specs.Layout.{IsRamSize}
use Rattle.elf_load.specs.Meaning.{image_in}
use Rattle.elf_write.specs.Code.{op_bytes}
use Rattle.rv_isa.proofs.RunSteps.{after-stays, running-before}
use Rattle.rv_isa.specs.Instruction.{State, instruction, op_at}
use Rattle.rv_isa.specs.Runs.{IsTrace, ProgramTrace, after, reset, trace_at}
use Rattle.rv_table.specs.declared.codes.TheConstants.{LUI, ADDI}
use Rattle.img_gen.specs.Laws.{ExitsAfter, PutsAndExits, RunsFourRounds}
use Rattle.img_gen.specs.Program.{immediate, program}
use Rattle.img_gen.proofs.Assembled.{end_placed, image_with, loop, meaning, placed}
use Rattle.img_gen.proofs.Ending.{IsEnding, IsFinish, ending}
use Rattle.img_gen.proofs.Fitting.{fits_start}
use Rattle.img_gen.proofs.Loading.{text_image}
use Rattle.img_gen.proofs.Moves.{addi, lui}
use Rattle.img_gen.proofs.Placed.{first_op, second_op}
use Rattle.img_gen.proofs.Rounds.{IsAt, IsLoop, last_round, moved, round}

lui_step : (image : LoadedImage) (at : State) → op_at image 16384 ≡ immediate LUI 8 0 524288 → at.pc ≡ 16384 → at.log.output ≡ []
    → IsAt 16385 (at.registers 9) (instruction image at)
lui_step image at e pc silent =
    let next = lui image 8 524288 at (ap (op_at image) pc ∙ e) in
    record {
      pc = next.pc ∙ omega (arith, pc);
      base = ap (λ (f : ℕ → ℕ). f 8) next.registers;
      left = ap (λ (f : ℕ → ℕ). f 9) next.registers;
      running = next.stop;
      silent = next.output ∙ silent;
    }

rounds_step : (image : LoadedImage) (rounds : ℕ) (at : State) → op_at image 16385 ≡ immediate ADDI 9 0 4 → IsAt 16385 rounds at
    → IsAt 16386 4 (instruction image at)
rounds_step image rounds at e is =
    let word_is = is.pc in
    let next = addi image 9 0 4 at (ap (op_at image) is.pc ∙ e) in
    record {
      pc = next.pc ∙ omega (arith, word_is);
      base = ap (λ (f : ℕ → ℕ). f 8) next.registers ∙ is.base;
      left = ap (λ (f : ℕ → ℕ). f 9) next.registers;
      running = next.stop;
      silent = next.output ∙ is.silent;
    }

begun : (image : LoadedImage) (at : State) → op_at image 16384 ≡ immediate LUI 8 0 524288 → op_at image 16385 ≡ immediate ADDI 9 0 4
    → at.pc ≡ 16384 → at.stop ≡ None → at.log.output ≡ [] → IsAt 16386 4 (after image 2 at)
unfolding after
begun image at e f pc stop silent =
    let first : IsAt 16385 (at.registers 9) (after image 1 at) =
    moved image (IsAt 16385 (at.registers 9)) at 0 1 refl stop (lui_step image at e pc silent) in
    moved image (IsAt 16386 4) at 1 2 refl first.running (rounds_step image (at.registers 9) (after image 1 at) f first)

four_rounds : (image : LoadedImage) (size : ℕ) (at : State) → IsLoop image size → IsFinish image (16389 + size)
    → IsAt 16386 4 (after image 2 at)
    → IsEnding image (4 * size + 16) at
four_rounds image size at loop finish is =
    let small = loop.small in
    let r3 : IsAt 16386 3 (after image (size + 5) at) = round image size 2 2 (size + 5) at loop (lit< tt) (omega arith) is in
    let r2 : IsAt 16386 2 (after image (2 * size + 8) at) =
    round image size 1 (size + 5) (2 * size + 8) at loop (lit< tt) (omega arith) r3 in
    let r1 : IsAt 16386 1 (after image (3 * size + 11) at) =
    round image size 0 (2 * size + 8) (3 * size + 11) at loop (lit< tt) (omega arith) r2 in
    let behind : IsAt (16389 + size) 0 (after image (4 * size + 13) at) =
    last_round image size (3 * size + 11) (4 * size + 13) at loop (omega arith) r1 in
    ending image (16389 + size) (4 * size + 13) (4 * size + 16) at finish (omega arith) (omega arith) behind.pc behind.running behind.silent

reset_pc : (text : List ℕ) (ram : ℕ) (clocks : List ℕ) → (reset (text_image text ram) clocks).pc ≡ 16384
unfolding reset text_image image_in
reset_pc text ram clocks = refl

reset_stop : (image : LoadedImage) (clocks : List ℕ) → (reset image clocks).stop ≡ None
unfolding reset
reset_stop image clocks = refl

reset_output : (image : LoadedImage) (clocks : List ℕ) → (reset image clocks).log.output ≡ []
unfolding reset
reset_output image clocks = refl

run_ending : (number size ram : ℕ) (clocks : List ℕ) → size ≤ 4096 → IsRamSize ram
    → IsEnding (image_with number size ram) (4 * size + 16) (reset (image_with number size ram) clocks)
run_ending number size ram clocks h is =
    let image : LoadedImage = image_with number size ram in
    let at : State = reset image clocks in
    let first : op_at image 16384 ≡ immediate LUI 8 0 524288 =
    placed number size ram 0 16384 _ h is (omega arith) refl (first_op number size _)
    (fits_start 0 (immediate LUI 8 0 524288) (lit< tt)) (lit< tt) in
    let second : op_at image 16385 ≡ immediate ADDI 9 0 4 =
    placed number size ram 1 16385 _ h is (omega arith) refl (second_op number size _) (fits_start 1 (immediate ADDI 9 0 4) (lit< tt))
    (lit< tt) in
    four_rounds image size at (loop number size ram h is) (end_placed number size ram h is)
    (begun image at first second (reset_pc (flat_map op_bytes (program number size)) ram clocks) (reset_stop image clocks)
    (reset_output image clocks))

clash : (stop : Option End) (end : End) (m n : ℕ) → stop ≡ None → stop ≡ Some end → m ≡ n
clash stop end m n p q = absurd cc

-- a trace ends where the run does
same_length : (image : LoadedImage) (clocks : List ℕ) (count : ℕ) (end : End) (run : ProgramTrace)
    → ((i : ℕ) → i < count → (trace_at image clocks i).stop ≡ None) → (trace_at image clocks count).stop ≡ Some end
    → IsTrace image clocks run
    → length run.entries ≡ count
same_length image clocks count end run running ends traced =
    let long : ℕ = length run.entries in
    elim (cases_lt long count) [
      | inl less ↦ clash (trace_at image clocks long).stop run.end long count (running long less) traced.ends
      | inr reached ↦
          elim (cases_lt count long) [
            | inl more ↦ clash (trace_at image clocks count).stop end long count (traced.running count more) ends
            | inr same ↦ omega arith
          ]
    ]

same_end : (stop : Option End) (a b : End) → stop ≡ Some a → stop ≡ Some b → a ≡ b
same_end stop a b p q = cc

told : (image : LoadedImage) (clocks : List ℕ) (count status : ℕ) (run : ProgramTrace) → length run.entries ≡ count
    → (trace_at image clocks count).stop ≡ Some (Exit status) → (trace_at image clocks count).log.output ≡ status ∷ []
    → IsTrace image clocks run
    → PutsAndExits run count status
told image clocks count status run long ends output traced = record {
  instructions = long;
  output = sym traced.puts ∙ ap (λ (n : ℕ). (trace_at image clocks n).log.output) long ∙ output;
  end = same_end (trace_at image clocks count).stop run.end (Exit status)
      (ap (λ (n : ℕ). (trace_at image clocks n).stop) (sym long) ∙ traced.ends) ends;
}

exits_after : (image : LoadedImage) (clocks : List ℕ) (n count : ℕ) → count ≡ n + 1 → IsEnding image n (reset image clocks)
    → ExitsAfter image clocks count
exits_after image clocks n count e is =
    let at : State = reset image clocks in
    let before : (i : ℕ) → i < count → (trace_at image clocks i).stop ≡ None =
    λ i h. running-before image i n at (omega arith) is.running in
    let ends : (trace_at image clocks count).stop ≡ Some (Exit is.status) = rw e is.ends in
    let output : (trace_at image clocks count).log.output ≡ is.status ∷ [] = rw e is.output in
    record {
      status = is.status;
      byte = is.byte;
      running = before;
      ended = λ i h. ap (λ (s : State). s.stop) (after-stays image count i at (Exit is.status) h ends) ∙ ends;
      traced = λ run traced.
          told image clocks count is.status run (same_length image clocks count (Exit is.status) run before ends traced) ends output traced;
    }

pub runs_four_rounds : (number size : ℕ) → size ≤ 4096 → RunsFourRounds number size
runs_four_rounds number size h ram clocks is =
    rw (meaning number size ram h)
    (exits_after (image_with number size ram) clocks (4 * size + 16) (4 * size + 17) (omega arith) (run_ending number size ram clocks h is))
