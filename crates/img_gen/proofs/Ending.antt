-- The end of a generated program: it puts the low byte of a0 and exits with it.
use Rattle.std.proofs.Common.{◌≡◌, ℕ, ◌+◌, ◌%◌, ◌^◌, ◌<◌, [], ◌∷◌, List, None, Some, refl, ap, ◌∙◌, arith}
use Rattle.avf_base.specs.declared.end.End.TheVariants.{Exit}
use Rattle.elf_load.specs.Image.{LoadedImage}
use Rattle.rv_isa.specs.Instruction.{State, instruction, op_at, with_byte}
use Rattle.rv_isa.specs.Runs.{after}
use Rattle.rv_table.specs.Operations.{of_registers}
use Rattle.rv_table.specs.declared.codes.TheConstants.{ADDI, ECALL}
use Rattle.img_gen.specs.Program.{immediate}
use Rattle.img_gen.proofs.Moves.{addi, exits, puts}
use Rattle.img_gen.proofs.Rounds.{moved}

-- the last four instructions, from a word on
pub record IsFinish (image : LoadedImage) (word : ℕ) : Type 0 where
  pub put_number : op_at image word ≡ immediate ADDI 17 0 1
  pub put : op_at image (word + 1) ≡ of_registers ECALL 0 17 10
  pub exit_number : op_at image (word + 2) ≡ immediate ADDI 17 0 93
  pub exit : op_at image (word + 3) ≡ of_registers ECALL 0 17 10

-- the run is at a word, with a number in a0, and has put these bytes
record IsRunning (word a0 : ℕ) (bytes : List ℕ) (at : State) : Type 0 where
  pc : at.pc ≡ word
  value : at.registers 10 ≡ a0
  stop : at.stop ≡ None
  output : at.log.output ≡ bytes

-- and with the number of a call in a7
record IsCalling (word number a0 : ℕ) (bytes : List ℕ) (at : State) : Type 0 where
  called : at.registers 17 ≡ number
  other : IsRunning word a0 bytes at

number_step : (image : LoadedImage) (word next number a0 : ℕ) (bytes : List ℕ) (at : State) → op_at image word ≡ immediate ADDI 17 0 number
    → word < 2 ^ 29 → number < 2 ^ 32 → next ≡ word + 1 → IsRunning word a0 bytes at → IsCalling next number a0 bytes (instruction image at)
number_step image word next number a0 bytes at e small fits goes is =
    let word_is = is.pc in
    let moves = addi image 17 0 number at (ap (op_at image) is.pc ∙ e) in
    record {
      called = ap (λ (f : ℕ → ℕ). f 17) moves.registers ∙ omega arith;
      other = record {
        pc = moves.pc ∙ omega (arith, word_is);
        value = ap (λ (f : ℕ → ℕ). f 10) moves.registers ∙ is.value;
        stop = moves.stop;
        output = moves.output ∙ is.output;
      };
    }

put_step : (image : LoadedImage) (word next a0 : ℕ) (at : State) → op_at image word ≡ of_registers ECALL 0 17 10 → word < 2 ^ 29
    → next ≡ word + 1
    → IsCalling word 1 a0 [] at → IsRunning next a0 (a0 % 2 ^ 8 ∷ []) (instruction image at)
put_step image word next a0 at e small goes is =
    let word_is = is.other.pc in
    let moves = puts image at (ap (op_at image) is.other.pc ∙ e) is.called in
    record {
      pc = moves.pc ∙ omega (arith, word_is);
      value = ap (λ (f : ℕ → ℕ). f 10) moves.registers ∙ is.other.value;
      stop = moves.stop;
      output = moves.output ∙ ap (λ (o : List ℕ). with_byte o (Some (at.registers 10 % 2 ^ 8))) is.other.output
          ∙ ap (λ (n : ℕ). n % 2 ^ 8 ∷ []) is.other.value;
    }

-- the run has ended with the one byte that it put
record IsOver (status : ℕ) (at : State) : Type 0 where
  stop : at.stop ≡ Some (Exit status)
  output : at.log.output ≡ status ∷ []

exit_step : (image : LoadedImage) (word a0 : ℕ) (at : State) → op_at image word ≡ of_registers ECALL 0 17 10
    → IsCalling word 93 a0 (a0 % 2 ^ 8 ∷ []) at → IsOver (a0 % 2 ^ 8) (instruction image at)
exit_step image word a0 at e is =
    let moves = exits image at (ap (op_at image) is.other.pc ∙ e) is.called in
    record {
      stop = moves.stop ∙ ap (λ (n : ℕ). Some (Exit (n % 2 ^ 8))) is.other.value;
      output = moves.output ∙ is.other.output;
    }

-- what is before the last instruction, and behind it
pub record IsEnding (image : LoadedImage) (n : ℕ) (at : State) : Type 0 where
  pub running : (after image n at).stop ≡ None
  pub status : ℕ
  pub byte : status < 2 ^ 8
  pub ends : (after image (n + 1) at).stop ≡ Some (Exit status)
  pub output : (after image (n + 1) at).log.output ≡ status ∷ []

pub ending : (image : LoadedImage) (word n m : ℕ) (at : State) → IsFinish image word → word < 2 ^ 28 → m ≡ n + 3
    → (after image n at).pc ≡ word → (after image n at).stop ≡ None → (after image n at).log.output ≡ [] → IsEnding image m at
ending image word n m at finish small e pc running silent =
    let a0 : ℕ = (after image n at).registers 10 in
    let put : List ℕ = a0 % 2 ^ 8 ∷ [] in
    let s1 : IsCalling (word + 1) 1 a0 [] (after image (n + 1) at) =
    moved image (IsCalling (word + 1) 1 a0 []) at n (n + 1) refl running
    (number_step image word (word + 1) 1 a0 [] (after image n at) finish.put_number (omega arith) (omega arith) refl
    (record { pc = pc; value = refl; stop = running; output = silent })) in
    let s2 : IsRunning (word + 2) a0 put (after image (n + 2) at) =
    moved image (IsRunning (word + 2) a0 put) at (n + 1) (n + 2) (omega arith) s1.other.stop
    (put_step image (word + 1) (word + 2) a0 (after image (n + 1) at) finish.put (omega arith) (omega arith) s1) in
    let s3 : IsCalling (word + 3) 93 a0 put (after image m at) =
    moved image (IsCalling (word + 3) 93 a0 put) at (n + 2) m (omega arith) s2.stop
    (number_step image (word + 2) (word + 3) 93 a0 put (after image (n + 2) at) finish.exit_number (omega arith) (omega arith)
    (omega arith) s2) in
    let over : IsOver (a0 % 2 ^ 8) (after image (m + 1) at) =
    moved image (IsOver (a0 % 2 ^ 8)) at m (m + 1) refl s3.other.stop (exit_step image (word + 3) a0 (after image m at) finish.exit s3) in
    record {
      running = s3.other.stop;
      status = a0 % 2 ^ 8;
      byte = omega arith;
      ends = over.stop;
      output = over.output;
    }
