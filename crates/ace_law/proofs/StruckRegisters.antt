-- The struck register file under MEM/WB and EX/MEM: what they leave differs in the struck bit at most, and not where one of them writes the
-- register.
use Rattle.std.proofs.Common.{◌≡◌, ◌⊎◌, ◌+◌, ◌<◌, ◌/◌, ◌%◌, ℕ, List, length}
use Rattle.std.proofs.Common.{arith, refl, ap, inl, inr}
use Rattle.std.specs.Prelude.{◌≢◌}
use Rattle.rv_table.specs.Effects.{written_register}
use Rattle.rv_isa.specs.Instruction.{Log, given, put_reg}
use Rattle.cyc_machine.specs.Cycle.{action_in_m}
use Rattle.cyc_machine.specs.Pipeline.{register}
use Rattle.cyc_machine.specs.RegisterBits.{file_flipped}
use Rattle.cyc_machine.specs.State.{State}
use Rattle.flush_view.specs.Flush.{completed_path, flush, latched, path}
use Rattle.flush_view.specs.Struck.{MeansSame}
use Rattle.flush_view.specs.Views.{view}
use Rattle.ace_law.proofs.Registers.{IsNear, file-near, near-put, put-same}

-- the registers that MEM/WB and EX/MEM leave over a file
abbrev pub left_over : State → List ℕ → ℕ → ℕ
left_over s file =
    put_reg (written_register (action_in_m s)) (given s.image (action_in_m s) (view s)) (put_reg s.w.rd s.w.value (register file))

module _ (s : State) (k : ℕ) (within : k / 32 < length s.registers) where
  abbrev struck_file : List ℕ
  struck_file = file_flipped s.registers k

  near-written : IsNear (k / 32 + 1) (k % 32) (put_reg s.w.rd s.w.value (register s.registers)) (put_reg s.w.rd s.w.value (register struck_file))
  near-written =
      near-put (k / 32 + 1) (k % 32) s.w.rd s.w.value (register s.registers) (register struck_file) (file-near s.registers k within)

  pub near-left : IsNear (k / 32 + 1) (k % 32) (left_over s s.registers) (left_over s (file_flipped s.registers k))
  near-left =
      near-put (k / 32 + 1) (k % 32) (written_register (action_in_m s)) (given s.image (action_in_m s) (view s))
      (put_reg s.w.rd s.w.value (register s.registers)) (put_reg s.w.rd s.w.value (register struck_file)) near-written

  some : k / 32 + 1 ≢ 0
  some h = absurd (omega (arith, h))

  pub left-same : (s.w.rd ≡ k / 32 + 1) ⊎ (written_register (action_in_m s) ≡ k / 32 + 1)
      → left_over s (file_flipped s.registers k) ≡ left_over s s.registers
  left-same (inl e) =
      ap (put_reg (written_register (action_in_m s)) (given s.image (action_in_m s) (view s)))
      (put-same (k / 32 + 1) (k % 32) s.w.rd s.w.value (register s.registers) (register struck_file) (file-near s.registers k within) e some)
  left-same (inr e) =
      put-same (k / 32 + 1) (k % 32) (written_register (action_in_m s)) (given s.image (action_in_m s) (view s))
      (put_reg s.w.rd s.w.value (register s.registers)) (put_reg s.w.rd s.w.value (register struck_file)) near-written e some

-- where they leave the same the flush is the same
flush-registers : (s : State) (file : List ℕ) (clocks : List ℕ) (log : Log) → left_over s file ≡ left_over s s.registers
    → flush (record s { registers = file }) clocks log ≡ flush s clocks log
unfolding flush view
flush-registers s file clocks log e =
    ap (λ (f : ℕ → ℕ). completed_path s.image (path s) (record (latched s clocks log) { registers = f })) e

pub means-same : (s : State) (file : List ℕ) → left_over s file ≡ left_over s s.registers → MeansSame s (record s { registers = file })
unfolding view
means-same s file e = record { view = refl; coherent = λ out coherent. coherent; flush = λ clocks log. flush-registers s file clocks log e }
