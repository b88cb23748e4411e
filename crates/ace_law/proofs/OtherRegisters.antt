-- An operation with the operands that it holds, over registers of which one bit differs; and what stands with such registers.
use Rattle.std.proofs.Common.{◌≡◌, ◌⊎◌, ◌≤◌, ℕ, zero, suc, Bool, true, false, List, [], ◌∷◌, length, arith, refl, ap, sym, subst, ◌∙◌, inl, inr}
use Rattle.std.specs.Prelude.{None, Some, Option, ◌≢◌, drop, nat_lt}
use Rattle.std.proofs.lemmas.Bool.Decides.{nat_tests}
use Rattle.avf_base.specs.declared.end.End.{End}
use Rattle.avf_base.specs.declared.end.End.TheVariants.{Trap}
use Rattle.elf_load.specs.Image.{LoadedImage, IsImage, executable, fetch, word_in_ram}
use Rattle.rv_table.specs.Actions.{with_counter}
use Rattle.rv_table.specs.Effects.{written_register}
use Rattle.rv_table.specs.WellFormed.{well_formed}
use Rattle.rv_table.specs.declared.action.Action.{Action}
use Rattle.rv_table.specs.declared.op.Op.{Op}
use Rattle.rv_table.proofs.Formed.{decode-well_formed}
use Rattle.rv_table.proofs.Writes.{law as write-law}
use Rattle.rv_isa.specs.Instruction.{State as Arch, action_in, completed, end_of, first_clock, given, op_at, op_of_word}
use Rattle.rv_isa.specs.declared.effect.Retired.{Retired}
use Rattle.rv_isa.proofs.Fetched.{fetched-below}
use Rattle.need_pass.specs.Needed.{Needed}
use Rattle.need_pass.specs.ProgramBits.{ProgramBit, bit_of}
use Rattle.need_pass.specs.ProgramBits.ProgramBit.{Byte, Register}
use Rattle.flush_view.specs.RunFacts.{no_line}
use Rattle.ace_law.specs.Moments.{IsTold, Moment, trace}
use Rattle.need_pass.specs.Tables.{Needs}
use Rattle.ace_law.specs.MemoryRules.{IsUnneeded}
use Rattle.ace_law.proofs.Alike.{count_of, seen_as}
use Rattle.ace_law.proofs.Registers.{IsNear, near-below, near-bit, near-put, put-same}
use Rattle.ace_law.proofs.Stands.{Stands}

-- ---- an operation over other registers, with the operands that it holds

pub completed-over : (image : LoadedImage) (op : Op) (pc x y : ℕ) (at : Arch) (f : ℕ → ℕ)
    → completed image op pc x y (record at { registers = f })
    ≡ record (completed image op pc x y at) { registers = (completed image op pc x y (record at { registers = f })).registers }
unfolding completed
completed-over image op pc x y at f = refl

pub completed-near : (image : LoadedImage) (op : Op) (pc x y : ℕ) (at : Arch) (q b : ℕ) (f : ℕ → ℕ) → IsNear q b at.registers f
    → IsNear q b (completed image op pc x y at).registers (completed image op pc x y (record at { registers = f })).registers
unfolding completed
completed-near image op pc x y at q b f near =
    let act : Action = action_in image op pc x (with_counter op (first_clock at.clocks) at.count y) in
    near-put q b (written_register act) (given image act at.memory) at.registers f near

-- one that writes the register leaves the same registers, or it traps
pub overwritten : (image : LoadedImage) (op : Op) (pc x y : ℕ) (at : Arch) (q b : ℕ) (f : ℕ → ℕ) → IsNear q b at.registers f → well_formed op ≡ true
    → op.rd ≡ q → q ≢ 0
    → ((completed image op pc x y (record at { registers = f })).registers ≡ (completed image op pc x y at).registers)
    ⊎ ((cause : ℕ) × ((completed image op pc x y at).stop ≡ Some (Trap cause)))
unfolding completed
overwritten image op pc x y at q b f near formed e some =
    let c : ℕ = with_counter op (first_clock at.clocks) at.count y in
    let act : Action = action_in image op pc x c in
    let named : op.rd ≢ 0 = λ h. some (sym e ∙ h) in
    elim (write-law.writes (word_in_ram image) (executable image) op pc x c formed named) [
      | inl written ↦ inl (put-same q b (written_register act) (given image act at.memory) at.registers f near (written ∙ e) some)
      | inr (cause, traps) ↦ inr (cause, ap end_of traps)
    ]

pub formed-at : (image : LoadedImage) → IsImage image → (pc : ℕ) → (op_at image pc).rd ≢ 0 → well_formed (op_at image pc) ≡ true
formed-at image is pc other = go (fetch image pc) refl other
  where
    go : (o : Option ℕ) → fetch image pc ≡ o → (op_of_word o).rd ≢ 0 → well_formed (op_of_word o) ≡ true
    go None e other = absurd (other refl)
    go (Some word) e other = decode-well_formed word (fetched-below image is pc word e)

-- ---- what is needed behind the last instruction

none-needed : (later : List Retired) (p : ProgramBit) → later ≡ [] → Needed later p → ⊥
unfolding Needed
none-needed later p e needed = subst (λ xs. Needed xs p) e needed

drop-all : (xs : List Retired) (i : ℕ) → length xs ≤ i → drop i xs ≡ []
drop-all [] zero l = refl
drop-all [] (suc i) l = refl
drop-all (x ∷ xs) zero l = absurd (omega arith)
drop-all (x ∷ xs) (suc i) l = drop-all xs i (omega arith)

-- nothing is, where the run has ended
pub ended-unneeded : (a : Moment) (table : Needs) → IsTold a.r a.run table → (i : ℕ) (p : ProgramBit) (end : End) → (trace a i).stop ≡ Some end
    → IsUnneeded a i p
ended-unneeded a table told i p end stop = none-needed (drop i a.run.entries) p (go (nat_lt i (count_of a)) refl)
  where
    go : (c : Bool) → nat_lt i (count_of a) ≡ c → drop i a.run.entries ≡ []
    go true e = let running = told.traced.running i (grind (arith, nat_tests)) in absurd cc
    go false e = drop-all a.run.entries i (grind (arith, nat_tests))

-- ---- standing with other registers

pub stands-near : (a : Moment) (q b i : ℕ) (at : Arch) (f : ℕ → ℕ) (budget : ℕ) → IsUnneeded a i (Register q b) → IsNear q b at.registers f
    → Stands a no_line i at budget → Stands a no_line i (record at { registers = f }) budget
stands-near a q b i at f budget unneeded near s = record {
  unread = s.unread;
  avoids = s.avoids;
  stop = s.stop;
  words =
      record {
        registers = near-below q b at.registers f near s.words.registers;
        memory = s.words.memory;
        count = s.words.count;
        clocks = s.words.clocks;
      };
  agrees = record { pc = s.agrees.pc; count = s.agrees.count; clocks = s.agrees.clocks; bits = bits };
  puts = s.puts;
  count = s.count;
}
  where
    bits : (p : ProgramBit) → Needed (drop i a.run.entries) p
        → bit_of (seen_as no_line (trace a i) (record at { registers = f })) p ≡ bit_of (trace a i) p
    bits (Register r j) needed =
        near-bit q b at.registers f near r j
        (λ e h. unneeded (subst (λ n. Needed (drop i a.run.entries) (Register n b)) e
        (subst (λ n. Needed (drop i a.run.entries) (Register r n)) h needed)))
        ∙ s.agrees.bits (Register r j) needed
    bits (Byte p j) needed = s.agrees.bits (Byte p j) needed
