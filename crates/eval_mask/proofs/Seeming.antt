-- What is masked seems the recorded run.
use Rattle.std.proofs.Common.{◌≡◌, ℕ, ◌+◌, Bool, false, ◌++◌, List, [], refl, sym, ◌∙◌, ap, append-nil}
use Rattle.std.specs.Int.{bit_at}
use Rattle.std.specs.Prelude.{◌==◌, ◌&&◌, drop, None, if◌then◌else◌}
use Rattle.elf_load.specs.Image.{LoadedImage}
use Rattle.rv_table.specs.Actions.{is_clocked}
use Rattle.rv_table.specs.Words.{decode}
use Rattle.rv_table.specs.declared.op.Op.{Op}
use Rattle.rv_isa.specs.Architecture.{state_of}
use Rattle.rv_isa.specs.Effects.{operated}
use Rattle.rv_isa.specs.Instruction.{State, completed, next_count, reg}
use Rattle.rv_isa.specs.declared.effect.Retired.{Retired}
use Rattle.cyc_machine.specs.InFlight.{outcome}
use Rattle.need_pass.specs.Needed.{Needed}
use Rattle.need_pass.specs.ProgramBits.{ProgramBit, Register, Byte, IsProgramBit, bit_of}
use Rattle.need_pass.specs.Tables.{Needs, IsNeedOf}
use Rattle.need_pass.proofs.Passes.{needed_bit}
use Rattle.eval_mask.specs.Agreement.{Agree, IsNeeded}
use Rattle.eval_mask.specs.LatchMasks.{Latches}
use Rattle.eval_mask.specs.Seems.{MaskedSeems, Seems, StandsAt, WordSeems, no_log, under}
use Rattle.eval_mask.proofs.UnderLog.{IsUnder, completed_under, count_of, outcome_under}

is_needed : (entries : List Retired) (needs : Needs) (j : ℕ) → IsNeedOf entries needs → (p : ProgramBit) → IsProgramBit p → Needed (drop j entries) p
    → IsNeeded needs j p
is_needed entries needs j is (Register r k) b need = (is.register r k j b.0 b.1 b.2).1 need
is_needed entries needs j is (Byte p k) b need = (is.byte p k j b.0 b.1).1 need

stands_bit : (before : List ℕ) (at base : State) → StandsAt before at base → (p : ProgramBit) → bit_of at p ≡ bit_of base p
stands_bit before at base s (Register r k) = ap (λ (h : ℕ → ℕ). bit_at (h r) k) s.registers
stands_bit before at base s (Byte p k) = ap (λ (h : ℕ → ℕ). bit_at (h p) k) s.memory

-- ID/EX is completed in both outcomes or in neither
same_count : (image : LoadedImage) (l other : Latches) (at : State) → other.d.valid ≡ l.d.valid → other.d.pc ≡ l.d.pc
    → (outcome image other.w other.m other.d at).stop ≡ None → (outcome image l.w l.m l.d at).stop ≡ None
    → (outcome image other.w other.m other.d at).count ≡ (outcome image l.w l.m l.d at).count
same_count image l other at v p s t =
    count_of image other at s
    ∙ ap (λ (b : Bool). if b && other.d.pc == at.pc then next_count at.count else at.count) v
    ∙ ap (λ (q : ℕ). if l.d.valid && q == at.pc then next_count at.count else at.count) p
    ∙ sym (count_of image l at t)

-- a state that stands over one that agrees with what the recorded one stands over
seems_by : (entries : List Retired) (needs : Needs) (j : ℕ) (clocks before : List ℕ) (recorded at base own : State) → IsNeedOf entries needs
    → IsUnder clocks before at base → StandsAt before recorded own → Agree needs j base own
    → (base.stop ≡ None → own.stop ≡ None → base.count ≡ own.count) → Seems (drop j entries) clocks recorded at
seems_by entries needs j clocks before recorded at base own is under_log stands agree count =
    record {
      output = under_log.stands.output ∙ ap (λ (bytes : List ℕ). before ++ bytes) agree.output ∙ sym stands.output;
      stop = under_log.stands.stop ∙ agree.stop ∙ sym stands.stop;
      unread = under_log.left;
      agrees =
          λ none same.
          let goes_on : own.stop ≡ None = sym stands.stop ∙ none in
          let base_goes_on : base.stop ≡ None = agree.stop ∙ goes_on in
          let next = agree.next base_goes_on in
          record {
            pc = under_log.stands.pc ∙ next.0 ∙ sym stands.pc;
            count = under_log.stands.count ∙ count base_goes_on goes_on ∙ sym stands.count;
            clocks = under_log.left ∙ sym same;
            bits =
                λ q need.
                let b = needed_bit (drop j entries) q need in
                stands_bit before at base under_log.stands q
                ∙ next.1.same q b (is_needed entries needs j is q b need)
                ∙ sym (stands_bit before recorded own stands q);
          };
    }

pub masked_seems : MaskedSeems
masked_seems entries needs j image at recorded clocks log l other is v p stands masked =
    seems_by entries needs j clocks log.output recorded _ _ _ is (outcome_under image other clocks log at masked.unread) stands masked.agree
    (same_count image l other (under [] no_log at) v p)

-- an operation at a state with a log is that at the state without, behind the log
operated_under : (image : LoadedImage) (op : Op) (at base : State) → base ≡ under at.clocks no_log at → is_clocked op ≡ false
    → IsUnder at.clocks at.log.output (operated image op at) (operated image op base)
operated_under image op at base e unread =
    rw e
    (completed_under image op at.pc (reg at.registers op.rs1) (reg at.registers op.rs2) at.clocks at.log.output at.log
    (under at.clocks no_log at) unread (sym (append-nil at.log.output)))

counted : (image : LoadedImage) (op : Op) (base : State) → (operated image op base).count ≡ next_count base.count
unfolding completed
counted image op base = refl

pub word_seems : WordSeems
word_seems entries needs i word other arch at is e alike =
    let own = operated_under arch.image (decode word) at (state_of arch) e alike.was_unread in
    seems_by entries needs (i + 1) at.clocks at.log.output _ _ _ _ is (operated_under arch.image (decode other) at (state_of arch) e alike.unread) own.stands
    alike.agree
    (λ none goes_on. counted arch.image (decode other) (state_of arch) ∙ sym (counted arch.image (decode word) (state_of arch)))
