-- The outcome with clock values to come and a log: where no read of the cycle counter is completed, it is that without, behind the log.
use Rattle.std.proofs.Common.{◌≡◌, ℕ, Bool, true, false, List, [], ◌++◌, refl, sym, ◌∙◌, ap, arith, append_assoc, append-nil}
use Rattle.std.specs.Prelude.{◌==◌, ◌&&◌, is_none, Option, Some, None, if◌then◌else◌}
use Rattle.std.proofs.lemmas.Bool.Decides.{nat_tests}
use Rattle.avf_base.specs.declared.end.End.{End}
use Rattle.elf_load.specs.Image.{LoadedImage}
use Rattle.rv_table.specs.Actions.{clock_test, counter_by, is_clocked, next_address, with_counter}
use Rattle.rv_table.specs.Effects.{byte_put, written_register}
use Rattle.rv_table.specs.Operations.{operation_of}
use Rattle.rv_table.specs.declared.op.Op.{Op}
use Rattle.rv_table.specs.declared.operation.Operation.{Operation}
use Rattle.rv_isa.specs.Instruction.{Log, State, action_in, completed, end_of, first_clock, given, later_clocks, logged, memory_after, next_count, put_reg, with_byte}
use Rattle.pipe_latch.specs.LatchedActions.{action_of}
use Rattle.pipe_latch.specs.Latches.{op_of_latch}
use Rattle.cyc_machine.specs.InFlight.{completed_item, is_latch_reached, item_of_latch, latches_completed, operand_held, outcome}
use Rattle.eval_mask.specs.LatchMasks.{Latches, reads_clock}
use Rattle.eval_mask.specs.Seems.{StandsAt, no_log, under}

unread_by : (o : Operation) (c d n b : ℕ) → clock_test o ≡ false → counter_by o c n b ≡ counter_by o d n b
unfolding clock_test counter_by
unread_by o c d n b e = grind (arith, nat_tests)

unread_counter : (op : Op) (c d n b : ℕ) → is_clocked op ≡ false → with_counter op c n b ≡ with_counter op d n b
unfolding is_clocked with_counter
unread_counter op c d n b e = unread_by (operation_of op.code) c d n b e

first_byte : (xs : List ℕ) (o : Option ℕ) → with_byte xs o ≡ xs ++ with_byte [] o
first_byte xs (Some byte) = refl
first_byte xs None = sym (append-nil xs)

-- the clock values are those that were to come, and the rest stands behind the log
pub record IsUnder (clocks before : List ℕ) (at base : State) : Type 0 where
  pub stands : StandsAt before at base
  pub left : at.clocks ≡ clocks

under_if : (t u : Bool) (clocks before : List ℕ) (a b c d : State) → (t && u) ≡ false → (u ≡ false → IsUnder clocks before a c) → IsUnder clocks before b d
    → IsUnder clocks before (if t then a else b) (if t then c else d)
under_if true u clocks before a b c d e x y = x e
under_if false u clocks before a b c d e x y = y

no_clocks : (t : Bool) (xs ys : List ℕ) → t ≡ false → (if t then ys else xs) ≡ xs
no_clocks true xs ys e = absurd (grind arith)
no_clocks false xs ys e = refl

pub completed_under : (image : LoadedImage) (op : Op) (pc a b : ℕ) (clocks before : List ℕ) (log : Log) (base : State) → is_clocked op ≡ false
    → log.output ≡ before ++ base.log.output → IsUnder clocks before (completed image op pc a b (under clocks log base)) (completed image op pc a b base)
unfolding completed
completed_under image op pc a b clocks before log base unread e =
    let same = unread_counter op (first_clock clocks) (first_clock base.clocks) base.count b unread in
    let last = byte_put (action_in image op pc a (with_counter op (first_clock base.clocks) base.count b)) in
    record {
      stands =
          record {
            registers =
                ap (λ (c : ℕ). put_reg (written_register (action_in image op pc a c)) (given image (action_in image op pc a c) base.memory) base.registers) same;
            memory = ap (λ (c : ℕ). memory_after image (action_in image op pc a c) base.memory) same;
            pc = ap (λ (c : ℕ). next_address op pc a c) same;
            count = refl;
            stop = ap (λ (c : ℕ). end_of (action_in image op pc a c)) same;
            output =
                ap (λ (c : ℕ). with_byte log.output (byte_put (action_in image op pc a c))) same
                ∙ ap (λ (bytes : List ℕ). with_byte bytes last) e
                ∙ first_byte (before ++ base.log.output) last
                ∙ append_assoc before base.log.output (with_byte [] last)
                ∙ ap (λ (bytes : List ℕ). before ++ bytes) (sym (first_byte base.log.output last));
          };
      left = no_clocks (is_clocked op) clocks (later_clocks clocks) unread;
    }

pub outcome_under : (image : LoadedImage) (l : Latches) (clocks : List ℕ) (log : Log) (at : State)
    → reads_clock image l (under [] no_log at) ≡ false
    → IsUnder clocks log.output (outcome image l.w l.m l.d (under clocks log at)) (outcome image l.w l.m l.d (under [] no_log at))
unfolding outcome reads_clock
outcome_under image l clocks log at unread =
    let done = action_of l.m in
    let base = latches_completed image done l.w (under [] no_log at) in
    let above = latches_completed image done l.w (under clocks log at) in
    let item = item_of_latch image done l.w at.memory l.d in
    under_if (is_latch_reached l.d base) (is_clocked (op_of_latch l.d)) clocks log.output
    (completed_item image item above) above (completed_item image item base) base unread
    (λ e.
    completed_under image (op_of_latch l.d) l.d.pc (operand_held image done l.w at.memory l.d.rs1 l.d.a)
    (operand_held image done l.w at.memory l.d.rs2 l.d.b) clocks log.output (logged log done) base e (first_byte log.output (byte_put done)))
    (record {
      stands = record { registers = refl; memory = refl; pc = refl; count = refl; stop = refl; output = first_byte log.output (byte_put done) };
      left = refl;
    })

-- ---- the count of instructions

count_if : (t v p : Bool) (e : Option End) (n : ℕ) (x y : State) → t ≡ (v && (is_none e && p)) → x.count ≡ next_count n → y.count ≡ n → y.stop ≡ e
    → (if t then x else y).stop ≡ None → (if t then x else y).count ≡ (if v && p then next_count n else n)
count_if true true true e n x y q xs ys ye stop = xs
count_if true true false e n x y q xs ys ye stop = absurd (grind (arith, nat_tests))
count_if true false p e n x y q xs ys ye stop = absurd (grind arith)
count_if false false p e n x y q xs ys ye stop = ys
count_if false true false e n x y q xs ys ye stop = ys
count_if false true true e n x y q xs ys ye stop = absurd (ended e q (sym ye ∙ stop))
  where
    ended : (e : Option End) → false ≡ (true && (is_none e && true)) → e ≡ None → ⊥
    ended None q none = grind arith
    ended (Some end) q none = grind arith

-- where no end has come, it tells whether ID/EX was completed
pub count_of : (image : LoadedImage) (l : Latches) (at : State) → (outcome image l.w l.m l.d at).stop ≡ None
    → (outcome image l.w l.m l.d at).count ≡ (if l.d.valid && l.d.pc == at.pc then next_count at.count else at.count)
unfolding outcome completed
count_of image l at stop =
    let done = action_of l.m in
    let base = latches_completed image done l.w at in
    let item = item_of_latch image done l.w at.memory l.d in
    count_if (is_latch_reached l.d base) l.d.valid (l.d.pc == at.pc) (end_of done) at.count (completed_item image item base) base refl refl refl refl stop
