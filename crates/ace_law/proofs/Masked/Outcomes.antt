-- Struck latches whose outcome agrees: what they leave does the same as the recorded run.
use Rattle.std.proofs.Common.{◌≡◌, ℕ, ◌+◌, ◌≤◌, ◌<◌, Bool, true, false, List, replicate, length, arith, refl, sym, subst, ◌∙◌}
use Rattle.std.specs.Prelude.{◌&&◌, ◌==◌, Option, Some, None, drop, is_none, if◌then◌else◌}
use Rattle.std.proofs.lemmas.Bool.Decides.{nat_tests}
use Rattle.avf_base.specs.declared.end.End.{End}
use Rattle.elf_load.specs.Image.{LoadedImage}
use Rattle.rv_isa.specs.Instruction.{State as Arch, Log, end_of, logged}
use Rattle.rv_isa.specs.Words.{IsWords}
use Rattle.inst_buf.specs.BufferBits as buffer_bits
use Rattle.inst_buf.specs.Entry.{no_entry}
use Rattle.inst_buf.specs.declared.buffer.TheConstants.{SLOTS}
use Rattle.pipe_latch.specs.LatchedActions.{action_of}
use Rattle.cyc_machine.specs.Facts.{IsMachine}
use Rattle.cyc_machine.specs.InFlight.{Item, completed_item, is_latch_reached, item_of_latch, latches_completed, outcome}
use Rattle.cyc_machine.specs.Run.{output_below}
use Rattle.cyc_machine.specs.State.{State, reset}
use Rattle.cyc_machine.proofs.Sizes.Lasting.{machine-reset}
use Rattle.need_pass.specs.Needed.{Needed}
use Rattle.need_pass.specs.ProgramBits.{ProgramBit, Register, Byte, IsProgramBit}
use Rattle.need_pass.specs.Tables.{IsNeedOf, Needs}
use Rattle.eval_mask.specs.Agreement.{IsNeeded}
use Rattle.eval_mask.specs.LatchMasks.{IsMasked, Latches}
use Rattle.eval_mask.specs.Seems.{Seems, StandsAt}
use Rattle.eval_mask.proofs.Seeming.{masked_seems}
use Rattle.eval_mask.proofs.UnderLog.{IsUnder, outcome_under}
use Rattle.flush_view.specs.Flush.{before_latches, completed_path, flush}
use Rattle.flush_view.specs.FlushInputs.{InRange, is_latch_missed, outcome_of}
use Rattle.flush_view.specs.Views.{view}
use Rattle.flush_view.proofs.Flush.Counts.{completed-logged, latch-logged}
use Rattle.flush_view.proofs.Flush.Outcome.{flush-outcome}
use Rattle.flush_view.proofs.Flush.Ranges.{flush-in_range}
use Rattle.ace_law.specs.Agreements.{OutcomeAgrees, outcome_at, under_latches}
use Rattle.ace_law.specs.Moments.{IsQuiet, IsTold, Moment, decoded, executed, state, trace}
use Rattle.ace_law.proofs.Alike.{count_of, spare}
use Rattle.ace_law.proofs.Told.{done, done-puts, executed-within, later}
use Rattle.ace_law.proofs.Masked.Does.{Does, spare-below}
use Rattle.ace_law.proofs.Masked.Latches.{decoded-least, latches_of, outcome-is, outcome-unread}
use Rattle.ace_law.proofs.SparedPaths.{one_at_most}

-- a state with other latches
abbrev pub with_latches : State → Latches → State
with_latches s l = record s { w = l.w; m = l.m; d = l.d }

-- ---- the table tells what is needed, so an outcome that agrees is masked

pub needed-by : (a : Moment) (table : Needs) → IsNeedOf a.run.entries table → (j : ℕ) (p : ProgramBit) → IsProgramBit p → IsNeeded table j p
    → Needed (drop j a.run.entries) p
needed-by a table is j (Register r k) b need = (is.register r k j b.0 b.1 b.2).0 need
needed-by a table is j (Byte p k) b need = (is.byte p k j b.0 b.1).0 need

pub agrees-masked : (a : Moment) (table : Needs) (l : Latches) → IsNeedOf a.run.entries table → OutcomeAgrees a (with_latches (state a) l)
    → IsMasked table (decoded a) (state a).image (under_latches (state a)) (latches_of (state a)) l
unfolding view
agrees-masked a table l is agrees = record {
  unread = agrees.unread;
  agree =
      record {
        output = agrees.same.output;
        stop = agrees.same.stop;
        next = λ none.
            let next = agrees.same.next none in
            (next.0, record { same = λ p b need. next.1 p (needed-by a table is (decoded a) p b need) });
      };
}

-- ---- how many actions an outcome completes

actions_if : (t v p : Bool) (e : Option End) (n : ℕ) (x y : Arch) → t ≡ (v && (is_none e && p))
    → length x.log.actions ≡ n + 1 → length y.log.actions ≡ n
    → y.stop ≡ e → (if t then x else y).stop ≡ None → length (if t then x else y).log.actions ≡ n + (if v && p then 1 else 0)
actions_if true true true e n x y q xs ys ye stop = xs
actions_if true true false e n x y q xs ys ye stop = absurd (grind (arith, nat_tests))
actions_if true false p e n x y q xs ys ye stop = absurd (grind arith)
actions_if false false p e n x y q xs ys ye stop = ys ∙ omega arith
actions_if false true false e n x y q xs ys ye stop = ys ∙ omega arith
actions_if false true true e n x y q xs ys ye stop = absurd (ended e q (sym ye ∙ stop))
  where
    ended : (e : Option End) → false ≡ (true && (is_none e && true)) → e ≡ None → ⊥
    ended None q none = grind arith
    ended (Some end) q none = grind arith

most_if : (t : Bool) (n : ℕ) (x y : Arch) → length x.log.actions ≡ n + 1 → length y.log.actions ≡ n → length (if t then x else y).log.actions ≤ n + 1
most_if true n x y xs ys = omega (arith, xs)
most_if false n x y xs ys = omega (arith, ys)

module _ (image : LoadedImage) (l : Latches) (at : Arch) where
  item : Item
  item = item_of_latch image (action_of l.m) l.w at.memory l.d

  behind : length (completed_item image item (latches_completed image (action_of l.m) l.w at)).log.actions
      ≡ length (logged at.log (action_of l.m)).actions + 1
  behind = completed-logged image item.op item.pc _ _ (latches_completed image (action_of l.m) l.w at)

  -- where it hasn't ended, that of ID/EX if it is occupied, at the address that comes next
  outcome-actions : (outcome image l.w l.m l.d at).stop ≡ None → length (outcome image l.w l.m l.d at).log.actions
      ≡ length (logged at.log (action_of l.m)).actions + (if l.d.valid && l.d.pc == at.pc then 1 else 0)
  unfolding outcome item
  outcome-actions stop =
      actions_if (is_latch_reached l.d (latches_completed image (action_of l.m) l.w at)) l.d.valid (l.d.pc == at.pc) (end_of (action_of l.m))
      (length (logged at.log (action_of l.m)).actions) (completed_item image item (latches_completed image (action_of l.m) l.w at))
      (latches_completed image (action_of l.m) l.w at) refl behind refl refl stop

  outcome-most : length (outcome image l.w l.m l.d at).log.actions ≤ length (logged at.log (action_of l.m)).actions + 1
  unfolding outcome item
  outcome-most =
      most_if (is_latch_reached l.d (latches_completed image (action_of l.m) l.w at)) (length (logged at.log (action_of l.m)).actions)
      (completed_item image item (latches_completed image (action_of l.m) l.w at)) (latches_completed image (action_of l.m) l.w at) behind refl

-- ---- its numbers are in their ranges: it is the flush of the state with an empty instruction buffer

emptied : State → State
emptied s = record s { buffer = replicate SLOTS no_entry }

empty-fits : (a : Moment) (table : Needs) → IsTold a.r a.run table → buffer_bits.IsFit (replicate SLOTS no_entry)
unfolding reset
empty-fits a table told = (machine-reset a.r.image a.r.shape told.image told.recorded.fits).buffer

emptied-machine : (s : State) → IsMachine s → buffer_bits.IsFit (replicate SLOTS no_entry) → IsMachine (emptied s)
unfolding emptied
emptied-machine s is fits = record {
  image = is.image;
  memory = is.memory;
  memory_bytes = is.memory_bytes;
  issued = is.issued;
  cache = is.cache;
  pc = is.pc;
  npc = is.npc;
  tables = is.tables;
  buffer = fits;
  d = is.d;
  m = is.m;
  w = is.w;
  registers = is.registers;
  stores = is.stores;
  port = is.port;
}

emptied-flush : (s : State) (log : Log) → flush (emptied s) spare log ≡ outcome_of s spare log
unfolding emptied completed_path view
emptied-flush s log = flush-outcome (emptied s) spare log ∙ go (is_latch_missed s spare log)
  where
    go : (b : Bool) → (if b then outcome_of s spare log else outcome_of s spare log) ≡ outcome_of s spare log
    go true = refl
    go false = refl

outcome-words : (a : Moment) (table : Needs) (s : State) (log : Log) → IsTold a.r a.run table → IsMachine s → IsWords (outcome_of s spare log)
outcome-words a table s log told is =
    let range : InRange (flush (emptied s) spare log) =
    flush-in_range (emptied s) (emptied-machine s is (empty-fits a table told)) spare spare-below log in
    subst IsWords (emptied-flush s log) range.words

-- ---- struck latches

module _ (a : Moment) (table : Needs) (told : IsTold a.r a.run table) (below : a.t < a.r.cycles) (quiet : IsQuiet a) (l : Latches)
    (valid : l.d.valid ≡ (state a).d.valid) (pc : l.d.pc ≡ (state a).d.pc) (machine : IsMachine (with_latches (state a) l))
    (agrees : OutcomeAgrees a (with_latches (state a) l)) (log : Log) (budget : ℕ) (output : log.output ≡ output_below a.r.image a.r.shape a.t)
    (within : count_of a + (length log.actions + 2) ≤ executed a + budget) where
  abbrev recorded : Arch
  recorded = record (trace a (decoded a)) { clocks = spare }

  abbrev base : Arch
  base = before_latches (state a) (view (state a)) spare log

  abbrev struck : Arch
  struck = outcome (state a).image l.w l.m l.d base

  stands : StandsAt log.output recorded (outcome_at (state a))
  stands =
      let over : IsUnder (later a) (done a).output (outcome_of (state a) (later a) (done a)) (outcome_at (state a)) =
      outcome_under (state a).image (latches_of (state a)) (later a) (done a) (under_latches (state a)) (outcome-unread a table told below quiet) in
      let at_trace : IsUnder (later a) (done a).output (trace a (decoded a)) (outcome_at (state a)) =
      subst (λ (z : Arch). IsUnder (later a) (done a).output z (outcome_at (state a))) (outcome-is a table told below) over in
      let same : (done a).output ≡ log.output = done-puts a table told ∙ sym output in
      let here : IsUnder (later a) log.output (trace a (decoded a)) (outcome_at (state a)) =
      subst (λ (bytes : List ℕ). IsUnder (later a) bytes (trace a (decoded a)) (outcome_at (state a))) same at_trace in
      record {
        registers = here.stands.registers;
        memory = here.stands.memory;
        pc = here.stands.pc;
        count = here.stands.count;
        stop = here.stands.stop;
        output = here.stands.output;
      }

  seems : Seems (drop (decoded a) a.run.entries) spare recorded struck
  seems =
      masked_seems a.run.entries table (decoded a) (state a).image (under_latches (state a)) recorded spare log (latches_of (state a)) l
      told.needs valid pc
      stands (agrees-masked a table l told.needs agrees)

  least-by : (v : Bool) (n : ℕ) → v ≡ (state a).d.valid → n ≡ (state a).d.pc → (trace a (decoded a)).stop ≡ None
      → executed a + (if v && n == (state a).npc then 1 else 0) ≤ decoded a
  least-by v n e f none = rw (e, f) (decoded-least a table told below none)

  struck-words : IsWords struck
  unfolding view
  struck-words = outcome-words a table (with_latches (state a) l) log told machine

  pub outcome-does : Does a (decoded a) struck budget
  outcome-does = record {
    unread = seems.unread;
    puts = seems.output;
    stop = seems.stop;
    agrees = λ none. seems.agrees none refl;
    words = struck-words;
    going = λ none.
        let more = outcome-actions (state a).image l base (seems.stop ∙ none) in
        let first = latch-logged log.actions l.m in
        let most = one_at_most l.m.valid in
        let place = least-by l.d.valid l.d.pc valid pc none in
        omega (arith, more, first, most, place, within);
    ended = λ last.
        let more = outcome-most (state a).image l base in
        let first = latch-logged log.actions l.m in
        let most = one_at_most l.m.valid in
        let least = executed-within a table told below in
        omega (arith, more, first, most, least, within);
  }
