-- The flush law of the pipeline alone, by the fate of ID/EX and by whether EX/MEM leaves.
use Rattle.std.proofs.Common.{◌≡◌, ℕ, Bool, true, false, List, ◌∷◌, ◌++◌, length, map, drop, refl, ap, sym, ◌∙◌}
use Rattle.std.specs.Prelude.{None, ◌==◌, ◌&&◌, is_none, slice_get, if◌then◌else◌}
use Rattle.elf_load.specs.Image.{LoadedImage}
use Rattle.rv_table.specs.Actions.{is_clocked, next_address, with_counter}
use Rattle.rv_table.specs.Effects.{written_register}
use Rattle.rv_table.specs.declared.op.Op.{Op}
use Rattle.rv_table.specs.declared.action.Action.{Action}
use Rattle.rv_table.specs.declared.action.Action.TheVariants.{Nothing}
use Rattle.rv_isa.specs.Instruction.{State as Arch, Log, action_in, completed, end_of, first_clock}
use Rattle.rv_isa.specs.Instruction.{given, later_clocks, logged, memory_after, next_count, performed, put_reg}
use Rattle.pipe_latch.specs.Forwarding.{operand, settled}
use Rattle.pipe_latch.specs.Latches.{DecodedLatch, ResultLatch, no_result, op_of_latch}
use Rattle.pipe_latch.specs.declared.forward.Forwarded.{Forwarded}
use Rattle.pipe_latch.specs.declared.forward.Forwarded.TheVariants.{Value, Wait}
use Rattle.pipe_latch.specs.Execution.{next_of}
use Rattle.inst_buf.specs.Entry.{Entry}
use Rattle.cyc_machine.specs.declared.fate.Fate.{Fate}
use Rattle.cyc_machine.specs.declared.fate.Fate.TheVariants.{Absent, Dropped, Stays, Goes}
use Rattle.cyc_machine.specs.Pipeline.{counted, entries_after, fate_of, filled, goes_with, issued_after, npc_after, operand_b, stalled}
use Rattle.flush_view.specs.Flush.{clocks_now, completed_path, item_of_entry, path_of}
use Rattle.cyc_machine.specs.InFlight.{Item, completed_item, item_of_latch}
use Rattle.flush_view.specs.FlushLaw.{remaining}
use Rattle.flush_view.proofs.Flush.Operands.{clock-taken, clocks-left, held-stays, held-waits}
use Rattle.flush_view.proofs.Flush.Path.{added}
use Rattle.flush_view.proofs.Flush.Pipes.{Pipe, flush_pipe, latched_pipe, next_pipe, path-filled, path-stalled, path-taken, taken_by}

-- ---- what a fate tells

goes_by : (x y : Forwarded) (a b : ℕ) → goes_with x y ≡ Goes a b → (x ≡ Value a) × (y ≡ Value b)
goes_by (Value x) (Value y) a b h = (cc, cc)
goes_by Wait y a b h = absurd cc
goes_by (Value x) Wait a b h = absurd cc

goes_no : (x y : Forwarded) → (goes_with x y ≡ Absent → ⊥) × (goes_with x y ≡ Dropped → ⊥)
goes_no (Value x) (Value y) = (λ h. absurd cc, λ h. absurd cc)
goes_no Wait y = (λ h. absurd cc, λ h. absurd cc)
goes_no (Value x) Wait = (λ h. absurd cc, λ h. absurd cc)

absent-by : (v r t : Bool) (x y : Forwarded) → (if v then (if r then (if t then goes_with x y else Stays) else Dropped) else Absent) ≡ Absent
    → v ≡ false
absent-by false r t x y h = refl
absent-by true true true x y h = absurd ((goes_no x y).0 h)
absent-by true true false x y h = absurd cc
absent-by true false t x y h = absurd cc

dropped-by : (v r t : Bool) (x y : Forwarded) → (if v then (if r then (if t then goes_with x y else Stays) else Dropped) else Absent) ≡ Dropped
    → (v ≡ true) × (r ≡ false)
dropped-by false r t x y h = absurd cc
dropped-by true true true x y h = absurd ((goes_no x y).1 h)
dropped-by true true false x y h = absurd cc
dropped-by true false t x y h = (refl, refl)

goes-by : (v r t : Bool) (x y : Forwarded) (a b : ℕ)
    → (if v then (if r then (if t then goes_with x y else Stays) else Dropped) else Absent) ≡ Goes a b
    → (v ≡ true) × (r ≡ true) × (t ≡ true) × (x ≡ Value a) × (y ≡ Value b)
goes-by false r t x y a b h = absurd cc
goes-by true true true x y a b h = let g = goes_by x y a b h in (refl, refl, refl, g.0, g.1)
goes-by true true false x y a b h = absurd cc
goes-by true false t x y a b h = absurd cc

abbrev pub fate_pipe : Pipe → Bool → Fate
fate_pipe p goes = fate_of p.d p.npc p.m p.w goes

pub fate-absent : (p : Pipe) (goes : Bool) → fate_of p.d p.npc p.m p.w goes ≡ Absent → p.d.valid ≡ false
unfolding fate_of
fate-absent p goes h = absent-by p.d.valid (p.d.pc == p.npc) (p.d.count == 0 && goes) (operand p.m p.w p.d.rs1 p.d.a) (operand_b p.d p.m p.w) h

pub fate-dropped : (p : Pipe) (goes : Bool) → fate_of p.d p.npc p.m p.w goes ≡ Dropped → (p.d.valid ≡ true) × ((p.d.pc == p.npc) ≡ false)
unfolding fate_of
fate-dropped p goes h = dropped-by p.d.valid (p.d.pc == p.npc) (p.d.count == 0 && goes) (operand p.m p.w p.d.rs1 p.d.a) (operand_b p.d p.m p.w) h

pub fate-goes : (p : Pipe) (goes : Bool) (a b : ℕ) → fate_of p.d p.npc p.m p.w goes ≡ Goes a b
    → (p.d.valid ≡ true) × ((p.d.pc == p.npc) ≡ true) × ((p.d.count == 0 && goes) ≡ true) × (operand p.m p.w p.d.rs1 p.d.a ≡ Value a)
    × (operand_b p.d p.m p.w ≡ Value b)
unfolding fate_of
fate-goes p goes a b h = goes-by p.d.valid (p.d.pc == p.npc) (p.d.count == 0 && goes) (operand p.m p.w p.d.rs1 p.d.a) (operand_b p.d p.m p.w) a b h

-- ---- W and M completed, no end having come

abbrev pub base : Pipe → (ℕ → ℕ) → ℕ → ℕ → List ℕ → Log → Arch
base p memory pc count clocks log =
    record {
      registers = put_reg (written_register p.m) (given p.image p.m memory) (put_reg p.w.rd p.w.value p.registers);
      memory = memory_after p.image p.m memory;
      pc = pc;
      count = count;
      clocks = clocks;
      log = logged log p.m;
      stop = None;
    }

abbrev pub fed_pipe : Fate → Pipe → List ℕ → List ℕ
fed_pipe f p clocks = if clocks_now f p.d then p.cycle ∷ clocks else clocks

-- the entry that is fetched in a cycle, and the flush before the cycle with more items behind the path
abbrev pub added_to : Fate → Pipe → List Item
added_to f p = added p.image p.pc (length (remaining f p.waiting))

abbrev pub flush_more : List Item → Pipe → (ℕ → ℕ) → List ℕ → Log → Arch
flush_more more p memory clocks log = completed_path p.image (path_of p.image p.m p.w memory p.d p.waiting ++ more) (latched_pipe p memory clocks log)

-- the flush before, opened
flush-valid : (more : List Item) (p : Pipe) (memory : ℕ → ℕ) (clocks : List ℕ) (log : Log) (v : Bool) → p.d.valid ≡ v → end_of p.m ≡ None
    → flush_more more p memory clocks log ≡ completed_path p.image
    ((if v then item_of_latch p.image p.m p.w memory p.d ∷ map item_of_entry p.waiting else map item_of_entry p.waiting) ++ more)
    (base p memory p.npc p.issued clocks log)
flush-valid more p memory clocks log v e h =
    ap
    (λ b. completed_path p.image ((if b then item_of_latch p.image p.m p.w memory p.d ∷ map item_of_entry p.waiting else map item_of_entry p.waiting)
    ++ more) (latched_pipe p memory clocks log)) e
    ∙ ap
    (λ o. completed_path p.image ((if v then item_of_latch p.image p.m p.w memory p.d ∷ map item_of_entry p.waiting else map item_of_entry p.waiting)
    ++ more) (record (base p memory p.npc p.issued clocks log) { stop = o })) h

flush-base : (more : List Item) (p : Pipe) (memory : ℕ → ℕ) (clocks : List ℕ) (log : Log) → end_of p.m ≡ None
    → flush_more more p memory clocks log ≡ completed_path p.image (path_of p.image p.m p.w memory p.d p.waiting ++ more)
    (base p memory p.npc p.issued clocks log)
flush-base more p memory clocks log h =
    ap (λ o. completed_path p.image (path_of p.image p.m p.w memory p.d p.waiting ++ more) (record (base p memory p.npc p.issued clocks log) { stop = o }))
    h

-- the next flush, where an entry is fetched
flush-filled : (p : Pipe) (m : Action) (w : ResultLatch) (memory : ℕ → ℕ) (d : DecodedLatch) (rest : List Entry) (at : Arch)
    → completed_path p.image (path_of p.image m w memory d (filled p.image p.pc rest)) at ≡ completed_path p.image
    (path_of p.image m w memory d rest ++ added p.image p.pc (length rest)) at
flush-filled p m w memory d rest at = ap (λ (items : List Item). completed_path p.image items at) (path-filled p.image m w memory d p.pc rest)

-- an item that isn't reached ends the path
unreached : (image : LoadedImage) (item : Item) (items : List Item) (at : Arch) → (item.pc == at.pc) ≡ false
    → completed_path image (item ∷ items) at ≡ at
unfolding completed_path
unreached image item items at h = go (is_none at.stop)
  where
    go : (b : Bool) → (if b && item.pc == at.pc then completed_path image items (completed_item image item at) else at) ≡ at
    go true = rw h refl
    go false = refl

reached : (image : LoadedImage) (item : Item) (items : List Item) (at : Arch) → at.stop ≡ None → (item.pc == at.pc) ≡ true
    → completed_path image (item ∷ items) at ≡ completed_path image items (completed_item image item at)
unfolding completed_path
reached image item items at h e = rw (h, e) refl

-- ---- EX/MEM leaves

abbrev written : Pipe → (ℕ → ℕ) → ResultLatch
written p memory = record { rd = written_register p.m; value = given p.image p.m memory }

-- the next flush is the flush before with the entry that is fetched behind the path
abbrev Claim : Fate → Pipe → Bool → ℕ → ℕ → (ℕ → ℕ) → (ℕ → ℕ) → List ℕ → Log → Log → Type 0
Claim f p goes value pc memory after clocks log next =
    flush_pipe (next_pipe f goes value pc p) after clocks next ≡ flush_more (added_to f p) p memory (fed_pipe f p clocks) log

leaves-absent : (p : Pipe) (pc : ℕ) (memory : ℕ → ℕ) (clocks : List ℕ) (log : Log) → p.d.valid ≡ false → end_of p.m ≡ None
    → Claim Absent p true (given p.image p.m memory) pc memory (memory_after p.image p.m memory) clocks log (logged log p.m)
unfolding entries_after npc_after issued_after
leaves-absent p pc memory clocks log e h =
    flush-filled p Nothing (written p memory) (memory_after p.image p.m memory) (taken_by (slice_get p.waiting 0) p.w p.registers) (drop 1 p.waiting)
    (base p memory p.npc p.issued clocks log)
    ∙ path-taken p.image Nothing (written p memory) p.w (memory_after p.image p.m memory) p.registers p.waiting (added_to Absent p)
    (base p memory p.npc p.issued clocks log) refl
    ∙ sym (flush-valid (added_to Absent p) p memory clocks log false e h)

leaves-dropped : (p : Pipe) (pc : ℕ) (memory : ℕ → ℕ) (clocks : List ℕ) (log : Log) → p.d.valid ≡ true → (p.d.pc == p.npc) ≡ false → end_of p.m ≡ None
    → Claim Dropped p true (given p.image p.m memory) pc memory (memory_after p.image p.m memory) clocks log (logged log p.m)
unfolding entries_after npc_after issued_after completed_path
leaves-dropped p pc memory clocks log v e h =
    sym (flush-valid (added_to Dropped p) p memory clocks log true v h
    ∙ unreached p.image (item_of_latch p.image p.m p.w memory p.d) (map item_of_entry p.waiting ++ added_to Dropped p)
    (base p memory p.npc p.issued clocks log) e)

leaves-stays : (p : Pipe) (pc : ℕ) (memory : ℕ → ℕ) (clocks : List ℕ) (log : Log) → end_of p.m ≡ None
    → Claim Stays p true (given p.image p.m memory) pc memory (memory_after p.image p.m memory) clocks log (logged log p.m)
unfolding entries_after npc_after issued_after
leaves-stays p pc memory clocks log h =
    flush-filled p Nothing (written p memory) (memory_after p.image p.m memory) (stalled p.d p.w) p.waiting (base p memory p.npc p.issued clocks log)
    ∙ path-stalled p.image p.m Nothing p.w (written p memory) memory (memory_after p.image p.m memory) p.d p.waiting (added_to Stays p)
    (base p memory p.npc p.issued clocks log) (λ rs held. held-stays p.image p.m p.w memory (memory_after p.image p.m memory) rs held)
    ∙ sym (flush-base (added_to Stays p) p memory clocks log h)

-- D, completed
completed-as : (image : LoadedImage) (op : Op) (pc x y a c : ℕ) (clocks : List ℕ) (at : Arch) → x ≡ a
    → with_counter op (first_clock at.clocks) at.count y ≡ c → (if is_clocked op then later_clocks at.clocks else at.clocks) ≡ clocks
    → completed image op pc x y at ≡ record (performed image (action_in image op pc a c) at) {
      pc = next_address op pc a c;
      count = next_count at.count;
      clocks = clocks;
    }
unfolding completed
completed-as image op pc x y a c clocks at e f g = rw (e, f, g) refl

pub goes-completed : (p : Pipe) (memory : ℕ → ℕ) (clocks : List ℕ) (log : Log) (a b : ℕ) → operand p.m p.w p.d.rs1 p.d.a ≡ Value a
    → operand_b p.d p.m p.w ≡ Value b → completed_item p.image (item_of_latch p.image p.m p.w memory p.d)
    (base p memory p.npc p.issued (fed_pipe (Goes a b) p clocks) log)
    ≡ record (performed p.image (action_in p.image (op_of_latch p.d) p.d.pc a (counted p.d p.cycle p.issued b))
    (base p memory p.npc p.issued clocks log)) { pc = next_of p.d a (counted p.d p.cycle p.issued b); count = next_count p.issued }
unfolding operand_b counted next_of
goes-completed p memory clocks log a b e f =
    completed-as p.image (op_of_latch p.d) p.d.pc _ _ a (with_counter (op_of_latch p.d) p.cycle p.issued b) clocks
    (base p memory p.npc p.issued (fed_pipe (Goes a b) p clocks) log)
    (ap (λ o. settled o (given p.image p.m memory)) e)
    (clock-taken (op_of_latch p.d) (operand p.m p.w p.d.rs2 p.d.b) p.cycle p.issued (given p.image p.m memory) b clocks f)
    (clocks-left (op_of_latch p.d) p.cycle clocks)

leaves-goes : (p : Pipe) (pc : ℕ) (memory : ℕ → ℕ) (clocks : List ℕ) (log : Log) (a b : ℕ) → p.d.valid ≡ true → (p.d.pc == p.npc) ≡ true
    → operand p.m p.w p.d.rs1 p.d.a ≡ Value a → operand_b p.d p.m p.w ≡ Value b → end_of p.m ≡ None
    → Claim (Goes a b) p true (given p.image p.m memory) pc memory (memory_after p.image p.m memory) clocks log (logged log p.m)
unfolding entries_after npc_after issued_after
leaves-goes p pc memory clocks log a b v r e f h =
    let next : Pipe = next_pipe (Goes a b) true (given p.image p.m memory) pc p in
    flush-filled p next.m (written p memory) (memory_after p.image p.m memory) (taken_by (slice_get p.waiting 0) p.w p.registers) (drop 1 p.waiting)
    (latched_pipe next (memory_after p.image p.m memory) clocks (logged log p.m))
    ∙ path-taken p.image next.m (written p memory) p.w (memory_after p.image p.m memory) p.registers p.waiting (added_to (Goes a b) p)
    (latched_pipe next (memory_after p.image p.m memory) clocks (logged log p.m)) refl
    ∙ sym (flush-valid (added_to (Goes a b) p) p memory (fed_pipe (Goes a b) p clocks) log true v h
    ∙ reached p.image (item_of_latch p.image p.m p.w memory p.d) (map item_of_entry p.waiting ++ added_to (Goes a b) p)
    (base p memory p.npc p.issued (fed_pipe (Goes a b) p clocks) log) refl r
    ∙ ap (completed_path p.image (map item_of_entry p.waiting ++ added_to (Goes a b) p)) (goes-completed p memory clocks log a b e f))

pub leaves : (f : Fate) (p : Pipe) (pc : ℕ) (memory : ℕ → ℕ) (clocks : List ℕ) (log : Log) → fate_of p.d p.npc p.m p.w true ≡ f → end_of p.m ≡ None
    → Claim f p true (given p.image p.m memory) pc memory (memory_after p.image p.m memory) clocks log (logged log p.m)
leaves Absent p pc memory clocks log e h = leaves-absent p pc memory clocks log (fate-absent p true e) h
leaves Dropped p pc memory clocks log e h = let d = fate-dropped p true e in leaves-dropped p pc memory clocks log d.0 d.1 h
leaves Stays p pc memory clocks log e h = leaves-stays p pc memory clocks log h
leaves (Goes a b) p pc memory clocks log e h = let g = fate-goes p true a b e in leaves-goes p pc memory clocks log a b g.0 g.1 g.3 g.4 h

-- ---- EX/MEM waits

waits-absent : (p : Pipe) (value pc : ℕ) (memory : ℕ → ℕ) (clocks : List ℕ) (log : Log) → p.d.valid ≡ false → end_of p.m ≡ None
    → Claim Absent p false value pc memory memory clocks log log
unfolding entries_after npc_after issued_after
waits-absent p value pc memory clocks log e h =
    let next : Pipe = next_pipe Absent false value pc p in
    flush-filled p p.m no_result memory (taken_by (slice_get p.waiting 0) p.w p.registers) (drop 1 p.waiting) (latched_pipe next memory clocks log)
    ∙ path-taken p.image p.m no_result p.w memory p.registers p.waiting (added_to Absent p) (latched_pipe next memory clocks log) refl
    ∙ ap (λ o. completed_path p.image (map item_of_entry p.waiting ++ added_to Absent p) (record (base p memory p.npc p.issued clocks log) { stop = o })) h
    ∙ sym (flush-valid (added_to Absent p) p memory clocks log false e h)

waits-dropped : (p : Pipe) (value pc : ℕ) (memory : ℕ → ℕ) (clocks : List ℕ) (log : Log) → p.d.valid ≡ true → (p.d.pc == p.npc) ≡ false
    → end_of p.m ≡ None
    → Claim Dropped p false value pc memory memory clocks log log
unfolding entries_after npc_after issued_after completed_path
waits-dropped p value pc memory clocks log v e h =
    ap (λ o. record (base p memory p.npc p.issued clocks log) { stop = o }) h
    ∙ sym (flush-valid (added_to Dropped p) p memory clocks log true v h
    ∙ unreached p.image (item_of_latch p.image p.m p.w memory p.d) (map item_of_entry p.waiting ++ added_to Dropped p)
    (base p memory p.npc p.issued clocks log) e)

waits-stays : (p : Pipe) (value pc : ℕ) (memory : ℕ → ℕ) (clocks : List ℕ) (log : Log) → Claim Stays p false value pc memory memory clocks log log
unfolding entries_after npc_after issued_after
waits-stays p value pc memory clocks log =
    let next : Pipe = next_pipe Stays false value pc p in
    flush-filled p p.m no_result memory (stalled p.d p.w) p.waiting (latched_pipe next memory clocks log)
    ∙ path-stalled p.image p.m p.m p.w no_result memory memory p.d p.waiting (added_to Stays p) (latched_pipe p memory clocks log)
    (λ rs held. held-waits p.image p.m p.w memory rs held)

pub not_both : (b : Bool) → (b && false) ≡ true → ⊥
not_both true h = absurd cc
not_both false h = absurd cc

pub waits : (f : Fate) (p : Pipe) (value pc : ℕ) (memory : ℕ → ℕ) (clocks : List ℕ) (log : Log) → fate_of p.d p.npc p.m p.w false ≡ f
    → end_of p.m ≡ None
    → Claim f p false value pc memory memory clocks log log
waits Absent p value pc memory clocks log e h = waits-absent p value pc memory clocks log (fate-absent p false e) h
waits Dropped p value pc memory clocks log e h = let d = fate-dropped p false e in waits-dropped p value pc memory clocks log d.0 d.1 h
waits Stays p value pc memory clocks log e h = waits-stays p value pc memory clocks log
waits (Goes a b) p value pc memory clocks log e h = absurd (not_both (p.d.count == 0) (fate-goes p false a b e).2)
