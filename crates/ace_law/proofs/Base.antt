-- MEM/WB and EX/MEM of a recorded state completed over a memory that shows the needed bits: what is left stands before the first instruction
-- that hasn't left EX.
use Rattle.std.proofs.Common.{◌≡◌, ◌⊎◌, ◌+◌, ◌≤◌, ◌<◌, ◌^◌, ℕ, suc, Bool, true, false, List, length, arith, refl, ap, sym, subst, ◌∙◌, inl, inr, lit<}
use Rattle.std.specs.Int.{bit_at}
use Rattle.std.specs.Prelude.{None, drop, if◌then◌else◌}
use Rattle.elf_load.specs.Image.{LoadedImage}
use Rattle.rv_table.specs.Effects.{byte_put}
use Rattle.rv_table.specs.declared.action.Action.{Action}
use Rattle.rv_table.specs.declared.action.Action.TheVariants.{Nothing}
use Rattle.rv_isa.specs.Accesses.{line_of, next_action}
use Rattle.rv_isa.specs.Effects.{retired_at}
use Rattle.rv_isa.specs.Instruction.{State as Arch, Log, completed, instruction, logged, performed, put_reg, with_byte}
use Rattle.rv_isa.specs.Words.{IsWords}
use Rattle.need_pass.specs.Needed.{Agrees, Needed}
use Rattle.need_pass.specs.ProgramBits.{ProgramBit, bit_of}
use Rattle.need_pass.specs.ProgramBits.ProgramBit.{Byte, Register}
use Rattle.need_pass.specs.Tables.{Needs}
use Rattle.cyc_machine.specs.Cycle.{action_in_m}
use Rattle.cyc_machine.specs.InFlight.{latches_completed}
use Rattle.cyc_machine.specs.Pipeline.{register}
use Rattle.cyc_machine.specs.Run.{output_below}
use Rattle.flush_view.specs.Avoids.{Avoids, AvoidsAll, masked}
use Rattle.flush_view.specs.Flush.{before_latches}
use Rattle.flush_view.proofs.Flush.Avoiding.{outside-performed}
use Rattle.flush_view.proofs.Flush.FlushLaw.{after-logged}
use Rattle.ace_law.specs.Moments.{IsTold, Moment, executed, retired, state, trace}
use Rattle.ace_law.proofs.Alike.{IsLeftAlone, count_of, seen_as, spare}
use Rattle.ace_law.proofs.Spared.{SeesNeeded}
use Rattle.ace_law.proofs.AlikeNext.{recorded-avoids}
use Rattle.ace_law.proofs.Stands.{Stands, accessed}
use Rattle.ace_law.proofs.Told.{done-puts, executed-within, facts, get-entry, state-image, trace-next, trace-words}

-- the action of EX/MEM, and the registers once MEM/WB is completed
abbrev pub action_at : Moment → Action
action_at a = action_in_m (state a)

abbrev pub registers_at : Moment → ℕ → ℕ
registers_at a = put_reg (state a).w.rd (state a).w.value (register (state a).registers)

-- both completed, over a memory and behind a log
abbrev pub base_over : Moment → (ℕ → ℕ) → Log → Arch
base_over a memory log = latches_completed (state a).image (action_at a) (state a).w (before_latches (state a) memory spare log)

-- ---- W and M completed over the memory, where M is empty or holds the next instruction's action

abbrev base_of : LoadedImage → Action → (ℕ → ℕ) → (ℕ → ℕ) → ℕ → ℕ → Log → Arch
base_of image m registers memory pc count log =
    performed image m (record { registers = registers; memory = memory; pc = pc; count = count; clocks = spare; log = log; stop = None })

-- the recorded state over another memory, behind a log
abbrev pub over_memory : (ℕ → ℕ) → Log → Arch → Arch
over_memory memory log recorded = record recorded { memory = memory; log = log; stop = None }

base-still : (image : LoadedImage) (out : ℕ → Bool) (m : Action) (registers memory : ℕ → ℕ) (pc count : ℕ) (log : Log) (recorded : Arch) → m ≡ Nothing
    → registers ≡ recorded.registers → pc ≡ recorded.pc → count ≡ recorded.count
    → seen_as out recorded (base_of image m registers memory pc count log) ≡ over_memory (masked out memory) log recorded
base-still image out m registers memory pc count log recorded e r p n =
    ap (λ (z : Action). seen_as out recorded (base_of image z registers memory pc count log)) e
    ∙ ap (λ (f : ℕ → ℕ). record (over_memory (masked out memory) log recorded) { registers = f; pc = pc; count = count }) r
    ∙ ap (λ (i : ℕ). record (over_memory (masked out memory) log recorded) { pc = i; count = count }) p
    ∙ ap (λ (i : ℕ). record (over_memory (masked out memory) log recorded) { count = i }) n

performed-next : (image : LoadedImage) (recorded : Arch) (memory : ℕ → ℕ) (log : Log)
    → record (performed image (next_action image recorded) (over_memory memory log recorded)) {
      pc = (instruction image recorded).pc;
      count = (instruction image recorded).count;
      clocks = (instruction image recorded).clocks;
    }
    ≡ instruction image (over_memory memory log recorded)
unfolding instruction completed
performed-next image recorded memory log = refl

base-next : (image : LoadedImage) (out : ℕ → Bool) (m : Action) (registers memory : ℕ → ℕ) (pc count : ℕ) (log : Log) (recorded next : Arch)
    → m ≡ next_action image recorded → Avoids out m → registers ≡ recorded.registers → pc ≡ next.pc → count ≡ next.count
    → next ≡ instruction image recorded
    → seen_as out next (base_of image m registers memory pc count log) ≡ instruction image (over_memory (masked out memory) log recorded)
base-next image out m registers memory pc count log recorded next e avoids r p n step =
    ap (λ (z : Arch). record z { clocks = next.clocks })
    (outside-performed image out m
    (record { registers = registers; memory = memory; pc = pc; count = count; clocks = spare; log = log; stop = None }) avoids)
    ∙ ap (λ (f : ℕ → ℕ). record (performed image m (record (over_memory (masked out memory) log recorded) { registers = f })) {
      pc = pc;
      count = count;
      clocks = next.clocks;
    }) r
    ∙ ap (λ (i : ℕ). record (performed image m (over_memory (masked out memory) log recorded)) { pc = i; count = count; clocks = next.clocks }) p
    ∙ ap (λ (i : ℕ). record (performed image m (over_memory (masked out memory) log recorded)) { pc = next.pc; count = i; clocks = next.clocks }) n
    ∙ ap (λ (z : Arch). record (performed image m (over_memory (masked out memory) log recorded)) {
      pc = z.pc;
      count = z.count;
      clocks = z.clocks;
    }) step
    ∙ ap (λ (z : Action). record (performed image z (over_memory (masked out memory) log recorded)) {
      pc = (instruction image recorded).pc;
      count = (instruction image recorded).count;
      clocks = (instruction image recorded).clocks;
    }) e
    ∙ performed-next image recorded (masked out memory) log

masked-below : (out : ℕ → Bool) (memory : ℕ → ℕ) → ((p : ℕ) → memory p < 2 ^ 8) → (p : ℕ) → masked out memory p < 2 ^ 8
unfolding masked
masked-below out memory h p = go (out (line_of p))
  where
    go : (b : Bool) → (if b then 0 else memory p) < 2 ^ 8
    go true = lit< tt
    go false = h p

module _ (a : Moment) (table : Needs) (told : IsTold a.r a.run table) (below : a.t < a.r.cycles) (out : ℕ → Bool) (alone : IsLeftAlone a out) where
  -- no bit of X is needed by the instructions that haven't left the memory stage
  unneeded : (p j : ℕ) → out (line_of p) ≡ true → Needed (drop (retired a) a.run.entries) (Byte p j) → ⊥
  unneeded p j inside =
      told.law.unneeded (retired a) p j
      (λ i from within same. alone (line_of p) inside
      (i, retired_at a.r.image (trace a i), from, get-entry a table told i within, accessed a.r.image (trace a i) (line_of p) same))

  -- a needed bit of the memory outside X is the recorded one
  pub seen-byte : (memory : ℕ → ℕ) → SeesNeeded a out memory → (p j : ℕ) → Needed (drop (retired a) a.run.entries) (Byte p j)
      → bit_at (masked out memory p) j ≡ bit_at ((trace a (retired a)).memory p) j
  unfolding masked
  seen-byte memory sees p j needed = go (out (line_of p)) refl
    where
      go : (b : Bool) → out (line_of p) ≡ b → bit_at (if b then 0 else memory p) j ≡ bit_at ((trace a (retired a)).memory p) j
      go true e = absurd (unneeded p j e needed)
      go false e = sees.same p j e needed ∙ ap (λ (f : ℕ → ℕ). bit_at (f p) j) (facts a table told below).memory

  -- over a memory that shows the needed bits
  module _ (memory : ℕ → ℕ) (sees : SeesNeeded a out memory) (small : (p : ℕ) → memory p < 2 ^ 8) where
    abbrev before : Log → Arch
    before log = over_memory (masked out memory) log (trace a (retired a))

    before-words : (log : Log) → IsWords (before log)
    before-words log =
        let words = trace-words a table told (retired a) in
        record { registers = words.registers; memory = masked-below out memory small; count = words.count; clocks = words.clocks }

    before-bits : (log : Log) (p : ProgramBit) → Needed (drop (retired a) a.run.entries) p → bit_of (before log) p ≡ bit_of (trace a (retired a)) p
    before-bits log (Register r k) needed = refl
    before-bits log (Byte p k) needed = seen-byte memory sees p k needed

    before-agrees : (log : Log) → Agrees (drop (retired a) a.run.entries) (trace a (retired a)) (before log)
    before-agrees log = record { pc = refl; count = refl; clocks = refl; bits = before-bits log }

    abbrev base : Log → Arch
    base log = base_of a.r.image (action_at a) (registers_at a) memory (state a).npc (state a).issued log

    -- what stands before instruction i
    record Fits (i : ℕ) (log : Log) : Type 0 where
      pub words : IsWords (seen_as out (trace a i) (base log))
      pub agrees : Agrees (drop i a.run.entries) (trace a i) (seen_as out (trace a i) (base log))

    held-avoids : (action_at a ≡ Nothing) ⊎ ((action_at a ≡ next_action a.r.image (trace a (retired a))) × (retired a < count_of a))
        → Avoids out (action_at a)
    held-avoids (inl none) = subst (Avoids out) (sym none) tt
    held-avoids (inr next) = subst (Avoids out) (sym next.0) (recorded-avoids a table told out (retired a) alone (omega arith) next.1)

    pc-at : (state a).npc ≡ (trace a (executed a)).pc
    pc-at = ap (λ (x : Arch). x.pc) (facts a table told below).position

    count-at : (state a).issued ≡ (trace a (executed a)).count
    count-at = ap (λ (x : Arch). x.count) (facts a table told below).position

    fits-still : (log : Log) → action_at a ≡ Nothing → executed a ≡ retired a → Fits (executed a) log
    fits-still log none same =
        let stood : seen_as out (trace a (retired a)) (base log) ≡ before log =
        base-still a.r.image out (action_at a) (registers_at a) memory (state a).npc (state a).issued log (trace a (retired a)) none
        (facts a table told below).registers (pc-at ∙ ap (λ (i : ℕ). (trace a i).pc) same) (count-at ∙ ap (λ (i : ℕ). (trace a i).count) same) in
        subst (λ (i : ℕ). Fits i log) (sym same)
        (record {
          words = subst IsWords (sym stood) (before-words log);
          agrees = subst (Agrees (drop (retired a) a.run.entries) (trace a (retired a))) (sym stood) (before-agrees log);
        })

    fits-next : (log : Log) → action_at a ≡ next_action a.r.image (trace a (retired a)) → executed a ≡ suc (retired a) → Fits (executed a) log
    fits-next log held more =
        let most = executed-within a table told below in
        let within : retired a < count_of a = omega (arith, most, more) in
        let same : executed a ≡ retired a + 1 = omega (arith, more) in
        let step : trace a (executed a) ≡ instruction a.r.image (trace a (retired a)) =
        ap (trace a) more ∙ trace-next a table told (retired a) within in
        let stood : seen_as out (trace a (executed a)) (base log) ≡ instruction a.r.image (before log) =
        base-next a.r.image out (action_at a) (registers_at a) memory (state a).npc (state a).issued log (trace a (retired a))
        (trace a (executed a)) held
        (held-avoids (inr (held, within))) (facts a table told below).registers pc-at count-at step in
        record {
          words = subst IsWords (sym stood) (told.law.words (before log) (before-words log));
          agrees =
              subst (Agrees (drop (executed a) a.run.entries) (trace a (executed a))) (sym stood)
              (subst (λ (i : ℕ). Agrees (drop i a.run.entries) (trace a i) (instruction a.r.image (before log))) (sym same)
              (told.law.agrees (retired a) (before log) within (before-words log) (before-agrees log)));
        }

    held-next : action_at a ≡ next_action (state a).image (trace a (retired a)) → action_at a ≡ next_action a.r.image (trace a (retired a))
    held-next e = e ∙ ap (λ (image : LoadedImage). next_action image (trace a (retired a))) (state-image a table told)

    record HasBase (log : Log) : Type 0 where
      pub avoids : Avoids out (action_at a)
      pub fits : Fits (executed a) log

    has-base : (log : Log) → HasBase log
    has-base log =
        elim (facts a table told below).held [
          | inl still ↦ record { avoids = held-avoids (inl still.0); fits = fits-still log still.0 still.1 }
          | inr moved ↦
              let most = executed-within a table told below in
              let more = moved.1 in
              record {
                avoids = held-avoids (inr (held-next moved.0, omega (arith, most, more)));
                fits = fits-next log (held-next moved.0) moved.1;
              }
        ]

    base-stands-in : (log : Log) (budget : ℕ) → log.output ≡ output_below a.r.image a.r.shape a.t → AvoidsAll out log.actions
        → count_of a + length (logged log (action_at a)).actions ≤ executed a + budget → Stands a out (executed a) (base log) budget
    base-stands-in log budget puts avoids count =
        let h = has-base log in
        record {
          unread = refl;
          avoids = after-logged out log.actions (action_at a) avoids h.avoids;
          stop = ap (λ (x : Arch). x.stop) (facts a table told below).position;
          words = h.fits.words;
          agrees = h.fits.agrees;
          puts =
              ap (λ (xs : List ℕ). with_byte xs (byte_put (action_at a))) (puts ∙ sym (done-puts a table told))
              ∙ ap (λ (x : Arch). x.log.output) (facts a table told below).position;
          count = count;
        }

    pub base-stands : (log : Log) (budget : ℕ) → log.output ≡ output_below a.r.image a.r.shape a.t → AvoidsAll out log.actions
        → count_of a + length (logged log (action_at a)).actions ≤ executed a + budget → Stands a out (executed a) (base_over a memory log) budget
    base-stands log budget puts avoids count =
        subst (λ (image : LoadedImage). Stands a out (executed a)
        (latches_completed image (action_at a) (state a).w (before_latches (state a) memory spare log)) budget)
        (sym (state-image a table told)) (base-stands-in log budget puts avoids count)
