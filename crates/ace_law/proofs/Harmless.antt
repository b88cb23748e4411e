-- A state whose flush is alike ends as the recorded run: each cycle keeps the flush alike.
use Rattle.std.proofs.Math.Seq.{drop-nil}
use Rattle.std.proofs.Common.{◌≡◌, ◌≤◌, ◌⊎◌, inl, inr, ℕ, Bool, true, false, List, [], ◌∷◌, length, arith, refl, ap, sym, subst}
use Rattle.std.proofs.Common.{◌∙◌, map, drop}
use Rattle.std.specs.Prelude.{None, Some, Option, is_none, ◌==◌, ◌&&◌, if◌then◌else◌}
use Rattle.avf_base.specs.declared.end.End.{End}
use Rattle.elf_load.specs.Image.{LoadedImage}
use Rattle.rv_table.specs.Actions.{is_clocked}
use Rattle.rv_isa.specs.Accesses.{next_action}
use Rattle.rv_isa.specs.Instruction.{State as Arch, Log, completed, instruction, later_clocks, logged}
use Rattle.pipe_latch.specs.Latches.{op_of_latch}
use Rattle.inst_buf.specs.Buffer.{entries}
use Rattle.cyc_machine.specs.Cycle.{action_in_m, cycle, cycled, done_in, end_in, fate, served_m}
use Rattle.cyc_machine.specs.InFlight.{Item, completed_item, is_reached, item_of_latch}
use Rattle.cyc_machine.specs.Sizes.{IsSteady}
use Rattle.cyc_machine.specs.State.{State}
use Rattle.cyc_machine.specs.declared.fate.Fate.{Fate}
use Rattle.cyc_machine.specs.declared.fate.Fate.TheVariants.{Absent, Dropped, Goes, Stays}
use Rattle.cyc_machine.proofs.Sizes.Lasting.{steady-next}
use Rattle.need_pass.specs.Tables.{Needs}
use Rattle.flush_view.specs.Avoids.{Avoids, AvoidsFlush, outside}
use Rattle.flush_view.specs.Coherence.{IsCoherent}
use Rattle.flush_view.specs.Flush.{clocks_now, completed_path, fed, flush, item_of_entry, latched}
use Rattle.flush_view.specs.FlushLaw.{FlushLaw, moved_flush, moves_on}
use Rattle.flush_view.specs.MemoryLaw.{MemoryLaw}
use Rattle.flush_view.specs.Views.{view}
use Rattle.flush_view.proofs.Flush.AfterLog.{path-takes}
use Rattle.flush_view.proofs.Flush.Counts.{flush-counts}
use Rattle.flush_view.proofs.Flush.FlushLaw.{flush-ends, flush-law, moves-running}
use Rattle.flush_view.proofs.Flush.MachinePipe.{piped}
use Rattle.flush_view.proofs.Flush.PipeLaw.{fate-goes}
use Rattle.flush_view.proofs.Memory.MemoryLaw.{memory-law}
use Rattle.ace_law.specs.Moments.{IsQuiet, IsTold, Moment}
use Rattle.ace_law.proofs.Alike.{Alike, Ended, Going, IsLeftAlone, spare}
use Rattle.ace_law.proofs.AlikeNext.{alike-avoids, alike-next, alike-outside}
use Rattle.ace_law.proofs.Lasting.{Lasting}

-- ---- where the spare clock value is left, the cycle issues no read of the cycle counter

clocked-clocks : (image : LoadedImage) (item : Item) (at : Arch) → is_clocked item.op ≡ true
    → (completed_item image item at).clocks ≡ later_clocks at.clocks
unfolding completed
clocked-clocks image item at h = rw h refl

-- a read of the cycle counter that is completed takes the last clock value
clock-taken : (image : LoadedImage) (item : Item) (items : List Item) (at : Arch) → at.clocks ≡ spare
    → is_clocked item.op ≡ true → is_reached item at ≡ true → (completed_path image (item ∷ items) at).clocks ≡ []
unfolding completed_path
clock-taken image item items at clocks clocked reached =
    let rest = path-takes image items (completed_item image item at) in
    let first : (completed_item image item at).clocks ≡ [] = clocked-clocks image item at clocked ∙ ap later_clocks clocks in
    rw reached (rest.is ∙ ap (drop rest.taken) first ∙ drop-nil rest.taken)

reached-by : (o : Option End) (b : Bool) → o ≡ None → b ≡ true → is_none o && b ≡ true
reached-by o b e f = rw (e, f) refl

-- the flush of an occupied ID/EX at the address reached
flush-valid : (s : State) (log : Log) (v : Bool) → s.d.valid ≡ v → v ≡ true → flush s spare log
    ≡ completed_path s.image (item_of_latch s.image (action_in_m s) s.w (view s) s.d ∷ map item_of_entry (entries s.buffer))
    (latched s spare log)
unfolding flush
flush-valid s log v e f = rw (e, f) refl

issues-no-clock : (s : State) (log : Log) (x y : ℕ) → end_in s ≡ None → (flush s spare log).clocks ≡ spare → fate s ≡ Goes x y
    → is_clocked (op_of_latch s.d) ≡ true → ⊥
issues-no-clock s log x y h left e clocked =
    let goes = fate-goes (piped s) (served_m s).goes x y e in
    let taken : (flush s spare log).clocks ≡ [] =
    ap (λ (z : Arch). z.clocks) (flush-valid s log s.d.valid refl goes.0)
    ∙ clock-taken s.image (item_of_latch s.image (action_in_m s) s.w (view s) s.d) (map item_of_entry (entries s.buffer)) (latched s spare log)
    refl clocked
    (reached-by (end_in s) (s.d.pc == s.npc) h goes.1) in
    cc

pub fed-same : (s : State) (log : Log) → end_in s ≡ None → (flush s spare log).clocks ≡ spare → fed s spare ≡ spare
fed-same s log h left = go (fate s) refl
  where
    clocked : (x y : ℕ) → fate s ≡ Goes x y → (b : Bool) → is_clocked (op_of_latch s.d) ≡ b → (if b then s.cycle ∷ spare else spare) ≡ spare
    clocked x y e true c = absurd (issues-no-clock s log x y h left e c)
    clocked x y e false c = refl

    go : (f : Fate) → fate s ≡ f → (if clocks_now f s.d then s.cycle ∷ spare else spare) ≡ spare
    go Absent e = refl
    go Dropped e = refl
    go Stays e = refl
    go (Goes x y) e = clocked x y e (is_clocked (op_of_latch s.d)) refl

-- ---- the invariant

-- a state that stands in place of a recorded one, after what the log says
pub record IsHeldAlike (a : Moment) (out : ℕ → Bool) (budget : ℕ) (s : State) (log : Log) : Type 0 where
  pub image : s.image ≡ a.r.image
  pub steady : IsSteady s
  pub coherent : IsCoherent out s
  pub alike : Alike a out (flush s spare log) budget

image-next : (s : State) → (cycle s).image ≡ s.image
unfolding cycled
image-next s = refl

module _ (a : Moment) (table : Needs) (told : IsTold a.r a.run table) (out : ℕ → Bool) (budget : ℕ)
    (quiet : IsQuiet a) (alone : IsLeftAlone a out) where
  avoids-flush : (s : State) (log : Log) (clocks : List ℕ) → clocks ≡ spare → IsHeldAlike a out budget s log → AvoidsFlush out s clocks log
  avoids-flush s log clocks e held = subst (λ (clocks : List ℕ). AvoidsFlush out s clocks log) (sym e) (record {
    done = held.alike.avoids;
    next = λ running. subst (λ (image : LoadedImage). Avoids out (next_action image (flush s spare log))) (sym held.image)
        (alike-avoids a table told out (flush s spare log) budget quiet alone running held.alike);
  })

  moved-alike : (s : State) (log : Log) → IsHeldAlike a out budget s log → Alike a out (moved_flush s spare log) budget
  moved-alike s log held = go (moves_on s spare log) refl
    where
      go : (b : Bool) → moves_on s spare log ≡ b → Alike a out (if b then instruction s.image (flush s spare log) else flush s spare log) budget
      go true e = subst (λ (image : LoadedImage). Alike a out (instruction image (flush s spare log)) budget) (sym held.image)
          (alike-next a table told out (flush s spare log) budget quiet alone (moves-running s spare log e) held.alike)
      go false e = held.alike

  next : (s : State) (log : Log) → IsHeldAlike a out budget s log → end_in s ≡ None → IsHeldAlike a out budget (cycle s) (logged log (done_in s))
  next s log held h =
      let law : FlushLaw s (cycle s) = flush-law s held.steady in
      let memory : MemoryLaw s (cycle s) = memory-law s held.steady in
      let same : fed s spare ≡ spare = fed-same s log h held.alike.unread in
      record {
        image = image-next s ∙ held.image;
        steady = steady-next s held.steady;
        coherent = memory.coherent out held.coherent;
        alike = alike-outside a out (moved_flush s spare log) (flush (cycle s) spare (logged log (done_in s))) budget
            (law.goes out spare log held.coherent (avoids-flush s log (fed s spare) same held) h
            ∙ ap (λ (clocks : List ℕ). outside out (moved_flush s clocks log)) same)
            (moved-alike s log held);
      }

  bounded : (s : State) (log : Log) → IsHeldAlike a out budget s log → length log.actions ≤ budget
  bounded s log held = go held.alike.case
    where
      go : Going a out (flush s spare log) budget ⊎ Ended a (flush s spare log) budget → length log.actions ≤ budget
      go (inl g) = let counts = flush-counts s spare log in let count = g.count in let below = g.below in omega (arith, counts, count, below)
      go (inr d) = let counts = flush-counts s spare log in let count = d.count in omega (arith, counts, count)

  ends : (s : State) (log : Log) (last : End) → IsHeldAlike a out budget s log → end_in s ≡ Some last
      → (end_in s ≡ Some a.run.end) × (log.output ≡ a.run.output)
  ends s log last held h = go held.alike.case
    where
      law : ((flush s spare log).stop ≡ Some last) × ((flush s spare log).log.output ≡ log.output)
      law = flush-ends s spare log last h

      go : Going a out (flush s spare log) budget ⊎ Ended a (flush s spare log) budget → (end_in s ≡ Some a.run.end) × (log.output ≡ a.run.output)
      go (inl g) = let stop = g.stop in let other = law.0 in absurd cc
      go (inr d) = (h ∙ sym law.0 ∙ d.stop, sym law.1 ∙ d.puts)

  pub held-lasts : Lasting (IsHeldAlike a out budget) budget a.run.output a.run.end
  held-lasts = record { steady = λ s log held. held.steady; bounded = bounded; ends = ends; next = next }
