-- The flush law of the machine's cycle, outside X.
use Rattle.std.proofs.Common.{◌≡◌, ℕ, Bool, true, false, List, [], ◌∷◌, ◌++◌, length, map, refl, ap, sym, ◌∙◌, subst}
use Rattle.std.specs.Prelude.{Option, Some, None, ◌==◌, ◌&&◌, is_none, nat_lt, if◌then◌else◌}
use Rattle.elf_load.specs.Image.{LoadedImage}
use Rattle.avf_base.specs.declared.end.End.{End}
use Rattle.rv_table.specs.Effects.{byte_put}
use Rattle.rv_table.specs.declared.action.Action.{Action}
use Rattle.rv_table.specs.declared.action.Action.TheVariants.{Nothing, Writes, Loads, Stores, Puts, Exits, Traps}
use Rattle.rv_isa.specs.Instruction.{State as Arch, Log, end_of, instruction, logged, put_reg, with_action, with_byte}
use Rattle.pipe_latch.specs.Forwarding.{operand, settled}
use Rattle.pipe_latch.specs.Latches.{op_of_latch}
use Rattle.inst_buf.specs.Buffer.{entries}
use Rattle.cyc_machine.specs.Cycle.{action_in_m, cycle, end_in, fate, done_in}
use Rattle.cyc_machine.specs.Pipeline.{register}
use Rattle.cyc_machine.specs.State.{State}
use Rattle.flush_view.specs.Avoids.{Avoids, AvoidsAll, AvoidsFlush, masked, outside}
use Rattle.rv_isa.specs.Accesses.{next_action}
use Rattle.flush_view.specs.Coherence.{IsCoherent}
use Rattle.flush_view.specs.Flush.{completed_path, entries_completed, fed, flush, item_of_entry, latched, path, path_of}
use Rattle.cyc_machine.specs.InFlight.{Item, completed_item, is_reached}
use Rattle.flush_view.specs.FlushLaw.{FlushLaw, moved_flush, moves_on, remaining}
use Rattle.flush_view.specs.Views.{view}
use Rattle.flush_view.proofs.Flush.Avoiding.{before-logged, before-path, instruction-log, before-item, outside-completed, outside-path, outside-performed}
use Rattle.flush_view.proofs.Flush.Counts.{flush-counts, flush-leaves}
use Rattle.flush_view.proofs.Flush.Masked.{flush_over, given-masked, masked-law}
use Rattle.flush_view.proofs.Flush.Path.{path-added}
use Rattle.flush_view.proofs.Flush.PipeLaw.{added_to, flush_more}
use Rattle.flush_view.proofs.Flush.MachinePipe.{piped}
use Rattle.flush_view.proofs.Flush.Pipes.{flush_pipe, latched_pipe}
use Rattle.cyc_machine.specs.Sizes.{IsSteady}

-- ---- a path over masked memory whose log avoids X

masked_item : (image : LoadedImage) (out : ℕ → Bool) (item : Item) (at : Arch)
    → AvoidsAll out (completed_item image item (outside out at)).log.actions
    → outside out (completed_item image item at) ≡ completed_item image item (outside out at)
masked_item image out item at h =
    outside-completed image out item.op item.pc (item.a at.registers) (item.b at.registers) at (before-item image out item (outside out at) h).1

pub masked-path : (image : LoadedImage) (out : ℕ → Bool) (items : List Item) (at : Arch)
    → AvoidsAll out (completed_path image items (outside out at)).log.actions
    → outside out (completed_path image items at) ≡ completed_path image items (outside out at)
unfolding completed_path
masked-path image out [] at h = refl
masked-path image out (item ∷ items) at h = go (masked-path image out items (completed_item image item at)) (is_reached item at) h
  where
    go : (AvoidsAll out (completed_path image items (outside out (completed_item image item at))).log.actions
        → outside out (completed_path image items (completed_item image item at))
        ≡ completed_path image items (outside out (completed_item image item at)))
        → (b : Bool) → AvoidsAll out (if b then completed_path image items (completed_item image item (outside out at)) else outside out at).log.actions
        → outside out (if b then completed_path image items (completed_item image item at) else at)
        ≡ (if b then completed_path image items (completed_item image item (outside out at)) else outside out at)
    go ih true h =
        let e : outside out (completed_item image item at) ≡ completed_item image item (outside out at) =
        masked_item image out item at (before-path image out items (completed_item image item (outside out at)) h) in
        ih (subst (λ (x : Arch). AvoidsAll out (completed_path image items x).log.actions) (sym e) h)
        ∙ ap (completed_path image items) e
    go ih false h = refl

-- ---- the flush, and the flush over the masked view

module _ (s : State) (out : ℕ → Bool) (clocks : List ℕ) (log : Log) where
  abbrev over_mask : Arch
  over_mask = flush_pipe (piped s) (masked out (view s)) clocks log

  path-masked : Avoids out (action_in_m s) → path_of s.image (action_in_m s) s.w (masked out (view s)) s.d (entries s.buffer) ≡ path s
  path-masked h =
      ap
      (λ g. if s.d.valid then record {
        pc = s.d.pc;
        op = op_of_latch s.d;
        a = λ registers. settled (operand (action_in_m s) s.w s.d.rs1 s.d.a) g;
        b = λ registers. settled (operand (action_in_m s) s.w s.d.rs2 s.d.b) g;
      } ∷ map item_of_entry (entries s.buffer)
      else map item_of_entry (entries s.buffer)) (given-masked s.image out (action_in_m s) (view s) h)

  latched-masked : Avoids out (action_in_m s) → outside out (latched s clocks log) ≡ latched_pipe (piped s) (masked out (view s)) clocks log
  latched-masked h =
      outside-performed s.image out (action_in_m s)
      (record {
        registers = put_reg s.w.rd s.w.value (register s.registers);
        memory = view s;
        pc = s.npc;
        count = s.issued;
        clocks = clocks;
        log = log;
        stop = None;
      }) h

  -- whatever is put behind the path
  over-path : (behind : List Item → List Item) → Avoids out (action_in_m s)
      → completed_path s.image (behind (path_of s.image (action_in_m s) s.w (masked out (view s)) s.d (entries s.buffer)))
      (latched_pipe (piped s) (masked out (view s)) clocks log) ≡ completed_path s.image (behind (path s)) (outside out (latched s clocks log))
  over-path behind h =
      ap (λ (items : List Item). completed_path s.image (behind items) (latched_pipe (piped s) (masked out (view s)) clocks log)) (path-masked h)
      ∙ ap (completed_path s.image (behind (path s))) (sym (latched-masked h))

  -- M is in the log of what is completed
  first : (items : List Item) → AvoidsAll out (completed_path s.image items (latched s clocks log)).log.actions → Avoids out (action_in_m s)
  first items h = (before-logged out log.actions (action_in_m s) (before-path s.image out items (latched s clocks log) h)).1

  pub flush-first : AvoidsAll out (flush s clocks log).log.actions → Avoids out (action_in_m s)
  unfolding flush
  flush-first h = first (path s) h

  over-first : AvoidsAll out over_mask.log.actions → Avoids out (action_in_m s)
  over-first h =
      (before-logged out log.actions (action_in_m s) (before-path s.image out
      (path_of s.image (action_in_m s) s.w (masked out (view s)) s.d (entries s.buffer)) (latched_pipe (piped s) (masked out (view s)) clocks log) h)).1

  pub more-outside : (more : List Item) → AvoidsAll out (completed_path s.image (path s ++ more) (latched s clocks log)).log.actions
      → outside out (completed_path s.image (path s ++ more) (latched s clocks log)) ≡ flush_more more (piped s) (masked out (view s)) clocks log
  more-outside more h =
      outside-path s.image out (path s ++ more) (latched s clocks log) h ∙ sym (over-path (λ items. items ++ more) (first (path s ++ more) h))

  pub flush-masked : AvoidsAll out over_mask.log.actions → outside out (flush s clocks log) ≡ over_mask
  unfolding flush
  flush-masked h =
      let e = over-path (λ items. items) (over-first h) in
      masked-path s.image out (path s) (latched s clocks log) (subst (λ (x : Arch). AvoidsAll out x.log.actions) e h) ∙ sym e

-- ---- where the cycle moves the flush on

running_by : (all room here : Bool) (o : Option End) → (all && is_none o && room && here) ≡ true → o ≡ None
running_by all room here None h = refl
running_by true room here (Some e) h = absurd cc
running_by false room here (Some e) h = absurd cc

-- no end has come
pub moves-running : (s : State) (clocks : List ℕ) (log : Log) → moves_on s clocks log ≡ true → (flush s clocks log).stop ≡ None
unfolding moves_on
moves-running s clocks log h =
    running_by (entries_completed s clocks log == length (path s)) (nat_lt (length (remaining (fate s) (entries s.buffer))) 4)
    (s.pc == (flush s clocks log).pc) (flush s clocks log).stop h

-- the flush moved on is the path completed with the entry that is fetched behind it
pub more-moved : (s : State) (clocks : List ℕ) (log : Log)
    → completed_path s.image (path s ++ added_to (fate s) (piped s)) (latched s clocks log) ≡ moved_flush s clocks log
unfolding flush moves_on
more-moved s clocks log = path-added s.image (path s) s.pc (length (remaining (fate s) (entries s.buffer))) (latched s clocks log)

-- ---- the law

after-action : (out : ℕ → Bool) (actions : List Action) (m : Action) → AvoidsAll out actions → Avoids out m → AvoidsAll out (actions ++ m ∷ [])
after-action out [] m h k = (k, tt)
after-action out (a ∷ actions) m h k = (h.0, after-action out actions m h.1 k)

pub after-logged : (out : ℕ → Bool) (actions : List Action) (m : Action) → AvoidsAll out actions → Avoids out m
    → AvoidsAll out (with_action actions m)
after-logged out actions Nothing h k = h
after-logged out actions (Writes rd value) h k = after-action out actions (Writes rd value) h k
after-logged out actions (Loads kind rd x) h k = after-action out actions (Loads kind rd x) h k
after-logged out actions (Stores kind x y) h k = after-action out actions (Stores kind x y) h k
after-logged out actions (Puts value) h k = after-action out actions (Puts value) h k
after-logged out actions (Exits value) h k = after-action out actions (Exits value) h k
after-logged out actions (Traps cause) h k = after-action out actions (Traps cause) h k

moved-avoids : (s : State) (out : ℕ → Bool) (clocks : List ℕ) (log : Log) → AvoidsFlush out s clocks log
    → AvoidsAll out (moved_flush s clocks log).log.actions
moved-avoids s out clocks log avoids = go (moves_on s clocks log) refl
  where
    go : (b : Bool) → moves_on s clocks log ≡ b
        → AvoidsAll out (if b then instruction s.image (flush s clocks log) else flush s clocks log).log.actions
    go true h =
        subst (AvoidsAll out) (sym (instruction-log s.image (flush s clocks log)))
        (after-logged out (flush s clocks log).log.actions (next_action s.image (flush s clocks log)) avoids.done (avoids.next (moves-running s clocks log h)))
    go false h = avoids.done

by_moved : (out : ℕ → Bool) (before moved from to after : Arch) → before ≡ moved → AvoidsAll out moved.log.actions
    → (AvoidsAll out before.log.actions → outside out before ≡ from) → to ≡ from → (AvoidsAll out to.log.actions → outside out after ≡ to)
    → outside out after ≡ outside out moved
by_moved out before moved from to after e avoids f same g =
    let x : to ≡ outside out moved = same ∙ sym (f (subst (λ (a : Arch). AvoidsAll out a.log.actions) (sym e) avoids)) ∙ ap (outside out) e in
    g (subst (λ (a : Arch). AvoidsAll out a.log.actions) (sym x) avoids) ∙ x

pub flush-goes : (s : State) → IsSteady s → (out : ℕ → Bool) (clocks : List ℕ) (log : Log) → IsCoherent out s
    → AvoidsFlush out s (fed s clocks) log → end_in s ≡ None
    → outside out (flush (cycle s) clocks (logged log (done_in s))) ≡ outside out (moved_flush s (fed s clocks) log)
unfolding flush_over
flush-goes s is out clocks log coherent avoids h =
    by_moved out _ _ _ _ (flush (cycle s) clocks (logged log (done_in s)))
    (more-moved s (fed s clocks) log)
    (moved-avoids s out (fed s clocks) log avoids)
    (more-outside s out (fed s clocks) log (added_to (fate s) (piped s)))
    (masked-law s is out clocks log coherent (flush-first s out (fed s clocks) log avoids.done) h)
    (flush-masked (cycle s) out clocks (logged log (done_in s)))

-- ---- the cycle that ends the run

stopped : (image : LoadedImage) (items : List Item) (at : Arch) (e : End) → at.stop ≡ Some e → completed_path image items at ≡ at
unfolding completed_path
stopped image [] at e h = refl
stopped image (item ∷ items) at e h = rw h refl

no_byte : (m : Action) (e : End) (output : List ℕ) → end_of m ≡ Some e → with_byte output (byte_put m) ≡ output
no_byte Nothing e output h = refl
no_byte (Writes rd value) e output h = refl
no_byte (Loads kind rd x) e output h = refl
no_byte (Stores kind x y) e output h = refl
no_byte (Puts value) e output h = absurd cc
no_byte (Exits value) e output h = refl
no_byte (Traps cause) e output h = refl

pub flush-ends : (s : State) (clocks : List ℕ) (log : Log) (e : End) → end_in s ≡ Some e
    → ((flush s clocks log).stop ≡ Some e) × ((flush s clocks log).log.output ≡ log.output)
unfolding flush
flush-ends s clocks log e h =
    let is : completed_path s.image (path s) (latched s clocks log) ≡ latched s clocks log = stopped s.image (path s) (latched s clocks log) e h in
    (ap (λ (a : Arch). a.stop) is ∙ h, ap (λ (a : Arch). a.log.output) is ∙ no_byte (action_in_m s) e log.output h)

pub flush-law : (s : State) → IsSteady s → FlushLaw s (cycle s)
flush-law s is = record { goes = flush-goes s is; ends = flush-ends s; counts = flush-counts s; leaves = flush-leaves s }
