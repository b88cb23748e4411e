-- What the recorded latches leave: the recorded state before the first instruction that ID/EX doesn't hold on path.
use Rattle.std.proofs.Common.{◌≡◌, ℕ, ◌+◌, ◌≤◌, ◌<◌, Bool, true, false, List, ◌∷◌, map, arith, refl, ap, sym, subst, ◌∙◌}
use Rattle.std.specs.Prelude.{◌&&◌, ◌==◌, Option, Some, None, is_none, nat_lt, if◌then◌else◌}
use Rattle.std.proofs.lemmas.Bool.Decides.{nat_tests}
use Rattle.avf_base.specs.declared.end.End.{End}
use Rattle.elf_load.specs.Image.{LoadedImage}
use Rattle.rv_table.specs.Actions.{is_clocked}
use Rattle.rv_isa.specs.Instruction.{State as Arch, instruction, op_at}
use Rattle.inst_buf.specs.Buffer.{entries}
use Rattle.pipe_latch.specs.Latches.{DecodedLatch, ExecutedLatch, ResultLatch, op_of_latch}
use Rattle.pipe_latch.specs.LatchedActions.{action_of}
use Rattle.cyc_machine.specs.Cycle.{action_in_m}
use Rattle.cyc_machine.specs.InFlight.{Item, completed_item, is_latch_reached, item_of_latch, latches_completed, outcome}
use Rattle.cyc_machine.specs.State.{State}
use Rattle.eval_mask.specs.LatchMasks.{Latches, reads_clock}
use Rattle.need_pass.specs.Tables.{Needs}
use Rattle.flush_view.specs.Flush.{item_of_entry}
use Rattle.flush_view.specs.FlushInputs.{outcome_of}
use Rattle.flush_view.specs.Positions.{is_instruction, is_latch_on_path, on_path}
use Rattle.flush_view.specs.Views.{view}
use Rattle.flush_view.proofs.Run.OnPath.{held-next}
use Rattle.ace_law.specs.Agreements.{under_latches}
use Rattle.ace_law.specs.Moments.{IsQuiet, IsTold, Moment, decoded, decoded_is_on_path, executed, state, trace}
use Rattle.ace_law.proofs.Told.{done, facts, later, state-image}
use Rattle.ace_law.proofs.Masked.Known.{step, unclocked}

-- the three latches of a state
abbrev pub latches_of : State → Latches
latches_of s = record { w = s.w; m = s.m; d = s.d }

-- ---- ID/EX is on path where it is reached

at_least_one : (b : Bool) (n : ℕ) → nat_lt 0 (if b then n + 1 else 0) ≡ b
at_least_one true n = grind (arith, nat_tests)
at_least_one false n = refl

pub reached-on_path : (s : State) (trace : ℕ → Arch) (x : ℕ) → is_latch_on_path s trace x ≡ is_latch_reached s.d (trace x)
unfolding on_path
reached-on_path s trace x = go s.d.valid
  where
    item : Item
    item = item_of_latch s.image (action_in_m s) s.w (view s) s.d

    rest : List Item
    rest = map item_of_entry (entries s.buffer)

    go : (v : Bool) → (v && nat_lt 0 (on_path trace x (if v then item ∷ rest else rest))) ≡ (v && is_instruction trace x item)
    go true = at_least_one (is_instruction trace x item) (on_path trace (x + 1) rest)
    go false = refl

-- ---- the outcome

outcome-by : (image : LoadedImage) (w : ResultLatch) (m : ExecutedLatch) (d : DecodedLatch) (at before after : Arch)
    → latches_completed image (action_of m) w at ≡ before → (r : Bool) → is_latch_reached d before ≡ r
    → (r ≡ true → completed_item image (item_of_latch image (action_of m) w at.memory d) before ≡ after)
    → outcome image w m d at ≡ (if r then after else before)
unfolding outcome
outcome-by image w m d at before after e r reached next =
    ap (λ (z : Arch). if is_latch_reached d z then completed_item image (item_of_latch image (action_of m) w at.memory d) z else z) e
    ∙ ap (λ (b : Bool). if b then completed_item image (item_of_latch image (action_of m) w at.memory d) before else before) reached
    ∙ go r next
  where
    go : (b : Bool) → (b ≡ true → completed_item image (item_of_latch image (action_of m) w at.memory d) before ≡ after)
        → (if b then completed_item image (item_of_latch image (action_of m) w at.memory d) before else before) ≡ (if b then after else before)
    go true h = h refl
    go false h = refl

place-if : (trace : ℕ → Arch) (x : ℕ) (r : Bool) → (if r then trace (x + 1) else trace x) ≡ trace (if r then x + 1 else x)
place-if trace x true = refl
place-if trace x false = refl

reached_stop : (v p : Bool) (o : Option End) → (v && (is_none o && p)) ≡ true → o ≡ None
reached_stop v p None h = refl
reached_stop true p (Some end) h = absurd cc
reached_stop false p (Some end) h = absurd cc

reached_pc : (v b : Bool) (n m : ℕ) → (v && (b && n == m)) ≡ true → n ≡ m
reached_pc true true n m h = grind (arith, nat_tests)
reached_pc true false n m h = absurd cc
reached_pc false b n m h = absurd cc

unread_if : (b c : Bool) → (b ≡ true → c ≡ false) → (b && c) ≡ false
unread_if true c h = h refl
unread_if false c h = refl

least : (v p r : Bool) (o : Option End) (x : ℕ) → r ≡ (v && (is_none o && p)) → (r ≡ false → o ≡ None)
    → x + (if v && p then 1 else 0) ≤ (if r then x + 1 else x)
least true true true o x e h = omega arith
least true true false None x e h = absurd cc
least true true false (Some end) x e h = let none = h refl in absurd cc
least true false r o x e h = go r
  where
    go : (b : Bool) → x + 0 ≤ (if b then x + 1 else x)
    go true = omega arith
    go false = omega arith
least false p r o x e h = go r
  where
    go : (b : Bool) → x + 0 ≤ (if b then x + 1 else x)
    go true = omega arith
    go false = omega arith

module _ (a : Moment) (table : Needs) (told : IsTold a.r a.run table) (below : a.t < a.r.cycles) where
  on-path : is_latch_reached (state a).d (trace a (executed a)) ≡ decoded_is_on_path a
  on-path = sym (reached-on_path (state a) (trace a) (executed a))

  next : decoded_is_on_path a ≡ true
      → completed_item (state a).image (item_of_latch (state a).image (action_in_m (state a)) (state a).w (view (state a)) (state a).d)
      (trace a (executed a))
      ≡ trace a (executed a + 1)
  next on =
      let h = (facts a table told below).decoded on in
      let reached : is_latch_reached (state a).d (trace a (executed a)) ≡ true = on-path ∙ on in
      let running : (trace a (executed a)).stop ≡ None = reached_stop (state a).d.valid _ (trace a (executed a)).stop reached in
      let place : (state a).d.pc ≡ (trace a (executed a)).pc = reached_pc (state a).d.valid _ (state a).d.pc (trace a (executed a)).pc reached in
      held-next (state a).image (action_in_m (state a)) (state a).w (view (state a)) (state a).d (trace a (executed a)) h.op h.a h.b place
      ∙ ap (λ (im : LoadedImage). instruction im (trace a (executed a))) (state-image a table told)
      ∙ sym (step a table told (executed a) running)

  -- with the recorded clock values and log
  pub outcome-is : outcome_of (state a) (later a) (done a) ≡ trace a (decoded a)
  outcome-is =
      outcome-by (state a).image (state a).w (state a).m (state a).d _ (trace a (executed a)) (trace a (executed a + 1))
      (facts a table told below).position
      (decoded_is_on_path a) on-path next
      ∙ place-if (trace a) (executed a) (decoded_is_on_path a)

  -- in a quiet cycle they complete no read of the cycle counter
  pub outcome-unread : IsQuiet a → reads_clock (state a).image (latches_of (state a)) (under_latches (state a)) ≡ false
  unfolding reads_clock
  outcome-unread quiet = unread_if _ (is_clocked (op_of_latch (state a).d)) (λ r.
      let reached : is_latch_reached (state a).d (trace a (executed a)) ≡ true =
      sym (ap (is_latch_reached (state a).d) (facts a table told below).position) ∙ r in
      let h = (facts a table told below).decoded (sym on-path ∙ reached) in
      let running : (trace a (executed a)).stop ≡ None = reached_stop (state a).d.valid _ (trace a (executed a)).stop reached in
      ap is_clocked h.op
      ∙ ap (λ (im : LoadedImage). is_clocked (op_at im (trace a (executed a)).pc)) (state-image a table told)
      ∙ unclocked a table told quiet (executed a) (omega arith) running)

  -- where the recorded run goes on, ID/EX is on path if it is occupied, at the address that comes next
  pub decoded-least : (trace a (decoded a)).stop ≡ None
      → executed a + (if (state a).d.valid && (state a).d.pc == (state a).npc then 1 else 0) ≤ decoded a
  decoded-least running =
      let npc : (state a).npc ≡ (trace a (executed a)).pc = ap (λ (z : Arch). z.pc) (facts a table told below).position in
      subst (λ (n : ℕ). executed a + (if (state a).d.valid && (state a).d.pc == n then 1 else 0) ≤ decoded a) (sym npc)
      (least (state a).d.valid ((state a).d.pc == (trace a (executed a)).pc) (decoded_is_on_path a) (trace a (executed a)).stop (executed a)
      (sym on-path)
      (λ off. ap (λ (b : Bool). (trace a (if b then executed a + 1 else executed a)).stop) (sym off) ∙ running))

  pub decoded-from : executed a ≤ decoded a
  decoded-from = go (decoded_is_on_path a)
    where
      go : (b : Bool) → executed a ≤ (if b then executed a + 1 else executed a)
      go true = omega arith
      go false = omega arith
