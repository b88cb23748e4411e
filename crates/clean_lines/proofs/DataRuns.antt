-- Many cycles from a state with a struck data bit of a clean line.
use Rattle.std.proofs.Common.{◌≡◌, ℕ, zero, suc, ◌+◌, ◌-◌, ◌*◌, ◌/◌, ◌%◌, ◌<◌, Bool, true, false, cond, List, refl, sym, ◌∙◌, ap}
use Rattle.std.proofs.Common.{arith, inl, inr, subst}
use Rattle.std.specs.Prelude.{Option, Some, None, ◌&&◌, nat_le, if◌then◌else◌}
use Rattle.std.specs.Option.{option_map_or}
use Rattle.std.proofs.lemmas.Bool.{cases_lt}
use Rattle.std.proofs.lemmas.Bool.Decides.{nat_tests}
use Rattle.bit_field.specs.Shapes.{slots as slot_count}
use Rattle.bit_field.specs.declared.shapes.Shape.{Shape}
use Rattle.wb_cache.specs.declared.event.CacheEvent.{CacheEvent}
use Rattle.wb_cache.specs.declared.event.EventKind.{EventKind}
use Rattle.wb_cache.specs.declared.event.EventKind.TheVariants.{Read, Write, Miss, Fill}
use Rattle.event_log.specs.Events.{first_event, holds_byte, is_of_slot}
use Rattle.event_log.specs.Nexts.{concerns, concerns_by, next_of, told_by}
use Rattle.event_log.specs.declared.next.Next.TheVariants.{Ends}
use Rattle.event_log.proofs.Logs.{first-push, or_event}
use Rattle.cyc_machine.specs.Cycle.{cycle, event_in}
use Rattle.cyc_machine.specs.Run.{events_after, state_after, with_one}
use Rattle.cyc_machine.specs.Sizes.{IsSteady}
use Rattle.cyc_machine.specs.State.{State}
use Rattle.cyc_machine.proofs.Events.{event-law}
use Rattle.cyc_machine.proofs.RunsOn.{numbered, shape-kept}
use Rattle.cyc_machine.proofs.Sizes.Lasting.{steady-after}
use Rattle.clean_lines.specs.CleanCycle.{DataCycleBy, SameCycle, told_in}
use Rattle.clean_lines.specs.CleanRun.{DataRun, DataRunBy, IsInStep, IsSettled, SameCycles}
use Rattle.clean_lines.specs.Struck.{IsCleanSlot, data_struck}
use Rattle.clean_lines.proofs.DataCycles.{data-cycle}

pub same-self : (s : State) → SameCycle s s
same-self s = record { report = record { put = refl; issued = refl; retired = refl; event = refl; end = refl }; done = refl }

-- one cycle more
pub same-more : (n : ℕ) (s u : State) → SameCycles n s u → SameCycle (state_after n s) (state_after n u) → SameCycles (suc n) s u
same-more n s u before here i h =
    elim (cases_lt i n) [
      | inl m ↦ before i m
      | inr m ↦ let e : i ≡ n = omega arith in rw e here
    ]

pub settled-more : (n : ℕ) (s u : State) → IsSettled n s u → IsSettled (suc n) s u
unfolding state_after
settled-more n s u h = record {
  same = same-more n s u h.same (subst (λ (v : State). SameCycle (state_after n s) v) (sym h.state) (same-self (state_after n s)));
  state = ap cycle h.state;
}

module _ (s : State) (k : ℕ) where
  abbrev l : ℕ
  l = k / 128

  abbrev byte : ℕ
  byte = k % 128 / 8

  step-on : (n : ℕ) → IsInStep n s (data_struck k) → SameCycle (state_after n s) (data_struck k (state_after n s))
      → cycle (data_struck k (state_after n s)) ≡ data_struck k (cycle (state_after n s))
      → IsInStep (suc n) s (data_struck k)
  unfolding state_after
  step-on n h same e = record {
    same = same-more n s (data_struck k s) h.same (subst (λ (v : State). SameCycle (state_after n s) v) (sym h.state) same);
    state = ap cycle h.state ∙ e;
  }

  settle-on : (n : ℕ) → IsInStep n s (data_struck k) → SameCycle (state_after n s) (data_struck k (state_after n s))
      → cycle (data_struck k (state_after n s)) ≡ cycle (state_after n s)
      → IsSettled (suc n) s (data_struck k s)
  unfolding state_after
  settle-on n h same e = record {
    same = same-more n s (data_struck k s) h.same (subst (λ (v : State). SameCycle (state_after n s) v) (sym h.state) same);
    state = ap cycle h.state ∙ e;
  }

  -- what holds by the first event so far that concerns the byte
  abbrev RunBy : ℕ → Option CacheEvent → Type 0
  RunBy n None = IsInStep n s (data_struck k) × IsCleanSlot (state_after n s).cache l
  RunBy n (Some e) = (concerns s.cache.shape l byte e ≡ true) × DataRunBy n s k (told_by e.kind (holds_byte byte e) e.cycle)

  -- a miss concerns no byte
  no-miss : (a h : Bool) → (a && concerns_by Miss h) ≡ true → ⊥
  no-miss true h e = cc
  no-miss false h e = cc

  later : (n : ℕ) (e : CacheEvent) (kind : EventKind) (a h : Bool) → (a && concerns_by kind h) ≡ true → DataRunBy n s k (told_by kind h e.cycle)
      → DataRunBy (suc n) s k (told_by kind h e.cycle)
  later n e Read a h c run = run
  later n e Write a true c run = settled-more n s (data_struck k s) run
  later n e Write a false c run = run
  later n e Fill a h c run = settled-more n s (data_struck k s) run
  later n e Miss a h c run = absurd (no-miss a h c)

  -- the cycle of the event
  now : (n : ℕ) (e : CacheEvent) (kind : EventKind) (a h : Bool) → (a && concerns_by kind h) ≡ true → e.cycle ≡ s.cycle + n → IsInStep n s (data_struck k)
      → DataCycleBy (state_after n s) k (told_by kind h e.cycle) → DataRunBy (suc n) s k (told_by kind h e.cycle)
  unfolding state_after
  now n e Read a h c at run one = let f : e.cycle - s.cycle ≡ n = omega arith in rw f run
  now n e Write a true c at run one = settle-on n run one.0 one.1
  now n e Write a false c at run one =
      let f : suc e.cycle - s.cycle ≡ suc n = omega arith in
      (rw f (step-on n run one.0 one.1), rw f one.2)
  now n e Fill a h c at run one = settle-on n run one.0 one.1
  now n e Miss a h c at run one = absurd (no-miss a h c)

  module _ (is : IsSteady s) (below : k < slot_count s.cache.shape * 128) (clean : IsCleanSlot s.cache l) where
    one-cycle : (n : ℕ) → IsCleanSlot (state_after n s).cache l → DataCycleBy (state_after n s) k (told_in s.cache.shape l byte (event_in (state_after n s)))
    one-cycle n stays =
        subst (λ (sh : Shape). DataCycleBy (state_after n s) k (told_in sh l byte (event_in (state_after n s)))) (shape-kept n s)
        (data-cycle (state_after n s) k (steady-after n s is) (subst (λ (sh : Shape). k < slot_count sh * 128) (sym (shape-kept n s)) below) stays)

    number : (n : ℕ) (e : CacheEvent) → event_in (state_after n s) ≡ Some e → e.cycle ≡ s.cycle + n
    number n e h = ((event-law (state_after n s) (steady-after n s is)).event e h).cycle ∙ numbered n s

    quiet : (n : ℕ) → RunBy n None → DataCycleBy (state_after n s) k Ends → RunBy (suc n) None
    unfolding state_after
    quiet n run one = (step-on n run.0 one.0 one.1, one.2)

    by-event : (n : ℕ) (e : CacheEvent) (r : Option CacheEvent) → event_in (state_after n s) ≡ Some e → RunBy n r
        → RunBy (suc n) (or_event r (nat_le s.cycle e.cycle && concerns s.cache.shape l byte e) e)
    by-event n e (Some a) h run = (run.0, later n a a.kind (is_of_slot s.cache.shape l a) (holds_byte byte a) run.0 run.1)
    by-event n e None h run =
        let at : e.cycle ≡ s.cycle + n = number n e h in
        let from : nat_le s.cycle e.cycle ≡ true = grind (arith, nat_tests) in
        rw from (go (concerns s.cache.shape l byte e) refl
        (subst (λ o. DataCycleBy (state_after n s) k (told_in s.cache.shape l byte o)) h (one-cycle n run.1)))
      where
        go : (b : Bool) → concerns s.cache.shape l byte e ≡ b
            → DataCycleBy (state_after n s) k (if b then told_by e.kind (holds_byte byte e) e.cycle else Ends)
            → RunBy (suc n) (cond b (Some e) None)
        go true c one = (c, now n e e.kind (is_of_slot s.cache.shape l e) (holds_byte byte e) c (number n e h) run.0 one)
        go false c one = quiet n run one

    by-cycle : (n : ℕ) (o r : Option CacheEvent) → event_in (state_after n s) ≡ o → (es : List CacheEvent)
        → r ≡ first_event (concerns s.cache.shape l byte) s.cycle es → RunBy n r
        → RunBy (suc n) (first_event (concerns s.cache.shape l byte) s.cycle (with_one es o))
    by-cycle n None r h es e run = rw (sym e) (none n r h run)
      where
        none : (n : ℕ) (r : Option CacheEvent) → event_in (state_after n s) ≡ None → RunBy n r → RunBy (suc n) r
        none n None h run = quiet n run (subst (λ o. DataCycleBy (state_after n s) k (told_in s.cache.shape l byte o)) h (one-cycle n run.1))
        none n (Some a) h run = (run.0, later n a a.kind (is_of_slot s.cache.shape l a) (holds_byte byte a) run.0 run.1)
    by-cycle n (Some a) r h es e run =
        rw (first-push (concerns s.cache.shape l byte) s.cycle es a, sym e) (by-event n a r h run)

    all : (n : ℕ) → RunBy n (first_event (concerns s.cache.shape l byte) s.cycle (events_after n s))
    unfolding state_after events_after first_event
    all zero = (record { same = λ i h. absurd (omega arith); state = refl }, clean)
    all (suc n) =
        by-cycle n (event_in (state_after n s)) (first_event (concerns s.cache.shape l byte) s.cycle (events_after n s)) refl (events_after n s) refl (all n)

    told : (n : ℕ) (o : Option CacheEvent) → RunBy n o → DataRunBy n s k (option_map_or (λ e. told_by e.kind (holds_byte byte e) e.cycle) o Ends)
    told n None run = run
    told n (Some e) run = run.1

    pub data-run : (n : ℕ) → DataRun n s k
    unfolding next_of
    data-run n = told n (first_event (concerns s.cache.shape l byte) s.cycle (events_after n s)) (all n)
