-- Many cycles from a state with a struck tag bit of a clean line, as long as no event is of the two lines that the tag is taken for.
use Rattle.std.proofs.Common.{◌≡◌, ◌≢◌, ◌≤◌, ℕ, zero, suc, ◌+◌, ◌*◌, ◌/◌, ◌%◌, ◌<◌, Bool, true, false, cond, List, [], ◌∷◌, ◌++◌, refl, sym, ◌∙◌, ap}
use Rattle.std.proofs.Common.{arith, subst}
use Rattle.std.specs.Prelude.{Option, Some, None, ◌==◌, ◌&&◌, nat_le}
use Rattle.std.specs.List.{All}
use Rattle.std.specs.Option.{IfSome}
use Rattle.std.proofs.lemmas.Bool.{eq-eqb}
use Rattle.std.proofs.lemmas.Bool.Decides.{nat_tests}
use Rattle.bit_field.specs.Shapes.{slots as slot_count, tag_bits}
use Rattle.bit_field.specs.declared.shapes.Shape.{Shape}
use Rattle.wb_cache.specs.declared.event.CacheEvent.{CacheEvent}
use Rattle.event_log.specs.Events.{first_event}
use Rattle.event_log.specs.Lookups.{distance_one, fills, has_line, is_by, looked_up}
use Rattle.event_log.proofs.Logs.{first-all, first-push, or_event}
use Rattle.cyc_machine.specs.Busy.{WorksForMiss}
use Rattle.cyc_machine.specs.Cycle.{cycle, event_in}
use Rattle.cyc_machine.specs.Run.{events_after, state_after, with_one}
use Rattle.cyc_machine.specs.Sizes.{IsSteady}
use Rattle.cyc_machine.specs.State.{State}
use Rattle.cyc_machine.proofs.Events.{event-law, events-law}
use Rattle.cyc_machine.proofs.RunsOn.{numbered, shape-kept}
use Rattle.cyc_machine.proofs.Sizes.Lasting.{steady-after}
use Rattle.clean_lines.specs.CleanCycle.{IsApart, SameCycle, TagCycleBy, fills_in}
use Rattle.clean_lines.specs.CleanRun.{IsSettled, TagRunBy}
use Rattle.clean_lines.specs.Struck.{IsCleanSlot, near_line, tag_line, tag_slot, tag_struck}
use Rattle.clean_lines.proofs.DataRuns.{same-more, settled-more}
use Rattle.clean_lines.proofs.TagCycles.{tag-cycle}

-- ---- look-ups

-- a look-up before an event is one with it
by-before : (r f : Option CacheEvent) (b c : Bool) (e : CacheEvent) → IfSome r (λ a. a.cycle < e.cycle)
    → is_by (or_event r b e) (or_event f c e) ≡ false → is_by r f ≡ false
by-before None f b c e h off = refl
by-before (Some a) (Some g) b c e h off = off
by-before (Some a) None b true e h off = let f : nat_le a.cycle e.cycle ≡ true = grind (arith, nat_tests) in absurd cc
by-before (Some a) None b false e h off = absurd cc

-- where no fill has come, an event of the line is a look-up
by-now : (r : Option CacheEvent) (b c : Bool) (e : CacheEvent) → is_by r None ≡ false → is_by (or_event r b e) (or_event None c e) ≡ false → b ≡ false
by-now (Some a) b c e h off = absurd cc
by-now None false c e h off = refl
by-now None true true e h off = let f : nat_le e.cycle e.cycle ≡ true = grind (arith, nat_tests) in absurd cc
by-now None true false e h off = absurd cc

looked-before : (shape : Shape) (l line t : ℕ) (es : List CacheEvent) (e : CacheEvent) → All (λ a. a.cycle < e.cycle) es
    → looked_up shape l line t (es ++ e ∷ []) ≡ false → looked_up shape l line t es ≡ false
unfolding looked_up
looked-before shape l line t es e h off =
    by-before (first_event (has_line line) t es) (first_event (fills shape l) t es) (nat_le t e.cycle && has_line line e)
    (nat_le t e.cycle && fills shape l e) e
    (first-all (λ a. a.cycle < e.cycle) (has_line line) t es h)
    (sym (ap (λ r. is_by r (or_event (first_event (fills shape l) t es) (nat_le t e.cycle && fills shape l e) e)) (first-push (has_line line) t es e))
    ∙ sym (ap (λ f. is_by (first_event (has_line line) t (es ++ e ∷ [])) f) (first-push (fills shape l) t es e)) ∙ off)

off-line : (line : ℕ) (a : Bool) (e : CacheEvent) → a ≡ true → (a && has_line line e) ≡ false → e.line ≢ line
off-line line a e from h same = let p : (e.line == line) ≡ true = eq-eqb e.line line same in let q : (a && e.line == line) ≡ true = rw (from, p) refl in cc

looked-now : (shape : Shape) (l line t : ℕ) (es : List CacheEvent) (e : CacheEvent) → t ≤ e.cycle → first_event (fills shape l) t es ≡ None
    → looked_up shape l line t es ≡ false
    → looked_up shape l line t (es ++ e ∷ []) ≡ false → e.line ≢ line
unfolding looked_up
looked-now shape l line t es e from none before off =
    off-line line (nat_le t e.cycle) e (grind (arith, nat_tests))
    (by-now (first_event (has_line line) t es) (nat_le t e.cycle && has_line line e) (nat_le t e.cycle && fills shape l e) e
    (ap (λ f. is_by (first_event (has_line line) t es) f) (sym none) ∙ before)
    (ap (λ f. is_by (or_event (first_event (has_line line) t es) (nat_le t e.cycle && has_line line e) e)
    (or_event f (nat_le t e.cycle && fills shape l e) e)) (sym none)
    ∙ sym (ap (λ r. is_by r (or_event (first_event (fills shape l) t es) (nat_le t e.cycle && fills shape l e) e)) (first-push (has_line line) t es e))
    ∙ sym (ap (λ f. is_by (first_event (has_line line) t (es ++ e ∷ [])) f) (first-push (fills shape l) t es e)) ∙ off))

module _ (s : State) (k : ℕ) (is : IsSteady s) (busy : (n : ℕ) → (state_after n s).port.count ≢ 0 → WorksForMiss (state_after n s))
    (below : k < slot_count s.cache.shape * tag_bits s.cache.shape)
    (clean : IsCleanSlot s.cache (tag_slot s.cache k)) where
  abbrev shape : Shape
  shape = s.cache.shape

  abbrev l : ℕ
  l = tag_slot s.cache k

  abbrev line : ℕ
  line = tag_line s.cache k

  abbrev near : ℕ
  near = near_line s.cache k

  abbrev at : ℕ → State
  at n = state_after n s

  -- the lines of a later state that still holds the line
  near-on : (n : ℕ) → tag_line (at n).cache k ≡ line → near_line (at n).cache k ≡ near
  near-on n h =
      ap (λ (sh : Shape). distance_one sh (tag_line (at n).cache k) (k % tag_bits sh)) (shape-kept n s) ∙ ap (λ m. distance_one shape m (k % tag_bits shape)) h

  apart-on : (n : ℕ) (e : CacheEvent) → tag_line (at n).cache k ≡ line → e.line ≢ line → e.line ≢ near → IsApart (at n) k (Some e)
  apart-on n e h off far = (λ p. off (p ∙ h), λ p. far (p ∙ near-on n h))

  one-cycle : (n : ℕ) (o : Option CacheEvent) → event_in (at n) ≡ o → TagRunBy n s k None → IsApart (at n) k o → TagCycleBy (at n) k (fills_in shape l o)
  one-cycle n o e run apart =
      subst (λ p. TagCycleBy (at n) k (fills_in shape l p)) e
      (subst (λ (sh : Shape). TagCycleBy (at n) k (fills_in sh (k / tag_bits sh) (event_in (at n)))) (shape-kept n s)
      (tag-cycle (at n) k (steady-after n s is) (busy n) (subst (λ (sh : Shape). k < slot_count sh * tag_bits sh) (sym (shape-kept n s)) below)
      (subst (λ (sh : Shape). IsCleanSlot (at n).cache (k / tag_bits sh)) (sym (shape-kept n s)) run.1) (subst (λ p. IsApart (at n) k p) (sym e) apart)))

  -- one cycle more
  on : (n : ℕ) → TagRunBy n s k None → TagCycleBy (at n) k false → TagRunBy (suc n) s k None
  unfolding state_after
  on n run one = (
    record {
      same = same-more n s (tag_struck k s) run.0.same (subst (λ (v : State). SameCycle (at n) v) (sym run.0.state) one.0);
      state = ap cycle run.0.state ∙ one.1;
    },
    subst (λ (sh : Shape). IsCleanSlot (cycle (at n)).cache (k / tag_bits sh)) (shape-kept n s) one.2,
    one.3 ∙ run.2,
  )

  off : (n : ℕ) → TagRunBy n s k None → TagCycleBy (at n) k true → IsSettled (suc n) s (tag_struck k s)
  unfolding state_after
  off n run one = record {
    same = same-more n s (tag_struck k s) run.0.same (subst (λ (v : State). SameCycle (at n) v) (sym run.0.state) one.0);
    state = ap cycle run.0.state ∙ one.1;
  }

  by-fill : (n : ℕ) (e : CacheEvent) (b : Bool) → TagRunBy n s k None → TagCycleBy (at n) k b → TagRunBy (suc n) s k (cond b (Some e) None)
  by-fill n e true run one = off n run one
  by-fill n e false run one = on n run one

  number : (n : ℕ) (e : CacheEvent) → event_in (at n) ≡ Some e → e.cycle ≡ s.cycle + n
  number n e h = ((event-law (at n) (steady-after n s is)).event e h).cycle ∙ numbered n s

  -- what holds after n cycles whose events are apart
  abbrev Holds : ℕ → List CacheEvent → Type 0
  Holds n es = looked_up shape l line s.cycle es ≡ false → looked_up shape l near s.cycle es ≡ false → TagRunBy n s k (first_event (fills shape l) s.cycle es)

  by-event : (n : ℕ) (e : CacheEvent) (es : List CacheEvent) (r : Option CacheEvent) → event_in (at n) ≡ Some e → first_event (fills shape l) s.cycle es ≡ r
      → looked_up shape l line s.cycle es ≡ false → looked_up shape l near s.cycle es ≡ false
      → looked_up shape l line s.cycle (es ++ e ∷ []) ≡ false → looked_up shape l near s.cycle (es ++ e ∷ []) ≡ false
      → TagRunBy n s k r → TagRunBy (suc n) s k (or_event r (nat_le s.cycle e.cycle && fills shape l e) e)
  by-event n e es (Some a) h none p q u v run = settled-more n s (tag_struck k s) run
  by-event n e es None h none p q u v run =
      let number : e.cycle ≡ s.cycle + n = number n e h in
      let from : nat_le s.cycle e.cycle ≡ true = grind (arith, nat_tests) in
      rw from (by-fill n e (fills shape l e) run (one-cycle n (Some e) h run (apart-on n e run.2
      (looked-now shape l line s.cycle es e (omega arith) none p u) (looked-now shape l near s.cycle es e (omega arith) none q v))))

  none-on : (n : ℕ) (r : Option CacheEvent) → event_in (at n) ≡ None → TagRunBy n s k r → TagRunBy (suc n) s k r
  none-on n None h run = on n run (one-cycle n None h run tt)
  none-on n (Some a) h run = settled-more n s (tag_struck k s) run

  by-cycle : (n : ℕ) (o : Option CacheEvent) (es : List CacheEvent) → event_in (at n) ≡ o → All (λ a. a.cycle < s.cycle + n) es → Holds n es
      → Holds (suc n) (with_one es o)
  by-cycle n None es h before holds p q = none-on n (first_event (fills shape l) s.cycle es) h (holds p q)
  by-cycle n (Some e) es h before holds u v =
      let number : e.cycle ≡ s.cycle + n = number n e h in
      let earlier : All (λ a. a.cycle < e.cycle) es = λ i d m. let b = before i d m in omega (arith, b) in
      let p = looked-before shape l line s.cycle es e earlier u in
      let q = looked-before shape l near s.cycle es e earlier v in
      rw (first-push (fills shape l) s.cycle es e) (by-event n e es (first_event (fills shape l) s.cycle es) h refl p q u v (holds p q))

  start : TagRunBy 0 s k None
  unfolding state_after
  start = (record { same = λ i h. absurd (omega arith); state = refl }, clean, refl)

  pub tag-run : (n : ℕ) → Holds n (events_after n s)
  unfolding state_after events_after first_event
  tag-run zero = λ p q. start
  tag-run (suc n) = by-cycle n (event_in (at n)) (events_after n s) refl (events-law n s is).below (tag-run n)
