-- Clean data by its next event, and clean tags that no look-up can confuse, are harmless.
use Rattle.std.proofs.Common.{◌≡◌, ◌≢◌, ◌+◌, ◌-◌, ◌/◌, ◌%◌, ◌≤◌, ◌<◌, ◌⊎◌, ℕ, suc, Bool, true, false, List, ◌++◌, refl, sym, ap, ◌∙◌, inl, inr, subst, arith}
use Rattle.std.specs.Prelude.{Option, Some, None}
use Rattle.std.specs.Option.{IfSome, option_map_or}
use Rattle.std.proofs.lemmas.Bool.{cases_eq}
use Rattle.bit_field.specs.Shapes.{IsPlaceIn}
use Rattle.bit_field.specs.declared.shapes.Shape.{Shape}
use Rattle.bit_field.specs.declared.places.Structure.{Structure}
use Rattle.bit_field.specs.declared.places.Structure.TheVariants.{CData, CTag}
use Rattle.wb_cache.specs.declared.event.CacheEvent.{CacheEvent}
use Rattle.wb_cache.specs.declared.event.EventKind.{EventKind}
use Rattle.wb_cache.specs.declared.event.EventKind.TheVariants.{Read, Write, Miss, Fill}
use Rattle.event_log.specs.Events.{first_event, holds_byte}
use Rattle.event_log.specs.Lookups.{fills, looked_up}
use Rattle.event_log.specs.Nexts.{concerns, next_of, told_by}
use Rattle.event_log.specs.declared.next.Next.{Next}
use Rattle.event_log.specs.declared.next.Next.TheVariants.{Read as IsRead, Overwritten, Beside, Evicted, Ends}
use Rattle.event_log.proofs.Logs.{first-all}
use Rattle.cyc_machine.specs.Busy.{WorksForMiss}
use Rattle.cyc_machine.specs.Run.{EndsIn, RunsFor, events_after, output_after, output_below, state_after}
use Rattle.cyc_machine.specs.State.{State, reset}
use Rattle.cyc_machine.specs.Strikes.{flip_in}
use Rattle.cyc_machine.proofs.Events.{events-law}
use Rattle.cyc_machine.proofs.RunsOn.{ended-on, output-on, state-on}
use Rattle.cyc_machine.proofs.Sizes.Lasting.{machine-steady}
use Rattle.clean_lines.specs.CleanRun.{DataRunBy, IsInStep, SameCycles, TagRunBy}
use Rattle.clean_lines.specs.Struck.{IsCleanSlot, data_struck, near_line, tag_line, tag_slot, tag_struck}
use Rattle.clean_lines.proofs.Law.{clean-law}
use Rattle.need_pass.specs.Tables.{Needs}
use Rattle.flush_view.specs.RunFacts.{no_line}
use Rattle.flush_view.proofs.Run.BusyPort.{busy-at}
use Rattle.run_record.specs.Verdict.{HasSame}
use Rattle.ace_law.specs.MemoryRules.{IsDeadDataBit, IsUnconfusedTagBit, IsUnread, IsUnreadDataBit}
use Rattle.ace_law.specs.Moments.{IsQuiet, IsTold, Moment, moved, state}
use Rattle.ace_law.proofs.DataRules.{dead-data-is}
use Rattle.ace_law.proofs.LaterEvents.{left, looked-later, next-later}
use Rattle.ace_law.proofs.RecordedStates.{bit-in, flip-machine}
use Rattle.ace_law.proofs.Spared.{IsSpared}
use Rattle.ace_law.proofs.EndsSame.{ends-same}
use Rattle.ace_law.proofs.LaterSpared.{later-spared}
use Rattle.ace_law.proofs.Told.{state-cycle, state-shape, state-steady}

-- ---- runs that are seen alike to the end

module _ (a : Moment) (table : Needs) (told : IsTold a.r a.run table) (below : a.t < a.r.cycles) where
  -- how many cycles come before the last
  abbrev before_last : ℕ
  before_last = told.recorded.last - a.t

  cycles-is : a.r.cycles ≡ suc (a.t + before_last)
  cycles-is = let last = told.recorded.cycles in omega (arith, last, below)

  left-is : left a ≡ suc before_last
  left-is = let last = told.recorded.cycles in omega (arith, last, below)

  recorded-ends : EndsIn (state a) before_last a.r.end
  recorded-ends =
      let last : told.recorded.last ≡ before_last + a.t = (let last = told.recorded.cycles in omega (arith, last, below)) in
      ended-on before_last a.t (reset a.r.image a.r.shape) a.r.end
      (subst (λ (n : ℕ). EndsIn (reset a.r.image a.r.shape) n a.r.end) last (record { running = told.recorded.running; ends = told.recorded.ends }))

  recorded-output : output_below a.r.image a.r.shape a.t ++ output_after (suc before_last) (state a) ≡ a.r.output
  recorded-output =
      let whole : suc before_last + a.t ≡ a.r.cycles = omega (arith, cycles-is) in
      sym (output-on (suc before_last) a.t (reset a.r.image a.r.shape))
      ∙ ap (output_below a.r.image a.r.shape) whole ∙ sym told.recorded.output

  alike-same : (u : State) → SameCycles (left a) (state a) u → HasSame a.r a.t u
  alike-same u same =
      let here : SameCycles (suc before_last) (state a) u = subst (λ (n : ℕ). SameCycles n (state a) u) left-is same in
      ends-same a table before_last u told cycles-is (clean-law.ends before_last (state a) u a.r.end here recorded-ends)
      (ap (λ (bytes : List ℕ). output_below a.r.image a.r.shape a.t ++ bytes) (clean-law.alike (suc before_last) (state a) u here).output ∙ recorded-output)

-- ---- the next event

-- a write beside a byte comes in a cycle from t on, and in one of the run
beside-cycle : (o : Option CacheEvent) (byte t n c : ℕ) → IfSome o (λ e. (t ≤ e.cycle) × (e.cycle < t + n))
    → option_map_or (λ e. told_by e.kind (holds_byte byte e) e.cycle) o Ends ≡ Beside c → (t ≤ c) × (c < t + n)
beside-cycle None byte t n c h is = absurd cc
beside-cycle (Some e) byte t n c h is = go e.kind (holds_byte byte e) is
  where
    go : (kind : EventKind) (held : Bool) → told_by kind held e.cycle ≡ Beside c → (t ≤ c) × (c < t + n)
    go Read held is = absurd cc
    go Write true is = absurd cc
    go Write false is = let same : e.cycle ≡ c = cc in subst (λ (m : ℕ). (t ≤ m) × (m < t + n)) same h
    go Fill held is = absurd cc
    go Miss held is = absurd cc

module _ (a : Moment) (table : Needs) (k : ℕ) (told : IsTold a.r a.run table) (below : a.t < a.r.cycles)
    (place : IsPlaceIn a.r.shape (record { structure = CData; bit = k })) (clean : IsCleanSlot (state a).cache (k / 128)) where
  abbrev struck : State
  struck = data_struck k (state a)

  abbrev next : Next
  next = next_of a.r.shape (k / 128) (k % 128 / 8) a.t a.r.events

  -- the run of the struck state, by what comes next
  run : DataRunBy (left a) (state a) k next
  run =
      subst (DataRunBy (left a) (state a) k)
      (ap (λ (shape : Shape). next_of shape (k / 128) (k % 128 / 8) (state a).cycle (events_after (left a) (state a))) (state-shape a table told)
      ∙ ap (λ (t : ℕ). next_of a.r.shape (k / 128) (k % 128 / 8) t (events_after (left a) (state a))) (state-cycle a table told)
      ∙ sym (next-later a table told below (k / 128) (k % 128 / 8)))
      (clean-law.data_run (left a) (state a) k (state-steady a table told below) (bit-in a table told CData k place) clean)

  within : (c : ℕ) → next ≡ Beside c → (a.t ≤ c) × (c < a.r.cycles)
  unfolding next_of
  within c is =
      let steps = events-law (left a) (state a) (state-steady a table told below) in
      let number = state-cycle a table told in
      let h = beside-cycle (first_event (concerns a.r.shape (k / 128) (k % 128 / 8)) a.t (events_after (left a) (state a))) (k % 128 / 8) a.t (left a) c
      (first-all (λ e. (a.t ≤ e.cycle) × (e.cycle < a.t + left a)) (concerns a.r.shape (k / 128) (k % 128 / 8)) a.t (events_after (left a) (state a))
      (λ i e l. let from = steps.from i e l in let to = steps.below i e l in (omega (arith, from, number), omega (arith, to, number))))
      (sym (next-later a table told below (k / 128) (k % 128 / 8)) ∙ is) in
      let low = h.0 in
      let high = h.1 in
      (low, omega (arith, high, below))

  -- after a write beside, the bit is dead
  beside-same : (c : ℕ) → a.t ≤ c → suc c < a.r.cycles → IsInStep (suc c - (state a).cycle) (state a) (data_struck k)
      → IsQuiet (moved a (suc c)) → IsDeadDataBit (moved a (suc c)) CData k → HasSame a.r a.t struck
  beside-same c from to step quiet dead =
      let n : ℕ = suc c - a.t in
      let at : suc c ≡ a.t + n = omega (arith, from) in
      let number = state-cycle a table told in
      let count : suc c - (state a).cycle ≡ n = ap (λ (t : ℕ). suc c - t) number in
      let here : IsInStep n (state a) (data_struck k) = subst (λ (m : ℕ). IsInStep m (state a) (data_struck k)) count step in
      let alike = clean-law.alike n (state a) struck here.same in
      let there : state_after n struck ≡ flip_in CData (state (moved a (suc c))) k =
      here.state ∙ ap (λ (s : State). flip_in CData s k) (state-on n a.t (suc c) (reset a.r.image a.r.shape) (omega (arith, from))) in
      let spared : IsSpared (moved a (suc c)) no_line (state_after n struck) =
      subst (IsSpared (moved a (suc c)) no_line) (sym there) (dead-data-is (moved a (suc c)) table k told to quiet place dead) in
      later-spared a table n struck told (omega (arith, at, to)) (subst (λ (t : ℕ). IsQuiet (moved a t)) at quiet)
      (machine-steady struck (flip-machine a table told CData k below place))
      (alike.running (running n (omega (arith, at, to)))) alike.log (subst (λ (t : ℕ). IsSpared (moved a t) no_line (state_after n struck)) at spared)
    where
      running : (n : ℕ) → a.t + n < a.r.cycles → RunsFor n (state a)
      running n h i l = let last = cycles-is a table told below in (recorded-ends a table told below).running i (omega (arith, h, l, last))

  beside-by : (c : ℕ) → next ≡ Beside c → DataRunBy (left a) (state a) k (Beside c) → IsUnread a k (Beside c) → HasSame a.r a.t struck
  beside-by c is step unread = go (cases_eq (suc c) a.r.cycles) unread
    where
      go : (suc c ≡ a.r.cycles) ⊎ (suc c ≢ a.r.cycles) → IsUnread a k (Beside c) → HasSame a.r a.t struck
      go (inl last) unread =
          let number = state-cycle a table told in
          let count : suc c - (state a).cycle ≡ left a = omega (arith, number, last) in
          alike-same a table told below struck (subst (λ (m : ℕ). SameCycles m (state a) struck) count step.0.same)
      go (inr goes) (inl last) = absurd (goes last)
      go (inr goes) (inr dead) =
          let low = (within c is).0 in
          let high = (within c is).1 in
          let on : suc c < a.r.cycles = omega (arith, high, goes) in
          beside-same c low on step.0 dead.0 dead.1

  data-by : (n : Next) → next ≡ n → DataRunBy (left a) (state a) k n → IsUnread a k n → HasSame a.r a.t struck
  data-by (IsRead c) is step unread = absurd unread
  data-by (Overwritten c) is step unread = alike-same a table told below struck step.same
  data-by (Beside c) is step unread = beside-by c is step unread
  data-by (Evicted c) is step unread = alike-same a table told below struck step.same
  data-by Ends is step unread = alike-same a table told below struck step.0.same

  pub clean-data-same : IsUnread a k next → HasSame a.r a.t struck
  clean-data-same unread = data-by next refl run unread

-- ---- tags

module _ (a : Moment) (table : Needs) (k : ℕ) (told : IsTold a.r a.run table) (below : a.t < a.r.cycles)
    (place : IsPlaceIn a.r.shape (record { structure = CTag; bit = k })) (is : IsUnconfusedTagBit a CTag k) where
  abbrev l : ℕ
  l = tag_slot (state a).cache k

  busy : (i : ℕ) → (state_after i (state a)).port.count ≢ 0 → WorksForMiss (state_after i (state a))
  busy i = subst (λ (s : State). s.port.count ≢ 0 → WorksForMiss s) (sym (state-on i a.t (i + a.t) (reset a.r.image a.r.shape) refl))
      (busy-at a.r.image a.r.shape (i + a.t))

  unseen : (line : ℕ) → looked_up a.r.shape l line a.t a.r.events ≡ false
      → looked_up (state a).cache.shape l line (state a).cycle (events_after (left a) (state a)) ≡ false
  unseen line h =
      ap (λ (shape : Shape). looked_up shape l line (state a).cycle (events_after (left a) (state a))) (state-shape a table told)
      ∙ ap (λ (t : ℕ). looked_up a.r.shape l line t (events_after (left a) (state a))) (state-cycle a table told)
      ∙ sym (looked-later a table told below l line) ∙ h

  tag-by : (o : Option CacheEvent) → TagRunBy (left a) (state a) k o → SameCycles (left a) (state a) (tag_struck k (state a))
  tag-by (Some e) run = run.same
  tag-by None run = run.0.same

  pub clean-tag-by : HasSame a.r a.t (tag_struck k (state a))
  clean-tag-by =
      alike-same a table told below (tag_struck k (state a))
      (tag-by (first_event (fills (state a).cache.shape l) (state a).cycle (events_after (left a) (state a)))
      (clean-law.tag_run (left a) (state a) k (state-steady a table told below) busy (bit-in a table told CTag k place) is.0
      (unseen (tag_line (state a).cache k) is.1) (unseen (near_line (state a).cache k) is.2)))

-- ---- the rules

pub unread-data-same : (a : Moment) (table : Needs) (s : Structure) (k : ℕ) → IsTold a.r a.run table → a.t < a.r.cycles
    → IsPlaceIn a.r.shape (record { structure = s; bit = k }) → IsUnreadDataBit a s k → HasSame a.r a.t (flip_in s (state a) k)
unread-data-same a table CData k told below place is = clean-data-same a table k told below place is.0 is.1
unread-data-same a table _ k told below place is = absurd is

pub unconfused-tag-same : (a : Moment) (table : Needs) (s : Structure) (k : ℕ) → IsTold a.r a.run table → a.t < a.r.cycles
    → IsPlaceIn a.r.shape (record { structure = s; bit = k }) → IsUnconfusedTagBit a s k → HasSame a.r a.t (flip_in s (state a) k)
unconfused-tag-same a table CTag k told below place is = clean-tag-by a table k told below place is
unconfused-tag-same a table _ k told below place is = absurd is
