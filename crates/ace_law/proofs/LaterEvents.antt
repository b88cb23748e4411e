-- The recorded events from a cycle on are those of the run from its state.
use Rattle.std.proofs.Common.{◌≡◌, ◌+◌, ◌-◌, ◌<◌, ℕ, suc, Bool, false, List, [], ◌∷◌, ◌++◌, refl, ap, ◌∙◌, arith}
use Rattle.std.specs.Prelude.{nat_le}
use Rattle.std.specs.List.{All}
use Rattle.std.proofs.lemmas.Bool.Decides.{nat_tests}
use Rattle.wb_cache.specs.declared.event.CacheEvent.{CacheEvent}
use Rattle.event_log.specs.Events.{first_event}
use Rattle.event_log.specs.Lookups.{fills, has_line, looked_up}
use Rattle.event_log.specs.Nexts.{concerns, next_of}
use Rattle.cyc_machine.specs.Run.{events_after, events_below}
use Rattle.cyc_machine.specs.State.{reset}
use Rattle.cyc_machine.proofs.Events.{events-law}
use Rattle.cyc_machine.proofs.RunsOn.{events-on}
use Rattle.cyc_machine.proofs.Sizes.Lasting.{steady-reset}
use Rattle.need_pass.specs.Tables.{Needs}
use Rattle.ace_law.specs.Moments.{IsTold, Moment, state}

-- events before cycle t are passed over
first-after : (test : CacheEvent → Bool) (t : ℕ) (before events : List CacheEvent) → All (λ e. e.cycle < t) before
    → first_event test t (before ++ events) ≡ first_event test t events
unfolding first_event
first-after test t [] events early = refl
first-after test t (e ∷ before) events early =
    let off : nat_le t e.cycle ≡ false = (let h = early 0 e (omega arith) in grind (arith, nat_tests)) in
    rw off (first-after test t before events (λ i d l. early (suc i) d (omega arith)))

-- how many cycles are left
abbrev pub left : Moment → ℕ
left a = a.r.cycles - a.t

module _ (a : Moment) (table : Needs) (told : IsTold a.r a.run table) (below : a.t < a.r.cycles) where
  early : All (λ e. e.cycle < a.t) (events_below a.r.image a.r.shape a.t)
  unfolding reset
  early i e l =
      let h = (events-law a.t (reset a.r.image a.r.shape) (steady-reset a.r.image a.r.shape told.image told.recorded.fits)).below i e l in
      omega (arith, h)

  events-split : a.r.events ≡ events_below a.r.image a.r.shape a.t ++ events_after (left a) (state a)
  events-split =
      let whole : a.r.cycles ≡ left a + a.t = omega (arith, below) in
      told.recorded.events
      ∙ ap (λ (n : ℕ). events_below a.r.image a.r.shape n) whole
      ∙ events-on (left a) a.t (reset a.r.image a.r.shape)

  first-later : (test : CacheEvent → Bool) → first_event test a.t a.r.events ≡ first_event test a.t (events_after (left a) (state a))
  first-later test =
      ap (first_event test a.t) events-split
      ∙ first-after test a.t (events_below a.r.image a.r.shape a.t) (events_after (left a) (state a)) early

  pub next-later : (l byte : ℕ) → next_of a.r.shape l byte a.t a.r.events ≡ next_of a.r.shape l byte a.t (events_after (left a) (state a))
  unfolding next_of
  next-later l byte = rw (first-later (concerns a.r.shape l byte)) refl

  pub looked-later : (l line : ℕ) → looked_up a.r.shape l line a.t a.r.events ≡ looked_up a.r.shape l line a.t (events_after (left a) (state a))
  unfolding looked_up
  looked-later l line = rw (first-later (has_line line), first-later (fills a.r.shape l)) refl
