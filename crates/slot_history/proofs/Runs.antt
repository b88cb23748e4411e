-- The events of the cycles below t are those of a longer run with a cycle below t.
use Rattle.std.proofs.Common.{◌≡◌, ℕ, suc, ◌+◌, ◌-◌, ◌<◌, ◌≤◌, true, false, ltb, List, [], ◌∷◌, ◌++◌, refl, sym, ◌∙◌, ap, arith, subst}
use Rattle.std.specs.Prelude.{filter}
use Rattle.std.specs.List.{All}
use Rattle.std.proofs.lemmas.Bool.Decides.{nat_tests}
use Rattle.std.proofs.lemmas.List.{append-nil}
use Rattle.std.proofs.lemmas.List.Elements.{filter-append}
use Rattle.bit_field.specs.Shapes.{IsShape}
use Rattle.bit_field.specs.declared.shapes.Shape.{Shape}
use Rattle.elf_load.specs.Image.{LoadedImage, IsImage}
use Rattle.wb_cache.specs.declared.event.CacheEvent.{CacheEvent}
use Rattle.cyc_machine.specs.EventsLaw.{IsHeld, held_behind}
use Rattle.cyc_machine.specs.EventsLaw.Held.{Vacant}
use Rattle.cyc_machine.specs.Run.{events_after, events_below, state_after, state_at}
use Rattle.cyc_machine.specs.Sizes.{IsSteady}
use Rattle.cyc_machine.specs.State.{reset}
use Rattle.cyc_machine.proofs.Events.{events-law}
use Rattle.cyc_machine.proofs.HeldSlots.{held-law}
use Rattle.cyc_machine.proofs.RunsOn.{runs-law}
use Rattle.cyc_machine.proofs.Sizes.Lasting.{steady-after, steady-reset}
use Rattle.slot_history.specs.HeldBefore.{HeldBeforeLaw, held_before}

filter-early : (t : ℕ) (es : List CacheEvent) → All (λ e. e.cycle < t) es → filter (λ e. ltb e.cycle t) es ≡ es
filter-early t [] early = refl
filter-early t (e ∷ es) early =
    let b : e.cycle < t = early 0 e (omega arith) in
    let f : ltb e.cycle t ≡ true = grind (arith, nat_tests) in
    rw f (ap (λ (xs : List CacheEvent). e ∷ xs) (filter-early t es (λ k d l. early (suc k) d (omega arith))))

filter-late : (t : ℕ) (es : List CacheEvent) → All (λ e. t ≤ e.cycle) es → filter (λ e. ltb e.cycle t) es ≡ []
filter-late t [] late = refl
filter-late t (e ∷ es) late =
    let b : t ≤ e.cycle = late 0 e (omega arith) in
    let f : ltb e.cycle t ≡ false = grind (arith, nat_tests) in
    rw f (filter-late t es (λ k d l. late (suc k) d (omega arith)))

module _ (image : LoadedImage) (shape : Shape) (is : IsImage image) (fits : IsShape shape) (n t : ℕ) (within : t ≤ n) where
  steady : IsSteady (state_at image shape t)
  steady = steady-after t (reset image shape) (steady-reset image shape is fits)

  first : (reset image shape).cycle ≡ 0
  unfolding state_after
  first = runs-law.cycle_at image shape 0

  early : All (λ (e : CacheEvent). e.cycle < t) (events_below image shape t)
  early k d l = let b = (events-law t (reset image shape) (steady-reset image shape is fits)).below k d l in omega (arith, b, first)

  late : All (λ (e : CacheEvent). t ≤ e.cycle) (events_after (n - t) (state_at image shape t))
  late k d l = let b = (events-law (n - t) (state_at image shape t) steady).from k d l in omega (arith, b, runs-law.cycle_at image shape t)

  split : events_below image shape n ≡ events_below image shape t ++ events_after (n - t) (state_at image shape t)
  split =
      let e : n ≡ n - t + t = omega arith in
      ap (λ (m : ℕ). events_below image shape m) e ∙ runs-law.events (n - t) t (reset image shape)

  pub events-before : filter (λ e. ltb e.cycle t) (events_below image shape n) ≡ events_below image shape t
  events-before =
      ap (λ (es : List CacheEvent). filter (λ e. ltb e.cycle t) es) split
      ∙ filter-append (λ (e : CacheEvent). ltb e.cycle t) (events_below image shape t) (events_after (n - t) (state_at image shape t))
      ∙ rw (filter-early t (events_below image shape t) early, filter-late t (events_after (n - t) (state_at image shape t)) late)
      (append-nil (events_below image shape t))

pub held-before-law : HeldBeforeLaw
unfolding held_before
held-before-law image shape n t l is fits within below =
    subst (λ (es : List CacheEvent). IsHeld (state_at image shape t).cache l (held_behind shape l Vacant es))
    (sym (events-before image shape is fits n t within)) (held-law.reset image shape t l is fits below)
