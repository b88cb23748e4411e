-- A log that is read event after event.
use Rattle.std.proofs.Common.{◌≡◌, ℕ, ◌+◌, ◌-◌, ◌<◌, ◌≤◌, List, length, get_or, refl, sym, ◌∙◌, ap, arith, inl, inr}
use Rattle.std.proofs.lemmas.Bool.{cases_lt}
use Rattle.std.proofs.lemmas.List.{get_or_default}
use Rattle.bit_field.specs.declared.shapes.Shape.{Shape}
use Rattle.wb_cache.specs.declared.event.CacheEvent.{CacheEvent}
use Rattle.event_log.specs.Events.{IsEventLog}

-- The first n events are in order and in range, and `least` is the cycle after that of the last of them, 0 where there is none.
pub record IsLogSoFar (shape : Shape) (events : List CacheEvent) (n least : ℕ) : Type 0 where
  pub within : n ≤ length events
  pub none : n ≡ 0 → least ≡ 0
  pub last : (d : CacheEvent) → 0 < n → least ≡ (get_or events (n - 1) d).cycle + 1
  pub below : (k : ℕ) (d : CacheEvent) → k < n → (get_or events k d).cycle < least
  pub rising : (i j : ℕ) (d : CacheEvent) → i < j → j < n → (get_or events i d).cycle < (get_or events j d).cycle
  pub sets : (k : ℕ) (d : CacheEvent) → k < n → (get_or events k d).set < shape.sets
  pub ways : (k : ℕ) (d : CacheEvent) → k < n → (get_or events k d).way < shape.ways

pub so_far-none : (shape : Shape) (events : List CacheEvent) → IsLogSoFar shape events 0 0
so_far-none shape events = record {
  within = omega arith;
  none = λ e. omega arith;
  last = λ d l. absurd (omega arith);
  below = λ k d l. absurd (omega arith);
  rising = λ i j d l m. absurd (omega arith);
  sets = λ k d l. absurd (omega arith);
  ways = λ k d l. absurd (omega arith);
}

-- what holds of each of the first n, and of the next one
next-too : (P : ℕ → Type 0) (n : ℕ) → ((k : ℕ) → k < n → P k) → P n → (k : ℕ) → k < n + 1 → P k
next-too P n before here k l =
    elim (cases_lt k n) [
      | inl m ↦ before k m
      | inr m ↦ let e : k ≡ n = omega arith in rw e here
    ]

pub so_far-more : (shape : Shape) (events : List CacheEvent) (n least : ℕ) (e : CacheEvent) → n < length events → e ≡ get_or events n e → least ≤ e.cycle →
    e.set < shape.sets → e.way < shape.ways → IsLogSoFar shape events n least → IsLogSoFar shape events (n + 1) (e.cycle + 1)
so_far-more shape events n least e l at order set way so_far =
    let here : (d : CacheEvent) → get_or events n d ≡ e = λ d. get_or_default events n d e l ∙ sym at in
    record {
      within = omega arith;
      none = λ z. absurd (omega arith);
      last = λ d p. let k : n + 1 - 1 ≡ n = omega arith in rw (k, here d) refl;
      below = λ k d m. next-too (λ k. (get_or events k d).cycle < e.cycle + 1) n (λ k m. let b = so_far.below k d m in omega (arith, b))
          (rw (here d) (omega arith)) k m;
      rising = λ i j d m o. next-too (λ j. i < j → (get_or events i d).cycle < (get_or events j d).cycle) n (λ j o m. so_far.rising i j d m o)
          (λ m. rw (here d) (let b = so_far.below i d m in omega (arith, b))) j o m;
      sets = λ k d m. next-too (λ k. (get_or events k d).set < shape.sets) n (λ k m. so_far.sets k d m) (rw (here d) set) k m;
      ways = λ k d m. next-too (λ k. (get_or events k d).way < shape.ways) n (λ k m. so_far.ways k d m) (rw (here d) way) k m;
    }

pub so_far-all : (shape : Shape) (events : List CacheEvent) (n least : ℕ) → length events ≤ n → IsLogSoFar shape events n least → IsEventLog shape events
so_far-all shape events n least l so_far = record {
  rising = λ i j d m o. so_far.rising i j d m (omega arith);
  sets = λ k d m. so_far.sets k d (omega arith);
  ways = λ k d m. so_far.ways k d (omega arith);
}

-- where the next event comes too early, the events are no log
pub early : (shape : Shape) (events : List CacheEvent) (n least : ℕ) (e : CacheEvent) → n < length events → e ≡ get_or events n e → e.cycle < least →
    IsLogSoFar shape events n least → IsEventLog shape events → ⊥
early shape events n least e l at order so_far log =
    elim (cases_lt 0 n) [
      | inl p ↦
          let a : least ≡ (get_or events (n - 1) e).cycle + 1 = so_far.last e p in
          let b : (get_or events (n - 1) e).cycle < (get_or events n e).cycle = log.rising (n - 1) n e (omega arith) l in
          let c : e.cycle ≡ (get_or events n e).cycle = ap (λ (d : CacheEvent). d.cycle) at in
          omega arith
      | inr p ↦ let z : least ≡ 0 = so_far.none (omega arith) in omega arith
    ]
