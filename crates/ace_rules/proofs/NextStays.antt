-- What next concerns a byte is the same up to the cycle in which it does.
use Rattle.std.proofs.Common.{◌≡◌, ◌≤◌, ◌<◌, ◌&&◌, ℕ, Bool, true, false, List, [], ◌∷◌, Option, Some, None, find, nat_le, arith, refl, sym, ap}
use Rattle.std.proofs.Common.{◌∙◌, if◌then◌else◌}
use Rattle.std.specs.Option.{option_map_or}
use Rattle.std.proofs.lemmas.Bool.Decides.{nat_tests}
use Rattle.bit_field.specs.declared.shapes.Shape.{Shape}
use Rattle.wb_cache.specs.declared.event.CacheEvent.{CacheEvent}
use Rattle.wb_cache.specs.declared.event.EventKind.{EventKind}
use Rattle.wb_cache.specs.declared.event.EventKind.TheVariants.{Read, Write, Miss, Fill}
use Rattle.event_log.specs.Events.{first_event, holds_byte, is_of_slot}
use Rattle.event_log.specs.Nexts.{concerns, concerns_by, next_of, told_by}
use Rattle.event_log.specs.declared.next.Next.{Next}
use Rattle.event_log.specs.declared.next.Next.TheVariants.{Ends}
use Rattle.ace_rules.specs.Stays.{after}

abbrev from : (CacheEvent → Bool) → ℕ → CacheEvent → Bool
from test t e = nat_le t e.cycle && test e

-- ---- the first event from a cycle on

some-stays : (test : CacheEvent → Bool) (t u : ℕ) → t ≤ u → (events : List CacheEvent) (e : CacheEvent) → find (from test t) events ≡ Some e
    → u ≤ e.cycle → find (from test u) events ≡ Some e
some-stays test t u l [] e h k = absurd cc
some-stays test t u l (x ∷ xs) e h k = go (λ h. some-stays test t u l xs e h k) (nat_le t x.cycle) refl (nat_le u x.cycle) refl (test x) h
  where
    go : (find (from test t) xs ≡ Some e → find (from test u) xs ≡ Some e) → (a : Bool) → nat_le t x.cycle ≡ a → (b : Bool) → nat_le u x.cycle ≡ b
        → (c : Bool) → (if a && c then Some x else find (from test t) xs) ≡ Some e → (if b && c then Some x else find (from test u) xs) ≡ Some e
    go rest true p true q true h = h
    go rest true p true q false h = rest h
    go rest true p false q true h =
        let same : x ≡ e = cc in
        let late : x.cycle ≡ e.cycle = ap (λ (e : CacheEvent). e.cycle) same in
        let early : x.cycle < u = grind (arith, nat_tests) in
        absurd (omega (arith, late, early, k))
    go rest true p false q false h = rest h
    go rest false p true q c h =
        let early : x.cycle < t = grind (arith, nat_tests) in
        let late : u ≤ x.cycle = grind (arith, nat_tests) in
        absurd (omega (arith, late, early, l))
    go rest false p false q c h = rest h

none-stays : (test : CacheEvent → Bool) (t u : ℕ) → t ≤ u → (events : List CacheEvent) → find (from test t) events ≡ None
    → find (from test u) events ≡ None
none-stays test t u l [] h = refl
none-stays test t u l (x ∷ xs) h = go (none-stays test t u l xs) (nat_le t x.cycle) refl (nat_le u x.cycle) refl (test x) h
  where
    go : (find (from test t) xs ≡ None → find (from test u) xs ≡ None) → (a : Bool) → nat_le t x.cycle ≡ a → (b : Bool) → nat_le u x.cycle ≡ b
        → (c : Bool) → (if a && c then Some x else find (from test t) xs) ≡ None → (if b && c then Some x else find (from test u) xs) ≡ None
    go rest true p b q true h = absurd cc
    go rest true p true q false h = rest h
    go rest true p false q false h = rest h
    go rest false p true q c h =
        let early : x.cycle < t = grind (arith, nat_tests) in
        let late : u ≤ x.cycle = grind (arith, nat_tests) in
        absurd (omega (arith, late, early, l))
    go rest false p false q c h = rest h

-- what is found passes the test
passes : (test : CacheEvent → Bool) (t : ℕ) (events : List CacheEvent) (e : CacheEvent) → find (from test t) events ≡ Some e → test e ≡ true
passes test t [] e h = absurd cc
passes test t (x ∷ xs) e h = go (passes test t xs e) (nat_le t x.cycle) (test x) refl h
  where
    go : (find (from test t) xs ≡ Some e → test e ≡ true) → (a c : Bool) → test x ≡ c
        → (if a && c then Some x else find (from test t) xs) ≡ Some e → test e ≡ true
    go rest true true q h = let same : x ≡ e = cc in ap test (sym same) ∙ q
    go rest true false q h = rest h
    go rest false c q h = rest h

-- ---- what it does to the byte

-- a look-up that misses concerns no byte
after-told : (mine : Bool) (kind : EventKind) (held : Bool) (c u : ℕ) → (mine && concerns_by kind held) ≡ true → u < after (told_by kind held c)
    → u ≤ c
unfolding after
after-told true Read held c u h l = omega (arith, l)
after-told true Write true c u h l = omega (arith, l)
after-told true Write false c u h l = omega (arith, l)
after-told true Fill held c u h l = omega (arith, l)
after-told true Miss held c u h l = absurd cc
after-told false kind held c u h l = absurd cc

abbrev what : ℕ → Option CacheEvent → Next
what byte found = option_map_or (λ e. told_by e.kind (holds_byte byte e) e.cycle) found Ends

pub next-stays : (shape : Shape) (l byte t u : ℕ) (events : List CacheEvent) → t ≤ u → u < after (next_of shape l byte t events)
    → next_of shape l byte u events ≡ next_of shape l byte t events
unfolding next_of first_event
next-stays shape l byte t u events le below = go (find (from (concerns shape l byte) t) events) refl below
  where
    go : (found : Option CacheEvent) → find (from (concerns shape l byte) t) events ≡ found → u < after (what byte found)
        → what byte (find (from (concerns shape l byte) u) events) ≡ what byte (find (from (concerns shape l byte) t) events)
    go None h b = ap (what byte) (none-stays (concerns shape l byte) t u le events h ∙ sym h)
    go (Some e) h b =
        let early : u ≤ e.cycle =
        after-told (is_of_slot shape l e) e.kind (holds_byte byte e) e.cycle u (passes (concerns shape l byte) t events e h) b in
        ap (what byte) (some-stays (concerns shape l byte) t u le events e h early ∙ sym h)
