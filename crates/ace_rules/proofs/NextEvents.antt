-- A write beside a byte comes in a cycle of the run.
use Rattle.std.proofs.Common.{◌≡◌, ◌<◌, ◌&&◌, suc, ℕ, Bool, true, false, All, List, [], ◌∷◌, Option, Some, None, find, nat_le, arith, refl, subst}
use Rattle.std.proofs.Common.{sym, if◌then◌else◌}
use Rattle.std.specs.Option.{option_map_or}
use Rattle.wb_cache.specs.declared.event.CacheEvent.{CacheEvent}
use Rattle.wb_cache.specs.declared.event.EventKind.{EventKind}
use Rattle.wb_cache.specs.declared.event.EventKind.TheVariants.{Read, Write, Miss, Fill}
use Rattle.event_log.specs.Events.{first_event, holds_byte}
use Rattle.event_log.specs.Nexts.{concerns, next_of, told_by}
use Rattle.event_log.specs.declared.next.Next.TheVariants.{Ends}
use Rattle.cyc_machine.specs.Run.{state_after}
use Rattle.cyc_machine.specs.State.{reset}
use Rattle.cyc_machine.proofs.Events.{events-law}
use Rattle.cyc_machine.proofs.RunsOn.{runs-law}
use Rattle.cyc_machine.proofs.Sizes.Lasting.{steady-reset}
use Rattle.need_pass.specs.Tables.{Needs}
use Rattle.ace_law.specs.Moments.{IsTold, Moment}
use Rattle.ace_rules.specs.LineData.{IsNextBelow}

find-all : (P : CacheEvent → Type 0) (p : CacheEvent → Bool) (xs : List CacheEvent) (e : CacheEvent) → All P xs → find p xs ≡ Some e → P e
find-all P p [] e is h = absurd cc
find-all P p (x ∷ xs) e is h =
    go (p x) (is 0 x (omega arith)) (λ h. find-all P p xs e (λ k d l. is (suc k) d (omega (arith, l))) h) h
  where
    go : (b : Bool) → P x → (find p xs ≡ Some e → P e) → (if b then Some x else find p xs) ≡ Some e → P e
    go true here rest h = let same : x ≡ e = cc in subst P same here
    go false here rest h = rest h

told-below : (n : ℕ) (kind : EventKind) (held : Bool) (c : ℕ) → c < n → IsNextBelow n (told_by kind held c)
told-below n Read held c l = tt
told-below n Write true c l = tt
told-below n Write false c l = l
told-below n Fill held c l = tt
told-below n Miss held c l = tt

next-by : (n : ℕ) (byte : ℕ) (o : Option CacheEvent) → ((e : CacheEvent) → o ≡ Some e → e.cycle < n)
    → IsNextBelow n (option_map_or (λ e. told_by e.kind (holds_byte byte e) e.cycle) o Ends)
next-by n byte None h = tt
next-by n byte (Some e) h = told-below n e.kind (holds_byte byte e) e.cycle (h e refl)

pub next-below : (a : Moment) (table : Needs) → IsTold a.r a.run table → (l byte t : ℕ)
    → IsNextBelow a.r.cycles (next_of a.r.shape l byte t a.r.events)
unfolding next_of first_event state_after
next-below a table told l byte t =
    let law = events-law a.r.cycles (reset a.r.image a.r.shape) (steady-reset a.r.image a.r.shape told.image told.recorded.fits) in
    let first : (reset a.r.image a.r.shape).cycle ≡ 0 = runs-law.cycle_at a.r.image a.r.shape 0 in
    let early : All (λ (e : CacheEvent). e.cycle < a.r.cycles) a.r.events =
    subst (λ (events : List CacheEvent). All (λ (e : CacheEvent). e.cycle < a.r.cycles) events) (sym told.recorded.events)
    (λ k d b. let c = law.below k d b in omega (arith, c, first)) in
    next-by a.r.cycles byte (first_event (concerns a.r.shape l byte) t a.r.events)
    (λ e h. find-all (λ e. e.cycle < a.r.cycles) (λ e. nat_le t e.cycle && concerns a.r.shape l byte e) a.r.events e early h)
