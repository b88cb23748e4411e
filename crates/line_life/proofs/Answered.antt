-- What the lists of all events answer.
use Rattle.std.proofs.Common.{◌≡◌, ℕ, ◌+◌, ◌*◌, ◌/◌, ◌%◌, ◌<◌, Bool, true, false, cond, List, [], length, get_or, refl, sym, ◌∙◌, ap, arith}
use Rattle.std.specs.Prelude.{Option, Some, None, ◌&&◌, ◌||◌, nat_le, nat_lt}
use Rattle.std.specs.List.{AllPairs}
use Rattle.std.specs.Option.{IfSome, option_map, option_map_or}
use Rattle.std.proofs.lemmas.List.{get_or_default, take_all}
use mathlib.Core.Path.{fun_ext}
use Rattle.bit_field.specs.Shapes.{IsShape, slots}
use Rattle.bit_field.specs.declared.shapes.Shape.{Shape}
use Rattle.wb_cache.specs.declared.event.CacheEvent.{CacheEvent}
use Rattle.wb_cache.specs.declared.event.EventKind.{EventKind}
use Rattle.wb_cache.specs.declared.event.EventKind.TheVariants.{Read, Write, Miss, Fill}
use Rattle.event_log.specs.Cycles as cycles
use Rattle.event_log.specs.Events.{IsEventLog, cycles_of, first_event, holds_byte, is_of_slot}
use Rattle.event_log.proofs.Logs.{earlier, find-shown, first-cycles, first-either, first-passes, rising-cycles, rising-shown}
use Rattle.line_life.specs.Lives.{IsLifeOf, IsLives, Lives, change_of, changes_slot, is_read, next_in, reads_byte, sooner}
use Rattle.event_log.specs.Nexts.{concerns, concerns_by, next_of, told_by}
use Rattle.change_list.specs.Lists as lists
use Rattle.change_list.specs.declared.changes.Change.{Change}
use Rattle.line_life.specs.declared.changes.Effect.{Effect}
use Rattle.event_log.specs.declared.next.Next.TheVariants.{Ends}
use Rattle.line_life.proofs.Noted.{IsNoted, changes_at, changes_of, reads_at}

-- an event concerns a byte where it reads it or changes its slot
concerns-either : (a held : Bool) (kind : EventKind) → (a && concerns_by kind held) ≡ ((a && (is_read kind && held)) || (a && changes_slot kind))
concerns-either false held kind = refl
concerns-either true true Read = refl
concerns-either true false Read = refl
concerns-either true held Write = refl
concerns-either true held Miss = refl
concerns-either true held Fill = refl

first-concern : (shape : Shape) (l byte t : ℕ) (es : List CacheEvent) → AllPairs (λ d e. d.cycle < e.cycle) es →
    first_event (concerns shape l byte) t es
    ≡ earlier (first_event (λ e. is_of_slot shape l e && reads_byte byte e) t es) (first_event (changes_at shape l) t es)
first-concern shape l byte t es h =
    ap (λ p. first_event p t es) (fun_ext (λ (e : CacheEvent). concerns-either (is_of_slot shape l e) (holds_byte byte e) e.kind))
    ∙ first-either (λ e. is_of_slot shape l e && reads_byte byte e) (changes_at shape l) t es h

-- an event that reads a byte
told-read : (kind : EventKind) (a held : Bool) (cycle : ℕ) → (a && (is_read kind && held)) ≡ true → told_by kind held cycle ≡ told_by Read held cycle
told-read Read a held cycle h = refl
told-read Write true held cycle h = cc
told-read Write false held cycle h = cc
told-read Miss true held cycle h = cc
told-read Miss false held cycle h = cc
told-read Fill true held cycle h = cc
told-read Fill false held cycle h = cc

sooner-is : (shape : Shape) (l byte : ℕ) (r c : Option CacheEvent) → IfSome r (λ e. (is_of_slot shape l e && reads_byte byte e) ≡ true) →
    sooner byte (option_map (λ e. e.cycle) r) (option_map change_of c) ≡ option_map_or (λ e. told_by e.kind (holds_byte byte e) e.cycle) (earlier r c) Ends
sooner-is shape l byte None None h = refl
sooner-is shape l byte None (Some e) h = refl
sooner-is shape l byte (Some d) None h = sym (told-read d.kind (is_of_slot shape l d) (holds_byte byte d) d.cycle h)
sooner-is shape l byte (Some d) (Some e) h = go (nat_lt e.cycle d.cycle)
  where
    go : (b : Bool) → cond b (told_by e.kind (holds_byte byte e) e.cycle) (told_by Read (holds_byte byte d) d.cycle)
        ≡ option_map_or (λ e. told_by e.kind (holds_byte byte e) e.cycle) (cond b (Some e) (Some d)) Ends
    go true = refl
    go false = sym (told-read d.kind (is_of_slot shape l d) (holds_byte byte d) d.cycle h)

first-change : (test : CacheEvent → Bool) (t : ℕ) (es : List CacheEvent) → lists.first_from t (changes_of test es) ≡ option_map change_of (first_event test t es)
unfolding lists.first_from changes_of first_event
first-change test t es = find-shown change_of (λ c. nat_le t c.cycle) test es

rising-changes : (test : CacheEvent → Bool) (es : List CacheEvent) → AllPairs (λ d e. d.cycle < e.cycle) es → lists.IsRising (changes_of test es)
unfolding changes_of
rising-changes test es h = rising-shown (λ (e : CacheEvent). e.cycle) (λ (c : Change Effect). c.cycle) change_of (λ e. refl) test es h

-- the lists of all events
module _ (shape : Shape) (events : List CacheEvent) (ends : ℕ) (reads : List (List ℕ)) (changes : List (List (Change Effect))) (is : IsShape shape)
    (log : IsEventLog shape events) (noted : IsNoted shape events (length events) reads changes) where
  abbrev life : Lives
  life = record { shape = shape; cycles = ends; reads = reads; changes = changes }

  read-all : (k : ℕ) → k < 16 * slots shape → get_or reads k [] ≡ cycles_of (reads_at shape k) events
  read-all k l = noted.read k l ∙ ap (cycles_of (reads_at shape k)) (take_all (length events) events (omega arith))

  change-all : (l : ℕ) → l < slots shape → get_or changes l [] ≡ changes_of (changes_at shape l) events
  change-all l h = noted.change l h ∙ ap (changes_of (changes_at shape l)) (take_all (length events) events (omega arith))

  next-all : (l byte t : ℕ) → l < slots shape → byte < 16 → next_in life l byte t ≡ next_of shape l byte t events
  unfolding next_in next_of first_event
  next-all l byte t h b =
      let at : (16 * l + byte) / 16 ≡ l = omega arith in
      let of : (16 * l + byte) % 16 ≡ byte = omega arith in
      let k : 16 * l + byte < 16 * slots shape = omega arith in
      let rs : cycles.first_from t (get_or reads (16 * l + byte) [])
      ≡ option_map (λ e. e.cycle) (first_event (λ e. is_of_slot shape l e && reads_byte byte e) t events) = ap (cycles.first_from t)
      (read-all (16 * l + byte) k) ∙ first-cycles (reads_at shape (16 * l + byte)) t events ∙ rw (at, of) refl in
      let cs : lists.first_from t (get_or changes l [])
      ≡ option_map change_of (first_event (changes_at shape l) t events) = ap (lists.first_from t) (change-all l h)
      ∙ first-change (changes_at shape l) t events in
      rw (rs, cs, first-concern shape l byte t events log.rising)
      (sooner-is shape l byte (first_event (λ e. is_of_slot shape l e && reads_byte byte e) t events) (first_event (changes_at shape l) t events)
      (first-passes (λ e. is_of_slot shape l e && reads_byte byte e) t events))

  pub lives-all : IsLives life
  lives-all = record {
    shape = is;
    reads = noted.bytes;
    changes = noted.places;
    rising = λ k d l. rw (get_or_default reads k d [] l) (rw (read-all k (omega (arith, noted.bytes))) (rising-cycles (reads_at shape k) events log.rising));
    rises = λ k d l. rw (get_or_default changes k d [] l)
        (rw (change-all k (omega (arith, noted.places))) (rising-changes (changes_at shape k) events log.rising));
  }

  pub life-all : IsLifeOf events shape ends life
  life-all = record { shape = refl; cycles = refl; next = next-all }
