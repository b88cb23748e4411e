-- How the lists grow with the events.
use Rattle.std.proofs.Common.{◌≡◌, ℕ, ◌+◌, ◌*◌, ◌/◌, ◌%◌, ◌<◌, Bool, cond, ltb, List, [], ◌∷◌, ◌++◌, length, get_or, take, sym, ◌∙◌}
use Rattle.std.specs.Prelude.{◌&&◌, ◌==◌, filter, map, replicate}
use Rattle.std.proofs.lemmas.List.{get_or-replicate, length-replicate}
use Rattle.bit_field.specs.Shapes.{slots}
use Rattle.bit_field.specs.declared.shapes.Shape.{Shape}
use Rattle.wb_cache.specs.declared.event.CacheEvent.{CacheEvent}
use Rattle.event_log.specs.Events.{cycles_of, holds_byte, is_of_slot}
use Rattle.event_log.proofs.Logs.{cycles-more, shown-more}
use Rattle.line_life.specs.Lives.{change_of, is_change, reads_byte}
use Rattle.change_list.specs.declared.changes.Change.{Change}
use Rattle.line_life.specs.declared.changes.Effect.{Effect}

-- after the bytes below `byte`, a read has added its cycle to those that it holds
pub record IsReadSoFar (slot byte : ℕ) (e : CacheEvent) (old new : List (List ℕ)) : Type 0 where
  pub same : length new ≡ length old
  pub lists : (k : ℕ) → get_or new k [] ≡ cond (slot == k / 16 && (ltb (k % 16) byte && holds_byte (k % 16) e)) (get_or old k [] ++ e.cycle ∷ [])
      (get_or old k [])

-- the events that read byte k % 16 of slot k / 16, and those that change slot l
abbrev pub reads_at : Shape → ℕ → CacheEvent → Bool
reads_at shape k e = is_of_slot shape (k / 16) e && reads_byte (k % 16) e

abbrev pub changes_at : Shape → ℕ → CacheEvent → Bool
changes_at shape l e = is_of_slot shape l e && is_change e

unfoldable pub changes_of : (CacheEvent → Bool) → List CacheEvent → List (Change Effect)
changes_of test events = map change_of (filter test events)

-- the lists once the first n events are noted
pub record IsNoted (shape : Shape) (events : List CacheEvent) (n : ℕ) (reads : List (List ℕ)) (changes : List (List (Change Effect))) : Type 0 where
  pub bytes : length reads ≡ 16 * slots shape
  pub places : length changes ≡ slots shape
  pub read : (k : ℕ) → k < 16 * slots shape → get_or reads k [] ≡ cycles_of (reads_at shape k) (take n events)
  pub change : (l : ℕ) → l < slots shape → get_or changes l [] ≡ changes_of (changes_at shape l) (take n events)

pub noted-none : (shape : Shape) (events : List CacheEvent) → IsNoted shape events 0 (replicate (16 * slots shape) []) (replicate (slots shape) [])
unfolding cycles_of changes_of
noted-none shape events = record {
  bytes = length-replicate (16 * slots shape) [];
  places = length-replicate (slots shape) [];
  read = λ k l. get_or-replicate (16 * slots shape) k [] [] l;
  change = λ l h. get_or-replicate (slots shape) l [] [] h;
}

changes-more : (test : CacheEvent → Bool) (es : List CacheEvent) (n : ℕ) (e : CacheEvent) → n < length es → e ≡ get_or es n e →
    changes_of test (take (n + 1) es) ≡ cond (test e) (changes_of test (take n es) ++ change_of e ∷ []) (changes_of test (take n es))
unfolding changes_of
changes-more test es n e l h = shown-more change_of test es n e l h

-- one event more
pub noted-more : (shape : Shape) (events : List CacheEvent) (n slot : ℕ) (e : CacheEvent) (rs ss : List (List ℕ)) (cs ds : List (List (Change Effect))) →
    n < length events → e ≡ get_or events n e → slot ≡ shape.ways * e.set + e.way → length ss ≡ length rs → length ds ≡ length cs
    → ((k : ℕ) → get_or ss k [] ≡ cond (slot == k / 16 && reads_byte (k % 16) e) (get_or rs k [] ++ e.cycle ∷ []) (get_or rs k []))
    → ((l : ℕ) → get_or ds l [] ≡ cond (slot == l && is_change e) (get_or cs l [] ++ change_of e ∷ []) (get_or cs l []))
    → IsNoted shape events n rs cs → IsNoted shape events (n + 1) ss ds
noted-more shape events n slot e rs ss cs ds l h at same like reads changes noted = record {
  bytes = same ∙ noted.bytes;
  places = like ∙ noted.places;
  read = λ k m. reads k ∙ rw (at, noted.read k m) (sym (cycles-more (reads_at shape k) events n e l h));
  change = λ i m. changes i ∙ rw (at, noted.change i m) (sym (changes-more (changes_at shape i) events n e l h));
}
