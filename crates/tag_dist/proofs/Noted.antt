-- How the lists grow with the events and the instructions.
use Rattle.std.proofs.Common.{◌≡◌, ℕ, suc, ◌+◌, ◌*◌, ◌<◌, Bool, false, cond, List, [], ◌∷◌, ◌++◌, length, get_or, take, refl, sym, ◌∙◌, ap, arith}
use Rattle.std.specs.Prelude.{◌&&◌, ◌==◌, Some, replicate, slice_get}
use Rattle.std.specs.Option.{option_map_or}
use Rattle.std.proofs.lemmas.List.{get_or-replicate, length-replicate}
use Rattle.bit_field.specs.Shapes.{slots}
use Rattle.bit_field.specs.declared.shapes.Shape.{Shape}
use Rattle.rv_isa.specs.declared.effect.Retired.{Retired}
use Rattle.wb_cache.specs.declared.event.CacheEvent.{CacheEvent}
use Rattle.event_log.specs.Events.{cycles_of}
use Rattle.event_log.proofs.Logs.{cycles-more}
use Rattle.event_log.specs.Lookups.{fills, has_line, is_fill}
use Rattle.tag_dist.specs.Lines.{accesses, last_below}
use Rattle.tag_dist.specs.Tables.{asked_in, last_in}

-- the lists of lines once the first n events are noted
abbrev pub IsAsked : List CacheEvent → ℕ → List (ℕ × List ℕ) → Type 0
IsAsked events n asked = (line : ℕ) → asked_in asked line ≡ cycles_of (has_line line) (take n events)

pub asked-none : (events : List CacheEvent) → IsAsked events 0 []
unfolding cycles_of
asked-none events line = refl

pub asked-more : (events : List CacheEvent) (n : ℕ) (e : CacheEvent) (old new : List (ℕ × List ℕ)) → n < length events → e ≡ get_or events n e →
    ((p : ℕ) → asked_in new p ≡ cond (e.line == p) (asked_in old p ++ e.cycle ∷ []) (asked_in old p)) → IsAsked events n old → IsAsked events (n + 1) new
asked-more events n e old new l h grown asked line = grown line ∙ rw (asked line) (sym (cycles-more (has_line line) events n e l h))

-- the lists of slots once the first n events are noted
pub record IsFilled (shape : Shape) (events : List CacheEvent) (n : ℕ) (filled : List (List ℕ)) : Type 0 where
  pub places : length filled ≡ slots shape
  pub list : (l : ℕ) → l < slots shape → get_or filled l [] ≡ cycles_of (fills shape l) (take n events)

pub filled-none : (shape : Shape) (events : List CacheEvent) → IsFilled shape events 0 (replicate (slots shape) [])
unfolding cycles_of
filled-none shape events = record {
  places = length-replicate (slots shape) [];
  list = λ l h. get_or-replicate (slots shape) l [] [] h;
}

pub filled-more : (shape : Shape) (events : List CacheEvent) (n slot : ℕ) (e : CacheEvent) (old new : List (List ℕ)) → n < length events →
    e ≡ get_or events n e → slot ≡ shape.ways * e.set + e.way → length new ≡ length old →
    ((l : ℕ) → get_or new l [] ≡ cond (slot == l && is_fill e.kind) (get_or old l [] ++ e.cycle ∷ []) (get_or old l [])) → IsFilled shape events n old →
    IsFilled shape events (n + 1) new
filled-more shape events n slot e old new l h at same grown filled = record {
  places = same ∙ filled.places;
  list = λ i m. grown i ∙ rw (at, filled.list i m) (sym (cycles-more (fills shape i) events n e l h));
}

-- the last accesses once the first n instructions are noted
abbrev pub accesses_at : List Retired → ℕ → ℕ → Bool
accesses_at entries line i = option_map_or (accesses line) (slice_get entries i) false

abbrev pub IsLast : List Retired → ℕ → List (ℕ × ℕ) → Type 0
IsLast entries n last = (line : ℕ) → last_in last line ≡ last_below n (accesses_at entries line)

pub last-none : (entries : List Retired) → IsLast entries 0 []
unfolding last_below
last-none entries line = refl

last-step : (n : ℕ) (b : Bool) (test : ℕ → Bool) → test n ≡ b → cond b (Some n) (last_below n test) ≡ last_below (n + 1) test
unfolding last_below
last-step n b test e = let s : n + 1 ≡ suc n = omega arith in rw (s, e) refl

pub last-more : (entries : List Retired) (n : ℕ) (entry : Retired) (old new : List (ℕ × ℕ)) → slice_get entries n ≡ Some entry →
    ((line : ℕ) → last_in new line ≡ cond (accesses line entry) (Some n) (last_in old line)) → IsLast entries n old → IsLast entries (n + 1) new
last-more entries n entry old new at grown last line =
    grown line ∙ rw (last line) (last-step n (accesses line entry) (accesses_at entries line) (ap (λ e. option_map_or (accesses line) e false) at))
