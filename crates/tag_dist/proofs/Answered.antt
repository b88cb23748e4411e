-- What the lists of all events and instructions answer.
use Rattle.std.proofs.Common.{◌≡◌, ℕ, ◌<◌, List, [], length, get_or, refl, ◌∙◌, ap, arith}
use Rattle.std.specs.Prelude.{Option, Some, None}
use Rattle.std.specs.Option.{option_map}
use Rattle.std.proofs.lemmas.List.{get_or_default}
use Rattle.bit_field.specs.Shapes.{IsShape, slots}
use Rattle.bit_field.specs.declared.shapes.Shape.{Shape}
use Rattle.rv_isa.specs.declared.effect.Retired.{Retired}
use Rattle.wb_cache.specs.declared.event.CacheEvent.{CacheEvent}
use Rattle.event_log.specs.Cycles.{first_from}
use Rattle.event_log.specs.Events.{IsEventLog, cycles_of, first_event}
use Rattle.event_log.proofs.Logs.{first-cycles, rising-cycles}
use Rattle.event_log.specs.Lookups.{fills, has_line, is_by, looked_up}
use Rattle.tag_dist.specs.Lines.{last_access}
use Rattle.tag_dist.specs.Tables.{IsTableOf, IsTables, Tables, asked_in, comes_by, last_in, looked_up_in}

-- the order of two events is that of their cycles
comes-is : (a b : Option CacheEvent) → comes_by (option_map (λ e. e.cycle) a) (option_map (λ e. e.cycle) b) ≡ is_by a b
comes-is None b = refl
comes-is (Some e) None = refl
comes-is (Some e) (Some d) = refl

module _ (events : List CacheEvent) (entries : List Retired) (shape : Shape) (last : List (ℕ × ℕ)) (asked : List (ℕ × List ℕ)) (filled : List (List ℕ))
    (is : IsShape shape) (log : IsEventLog shape events)
    (places : length filled ≡ slots shape) (lines : (line : ℕ) → asked_in asked line ≡ cycles_of (has_line line) events)
    (lists : (l : ℕ) → l < slots shape → get_or filled l [] ≡ cycles_of (fills shape l) events)
    (accessed : (line : ℕ) → last_in last line ≡ last_access line entries) where
  abbrev table : Tables
  table = record { shape = shape; last = last; asked = asked; filled = filled }

  looked-all : (l line t : ℕ) → l < slots shape → looked_up_in table l line t ≡ looked_up shape l line t events
  unfolding looked_up_in looked_up
  looked-all l line t h =
      let a : first_from t (asked_in asked line) ≡ option_map (λ e. e.cycle) (first_event (has_line line) t events) = ap (first_from t) (lines line)
      ∙ first-cycles (has_line line) t events in
      let f : first_from t (get_or filled l []) ≡ option_map (λ e. e.cycle) (first_event (fills shape l) t events) = ap (first_from t) (lists l h)
      ∙ first-cycles (fills shape l) t events in
      rw (a, f) (comes-is (first_event (has_line line) t events) (first_event (fills shape l) t events))

  pub tables-all : IsTables table
  tables-all = record {
    shape = is;
    filled = places;
    rising = λ k d l. rw (get_or_default filled k d [] l) (rw (lists k (omega (arith, places))) (rising-cycles (fills shape k) events log.rising));
    rises = λ line. rw (lines line) (rising-cycles (has_line line) events log.rising);
  }

  pub table-all : IsTableOf events entries shape table
  table-all = record { shape = refl; accesses = accessed; lookups = looked-all }
