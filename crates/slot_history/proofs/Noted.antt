-- How the lists grow with the events.
use Rattle.std.proofs.Common.{◌≡◌, ℕ, ◌+◌, ◌<◌, ◌≤◌, Bool, true, false, cond, ltb}
use Rattle.std.proofs.Common.{List, [], ◌∷◌, ◌++◌, length, get_or, take, refl, sym, ◌∙◌, ap, arith, inl, inr, subst}
use Rattle.std.specs.Prelude.{◌==◌, filter, replicate}
use Rattle.std.specs.List.{All}
use Rattle.std.proofs.lemmas.Bool.{cases_lt}
use Rattle.std.proofs.lemmas.Bool.Decides.{nat_tests}
use Rattle.std.proofs.lemmas.List.{get_or-replicate, get_or_default, length-replicate, take_all}
use Rattle.std.proofs.lemmas.List.Elements.{All-nil, All-push, filter_more}
use Rattle.std.proofs.lemmas.List.Quantifiers.{all_pairs_push}
use Rattle.bit_field.specs.Shapes.{IsShape, slots}
use Rattle.bit_field.specs.declared.shapes.Shape.{Shape}
use Rattle.wb_cache.specs.Contents.{slot_of}
use Rattle.wb_cache.specs.declared.event.CacheEvent.{CacheEvent}
use Rattle.wb_cache.specs.declared.event.EventKind.{EventKind}
use Rattle.wb_cache.specs.declared.event.EventKind.TheVariants.{Read, Write, Miss, Fill}
use Rattle.cyc_machine.specs.EventsLaw as machine
use Rattle.cyc_machine.specs.EventsLaw.{held_after, held_behind, held_by}
use Rattle.event_log.specs.Events.{IsEventLog}
use Rattle.slot_history.specs.HeldBefore.{IsSlotTable, held_before, told}
use Rattle.slot_history.specs.Histories.{Histories, IsHistories, held_at, held_in}
use Rattle.slot_history.specs.Notes.{changed, is_dirty, latest, noted_by, noted_if}
use Rattle.change_list.specs.Lists.{IsRising, change, value_before}
use Rattle.change_list.specs.declared.changes.Change.{Change}
use Rattle.slot_history.specs.declared.changes.Held.{Held}
use Rattle.slot_history.specs.declared.changes.Held.TheVariants.{Vacant, Clean, Dirty}
use Rattle.change_list.proofs.Grown.{all-before, push-earlier, push-later}

-- ---- what the events tell, with one event more

behind-append : (shape : Shape) (l : ℕ) (h : machine.Held) (xs ys : List CacheEvent)
    → held_behind shape l h (xs ++ ys) ≡ held_behind shape l (held_behind shape l h xs) ys
unfolding held_behind
behind-append shape l h [] ys = refl
behind-append shape l h (e ∷ xs) ys = behind-append shape l (held_after shape l e h) xs ys

one-behind : (shape : Shape) (l : ℕ) (h : machine.Held) (e : CacheEvent) (b : Bool)
    → held_behind shape l h (cond b (e ∷ []) []) ≡ cond b (held_after shape l e h) h
unfolding held_behind
one-behind shape l h e true = refl
one-behind shape l h e false = refl

before-more : (shape : Shape) (l t : ℕ) (es : List CacheEvent) (n : ℕ) (e : CacheEvent) → n < length es → e ≡ get_or es n e
    → held_before shape l t (take (n + 1) es)
    ≡ cond (ltb e.cycle t) (held_after shape l e (held_before shape l t (take n es))) (held_before shape l t (take n es))
unfolding held_before
before-more shape l t es n e below at =
    ap (λ (xs : List CacheEvent). held_behind shape l machine.Held.Vacant xs) (filter_more (λ (e : CacheEvent). ltb e.cycle t) es n e below)
    ∙ behind-append shape l machine.Held.Vacant (filter (λ (e : CacheEvent). ltb e.cycle t) (take n es)) _
    ∙ rw (sym at)
    (one-behind shape l (held_behind shape l machine.Held.Vacant (filter (λ (e : CacheEvent). ltb e.cycle t) (take n es))) e (ltb e.cycle t))

-- ---- a list with one event more of its slot

-- what is asked of it: what the list says before cycle t, by what it said
abbrev pub Says : EventKind → ℕ → ℕ → List (Change Held) → List (Change Held) → ℕ → Type 0
Says kind cycle line old new t = told (held_at new t) ≡ cond (ltb cycle t) (held_by kind line (told (held_at old t))) (told (held_at old t))

same-said : (b : Bool) (h : machine.Held) → h ≡ cond b h h
same-said true h = refl
same-said false h = refl

-- a change behind the others
says-changed : (kind : EventKind) (cycle line : ℕ) (held : Held) (old : List (Change Held)) (t : ℕ) → All (λ c. c.cycle < cycle) old
    → ((h : machine.Held) → told held ≡ held_by kind line h) → Says kind cycle line old (changed cycle held old) t
says-changed kind cycle line held old t below is =
    elim (cases_lt cycle t) [
      | inl m ↦
          let e : ltb cycle t ≡ true = grind (arith, nat_tests) in
          rw e (ap told (push-later Vacant old (change cycle held) t below m) ∙ is (told (held_at old t)))
      | inr m ↦
          let e : ltb cycle t ≡ false = grind (arith, nat_tests) in
          rw e (ap told (push-earlier Vacant old (change cycle held) t m))
    ]

-- no change, where the slot holds the line, dirty
dirty-is : (held : Held) (line : ℕ) → is_dirty held line ≡ true → told held ≡ machine.Held.Dirty line
dirty-is Vacant line h = absurd cc
dirty-is (Clean n) line h = absurd cc
dirty-is (Dirty n) line h = let e : n ≡ line = grind (arith, nat_tests) in ap machine.Held.Dirty e

says-dirty : (cycle line : ℕ) (old : List (Change Held)) (t : ℕ) → All (λ c. c.cycle < cycle) old → is_dirty (latest old) line ≡ true
    → Says Write cycle line old old t
says-dirty cycle line old t below dirty =
    elim (cases_lt cycle t) [
      | inl m ↦
          let e : ltb cycle t ≡ true = grind (arith, nat_tests) in
          rw e (ap told (all-before Vacant old cycle t below (omega arith)) ∙ dirty-is (latest old) line dirty)
      | inr m ↦ let e : ltb cycle t ≡ false = grind (arith, nat_tests) in rw e refl
    ]

says-written : (cycle line : ℕ) (old : List (Change Held)) (t : ℕ) (b : Bool) → is_dirty (latest old) line ≡ b → All (λ c. c.cycle < cycle) old
    → Says Write cycle line old (cond b old (changed cycle (Dirty line) old)) t
says-written cycle line old t true dirty below = says-dirty cycle line old t below dirty
says-written cycle line old t false dirty below = says-changed Write cycle line (Dirty line) old t below (λ h. refl)

says-noted : (kind : EventKind) (cycle line : ℕ) (old : List (Change Held)) (t : ℕ) → All (λ c. c.cycle < cycle) old
    → Says kind cycle line old (noted_by kind cycle line old) t
says-noted Read cycle line old t below = same-said (ltb cycle t) (told (held_at old t))
says-noted Write cycle line old t below = says-written cycle line old t (is_dirty (latest old) line) refl below
says-noted Miss cycle line old t below = same-said (ltb cycle t) (told (held_at old t))
says-noted Fill cycle line old t below = says-changed Fill cycle line (Clean line) old t below (λ h. refl)

-- what holds of a list, and of the same list with a change of that cycle behind it, holds after an event
kept-written : (P : List (Change Held) → Type 0) (cycle line : ℕ) (old : List (Change Held)) (b : Bool) → P old → ((held : Held) → P (changed cycle held old))
    → P (cond b old (changed cycle (Dirty line) old))
kept-written P cycle line old true before more = before
kept-written P cycle line old false before more = more (Dirty line)

kept-noted : (P : List (Change Held) → Type 0) (kind : EventKind) (cycle line : ℕ) (old : List (Change Held)) → P old → ((held : Held) → P (changed cycle held old))
    → P (noted_by kind cycle line old)
kept-noted P Read cycle line old before more = before
kept-noted P Write cycle line old before more = kept-written P cycle line old (is_dirty (latest old) line) before more
kept-noted P Miss cycle line old before more = before
kept-noted P Fill cycle line old before more = more (Clean line)

-- ---- the lists of all slots

-- One list, of slot l, once the first n events are noted: its changes rise, they come before the cycles of the events that follow,
-- and it says what the events tell.
pub record IsToldOf (shape : Shape) (events : List CacheEvent) (n l : ℕ) (changes : List (Change Held)) : Type 0 where
  pub rising : IsRising changes
  pub earlier : (k : ℕ) (d : CacheEvent) → n ≤ k → k < length events → All (λ c. c.cycle < (get_or events k d).cycle) changes
  pub held : (t : ℕ) → told (held_at changes t) ≡ held_before shape l t (take n events)

pub record IsNoted (shape : Shape) (events : List CacheEvent) (n : ℕ) (lists : List (List (Change Held))) : Type 0 where
  pub places : length lists ≡ slots shape
  pub list : (l : ℕ) → l < slots shape → IsToldOf shape events n l (get_or lists l [])

nothing-told : (shape : Shape) (events : List CacheEvent) (l : ℕ) → IsToldOf shape events 0 l []
unfolding value_before held_before held_behind
nothing-told shape events l = record {
  rising = λ i j d m o. absurd (omega arith);
  earlier = λ k d m o. All-nil _;
  held = λ t. refl;
}

pub noted-none : (shape : Shape) (events : List CacheEvent) → IsNoted shape events 0 (replicate (slots shape) [])
noted-none shape events = record {
  places = length-replicate (slots shape) [];
  list = λ l m. rw (get_or-replicate {A = List (Change Held)} (slots shape) l [] [] m) (nothing-told shape events l);
}

-- the next event
module _ (shape : Shape) (events : List CacheEvent) (n : ℕ) (e : CacheEvent) (l : ℕ) (old : List (Change Held)) (log : IsEventLog shape events)
    (below : n < length events) (at : e ≡ get_or events n e) (so_far : IsToldOf shape events n l old) where
  here : (d : CacheEvent) → get_or events n d ≡ e
  here d = get_or_default events n d e below ∙ sym at

  old-earlier : All (λ c. c.cycle < e.cycle) old
  old-earlier = subst (λ (x : CacheEvent). All (λ c. c.cycle < x.cycle) old) (here e) (so_far.earlier n e (omega arith) below)

  later : (k : ℕ) (d : CacheEvent) → n + 1 ≤ k → k < length events → e.cycle < (get_or events k d).cycle
  later k d m o = subst (λ (x : CacheEvent). x.cycle < (get_or events k d).cycle) (here d) (log.rising n k d (omega arith) o)

  more : (b : Bool) → (slot_of shape e.set e.way == l) ≡ b → IsToldOf shape events (n + 1) l (noted_if b e old)
  more true is = record {
    rising =
        kept-noted IsRising e.kind e.cycle e.line old so_far.rising
        (λ held. all_pairs_push (λ (a b : Change Held). a.cycle < b.cycle) old _ so_far.rising old-earlier);
    earlier = λ k d m o. kept-noted (λ (xs : List (Change Held)). All (λ c. c.cycle < (get_or events k d).cycle) xs) e.kind e.cycle e.line old
        (so_far.earlier k d (omega arith) o)
        (λ held. All-push (λ (c : Change Held). c.cycle < (get_or events k d).cycle) old _ (so_far.earlier k d (omega arith) o) (later k d m o));
    held = λ t. says-noted e.kind e.cycle e.line old t old-earlier
        ∙ rw (so_far.held t) (sym (before-more shape l t events n e below at ∙ rw is refl));
  }
  more false is = record {
    rising = so_far.rising;
    earlier = λ k d m o. so_far.earlier k d (omega arith) o;
    held = λ t. so_far.held t
        ∙ sym (before-more shape l t events n e below at ∙ rw is (sym (same-said (ltb e.cycle t) (held_before shape l t (take n events)))));
  }

-- one event more
pub noted-more : (shape : Shape) (events : List CacheEvent) (n slot : ℕ) (e : CacheEvent) (olds news : List (List (Change Held))) → IsEventLog shape events
    → n < length events → e ≡ get_or events n e → slot ≡ slot_of shape e.set e.way → length news ≡ length olds
    → ((l : ℕ) → get_or news l [] ≡ noted_if (slot == l) e (get_or olds l [])) → IsNoted shape events n olds → IsNoted shape events (n + 1) news
noted-more shape events n slot e olds news log below at is same lists so_far = record {
  places = same ∙ so_far.places;
  list = λ l m.
      rw (lists l, is) (more shape events n e l (get_or olds l []) log below at (so_far.list l m) (slot_of shape e.set e.way == l) refl);
}

-- ---- the lists of all events

module _ (shape : Shape) (events : List CacheEvent) (n : ℕ) (lists : List (List (Change Held))) (is : IsShape shape) (all : length events ≤ n)
    (noted : IsNoted shape events n lists) where
  abbrev table : Histories
  table = record { shape = shape; changes = lists }

  pub table-rises : IsHistories table
  table-rises = record {
    shape = is;
    changes = noted.places;
    rising = λ l d m. rw (get_or_default lists l d [] m) ((noted.list l (omega (arith, noted.places))).rising);
  }

  pub table-tells : IsSlotTable events shape table
  unfolding held_in
  table-tells = record {
    shape = refl;
    held = λ l t m. (noted.list l m).held t ∙ ap (λ (es : List CacheEvent). held_before shape l t es) (take_all n events all);
  }
