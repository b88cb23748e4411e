-- What a slot holds, as the events tell it.
use Rattle.std.proofs.Common.{◌≡◌, ℕ, zero, suc, ◌+◌, ◌*◌, ◌<◌, ◌/◌, ◌%◌, append-nil, Bool, true, false, cond, List, [], ◌∷◌, ◌++◌, arith, refl, ap, sym}
use Rattle.std.proofs.Common.{subst, ◌∙◌}
use Rattle.std.specs.Prelude.{◌⊎◌, Option, Some, None, ◌==◌, ◌&&◌, if◌then◌else◌}
use Rattle.std.specs.Option.{ForSome}
use Rattle.std.proofs.lemmas.Bool.Decides.{nat_tests}
use Rattle.std.proofs.lemmas.List.{get_or-replicate}
use Rattle.bit_field.specs.Shapes.{IsShape, slots as slot_count}
use Rattle.bit_field.specs.declared.shapes.Shape.{Shape}
use Rattle.elf_load.specs.Image.{LoadedImage, ram_byte}
use Rattle.store_buf.specs.Pending.{oldest, pending}
use Rattle.wb_cache.specs.Access.{found}
use Rattle.wb_cache.specs.Changes.{filled_slot, put_slot, set_at, way_at, written_slot}
use Rattle.wb_cache.specs.Contents.{Contents, IsSized, Slot, empty, slot_at, slot_of, slots}
use Rattle.wb_cache.specs.Lookup.{holds, line_of, set_of, tag_of, way_of}
use Rattle.wb_cache.specs.declared.event.CacheEvent.{CacheEvent}
use Rattle.wb_cache.specs.declared.event.EventKind.{EventKind}
use Rattle.wb_cache.specs.declared.event.EventKind.TheVariants.{Read, Write, Miss, Fill}
use Rattle.wb_cache.proofs.Find.{first_below-some}
use Rattle.wb_cache.proofs.Lines.{line_from_parts}
use Rattle.wb_cache.proofs.Struck.{slot-at}
use Rattle.wb_cache.proofs.Ways.{holds-tag, holds-valid}
use Rattle.cyc_machine.specs.Cycle.{cycle, event_in}
use Rattle.cyc_machine.specs.EventsLaw.{EventLaw, FindsBy, Held, IsEventOf, IsHeld, held_after, held_behind, held_by, HeldLaw, slots_by, slots_by_kind}
use Rattle.cyc_machine.specs.EventsLaw.{value_drained}
use Rattle.cyc_machine.specs.EventsLaw.Held.{Clean, Dirty, Vacant}
use Rattle.cyc_machine.specs.Run.{events_after, events_below, state_after, state_at, with_one}
use Rattle.cyc_machine.specs.Sizes.{IsSteady}
use Rattle.cyc_machine.specs.State.{State, reset}
use Rattle.cyc_machine.proofs.Events.{event-law}
use Rattle.cyc_machine.proofs.RunsOn.{reset-shape, shape-kept, shape-next}
use Rattle.cyc_machine.proofs.Sizes.Lasting.{steady-after, steady-next, steady-reset}

-- ---- one slot

-- a slot of a set holds so
abbrev HoldsSo : Shape → ℕ → Slot → Held → Type 0
HoldsSo shape set slot Vacant = slot.valid ≡ false
HoldsSo shape set slot (Clean line) = (slot.valid ≡ true) × (slot.dirty ≡ false) × (line ≡ line_of shape set slot.tag)
HoldsSo shape set slot (Dirty line) = (slot.valid ≡ true) × (slot.dirty ≡ true) × (line ≡ line_of shape set slot.tag)

is_held : (c : Contents) (l : ℕ) (h : Held) → HoldsSo c.shape (set_at c.shape l) (slot_at c l) h → IsHeld c l h
is_held c l Vacant h = h
is_held c l (Clean line) h = h
is_held c l (Dirty line) h = h

held_is : (c : Contents) (l : ℕ) (h : Held) → IsHeld c l h → HoldsSo c.shape (set_at c.shape l) (slot_at c l) h
held_is c l Vacant h = h
held_is c l (Clean line) h = h
held_is c l (Dirty line) h = h

-- the line that stands in a set
line-here : (shape : Shape) (set line tag : ℕ) → set ≡ set_of shape line → tag ≡ tag_of shape line → line ≡ line_of shape set tag
line-here shape set line tag e f = line_from_parts shape.sets line set tag (sym e) (sym f)

found-holds : (c : Contents) (line way : ℕ) → found c line ≡ Some way → holds c.shape line (slots c (set_of c.shape line) way) ≡ true
unfolding way_of
found-holds c line way h = (first_below-some c.shape.ways way (λ w. holds c.shape line (slots c (set_of c.shape line) w)) h).passes

-- ---- one event

place_by : (ways l set way : ℕ) → (ways ≡ 1) ⊎ (ways ≡ 2) ⊎ (ways ≡ 4) → way < ways → (l / ways == set && l % ways == way) ≡ (ways * set + way == l)
place_by ways l set way p h = grind (arith, nat_tests)

-- slot l is the slot of a way of a set exactly where set and way are its own
same-place : (shape : Shape) (l set way : ℕ) → IsShape shape → way < shape.ways
    → (set_at shape l == set && way_at shape l == way) ≡ (slot_of shape set way == l)
same-place shape l set way is inside = place_by shape.ways l set way is.ways inside

set-here : (l ways set : ℕ) (b : Bool) → (l / ways == set && b) ≡ true → l / ways ≡ set
set-here l ways set b h = grind (arith, nat_tests)

choose : (shape : Shape) (set : ℕ) (b : Bool) (X Y : Slot) (g h : Held) → (b ≡ true → HoldsSo shape set X g) → HoldsSo shape set Y h
    → HoldsSo shape set (cond b X Y) (if b then g else h)
choose shape set true X Y g h p q = p refl
choose shape set false X Y g h p q = q

as-before : (shape : Shape) (set : ℕ) (b : Bool) (X : Slot) (h : Held) → HoldsSo shape set X h → HoldsSo shape set X (if b then h else h)
as-before shape set true X h p = p
as-before shape set false X h p = p

module _ (c : Contents) (number value : ℕ) (ram : ℕ → ℕ) (l : ℕ) (sized : IsSized c) where
  abbrev set : ℕ
  set = set_at c.shape l

  abbrev Told : CacheEvent → EventKind → Held → Type 0
  Told e kind h =
      HoldsSo c.shape set (slots_by_kind kind e c.shape value ram (slots c) set (way_at c.shape l))
      (if slot_of c.shape e.set e.way == l then held_by kind e.line h else h)

  -- where the slot is replaced
  replaced-by : (e : CacheEvent) → IsEventOf number c e → (X : Slot) (g h : Held) → (set ≡ set_of c.shape e.line → HoldsSo c.shape set X g)
      → HoldsSo c.shape set (slots c set (way_at c.shape l)) h
      → HoldsSo c.shape set (put_slot e.set e.way X (slots c) set (way_at c.shape l)) (if slot_of c.shape e.set e.way == l then g else h)
  replaced-by e is X g h here before =
      let test = same-place c.shape l e.set e.way sized.shape is.way_within in
      subst (λ b. HoldsSo c.shape set (cond b X (slots c set (way_at c.shape l))) (if slot_of c.shape e.set e.way == l then g else h)) (sym test)
      (choose c.shape set (slot_of c.shape e.set e.way == l) X (slots c set (way_at c.shape l)) g h
      (λ t. here (set-here l c.shape.ways e.set (way_at c.shape l == e.way) (test ∙ t) ∙ is.set)) before)

  by-kind : (e : CacheEvent) → IsEventOf number c e → (h : Held) → HoldsSo c.shape set (slots c set (way_at c.shape l)) h
      → (kind : EventKind) → FindsBy kind c e.line e.way → Told e kind h
  unfolding written_slot filled_slot
  by-kind e is h before Read finds = as-before c.shape set (slot_of c.shape e.set e.way == l) (slots c set (way_at c.shape l)) h before
  by-kind e is h before Miss finds = as-before c.shape set (slot_of c.shape e.set e.way == l) (slots c set (way_at c.shape l)) h before
  by-kind e is h before Write finds =
      let holding = subst (λ s. holds c.shape e.line (slots c s e.way) ≡ true) (sym is.set) (found-holds c e.line e.way finds) in
      replaced-by e is (written_slot e.word e.mask value (slots c e.set e.way)) (Dirty e.line) h
      (λ here. (
        holds-valid c.shape e.line (slots c e.set e.way) holding,
        refl,
        line-here c.shape set e.line (slots c e.set e.way).tag here (holds-tag c.shape e.line (slots c e.set e.way) holding),
      ))
      before
  by-kind e is h before Fill finds =
      replaced-by e is (filled_slot c.shape ram e.line) (Clean e.line) h
      (λ here. (refl, refl, line-here c.shape set e.line (tag_of c.shape e.line) here refl))
      before

  -- after an event or none
  by-event : (o : Option CacheEvent) → ForSome o (IsEventOf number c) → (h : Held) → HoldsSo c.shape set (slots c set (way_at c.shape l)) h
      → HoldsSo c.shape set (slots_by o c.shape value ram (slots c) set (way_at c.shape l)) (held_behind c.shape l h (with_one [] o))
  unfolding held_behind
  by-event None is h before = before
  by-event (Some e) is h before = by-kind e (is e refl) h before e.kind (is e refl).finds

-- ---- one cycle, many cycles, from reset

held-next : (s : State) (l : ℕ) (h : Held) → IsSteady s → l < slot_count s.cache.shape → IsHeld s.cache l h
    → IsHeld (cycle s).cache l (held_behind s.cache.shape l h (with_one [] (event_in s)))
held-next s l h is below before =
    let law : EventLaw s (cycle s) = event-law s is in
    let next : Held = held_behind s.cache.shape l h (with_one [] (event_in s)) in
    let shape : (cycle s).cache.shape ≡ s.cache.shape = shape-next s in
    is_held (cycle s).cache l next
    (subst (λ (slot : Slot). HoldsSo (cycle s).cache.shape (set_at (cycle s).cache.shape l) slot next)
    (slot-at (cycle s).cache l (steady-next s is).cache (subst (λ (sh : Shape). l < slot_count sh) (sym shape) below))
    (subst (λ (sh : Shape). HoldsSo sh (set_at sh l) (slots (cycle s).cache (set_at sh l) (way_at sh l)) next) (sym shape)
    (subst (λ (cache : ℕ → ℕ → Slot). HoldsSo s.cache.shape (set_at s.cache.shape l) (cache (set_at s.cache.shape l) (way_at s.cache.shape l)) next)
    (sym law.lines)
    (by-event s.cache s.cycle (value_drained (oldest (pending s.stores))) (ram_byte (cycle s).image (cycle s).memory) l is.cache (event_in s) law.event h
    (subst (λ (slot : Slot). HoldsSo s.cache.shape (set_at s.cache.shape l) slot h) (sym (slot-at s.cache l is.cache below)) (held_is s.cache l h before))))))

behind-append : (shape : Shape) (l : ℕ) (h : Held) (xs ys : List CacheEvent)
    → held_behind shape l h (xs ++ ys) ≡ held_behind shape l (held_behind shape l h xs) ys
unfolding held_behind
behind-append shape l h [] ys = refl
behind-append shape l h (e ∷ xs) ys = behind-append shape l (held_after shape l e h) xs ys

one-more : (xs : List CacheEvent) (o : Option CacheEvent) → with_one xs o ≡ xs ++ with_one [] o
one-more xs (Some e) = refl
one-more xs None = sym (append-nil xs)

pub held-on : (n : ℕ) (s : State) (l : ℕ) (h : Held) → IsSteady s → l < slot_count s.cache.shape → IsHeld s.cache l h
    → IsHeld (state_after n s).cache l (held_behind s.cache.shape l h (events_after n s))
unfolding state_after events_after held_behind
held-on zero s l h is below before = before
held-on (suc n) s l h is below before =
    let shape : (state_after n s).cache.shape ≡ s.cache.shape = shape-kept n s in
    let now : Held = held_behind s.cache.shape l h (events_after n s) in
    subst (λ (g : Held). IsHeld (cycle (state_after n s)).cache l g)
    (sym (ap (λ (xs : List CacheEvent). held_behind s.cache.shape l h xs) (one-more (events_after n s) (event_in (state_after n s)))
    ∙ behind-append s.cache.shape l h (events_after n s) (with_one [] (event_in (state_after n s)))))
    (subst (λ (sh : Shape). IsHeld (cycle (state_after n s)).cache l (held_behind sh l now (with_one [] (event_in (state_after n s))))) shape
    (held-next (state_after n s) l now (steady-after n s is) (subst (λ (sh : Shape). l < slot_count sh) (sym shape) below) (held-on n s l h is below before)))

vacant-reset : (image : LoadedImage) (shape : Shape) (l : ℕ) → l < slot_count shape → (slot_at (reset image shape).cache l).valid ≡ false
unfolding reset slot_at empty
vacant-reset image shape l below = get_or-replicate (slot_count shape) l false false below

pub held-law : HeldLaw
held-law = record {
  runs = held-on;
  reset = λ image shape t l is fits below.
      let same : (reset image shape).cache.shape ≡ shape = reset-shape image shape in
      subst (λ (sh : Shape). IsHeld (state_at image shape t).cache l (held_behind sh l Vacant (events_below image shape t))) same
      (held-on t (reset image shape) l Vacant (steady-reset image shape is fits) (subst (λ (sh : Shape). l < slot_count sh) (sym same) below)
      (vacant-reset image shape l below));
}
