-- What the events of the cache tell.
use Rattle.std.proofs.Common.{◌≡◌, ◌≢◌, ℕ, zero, suc, ◌+◌, ◌<◌, ◌≤◌, ◌/◌, ◌%◌, Bool, true, false, List, [], ◌∷◌, ◌++◌, length, arith, refl, ap, sym, subst, ◌∙◌}
use Rattle.std.specs.Prelude.{Option, Some, None, All, AllPairs, IfSome}
use Rattle.std.specs.Option.{ForSome}
use Rattle.std.proofs.lemmas.List.Elements.{All-nil, All-push}
use Rattle.std.proofs.lemmas.List.Quantifiers.{all_pairs_push}
use Rattle.bit_field.specs.declared.shapes.Shape.{Shape}
use Rattle.elf_load.specs.Image.{LoadedImage, IsImage, ram_byte}
use Rattle.rv_table.specs.declared.action.Action.{Action}
use Rattle.store_buf.specs.Entry.{Entry}
use Rattle.store_buf.specs.Pending.{oldest, pending}
use Rattle.wb_cache.specs.Access.{found}
use Rattle.wb_cache.specs.Changes.{filled_slot, put_slot, slot_written_back, written_slot}
use Rattle.wb_cache.specs.Contents.{Contents, IsSized, slots}
use Rattle.wb_cache.specs.Lookup.{set_of}
use Rattle.wb_cache.specs.Refill.{memory_refilled, way_for}
use Rattle.wb_cache.specs.declared.event.CacheEvent.{CacheEvent}
use Rattle.wb_cache.proofs.Calls.{ram-after_refill, slots-after_read, slots-after_refill, slots-after_write}
use Rattle.wb_cache.proofs.Sizes.{set_below}
use Rattle.wb_cache.proofs.Victims.{victim-below, way_of-below}
use Rattle.cyc_machine.specs.declared.port.Move.{Move}
use Rattle.cyc_machine.specs.declared.port.Move.TheVariants.{Rests, Reads, Drains, Misses, Waits, Leaves, Fills}
use Rattle.cyc_machine.specs.Cycle.{action_in_m, cycle, cycled, event_by, event_in, move}
use Rattle.cyc_machine.specs.EventsLaw.{EventLaw, EventsLaw, IsEventOf, memory_by, slots_by, value_drained}
use Rattle.cyc_machine.specs.Memory.{cache_after, load_client, memory_after, store_client}
use Rattle.cyc_machine.specs.Run.{events_after, state_after, with_one}
use Rattle.cyc_machine.specs.Sizes.{IsSteady}
use Rattle.cyc_machine.specs.State.{State}
use Rattle.cyc_machine.proofs.RunsOn.{numbered, shape-kept}
use Rattle.cyc_machine.proofs.Sizes.Lasting.{steady-after}
use Rattle.cyc_machine.proofs.Tells.{Tells, client-oldest, tells}

-- ---- one cycle

module _ (image : LoadedImage) (c : Contents) (memory : List ℕ) (m : Action) (number : ℕ) (load : Option ℕ) (store oldest : Option Entry)
    (is : IsImage image) (long : length memory ≡ length image.ram) (sized : IsSized c) where
  slots-by : (v : Move) → Tells c load store v → ((e : Entry) → store ≡ Some e → oldest ≡ Some e)
      → slots (cache_after image v memory c)
      ≡ slots_by (event_by v m number c) c.shape (value_drained oldest) (ram_byte image (memory_after image v c memory)) (slots c)
  unfolding cache_after memory_after
  slots-by Rests t is_oldest = refl
  slots-by (Reads word way) t is_oldest = slots-after_read c (word / 4)
  slots-by (Drains e way) t is_oldest =
      slots-after_write c (e.addr / 4) (e.addr % 4) e.mask e.value way sized (omega arith) t.1
      ∙ ap (λ (o : Option Entry). put_slot (set_of c.shape (e.addr / 4)) way
      (written_slot (e.addr % 4) e.mask (value_drained o) (slots c (set_of c.shape (e.addr / 4)) way)) (slots c)) (sym (is_oldest e t.0))
  slots-by (Misses line way count owner) t is_oldest = refl
  slots-by Waits t is_oldest = refl
  slots-by Leaves t is_oldest = refl
  slots-by (Fills line way) t is_oldest =
      slots-after_refill image line memory c is long sized
      ∙ ap (λ (ram : ℕ → ℕ). put_slot (set_of c.shape line) (way_for c line) (filled_slot c.shape ram line) (slots c))
      (sym (ram-after_refill image line memory c is long sized))
      ∙ ap (λ w. put_slot (set_of c.shape line) w (filled_slot c.shape (ram_byte image (memory_refilled image line c memory)) line) (slots c)) (sym t.1)

  memory-by : (v : Move) → Tells c load store v
      → ram_byte image (memory_after image v c memory) ≡ memory_by (event_by v m number c) image c.shape (slots c) (ram_byte image memory)
  unfolding memory_after
  memory-by Rests t = refl
  memory-by (Reads word way) t = refl
  memory-by (Drains e way) t = refl
  memory-by (Misses line way count owner) t = refl
  memory-by Waits t = refl
  memory-by Leaves t = refl
  memory-by (Fills line way) t =
      ram-after_refill image line memory c is long sized
      ∙ ap (λ w. slot_written_back image c.shape (set_of c.shape line) (slots c (set_of c.shape line) w) (ram_byte image memory)) (sym t.1)

  taken-below : (line way : ℕ) → way ≡ way_for c line → way < c.shape.ways
  taken-below line way e = subst (λ w. w < c.shape.ways) (sym e) (victim-below c.shape (slots c) c.nodes (set_of c.shape line) sized.shape)

  told : (v : Move) → Tells c load store v → IfSome (event_by v m number c) (IsEventOf number c)
  told Rests t = tt
  told (Reads word way) t = record {
    cycle = refl;
    set = refl;
    set_within = set_below c.shape (word / 4) sized.shape;
    way_within = way_of-below c.shape (slots c) (word / 4) way t.1;
    word_within = omega arith;
    finds = t.1;
  }
  told (Drains e way) t = record {
    cycle = refl;
    set = refl;
    set_within = set_below c.shape (e.addr / 4) sized.shape;
    way_within = way_of-below c.shape (slots c) (e.addr / 4) way t.1;
    word_within = omega arith;
    finds = t.1;
  }
  told (Misses line way count owner) t = record {
    cycle = refl;
    set = refl;
    set_within = set_below c.shape line sized.shape;
    way_within = taken-below line way t.1;
    word_within = omega arith;
    finds = t;
  }
  told Waits t = tt
  told Leaves t = tt
  told (Fills line way) t = record {
    cycle = refl;
    set = refl;
    set_within = set_below c.shape line sized.shape;
    way_within = taken-below line way t.1;
    word_within = omega arith;
    finds = t;
  }

some_by : {A : Type 0} (P : A → Type 0) (o : Option A) → IfSome o P → ForSome o P
some_by P o h x e = subst (λ q. IfSome q P) e h

pub event-law : (s : State) → IsSteady s → EventLaw s (cycle s)
unfolding cycled
event-law s is =
    let t = tells s.port s.cache (load_client s.image (action_in_m s) (pending s.stores)) (store_client s.image (pending s.stores)) in
    record {
      event =
          some_by (IsEventOf s.cycle s.cache) (event_in s) (told s.image s.cache s.memory (action_in_m s) s.cycle _ _
          (oldest (pending s.stores)) is.image is.memory is.cache (move s) t);
      lines =
          slots-by s.image s.cache s.memory (action_in_m s) s.cycle _ _ (oldest (pending s.stores)) is.image is.memory is.cache (move s) t
          (client-oldest s.image (pending s.stores));
      memory = memory-by s.image s.cache s.memory (action_in_m s) s.cycle _ _ (oldest (pending s.stores)) is.image is.memory is.cache (move s) t;
    }

-- ---- many cycles

All-with_one : {A : Type 0} (P : A → Type 0) (xs : List A) (o : Option A) → All P xs → ForSome o P → All P (with_one xs o)
All-with_one P xs (Some x) all here = All-push P xs x all (here x refl)
All-with_one P xs None all here = all

pairs-with_one : {A : Type 0} (R : A → A → Type 0) (xs : List A) (o : Option A) → AllPairs R xs → ((x : A) → o ≡ Some x → All (λ y. R y x) xs)
    → AllPairs R (with_one xs o)
pairs-with_one R xs (Some x) pairs before = all_pairs_push R xs x pairs (before x refl)
pairs-with_one R xs None pairs before = pairs

pub events-law : (n : ℕ) (s : State) → IsSteady s → EventsLaw n s
unfolding events_after
events-law zero s is = record {
  rising = λ i j d l m. absurd (omega (arith, m));
  from = All-nil _;
  below = All-nil _;
  lines = All-nil _;
  sets = All-nil _;
  ways = All-nil _;
}
events-law (suc n) s is =
    let before : EventsLaw n s = events-law n s is in
    let u : State = state_after n s in
    let law : EventLaw u (cycle u) = event-law u (steady-after n s is) in
    let shape : u.cache.shape ≡ s.cache.shape = shape-kept n s in
    let number : u.cycle ≡ s.cycle + n = numbered n s in
    record {
      rising = pairs-with_one (λ d e. d.cycle < e.cycle) (events_after n s) (event_in u) before.rising
          (λ e h k d l. let e1 = (law.event e h).cycle in let e2 = before.below k d l in omega (arith, e1, e2, number));
      from =
          All-with_one (λ e. s.cycle ≤ e.cycle) (events_after n s) (event_in u) before.from
          (λ e h. let e1 = (law.event e h).cycle in omega (arith, e1, number));
      below = All-with_one (λ e. e.cycle < s.cycle + suc n) (events_after n s) (event_in u) (λ k d l. let e2 = before.below k d l in omega (arith, e2))
          (λ e h. let e1 = (law.event e h).cycle in omega (arith, e1, number));
      lines = All-with_one (λ e. e.set ≡ set_of s.cache.shape e.line) (events_after n s) (event_in u) before.lines
          (λ e h. (law.event e h).set ∙ ap (λ (shape : Shape). set_of shape e.line) shape);
      sets = All-with_one (λ e. e.set < s.cache.shape.sets) (events_after n s) (event_in u) before.sets
          (λ e h. subst (λ (shape : Shape). e.set < shape.sets) shape (law.event e h).set_within);
      ways = All-with_one (λ e. e.way < s.cache.shape.ways) (events_after n s) (event_in u) before.ways
          (λ e h. subst (λ (shape : Shape). e.way < shape.ways) shape (law.event e h).way_within);
    }
