-- Where a slot of the instruction buffer stands on the path.
use Rattle.std.proofs.Common.{◌≡◌, ◌≢◌, ◌<◌, ◌≤◌, ◌+◌, ◌==◌, ◌&&◌, ◌++◌, ℕ, suc, Bool, true, false, List, [], ◌∷◌, map, length, take, drop, Decides}
use Rattle.std.proofs.Common.{if◌then◌else◌, arith, refl, ap, sym, subst, ◌∙◌}
use Rattle.std.specs.Prelude.{Some, nat_lt, slice_get}
use Rattle.std.proofs.lemmas.Bool.Decides.{nat_tests}
use Rattle.std.proofs.lemmas.List.{set-get_or}
use Rattle.inst_buf.specs.Buffer.{entries, packed, slot_of}
use Rattle.inst_buf.specs.Entry.{Entry, no_entry}
use Rattle.inst_buf.specs.declared.buffer.TheConstants.{SLOTS}
use Rattle.cyc_machine.specs.Cycle.{action_in_m}
use Rattle.cyc_machine.specs.InFlight.{Item, item_of_latch}
use Rattle.need_pass.specs.Tables.{Needs}
use Rattle.flush_view.specs.Flush.{item_of_entry, path, path_of}
use Rattle.flush_view.specs.Positions.{on_path}
use Rattle.flush_view.specs.Views.{view}
use Rattle.ace_law.specs.Moments.{Moment, entries_on_path, executed, front, state, trace}
use Rattle.ace_law.specs.PipelineRules.{ComesNext, IsSlotOffPath, IsSlotOnPath}
use Rattle.ace_law.proofs.Masked.EntryBits.{path-set}
use Rattle.ace_law.proofs.Told.{facts, state-machine}
use Rattle.ace_rules.specs.FetchedTests.{is_off_path, is_on_path, is_waiting, number_of_slot}
use Rattle.ace_rules.specs.Notes.{IsKnown}
use Rattle.ace_rules.specs.PipelineTests.{is_next}
use Rattle.ace_rules.specs.declared.note.Note.{Note}
use Rattle.ace_rules.proofs.FirstRuleLaws.{never}
use Rattle.ace_rules.proofs.FrontSlots.{front-all, front-count, slot-valid}
use Rattle.ace_rules.proofs.NextEntries.{comes-decides, on-path-front}
use Rattle.ace_rules.proofs.NotedTests.{below-decides, most-decides, then-and, true-decides}

length-map : {A B : Type 0} (f : A → B) (xs : List A) → length (map f xs) ≡ length xs
length-map f [] = refl
length-map f (x ∷ xs) = ap suc (length-map f xs)

-- the element behind a front
behind-front : {A : Type 0} (xs : List A) (x : A) (ys : List A) → slice_get (xs ++ x ∷ ys) (length xs) ≡ Some x
behind-front [] x ys = refl
behind-front (z ∷ xs) x ys = behind-front xs x ys

module _ (a : Moment) (table : Needs) (note : Note) (quiet : Bool) (known : IsKnown a table note quiet) where
  pub in-order : (state a).buffer ≡ packed (entries (state a).buffer)
  in-order = let f = facts a table known.told known.below in f.in_order

  pub waiting-is : (i : ℕ) → is_waiting note i ≡ (slot_of (state a).buffer i).valid
  unfolding is_waiting
  waiting-is i = ap (nat_lt i) known.noted.waiting ∙ slot-valid (state a).buffer in-order i

  buffer-length : length (state a).buffer ≡ SLOTS
  buffer-length = let m = state-machine a table known.told known.below in m.buffer.0

  -- ---- how many entries stand before a slot

  path-count : (es : List Entry)
      → length (path_of (state a).image (action_in_m (state a)) (state a).w (view (state a)) (state a).d es) ≡ number_of_slot note (length es)
  unfolding number_of_slot
  path-count es =
      go (state a).d.valid ∙ ap (λ (b : Bool). if b then length es + 1 else length es) (sym known.noted.decoded)
    where
      item : Item
      item = item_of_latch (state a).image (action_in_m (state a)) (state a).w (view (state a)) (state a).d

      go : (b : Bool) → length (if b then item ∷ map item_of_entry es else map item_of_entry es) ≡ (if b then length es + 1 else length es)
      go true = let e = length-map item_of_entry es in omega (arith, e)
      go false = length-map item_of_entry es

  pub front-number : (i : ℕ) → i ≤ note.waiting → length (front a i) ≡ number_of_slot note i
  front-number i l =
      let count = known.noted.waiting in
      path-count (entries (take i (state a).buffer))
      ∙ ap (number_of_slot note) (front-count (state a).buffer in-order i (omega (arith, l, count)))

  -- before a free slot all entries stand
  pub front-path : (i : ℕ) → note.waiting ≤ i → front a i ≡ path (state a)
  front-path i l =
      let count = known.noted.waiting in
      ap (path_of (state a).image (action_in_m (state a)) (state a).w (view (state a)) (state a).d)
      (front-all (state a).buffer in-order i (omega (arith, l, count)))

  pub path-number : length (path (state a)) ≡ number_of_slot note note.waiting
  path-number = path-count (entries (state a).buffer) ∙ ap (number_of_slot note) (sym known.noted.waiting)

  pub waiting-below : (i : ℕ) → is_waiting note i ≡ true → i < note.waiting
  unfolding is_waiting
  waiting-below i e = grind (arith, nat_tests)

  -- ---- on path and off it

  module _ (i : ℕ) where
    abbrev slot : Entry
    slot = slot_of (state a).buffer i

    pub waiting-decides : Decides (is_waiting note i) (slot.valid ≡ true)
    waiting-decides = true-decides (is_waiting note i) slot.valid (waiting-is i)

    pub number-of-front : slot.valid ≡ true → length (front a i) ≡ number_of_slot note i
    number-of-front v = front-number i (let l = waiting-below i (waiting-is i ∙ v) in omega (arith, l))

    pub on-path-decides : Decides (is_on_path note i) (IsSlotOnPath a i)
    unfolding is_on_path
    on-path-decides =
        then-and _ _ waiting-decides
        (λ v.
        below-decides (number_of_slot note i) note.on_path (length (front a i)) (entries_on_path a) (number-of-front v)
        (sym known.noted.on_path))

    pub off-path-decides : Decides (is_off_path note i) (IsSlotOffPath a i)
    unfolding is_off_path
    off-path-decides =
        then-and _ _ waiting-decides
        (λ v.
        most-decides note.on_path (number_of_slot note i) (entries_on_path a) (length (front a i)) (sym known.noted.on_path)
        (number-of-front v))

    -- the entries before it, the one in it, and those behind it
    pub path-split : i < SLOTS → slot.valid ≡ true
        → path (state a) ≡ front a i ++ item_of_entry slot ∷ map item_of_entry (entries (drop (suc i) (state a).buffer))
    path-split l v =
        let count = buffer-length in
        ap (λ (slots : List Entry). path (record (state a) { buffer = slots })) (sym (set-get_or (state a).buffer i no_entry))
        ∙ path-set a i slot (omega (arith, l, count)) v

    pub missed-is : i < SLOTS → slot.valid ≡ true → length (front a i) ≡ entries_on_path a
        → slice_get (path (state a)) (entries_on_path a) ≡ Some (item_of_entry slot)
    missed-is l v same =
        ap (λ (n : ℕ). slice_get (path (state a)) n) (sym same)
        ∙ ap (λ (items : List Item). slice_get items (length (front a i))) (path-split l v)
        ∙ behind-front (front a i) (item_of_entry slot) (map item_of_entry (entries (drop (suc i) (state a).buffer)))

    pub off-path-front : i < SLOTS → IsSlotOffPath a i → on_path (trace a) (executed a) (front a i) ≡ entries_on_path a
    off-path-front l off =
        let split = path-split l off.0 in
        on-path-front (trace a) (front a i) (item_of_entry slot ∷ map item_of_entry (entries (drop (suc i) (state a).buffer))) (executed a)
        (subst (λ (items : List Item). on_path (trace a) (executed a) items ≤ length (front a i)) split off.1)
        ∙ ap (on_path (trace a) (executed a)) (sym split)

  -- whether an item behind such entries would be the next instruction
  pub after-decides : (items : List Item) (item : Item) (n : ℕ) → on_path (trace a) (executed a) items ≡ entries_on_path a → length items ≡ n
      → Decides (n == note.on_path && is_next note item.pc) (ComesNext a items item)
  after-decides items item n on count = go (n == note.on_path) refl
    where
      go : (b : Bool) → (n == note.on_path) ≡ b → Decides (b && is_next note item.pc) (ComesNext a items item)
      go true e =
          let noted = known.noted.on_path in
          let same : n ≡ note.on_path = grind (arith, nat_tests) in
          comes-decides a table note known.noted items item on (count ∙ same ∙ noted)
      go false e =
          let noted = known.noted.on_path in
          let other : n ≢ note.on_path = grind (arith, nat_tests) in
          never (λ comes. other (sym count ∙ sym comes.0 ∙ on ∙ sym noted))
