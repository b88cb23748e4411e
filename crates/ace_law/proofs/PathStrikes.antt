-- Strikes on the path: a slot of the instruction buffer, or ID/EX, is replaced by one that isn't the next instruction where the flush comes to
-- it. What stands before it is completed as before, and the rest is fetched anew.
use Rattle.std.proofs.Common.{◌≡◌, ◌+◌, ◌<◌, ◌≤◌, ◌++◌, ℕ, suc, Bool, true, false, List, [], ◌∷◌, length, map}
use Rattle.std.proofs.Common.{take, drop, arith, refl, ap, sym, subst, ◌∙◌}
use Rattle.std.specs.Prelude.{if◌then◌else◌, slice_set}
use Rattle.std.specs.List.{All}
use Rattle.std.proofs.lemmas.List.Elements.{All-append, All-cons, All-head, All-nil, All-tail}
use Rattle.bit_field.proofs.Slots.{used-set, used-split}
use Rattle.elf_load.specs.Image.{LoadedImage}
use Rattle.rv_isa.specs.Instruction.{State as Arch, Log, instruction}
use Rattle.pipe_latch.specs.Latches.{DecodedLatch}
use Rattle.inst_buf.specs.Buffer.{entries}
use Rattle.inst_buf.specs.Entry.{Entry}
use Rattle.need_pass.specs.Tables.{Needs}
use Rattle.cyc_machine.specs.Facts.{IsMachine}
use Rattle.cyc_machine.specs.InFlight.{Item, item_of_latch}
use Rattle.cyc_machine.specs.Pipeline.{fetched}
use Rattle.cyc_machine.specs.State.{State}
use Rattle.cyc_machine.proofs.Sizes.Lasting.{machine-steady}
use Rattle.flush_view.specs.Coherence.{IsCoherent}
use Rattle.flush_view.specs.Flush.{item_of_entry, path_of}
use Rattle.flush_view.specs.Positions.{is_instruction, on_path}
use Rattle.flush_view.specs.RunFacts.{no_line}
use Rattle.flush_view.specs.Views.{view}
use Rattle.flush_view.proofs.Run.Sound.{AreFetched}
use Rattle.run_record.specs.Verdict.{HasSame}
use Rattle.ace_law.specs.Moments.{IsQuiet, IsTold, Moment, executed, front, state, trace}
use Rattle.ace_law.specs.PipelineRules.{ComesNext}
use Rattle.ace_law.proofs.Alike.{spare}
use Rattle.ace_law.proofs.Base.{action_at, base_over}
use Rattle.ace_law.proofs.Follows.{Follows, entries-follow, path-follows, reached-below, reached-same}
use Rattle.ace_law.proofs.SparedPaths.{follows-spared, sees-same, state-sound}
use Rattle.ace_law.proofs.Stands.{Stands, stands-next}
use Rattle.ace_law.proofs.SparedSame.{spared-same}
use Rattle.ace_law.proofs.TimingRule.{none-alone}
use Rattle.ace_law.proofs.Told.{facts, state-image}
use Rattle.ace_law.proofs.PathItems.{position-on, path-front}

module _ (P : Entry → Type 0) where
  all-front : (xs ys : List Entry) → All P (xs ++ ys) → All P xs
  all-front [] ys h = All-nil P
  all-front (x ∷ xs) ys h = All-cons P x xs (All-head P x (xs ++ ys) h) (all-front xs ys (All-tail P x (xs ++ ys) h))

  all-back : (xs ys : List Entry) → All P (xs ++ ys) → All P ys
  all-back [] ys h = h
  all-back (x ∷ xs) ys h = all-back xs ys (All-tail P x (xs ++ ys) h)

-- the entries before a slot, and those behind it
entries-before : (image : LoadedImage) (slots : List Entry) (i : ℕ) → AreFetched image (entries slots) → AreFetched image (entries (take i slots))
entries-before image slots i are =
    all-front (λ e. e ≡ fetched image e.pc) (entries (take i slots)) (entries (drop i slots))
    (subst (AreFetched image) (used-split (λ e. e.valid) slots i) are)

entries-behind : (image : LoadedImage) (slots : List Entry) (i : ℕ) → AreFetched image (entries slots) → AreFetched image (entries (drop i slots))
entries-behind image slots i are =
    all-back (λ e. e ≡ fetched image e.pc) (entries (take i slots)) (entries (drop i slots))
    (subst (AreFetched image) (used-split (λ e. e.valid) slots i) are)

-- ---- what is missed behind a front that follows

module _ (a : Moment) (table : Needs) (told : IsTold a.r a.run table) (quiet : IsQuiet a) where
  pub follows-missed : (before : List Item) (item : Item) (rest : List Item) (i : ℕ) (at : Arch) (budget : ℕ) → executed a ≤ i
      → Follows a.r.image before at → Stands a no_line i at budget
      → (on_path (trace a) i before ≡ length before → is_instruction (trace a) (i + length before) item ≡ true → ⊥)
      → Follows a.r.image (before ++ item ∷ rest) at
  unfolding on_path
  follows-missed [] item rest i at budget from follows s miss = λ r.
      absurd (miss refl (ap (λ n. is_instruction (trace a) n item) (omega arith)
      ∙ sym (reached-same a table told no_line quiet (none-alone a) i item at budget s) ∙ r))
  follows-missed (first ∷ before) item rest i at budget from follows s miss = λ r.
      let here : is_instruction (trace a) i first ≡ true = sym (reached-same a table told no_line quiet (none-alone a) i first at budget s) ∙ r in
      let below = reached-below a table told no_line quiet (none-alone a) i first here in (
        (follows r).0,
        follows-missed before item rest (i + 1) (instruction a.r.image at) budget (omega (arith, from)) (follows r).1
            (stands-next a table told no_line quiet (none-alone a) i at budget (omega (arith, from)) from below s)
            (λ e h. miss (counted (is_instruction (trace a) i first) here e)
            (ap (λ n. is_instruction (trace a) n item) (sym (position-on i (length before))) ∙ h)),
      )
    where
      counted : (b : Bool) → b ≡ true → on_path (trace a) (i + 1) before ≡ length before
          → (if b then on_path (trace a) (i + 1) before + 1 else 0) ≡ suc (length before)
      counted true c e = omega (arith, e)
      counted false c e = absurd cc

-- ---- strikes

view-buffer : (s : State) (slots : List Entry) → view (record s { buffer = slots }) ≡ view s
unfolding view
view-buffer s slots = refl

view-latch : (s : State) (d : DecodedLatch) → view (record s { d = d }) ≡ view s
unfolding view
view-latch s d = refl

module _ (a : Moment) (table : Needs) (told : IsTold a.r a.run table) (below : a.t < a.r.cycles) (quiet : IsQuiet a) where
  abbrev pub items_of : DecodedLatch → List Entry → List Item
  items_of d es = path_of (state a).image (action_at a) (state a).w (view (state a)) d es

  abbrev pub base : Log → Arch
  base log = base_over a (view (state a)) log

  -- another ID/EX and other slots, on whose path the recorded base is followed
  path-same : (d : DecodedLatch) (slots : List Entry) → IsMachine (record (state a) { d = d; buffer = slots })
      → ((log : Log) (budget : ℕ) → Stands a no_line (executed a) (base log) budget → Follows a.r.image (items_of d (entries slots)) (base log))
      → HasSame a.r a.t (record (state a) { d = d; buffer = slots })
  unfolding view
  path-same d slots machine follows =
      let u : State = record (state a) { d = d; buffer = slots } in
      let coherent : IsCoherent no_line u = (facts a table told below).coherent in
      spared-same a table no_line u told below quiet
      (follows-spared a table told below no_line quiet (none-alone a) u (state-image a table told) (machine-steady u machine) coherent
      (sees-same a table told below no_line (view u) refl) (λ log. refl)
      (λ log budget stands. subst (λ (image : LoadedImage). Follows image (items_of d (entries slots)) (base log)) (sym (state-image a table told))
      (follows log budget stands)))

  -- the recorded ID/EX with entries as they are fetched
  pub recorded-follows : (es : List Entry) → AreFetched (state a).image es → (log : Log) → Follows a.r.image (items_of (state a).d es) (base log)
  recorded-follows es are log =
      subst (λ (image : LoadedImage). Follows image (items_of (state a).d es) (base log)) (state-image a table told)
      (path-follows (state a) (view (state a)) spare log es (state-sound a table told below) are)

  abbrev pub waiting : List Entry
  waiting = entries (state a).buffer

  pub are-fetched : AreFetched (state a).image waiting
  are-fetched = (state-sound a table told below).waiting

  -- another ID/EX, empty or not the next instruction
  pub latch-same : (d : DecodedLatch) → IsMachine (record (state a) { d = d })
      → (d.valid ≡ true
      → is_instruction (trace a) (executed a) (item_of_latch (state a).image (action_at a) (state a).w (view (state a)) d) ≡ true → ⊥)
      → HasSame a.r a.t (record (state a) { d = d })
  latch-same d machine miss = path-same d (state a).buffer machine (λ log budget stands. go log budget stands d.valid refl)
    where
      item : Item
      item = item_of_latch (state a).image (action_at a) (state a).w (view (state a)) d

      go : (log : Log) (budget : ℕ) → Stands a no_line (executed a) (base log) budget → (v : Bool) → d.valid ≡ v
          → Follows a.r.image (if v then item ∷ map item_of_entry waiting else map item_of_entry waiting) (base log)
      go log budget stands true v = λ r.
          absurd (miss v (sym (reached-same a table told no_line quiet (none-alone a) (executed a) item (base log) budget stands) ∙ r))
      go log budget stands false v =
          entries-follow a.r.image waiting (base log)
          (subst (λ (image : LoadedImage). AreFetched image waiting) (state-image a table told) are-fetched)

  -- another slot, free or not the next instruction where the flush comes to it
  pub slot-same : (i : ℕ) (y : Entry) → i < length (state a).buffer → IsMachine (record (state a) { buffer = slice_set (state a).buffer i y })
      → (y.valid ≡ true → ComesNext a (front a i) (item_of_entry y) → ⊥)
      → HasSame a.r a.t (record (state a) { buffer = slice_set (state a).buffer i y })
  slot-same i y within machine miss =
      path-same (state a).d (slice_set (state a).buffer i y) machine
      (λ log budget stands. subst (λ es. Follows a.r.image (items_of (state a).d es) (base log))
      (sym (used-set (λ e. e.valid) (state a).buffer i y within)) (go log budget stands y.valid refl))
    where
      es : List Entry
      es = entries (take i (state a).buffer)

      rest : List Entry
      rest = entries (drop (suc i) (state a).buffer)

      before : AreFetched (state a).image es
      before = entries-before (state a).image (state a).buffer i are-fetched

      behind : AreFetched (state a).image rest
      behind = entries-behind (state a).image (state a).buffer (suc i) are-fetched

      go : (log : Log) (budget : ℕ) → Stands a no_line (executed a) (base log) budget → (v : Bool) → y.valid ≡ v
          → Follows a.r.image (items_of (state a).d (es ++ (if v then y ∷ rest else rest))) (base log)
      go log budget stands true v =
          subst (λ items. Follows a.r.image items (base log))
          (sym (path-front (state a).image (action_at a) (state a).w (view (state a)) (state a).d es (y ∷ rest)))
          (follows-missed a table told quiet (front a i) (item_of_entry y) (map item_of_entry rest) (executed a) (base log) budget (omega arith)
          (recorded-follows es before log) stands (λ e h. miss v (e, h)))
      go log budget stands false v =
          recorded-follows (es ++ rest) (All-append (λ e. e ≡ fetched (state a).image e.pc) es rest before behind) log
