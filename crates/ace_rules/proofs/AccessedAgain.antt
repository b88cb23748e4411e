-- Whether a line is accessed again, by the note and the table of accesses.
use Rattle.std.proofs.Common.{◌≡◌, ◌/◌, ◌≤◌, ◌<◌, ◌||◌, zero, suc, ℕ, Bool, true, false, Decides, List, [], ◌∷◌, Option, Some, None, length}
use Rattle.std.proofs.Common.{slice_get, arith, refl, sym, subst, ap, ◌∙◌, inl, inr, if◌then◌else◌}
use Rattle.std.specs.Option.{option_map_or}
use Rattle.std.proofs.lemmas.Bool.{and_from, and_parts, cases_eq}
use Rattle.std.proofs.lemmas.Bool.Decides.{nat_tests, Decides-eqb, Decides-or}
use Rattle.rv_isa.specs.declared.effect.Retired.{Retired}
use Rattle.need_pass.specs.Tables.{Needs}
use Rattle.store_buf.specs.Entry.{Entry}
use Rattle.store_buf.specs.Pending.{is_pending, pending, slot_of}
use Rattle.tag_dist.specs.Lines.{accesses, last_access, last_below}
use Rattle.tag_dist.specs.Tables.{Tables, last_in}
use Rattle.ace_law.specs.MemoryRules.{IsAccessedAgain, IsAccessedLater, IsPendingLine}
use Rattle.ace_law.specs.Moments.{Moment, retired}
use Rattle.ace_law.proofs.Told.{entry_within, state-steady}
use Rattle.ace_rules.specs.Asked.{goes_to, is_accessed_again, is_later, is_pending_line, retired_by}
use Rattle.ace_rules.specs.Notes.{IsKnown}
use Rattle.ace_rules.specs.declared.note.Note.{Note}
use Rattle.ace_rules.proofs.Unneeded.{retired-is}

-- ---- instructions

abbrev Passes : ℕ → ℕ → (ℕ → Bool) → Type 0
Passes n first test = (i : ℕ) × (first ≤ i) × (i < n) × (test i ≡ true)

later-to : (n first : ℕ) (test : ℕ → Bool) → is_later (last_below n test) first ≡ true → Passes n first test
unfolding is_later last_below
later-to zero first test h = absurd cc
later-to (suc n) first test h = go (test n) refl (λ h. later-to n first test h) h
  where
    go : (b : Bool) → test n ≡ b → (is_later (last_below n test) first ≡ true → Passes n first test)
        → is_later (if b then Some n else last_below n test) first ≡ true → Passes (suc n) first test
    go true e below h = let l : first ≤ n = grind (arith, nat_tests) in (n, l, omega arith, e)
    go false e below h = let (i, l, u, p) = below h in (i, l, omega (arith, u), p)

later-from : (n first : ℕ) (test : ℕ → Bool) → Passes n first test → is_later (last_below n test) first ≡ true
unfolding is_later last_below
later-from zero first test (i, l, u, p) = absurd (omega (arith, u))
later-from (suc n) first test (i, l, u, p) = go (test n) refl (λ u. later-from n first test (i, l, u, p))
  where
    go : (b : Bool) → test n ≡ b → (i < n → is_later (last_below n test) first ≡ true)
        → is_later (if b then Some n else last_below n test) first ≡ true
    go true e below = grind (arith, nat_tests)
    go false e below =
        elim (cases_eq i n) [
          | inl same ↦ let one : test n ≡ true = subst (λ i. test i ≡ true) same p in absurd cc
          | inr ne ↦ below (omega (arith, u, ne))
        ]

accesses-to : (line : ℕ) (o : Option Retired) → option_map_or (accesses line) o false ≡ true
    → (entry : Retired) × (o ≡ Some entry) × (accesses line entry ≡ true)
accesses-to line None h = absurd cc
accesses-to line (Some entry) h = (entry, refl, h)

-- ---- pending stores

goes : (e : Entry) (line : ℕ) → Decides (goes_to e line) ((is_pending e ≡ true) × (e.addr / 4 ≡ line))
goes e line =
    (λ h. let (p, q) = and_parts _ _ h in (p, (Decides-eqb (e.addr / 4) line).0 q), λ h. and_from _ _ h.0 ((Decides-eqb (e.addr / 4) line).1 h.1))

waits-to : (xs : List Entry) (i : ℕ) (e : Entry) → slice_get (pending xs) i ≡ Some e
    → (k : ℕ) × (k < length xs) × (slot_of xs k ≡ e) × (is_pending e ≡ true)
waits-to [] i e h = absurd cc
waits-to (x ∷ xs) i e h = go (is_pending x) refl (λ i h. waits-to xs i e h) i h
  where
    go : (b : Bool) → is_pending x ≡ b
        → ((i : ℕ) → slice_get (pending xs) i ≡ Some e → (k : ℕ) × (k < length xs) × (slot_of xs k ≡ e) × (is_pending e ≡ true)) → (i : ℕ)
        → slice_get (if b then x ∷ pending xs else pending xs) i ≡ Some e
        → (k : ℕ) × (k < length (x ∷ xs)) × (slot_of (x ∷ xs) k ≡ e) × (is_pending e ≡ true)
    go true p rest zero h = let same : x ≡ e = cc in (zero, omega arith, same, subst (λ (e : Entry). is_pending e ≡ true) same p)
    go true p rest (suc i) h = let (k, l, s, q) = rest i h in (suc k, omega (arith, l), s, q)
    go false p rest i h = let (k, l, s, q) = rest i h in (suc k, omega (arith, l), s, q)

waits-from : (xs : List Entry) (k : ℕ) → k < length xs → is_pending (slot_of xs k) ≡ true → (i : ℕ) × (slice_get (pending xs) i ≡ Some (slot_of xs k))
waits-from [] k l h = absurd (omega (arith, l))
waits-from (x ∷ xs) zero l h = go (is_pending x) h
  where
    go : (b : Bool) → b ≡ true → (i : ℕ) × (slice_get (if b then x ∷ pending xs else pending xs) i ≡ Some x)
    go true e = (zero, refl)
    go false e = absurd cc
waits-from (x ∷ xs) (suc k) l h = let (i, e) = waits-from xs k (omega (arith, l)) h in go (is_pending x) i e
  where
    go : (b : Bool) (i : ℕ) → slice_get (pending xs) i ≡ Some (slot_of xs k)
        → (i : ℕ) × (slice_get (if b then x ∷ pending xs else pending xs) i ≡ Some (slot_of xs k))
    go true i e = (suc i, e)
    go false i e = (i, e)

-- one of four slots
one_of_four : (f : ℕ → Bool) (k : ℕ) → k < 4 → f k ≡ true → (f 0 || f 1 || f 2 || f 3) ≡ true
one_of_four f zero l h = go (f 0) (f 1) (f 2) (f 3) h
  where
    go : (a b c d : Bool) → a ≡ true → (a || b || c || d) ≡ true
    go true b c d h = refl
    go false b c d h = absurd cc
one_of_four f (suc zero) l h = go (f 0) (f 1) (f 2) (f 3) h
  where
    go : (a b c d : Bool) → b ≡ true → (a || b || c || d) ≡ true
    go true b c d h = refl
    go false true c d h = refl
    go false false c d h = absurd cc
one_of_four f (suc (suc zero)) l h = go (f 0) (f 1) (f 2) (f 3) h
  where
    go : (a b c d : Bool) → c ≡ true → (a || b || c || d) ≡ true
    go true b c d h = refl
    go false true c d h = refl
    go false false true d h = refl
    go false false false d h = absurd cc
one_of_four f (suc (suc (suc zero))) l h = go (f 0) (f 1) (f 2) (f 3) h
  where
    go : (a b c d : Bool) → d ≡ true → (a || b || c || d) ≡ true
    go true b c d h = refl
    go false true c d h = refl
    go false false true d h = refl
    go false false false d h = h
one_of_four f (suc (suc (suc (suc k)))) l h = absurd (omega (arith, l))

some_of_four : (f : ℕ → Bool) → (f 0 || f 1 || f 2 || f 3) ≡ true → (k : ℕ) × (k < 4) × (f k ≡ true)
some_of_four f h = go (f 0) (f 1) (f 2) (f 3) refl refl refl refl h
  where
    go : (a b c d : Bool) → f 0 ≡ a → f 1 ≡ b → f 2 ≡ c → f 3 ≡ d → (a || b || c || d) ≡ true → (k : ℕ) × (k < 4) × (f k ≡ true)
    go true b c d p q r s h = (0, omega arith, p)
    go false true c d p q r s h = (1, omega arith, q)
    go false false true d p q r s h = (2, omega arith, r)
    go false false false true p q r s h = (3, omega arith, s)
    go false false false false p q r s h = absurd cc

-- ---- both

module _ (a : Moment) (table : Needs) (note : Note) (quiet : Bool) (known : IsKnown a table note quiet) (tags : Tables)
    (answers : (line : ℕ) → last_in tags.last line ≡ last_access line a.run.entries) (line : ℕ) where
  abbrev tests : ℕ → Bool
  tests i = option_map_or (accesses line) (slice_get a.run.entries i) false

  accessed-later : Decides (is_later (last_in tags.last line) (retired_by note)) (IsAccessedLater a line)
  accessed-later =
      let left : retired_by note ≡ retired a = retired-is a table note known.noted in
      rw (answers line) (
        λ h.
            let (i, l, u, p) = later-to (length a.run.entries) (retired_by note) tests h in
            let (entry, get, acc) = accesses-to line (slice_get a.run.entries i) p in
            (i, entry, omega (arith, left, l), get, acc),
        λ h.
            let (i, entry, l, get, acc) = h in
            later-from (length a.run.entries) (retired_by note) tests
            (i, omega (arith, left, l), entry_within a.run.entries i entry get, ap (λ o. option_map_or (accesses line) o false) get ∙ acc),
      )

  slots-four : length note.stores ≡ 4
  slots-four = let steady = state-steady a table known.told known.below in ap (λ (xs : List Entry). length xs) known.noted.stores ∙ steady.slots

  pending-line : Decides (is_pending_line note.stores line) (IsPendingLine a line)
  unfolding is_pending_line
  pending-line =
      subst (λ (stores : List Entry). Decides (is_pending_line note.stores line)
      ((i : ℕ) × (e : Entry) × (slice_get (pending stores) i ≡ Some e) × (e.addr / 4 ≡ line))) known.noted.stores (
        λ h.
            let (k, l, p) = some_of_four (λ k. goes_to (slot_of note.stores k) line) h in
            let g = (goes (slot_of note.stores k) line).0 p in
            let n = slots-four in
            let (i, get) = waits-from note.stores k (omega (arith, n, l)) g.0 in
            (i, slot_of note.stores k, get, g.1),
        λ h.
            let (i, e, get, to) = h in
            let n = slots-four in
            let (k, l, s, p) = waits-to note.stores i e get in
            one_of_four (λ k. goes_to (slot_of note.stores k) line) k (omega (arith, n, l))
            (subst (λ (e : Entry). goes_to e line ≡ true) (sym s) ((goes e line).1 (p, to))),
      )

  pub accessed-again : Decides (is_accessed_again tags note line) (IsAccessedAgain a line)
  unfolding is_accessed_again
  accessed-again = Decides-or (is_later (last_in tags.last line) (retired_by note)) (is_pending_line note.stores line) accessed-later pending-line
