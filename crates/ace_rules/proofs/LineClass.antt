-- The classes of the valid and dirty bits of line slots.
use Rattle.std.proofs.Common.{◌≡◌, ◌<◌, ◌&&◌, ℕ, Bool, true, false, not, Decides, arith, refl, subst, ap, ◌∙◌, inl, inr, if◌then◌else◌}
use Rattle.std.proofs.lemmas.Bool.Decides.{Decides-and, Decides-like, Decides-not}
use Rattle.bit_field.specs.Shapes.{slots as slot_count}
use Rattle.bit_field.specs.declared.places.Place.{Place}
use Rattle.bit_field.specs.declared.places.Structure.{Structure}
use Rattle.bit_field.specs.declared.places.Structure.TheVariants.{CDirty, CValid}
use Rattle.bit_field.specs.declared.shapes.Shape.{Shape}
use Rattle.need_pass.specs.Tables.{Needs}
use Rattle.wb_cache.specs.Changes.{set_at}
use Rattle.wb_cache.specs.Contents.{slot_at}
use Rattle.wb_cache.specs.Lookup.{line_of}
use Rattle.cyc_machine.specs.EventsLaw.{IsHeld}
use Rattle.slot_history.specs.HeldBefore.{told}
use Rattle.slot_history.specs.declared.changes.Held.{Held}
use Rattle.slot_history.specs.declared.changes.Held.TheVariants.{Vacant, Clean, Dirty}
use Rattle.tag_dist.specs.Tables.{Tables}
use Rattle.ace_class.specs.Classes.{number_of}
use Rattle.ace_class.specs.declared.class.Class.TheVariants.{Ace, UnAce}
use Rattle.ace_class.specs.declared.class.Rule.{Rule}
use Rattle.ace_class.specs.declared.class.Rule.TheVariants.{Timing, EmptyPlace, WrongPath, OnPath, Masked, DeadRegister, DeadData, StoreRedirection}
use Rattle.ace_class.specs.declared.class.Rule.TheVariants.{CleanData, CleanLine, UnaccessedLine, CleanTag, NoTrapCause}
use Rattle.ace_law.specs.Classes.{Holds, IsClass}
use Rattle.ace_law.specs.MemoryRules.{IsAccessedAgain, IsCleanLineBit, IsUnaccessedBit, line_in}
use Rattle.ace_law.specs.Moments.{IsQuiet, Moment, state}
use Rattle.ace_law.specs.PipelineRules.{IsEmptyPlaceBit}
use Rattle.ace_law.proofs.Told.{state-shape}
use Rattle.ace_rules.specs.Asked.{clean_line, dirty_class, is_accessed_again, unaccessed, valid_class}
use Rattle.ace_rules.specs.Lines.{AreTablesOf}
use Rattle.ace_rules.specs.Notes.{IsKnown}
use Rattle.ace_rules.specs.declared.note.Note.{Note}
use Rattle.slot_history.specs.Histories.{Histories, held_in}
use Rattle.ace_rules.proofs.HeldLines.{held-at}
use Rattle.ace_rules.proofs.AccessedAgain.{accessed-again}
use Rattle.ace_rules.proofs.PendingClass.{number-below}
use Rattle.ace_rules.proofs.VacantSlots.{vacant-tag}

-- ---- the rules that speak of these bits

module _ (a : Moment) (k : ℕ) where
  abbrev at : Structure → Place
  at s = record { structure = s; bit = k }

  valid-earlier : (n : ℕ) → (10 < n → IsQuiet a × IsCleanLineBit a CValid k → ⊥) → (11 < n → IsQuiet a × IsUnaccessedBit a CValid k → ⊥)
      → (rule : Rule) → number_of rule < n → Holds rule a (at CValid) → ⊥
  valid-earlier n c u Timing l h = h.1
  valid-earlier n c u EmptyPlace l h = h
  valid-earlier n c u WrongPath l h = h.1
  valid-earlier n c u OnPath l h = h.1
  valid-earlier n c u Masked l h = h.1
  valid-earlier n c u DeadRegister l h = h.1
  valid-earlier n c u DeadData l h = h.1
  valid-earlier n c u StoreRedirection l h = h.1
  valid-earlier n c u CleanData l h = h
  valid-earlier n c u CleanLine l h = c l h
  valid-earlier n c u UnaccessedLine l h = u l h
  valid-earlier n c u CleanTag l h = h
  valid-earlier n c u NoTrapCause l h = h

  valid-judged : (c u : Bool) → Decides c (IsQuiet a × IsCleanLineBit a CValid k) → Decides u (IsQuiet a × IsUnaccessedBit a CValid k)
      → IsClass (if c then UnAce CleanLine else if u then UnAce UnaccessedLine else Ace) a (at CValid)
  valid-judged true u is-c is-u =
      (is-c.0 refl, valid-earlier 10 (λ l. absurd (omega (arith, l))) (λ l. absurd (omega (arith, l))))
  valid-judged false true is-c is-u =
      (is-u.0 refl, valid-earlier 11 (λ l h. let t = is-c.1 h in absurd cc) (λ l. absurd (omega (arith, l))))
  valid-judged false false is-c is-u =
      λ rule. valid-earlier 14 (λ l h. let t = is-c.1 h in absurd cc) (λ l h. let t = is-u.1 h in absurd cc) rule (number-below rule)

  dirty-earlier : (n : ℕ) → (2 < n → IsEmptyPlaceBit a CDirty k → ⊥) → (10 < n → IsQuiet a × IsCleanLineBit a CDirty k → ⊥)
      → (11 < n → IsQuiet a × IsUnaccessedBit a CDirty k → ⊥) → (rule : Rule) → number_of rule < n → Holds rule a (at CDirty) → ⊥
  dirty-earlier n e c u Timing l h = h.1
  dirty-earlier n e c u EmptyPlace l h = e l h
  dirty-earlier n e c u WrongPath l h = h.1
  dirty-earlier n e c u OnPath l h = h.1
  dirty-earlier n e c u Masked l h = h.1
  dirty-earlier n e c u DeadRegister l h = h.1
  dirty-earlier n e c u DeadData l h = h.1
  dirty-earlier n e c u StoreRedirection l h = h.1
  dirty-earlier n e c u CleanData l h = h
  dirty-earlier n e c u CleanLine l h = c l h
  dirty-earlier n e c u UnaccessedLine l h = u l h
  dirty-earlier n e c u CleanTag l h = h
  dirty-earlier n e c u NoTrapCause l h = h

  dirty-judged : (e c u : Bool) → Decides e (IsEmptyPlaceBit a CDirty k) → Decides c (IsQuiet a × IsCleanLineBit a CDirty k)
      → Decides u (IsQuiet a × IsUnaccessedBit a CDirty k)
      → IsClass (if e then UnAce EmptyPlace else if c then UnAce CleanLine else if u then UnAce UnaccessedLine else Ace) a (at CDirty)
  dirty-judged true c u is-e is-c is-u =
      (is-e.0 refl, dirty-earlier 2 (λ l. absurd (omega (arith, l))) (λ l. absurd (omega (arith, l))) (λ l. absurd (omega (arith, l))))
  dirty-judged false true u is-e is-c is-u =
      (is-c.0 refl, dirty-earlier 10 (λ l h. let t = is-e.1 h in absurd cc) (λ l. absurd (omega (arith, l))) (λ l. absurd (omega (arith, l))))
  dirty-judged false false true is-e is-c is-u =
      (is-u.0 refl, dirty-earlier 11 (λ l h. let t = is-e.1 h in absurd cc) (λ l h. let t = is-c.1 h in absurd cc) (λ l. absurd (omega (arith, l))))
  dirty-judged false false false is-e is-c is-u =
      λ rule. dirty-earlier 14 (λ l h. let t = is-e.1 h in absurd cc) (λ l h. let t = is-c.1 h in absurd cc) (λ l h. let t = is-u.1 h in absurd cc)
      rule (number-below rule)

-- ---- what is asked

pub none : {P : Type 0} → (P → ⊥) → Decides false P
none n = (λ e. absurd cc, λ p. absurd (n p))

pub all : {P : Type 0} → P → Decides true P
all p = (λ e. p, λ q. refl)

module _ (a : Moment) (table : Needs) (note : Note) (quiet : Bool) (known : IsKnown a table note quiet) (shape : Shape) (same : shape ≡ a.r.shape)
    (tags : Tables) (again : (line : ℕ) → Decides (is_accessed_again tags note line) (IsAccessedAgain a line)) where
  unaccessed-decides : (line : ℕ) → Decides (quiet && not (is_accessed_again tags note line)) (IsQuiet a × (IsAccessedAgain a line → ⊥))
  unaccessed-decides line = Decides-and quiet (not (is_accessed_again tags note line)) known.silent (Decides-not
      (is_accessed_again tags note line) (again line))

  -- the line of what a slot holds
  held-line : (l line : ℕ) → line ≡ line_of (state a).cache.shape (set_at (state a).cache.shape l) (slot_at (state a).cache l).tag
      → line ≡ line_in a l
  held-line l line e =
      e ∙ ap (λ (sh : Shape). line_of sh (set_at sh l) (slot_at (state a).cache l).tag) (state-shape a table known.told)

  vacant-line : (l : ℕ) → l < slot_count a.r.shape → (slot_at (state a).cache l).valid ≡ false → set_at shape l ≡ line_in a l
  vacant-line l below h =
      let tag = vacant-tag a table known.told l below h in
      rw (tag, same) (omega arith)

  not-again : (l line : ℕ) → line ≡ line_in a l → Decides (quiet && not (is_accessed_again tags note line)) (IsQuiet a × (IsAccessedAgain a
      (line_in a l) → ⊥))
  not-again l line e =
      subst (λ n. Decides (quiet && not (is_accessed_again tags note line)) (IsQuiet a × (IsAccessedAgain a n → ⊥))) e (unaccessed-decides line)

  pub valid-class : (l : ℕ) (held : Held) → l < slot_count a.r.shape → IsHeld (state a).cache l (told held)
      → IsClass (valid_class tags note quiet shape l held) a (record { structure = CValid; bit = l })
  unfolding valid_class unaccessed clean_line
  valid-class l Vacant below h =
      valid-judged a l false (quiet && not (is_accessed_again tags note (set_at shape l)))
      (none (λ c. let v = c.1.valid in absurd cc))
      (Decides-like (quiet && not (is_accessed_again tags note (set_at shape l))) (λ d. (d.0, (inl h, d.1))) (λ d. (d.0, d.1.1))
      (not-again l (set_at shape l) (vacant-line l below h)))
  valid-class l (Clean line) below (v, d, e) =
      valid-judged a l quiet false
      (λ q. (known.silent.0 q, record { valid = v; clean = d }), λ c. known.silent.1 c.0)
      (none (λ u. elim u.1.0 [ inl w ↦ absurd cc | inr w ↦ (let x = w.dirty in absurd cc) ]))
  valid-class l (Dirty line) below (v, d, e) =
      valid-judged a l false (quiet && not (is_accessed_again tags note line))
      (none (λ c. let x = c.1.clean in absurd cc))
      (Decides-like (quiet && not (is_accessed_again tags note line)) (λ g. (g.0, (inr (record { valid = v; dirty = d }), g.1))) (λ g. (g.0, g.1.1))
      (not-again l line (held-line l line e)))

  pub dirty-class : (l : ℕ) (held : Held) → l < slot_count a.r.shape → IsHeld (state a).cache l (told held)
      → IsClass (dirty_class tags note quiet held) a (record { structure = CDirty; bit = l })
  unfolding dirty_class unaccessed clean_line
  dirty-class l Vacant below h =
      dirty-judged a l true false false (all h) (none (λ c. let v = c.1.valid in absurd cc)) (none (λ u. let v = u.1.0.valid in absurd cc))
  dirty-class l (Clean line) below (v, d, e) =
      dirty-judged a l false quiet false (none (λ w. absurd cc))
      (λ q. (known.silent.0 q, record { valid = v; clean = d }), λ c. known.silent.1 c.0)
      (none (λ u. let x = u.1.0.dirty in absurd cc))
  dirty-class l (Dirty line) below (v, d, e) =
      dirty-judged a l false false (quiet && not (is_accessed_again tags note line)) (none (λ w. absurd cc))
      (none (λ c. let x = c.1.clean in absurd cc))
      (Decides-like (quiet && not (is_accessed_again tags note line)) (λ g. (g.0, (record { valid = v; dirty = d }, g.1))) (λ g. (g.0, g.1.1))
      (not-again l line (held-line l line e)))

-- as the code asks it
module _ (a : Moment) (table : Needs) (note : Note) (quiet : Bool) (known : IsKnown a table note quiet) (shape : Shape) (tags : Tables)
    (slots : Histories)
    (cycle : ℕ) (tables : AreTablesOf a shape tags slots cycle) (l : ℕ) (within : l < slot_count shape) where
  here : l < slot_count a.r.shape
  here = subst (λ (sh : Shape). l < slot_count sh) tables.shape within

  pub valid-class-at : IsClass (valid_class tags note quiet shape l (held_in slots l cycle)) a (record { structure = CValid; bit = l })
  valid-class-at =
      valid-class a table note quiet known shape tables.shape tags (λ line. accessed-again a table note quiet known tags tables.tags.accesses line)
      l (held_in slots l cycle) here (held-at a table known.told known.below shape tags slots cycle tables l within)

  pub dirty-class-at : IsClass (dirty_class tags note quiet (held_in slots l cycle)) a (record { structure = CDirty; bit = l })
  dirty-class-at =
      dirty-class a table note quiet known shape tables.shape tags (λ line. accessed-again a table note quiet known tags tables.tags.accesses line)
      l (held_in slots l cycle) here (held-at a table known.told known.below shape tags slots cycle tables l within)
