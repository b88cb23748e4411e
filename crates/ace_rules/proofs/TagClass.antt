-- The classes of the bits of line slots' tags.
use Rattle.std.proofs.Common.{◌≡◌, ◌*◌, ◌/◌, ◌%◌, ◌<◌, ◌&&◌, ℕ, Bool, true, false, not, Decides, arith, refl, sym, subst, ap, ◌∙◌, inl, inr}
use Rattle.std.proofs.Common.{if◌then◌else◌}
use Rattle.std.proofs.lemmas.Bool.Decides.{Decides-and, Decides-like, Decides-not}
use Rattle.bit_field.specs.Shapes.{IsShape, slots as slot_count, tag_bits}
use Rattle.bit_field.specs.declared.places.Place.{Place}
use Rattle.bit_field.specs.declared.places.Structure.TheVariants.{CTag}
use Rattle.bit_field.specs.declared.shapes.Shape.{Shape}
use Rattle.need_pass.specs.Tables.{Needs}
use Rattle.wb_cache.specs.Contents.{Contents, slot_at}
use Rattle.cyc_machine.specs.EventsLaw.{IsHeld}
use Rattle.wb_cache.proofs.Sizes.{tag_slot as slot_below}
use Rattle.clean_lines.specs.Struck.{IsCleanSlot, IsDirtySlot, near_line, tag_line, tag_slot}
use Rattle.slot_history.specs.HeldBefore.{told}
use Rattle.slot_history.specs.declared.changes.Held.{Held}
use Rattle.slot_history.specs.declared.changes.Held.TheVariants.{Vacant, Clean, Dirty}
use Rattle.tag_dist.specs.Tables.{Tables, looked_up_in}
use Rattle.ace_class.specs.Classes.{number_of}
use Rattle.ace_class.specs.declared.class.Class.TheVariants.{Ace, UnAce}
use Rattle.ace_class.specs.declared.class.Rule.{Rule}
use Rattle.ace_class.specs.declared.class.Rule.TheVariants.{Timing, EmptyPlace, WrongPath, OnPath, Masked, DeadRegister, DeadData, StoreRedirection}
use Rattle.ace_class.specs.declared.class.Rule.TheVariants.{CleanData, CleanLine, UnaccessedLine, CleanTag, NoTrapCause}
use Rattle.ace_law.specs.Classes.{Holds, IsClass}
use Rattle.ace_law.specs.MemoryRules.{IsAccessedAgain, IsUnaccessedBit, IsUnconfusedTagBit, IsUnseen}
use Rattle.ace_law.specs.Moments.{IsQuiet, Moment, state}
use Rattle.ace_law.specs.PipelineRules.{IsEmptyPlaceBit}
use Rattle.ace_law.proofs.Told.{state-shape}
use Rattle.ace_rules.specs.Asked.{clean_tag, dirty_tag, is_accessed_again, is_unlooked, tag_class}
use Rattle.ace_rules.specs.Lines.{AreTablesOf}
use Rattle.ace_rules.specs.Notes.{IsKnown}
use Rattle.ace_rules.specs.declared.note.Note.{Note}
use Rattle.event_log.specs.Lookups.{distance_one, looked_up}
use Rattle.slot_history.specs.Histories.{Histories, held_in}
use Rattle.ace_rules.proofs.HeldLines.{held-at}
use Rattle.ace_rules.proofs.LineClass.{all, none}
use Rattle.ace_rules.proofs.AccessedAgain.{accessed-again}
use Rattle.ace_rules.proofs.PendingClass.{number-below}
use Rattle.ace_rules.proofs.PendingTests.{is-not}

-- ---- the rules that speak of tag bits

module _ (a : Moment) (k : ℕ) where
  abbrev at : Place
  at = record { structure = CTag; bit = k }

  tag-earlier : (n : ℕ) → (2 < n → IsEmptyPlaceBit a CTag k → ⊥) → (11 < n → IsQuiet a × IsUnaccessedBit a CTag k → ⊥)
      → (12 < n → IsUnconfusedTagBit a CTag k → ⊥) → (rule : Rule) → number_of rule < n → Holds rule a at → ⊥
  tag-earlier n e u c Timing l h = h.1
  tag-earlier n e u c EmptyPlace l h = e l h
  tag-earlier n e u c WrongPath l h = h.1
  tag-earlier n e u c OnPath l h = h.1
  tag-earlier n e u c Masked l h = h.1
  tag-earlier n e u c DeadRegister l h = h.1
  tag-earlier n e u c DeadData l h = h.1
  tag-earlier n e u c StoreRedirection l h = h.1
  tag-earlier n e u c CleanData l h = h
  tag-earlier n e u c CleanLine l h = h.1
  tag-earlier n e u c UnaccessedLine l h = u l h
  tag-earlier n e u c CleanTag l h = c l h
  tag-earlier n e u c NoTrapCause l h = h

  tag-judged : (e u c : Bool) → Decides e (IsEmptyPlaceBit a CTag k) → Decides u (IsQuiet a × IsUnaccessedBit a CTag k)
      → Decides c (IsUnconfusedTagBit a CTag k)
      → IsClass (if e then UnAce EmptyPlace else if u then UnAce UnaccessedLine else if c then UnAce CleanTag else Ace) a at
  tag-judged true u c is-e is-u is-c =
      (is-e.0 refl, tag-earlier 2 (λ l. absurd (omega (arith, l))) (λ l. absurd (omega (arith, l))) (λ l. absurd (omega (arith, l))))
  tag-judged false true c is-e is-u is-c =
      (is-u.0 refl, tag-earlier 11 (λ l h. let t = is-e.1 h in absurd cc) (λ l. absurd (omega (arith, l))) (λ l. absurd (omega (arith, l))))
  tag-judged false false true is-e is-u is-c =
      (is-c.0 refl, tag-earlier 12 (λ l h. let t = is-e.1 h in absurd cc) (λ l h. let t = is-u.1 h in absurd cc) (λ l. absurd (omega (arith, l))))
  tag-judged false false false is-e is-u is-c =
      λ rule. tag-earlier 14 (λ l h. let t = is-e.1 h in absurd cc) (λ l h. let t = is-u.1 h in absurd cc) (λ l h. let t = is-c.1 h in absurd cc)
      rule (number-below rule)

-- ---- what is asked

module _ (a : Moment) (table : Needs) (note : Note) (quiet : Bool) (known : IsKnown a table note quiet) (shape : Shape) (same : shape ≡ a.r.shape)
    (tags : Tables) (again : (line : ℕ) → Decides (is_accessed_again tags note line) (IsAccessedAgain a line)) (k : ℕ)
    (lookups : (line : ℕ) → looked_up_in tags (k / tag_bits shape) line a.t ≡ looked_up a.r.shape (k / tag_bits shape) line a.t a.r.events) where
  abbrev cache : Contents
  cache = (state a).cache

  shape-is : cache.shape ≡ shape
  shape-is = state-shape a table known.told ∙ sym same

  slot-is : k / tag_bits shape ≡ tag_slot cache k
  slot-is = ap (λ (sh : Shape). k / tag_bits sh) (sym shape-is)

  -- the line at distance one from the slot's
  near-is : (line : ℕ) → line ≡ tag_line cache k → distance_one shape line (k % tag_bits shape) ≡ near_line cache k
  near-is line e =
      ap (λ (n : ℕ). distance_one shape n (k % tag_bits shape)) e
      ∙ ap (λ (sh : Shape). distance_one sh (tag_line cache k) (k % tag_bits sh)) (sym shape-is)

  not-again : (line n : ℕ) → line ≡ n → Decides (not (is_accessed_again tags note line)) (IsAccessedAgain a n → ⊥)
  not-again line n e =
      subst (λ n. Decides (not (is_accessed_again tags note line)) (IsAccessedAgain a n → ⊥)) e (Decides-not (is_accessed_again tags note line)
      (again line))

  unseen : (line n : ℕ) → line ≡ n → Decides (not (looked_up_in tags (k / tag_bits shape) line a.t)) (IsUnseen a (tag_slot cache k) n)
  unseen line n e =
      let there : looked_up_in tags (k / tag_bits shape) line a.t ≡ looked_up a.r.shape (tag_slot cache k) n a.t a.r.events =
      lookups line ∙ ap (λ (m : ℕ). looked_up a.r.shape (k / tag_bits shape) m a.t a.r.events) e
      ∙ ap (λ (l : ℕ). looked_up a.r.shape l n a.t a.r.events) slot-is in
      Decides-like (not (looked_up_in tags (k / tag_bits shape) line a.t)) (λ h. sym there ∙ h) (λ h. there ∙ h)
      (is-not (looked_up_in tags (k / tag_bits shape) line a.t))

  empty-is : (b : Bool) → (slot_at cache (tag_slot cache k)).valid ≡ b → (slot_at cache (k / tag_bits a.r.shape)).valid ≡ b
  empty-is b h = subst (λ (l : ℕ). (slot_at cache l).valid ≡ b) (sym slot-is ∙ ap (λ (sh : Shape). k / tag_bits sh) same) h

  class-by : (held : Held) → IsHeld cache (tag_slot cache k) (told held)
      → IsClass (tag_class tags note quiet shape a.t (k / tag_bits shape) (k % tag_bits shape) held) a (record { structure = CTag; bit = k })
  unfolding tag_class clean_tag dirty_tag
  class-by Vacant h =
      tag-judged a k true false false (all (empty-is false h))
      (none (λ u. elim u.1 [ inl x ↦ (let v = x.0.valid in absurd cc) | inr x ↦ (let v = x.0.valid in absurd cc) ]))
      (none (λ c. let v = c.0.valid in absurd cc))
  class-by (Clean line) (v, d, e) =
      let near : ℕ = distance_one shape line (k % tag_bits shape) in
      let clean : IsCleanSlot cache (tag_slot cache k) = record { valid = v; clean = d } in
      tag-judged a k false (quiet && not (is_accessed_again tags note near)) (is_unlooked tags a.t (k / tag_bits shape) line near)
      (none (λ w. let x = empty-is true v in absurd cc))
      (Decides-like (quiet && not (is_accessed_again tags note near)) (λ g. (g.0, inl (clean, g.1)))
      (λ g. (g.0, elim g.1 [ inl x ↦ x.1 | inr x ↦ (let w = x.0.dirty in absurd cc) ]))
      (Decides-and quiet (not (is_accessed_again tags note near)) known.silent (not-again near (near_line cache k) (near-is line e))))
      (Decides-like (is_unlooked tags a.t (k / tag_bits shape) line near) (λ g. (clean, g.0, g.1)) (λ g. (g.1, g.2))
      (Decides-and (not (looked_up_in tags (k / tag_bits shape) line a.t)) (not (looked_up_in tags (k / tag_bits shape) near a.t))
      (unseen line (tag_line cache k) e) (unseen near (near_line cache k) (near-is line e))))
  class-by (Dirty line) (v, d, e) =
      let near : ℕ = distance_one shape line (k % tag_bits shape) in
      let dirty : IsDirtySlot cache (tag_slot cache k) = record { valid = v; dirty = d } in
      let both : Bool = not (is_accessed_again tags note line) && not (is_accessed_again tags note near) in
      tag-judged a k false (quiet && both) false
      (none (λ w. let x = empty-is true v in absurd cc))
      (Decides-like (quiet && both) (λ g. (g.0, inr (dirty, g.1.0, g.1.1)))
      (λ g. (g.0, elim g.1 [ inl x ↦ (let w = x.0.clean in absurd cc) | inr x ↦ (x.1, x.2) ]))
      (Decides-and quiet both known.silent (Decides-and (not (is_accessed_again tags note line)) (not (is_accessed_again tags note near))
      (not-again line (tag_line cache k) e) (not-again near (near_line cache k) (near-is line e)))))
      (none (λ c. let w = c.0.clean in absurd cc))

  pub tag-class : (held : Held) → IsHeld cache (k / tag_bits shape) (told held)
      → IsClass (tag_class tags note quiet shape a.t (k / tag_bits shape) (k % tag_bits shape) held) a (record { structure = CTag; bit = k })
  tag-class held h = class-by held (subst (λ (l : ℕ). IsHeld cache l (told held)) slot-is h)

-- as the code asks it
pub tag-class-at : (a : Moment) (table : Needs) (note : Note) (quiet : Bool) → IsKnown a table note quiet
    → (shape : Shape) (tags : Tables) (slots : Histories)
    (cycle : ℕ) → AreTablesOf a shape tags slots cycle → (k : ℕ) → k < slot_count shape * tag_bits shape
    → IsClass (tag_class tags note quiet shape cycle (k / tag_bits shape) (k % tag_bits shape) (held_in slots (k / tag_bits shape) cycle)) a
    (record { structure = CTag; bit = k })
tag-class-at a table note quiet known shape tags slots cycle tables k within =
    let fits : IsShape shape = subst IsShape (sym tables.shape) known.told.recorded.fits in
    let there : k / tag_bits shape < slot_count shape = slot_below shape k fits within in
    let here : k / tag_bits shape < slot_count a.r.shape = subst (λ (sh : Shape). k / tag_bits shape < slot_count sh) tables.shape there in
    subst (λ (t : ℕ). IsClass (tag_class tags note quiet shape t (k / tag_bits shape) (k % tag_bits shape) (held_in slots
    (k / tag_bits shape) cycle)) a
    (record { structure = CTag; bit = k })) tables.cycle
    (tag-class a table note quiet known shape tables.shape tags (λ line. accessed-again a table note quiet known tags tables.tags.accesses line) k
    (λ line. tables.tags.lookups (k / tag_bits shape) line a.t here) (held_in slots (k / tag_bits shape) cycle)
    (held-at a table known.told known.below shape tags slots cycle tables (k / tag_bits shape) there))
