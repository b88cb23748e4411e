-- What is added in a cycle of a kept run, and in those behind it that have its note.
use Rattle.std.proofs.Common.{◌≡◌, ℕ, ◌<◌, ◌≤◌, Bool, List, length, refl, sym, ap, subst, ◌∙◌, arith}
use Rattle.std.specs.Prelude.{Some, nat_le, slice_get}
use Rattle.bit_field.specs.Shapes.{bits_in}
use Rattle.bit_field.specs.declared.places.Structure.{Structure}
use Rattle.need_pass.specs.Tables.{Needs}
use Rattle.line_life.specs.Lives.{Lives}
use Rattle.tag_dist.specs.Tables.{Tables}
use Rattle.slot_history.specs.Histories.{Histories}
use Rattle.ace_rules.specs.Analyses.{IsAnalysis}
use Rattle.ace_rules.specs.Notes.{AreWordMasks, IsKnown, IsSomeMoment, Story, moment}
use Rattle.ace_rules.specs.Tallies.{HasClass, IsAdded}
use Rattle.ace_rules.specs.declared.note.Note.{Note}
use Rattle.ace_rules.proofs.KnownMoments.{known, masks}

-- a cycle that has a note is one of the run's
pub below-end : (now story : Story) → story ≡ now → (table : Needs) (notes deref : List Note) → deref ≡ notes → (words : List ℕ) (quiet : ℕ) (life : Lives)
    (tags : Tables) (slots : Histories) → IsAnalysis story table notes words quiet life tags slots → (t until : ℕ) → t < until → until ≤ length deref
    → t < now.r.cycles
below-end now story seen table notes deref same words quiet life tags slots kept t until below within =
    let count = kept.noted.cycles in
    let all : length deref ≡ length notes = ap length same in
    subst (λ (x : Story). t < x.r.cycles) seen (omega (arith, count, all, below, within))

module _ (story now : Story) (seen : story ≡ now) (table : Needs) (notes deref : List Note) (words : List ℕ) (quiet : ℕ) (life : Lives) (tags : Tables)
    (slots : Histories) (kept : IsAnalysis story table notes words quiet life tags slots) (t : ℕ) (below : t < now.r.cycles) (note : Note)
    (same : deref ≡ notes) (at : slice_get deref t ≡ Some note) where
  pub known-note : IsKnown (moment story t) table note (nat_le quiet t)
  known-note =
      known story table notes words quiet life tags slots kept story.r refl t note (subst (λ (x : Story). t < x.r.cycles) (sym seen) below)
      (subst (λ (ns : List Note). slice_get ns t ≡ Some note) same at)

  pub some-note : IsSomeMoment table note (nat_le quiet t)
  some-note = record { a = moment story t; known = known-note }

  -- in a later cycle that has the same note
  module _ (u : ℕ) (later : u < now.r.cycles) (still : slice_get deref u ≡ slice_get deref t) (as_quiet : nat_le quiet u ≡ nat_le quiet t) where
    pub still-known : IsKnown (moment story u) table note (nat_le quiet t)
    still-known =
        subst (λ (q : Bool). IsKnown (moment story u) table note q) as_quiet
        (known story table notes words quiet life tags slots kept story.r refl u note (subst (λ (x : Story). u < x.r.cycles) (sym seen) later)
        (subst (λ (ns : List Note). slice_get ns u ≡ Some note) same (still ∙ at)))

    pub still-masks : (deref_words : List ℕ) → deref_words ≡ words → AreWordMasks (moment story u) table deref_words
    still-masks deref_words same_words =
        subst (λ (ws : List ℕ). AreWordMasks (moment story u) table ws) (sym same_words)
        (masks story table notes words quiet life tags slots kept story.r refl u)

    pub added-still : (s given : Structure) → given ≡ s → (bits : ℕ) → bits ≡ bits_in s now.r.shape → (old row : List ℕ)
        → IsAdded (HasClass (moment story u) s) bits old row → IsAdded (HasClass (moment now u) given) (bits_in given now.r.shape) old row
    added-still s given is bits all old row added =
        rw (is, ← all) (subst (λ (x : Story). IsAdded (HasClass (moment x u) s) bits old row) seen added)
