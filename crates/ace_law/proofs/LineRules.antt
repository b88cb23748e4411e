-- Valid and dirty bits of clean lines, and the bits of lines that are not accessed again, are harmless.
use Rattle.std.proofs.Common.{◌≡◌, ◌*◌, ◌%◌, ◌<◌, ◌^◌, ◌⊎◌, ℕ, Bool, true, false, ◌||◌, refl, sym, ap, ◌∙◌, inl, inr, subst}
use Rattle.std.specs.Prelude.{bit_xor, ◌==◌}
use Rattle.std.proofs.lemmas.Bool.{eqb-true}
use Rattle.std.proofs.lemmas.Bool.Decides.{nat_tests}
use Rattle.std.proofs.Common.{arith}
use Rattle.bit_field.specs.Shapes.{IsPlaceIn, slots as slot_count, tag_bits}
use Rattle.bit_field.specs.declared.places.Structure.{Structure}
use Rattle.bit_field.specs.declared.places.Structure.TheVariants.{CTag, CValid, CDirty}
use Rattle.wb_cache.specs.Changes.{set_at}
use Rattle.wb_cache.specs.Contents.{slot_at}
use Rattle.wb_cache.specs.Lookup.{line_of}
use Rattle.wb_cache.proofs.Lines.{set_of_line, tag_of_line}
use Rattle.wb_cache.proofs.Sizes.{slot-split, tag_slot as slot_below}
use Rattle.cyc_machine.specs.Strikes.{flip_in}
use Rattle.clean_lines.specs.Struck.{IsCleanSlot, IsDirtySlot, near_line, tag_line, tag_slot}
use Rattle.need_pass.specs.Tables.{Needs}
use Rattle.flush_view.specs.RunFacts.{no_line}
use Rattle.run_record.specs.Verdict.{HasSame}
use Rattle.ace_law.specs.MemoryRules.{IsAccessedAgain, IsAccessedLater, IsCleanLineBit, IsUnaccessedBit, line_in}
use Rattle.ace_law.specs.Moments.{IsQuiet, IsTold, Moment, state}
use Rattle.ace_law.proofs.Alike.{IsLeftAlone}
use Rattle.ace_law.proofs.CacheFlips.{dirty-off, dirty-on, tag-spared, valid-off, valid-on}
use Rattle.ace_law.proofs.RecordedStates.{bit-in}
use Rattle.ace_law.proofs.Told.{state-machine, state-shape}
use Rattle.ace_law.proofs.SparedSame.{spared-same}

-- ---- sets of one line and of two

pub only : ℕ → ℕ → Bool
only l line = line == l

pub either : ℕ → ℕ → ℕ → Bool
either l m line = line == l || line == m

only-in : (l : ℕ) → only l l ≡ true
unfolding only
only-in l = grind (arith, nat_tests)

either-first : (l m : ℕ) → either l m l ≡ true
unfolding either
either-first l m = grind (arith, nat_tests)

either-second : (l m : ℕ) → either l m m ≡ true
unfolding either
either-second l m = grind (arith, nat_tests)

pub none-alone : (a : Moment) → IsLeftAlone a no_line
none-alone a line o later = absurd cc

only-alone : (a : Moment) (l : ℕ) → (IsAccessedAgain a l → ⊥) → IsLeftAlone a (only l)
unfolding only
only-alone a l not line o later = not (inl (subst (IsAccessedLater a) (eqb-true line l o) later))

either-is : (l m line : ℕ) → either l m line ≡ true → (line ≡ l) ⊎ (line ≡ m)
unfolding either
either-is l m line o = go (line == l) refl
  where
    go : (b : Bool) → (line == l) ≡ b → (line ≡ l) ⊎ (line ≡ m)
    go true e = inl (eqb-true line l e)
    go false e = inr (eqb-true line m (sym (ap (λ (b : Bool). b || line == m) e) ∙ o))

either-alone : (a : Moment) (l m : ℕ) → (IsAccessedAgain a l → ⊥) → (IsAccessedAgain a m → ⊥) → IsLeftAlone a (either l m)
either-alone a l m first second line o later = go (either-is l m line o)
  where
    go : (line ≡ l) ⊎ (line ≡ m) → ⊥
    go (inl e) = first (inl (subst (IsAccessedLater a) e later))
    go (inr e) = second (inl (subst (IsAccessedLater a) e later))

-- ---- the rules

pub clean-line-same : (a : Moment) (table : Needs) (s : Structure) (k : ℕ) → IsTold a.r a.run table → a.t < a.r.cycles
    → IsPlaceIn a.r.shape (record { structure = s; bit = k }) → IsQuiet a → IsCleanLineBit a s k → HasSame a.r a.t (flip_in s (state a) k)
clean-line-same a table CValid k told below place quiet clean =
    spared-same a table no_line (flip_in CValid (state a) k) told below quiet
    (valid-off a table no_line k told below quiet (bit-in a table told CValid k place) (none-alone a) place clean.valid (inl clean.clean))
clean-line-same a table CDirty k told below place quiet clean =
    spared-same a table no_line (flip_in CDirty (state a) k) told below quiet
    (dirty-on a table no_line k told below quiet (bit-in a table told CDirty k place) (none-alone a) place clean.clean)
clean-line-same a table _ k told below place quiet clean = absurd clean

-- the line of a slot by the state's shape and by the run's
pub line-as : (a : Moment) (table : Needs) (told : IsTold a.r a.run table) (l : ℕ) → line_of (state a).cache.shape (set_at (state a).cache.shape l) (slot_at (state a).cache l).tag ≡ line_in a l
line-as a table told l = ap (λ shape. line_of shape (set_at shape l) (slot_at (state a).cache l).tag) (state-shape a table told)

module _ (a : Moment) (table : Needs) (k : ℕ) (told : IsTold a.r a.run table) (below : a.t < a.r.cycles)
    (place : IsPlaceIn a.r.shape (record { structure = CTag; bit = k })) (quiet : IsQuiet a) where
  abbrev l : ℕ
  l = tag_slot (state a).cache k

  within : k < slot_count (state a).cache.shape * tag_bits (state a).cache.shape
  within = bit-in a table told CTag k place

  inside : l < slot_count (state a).cache.shape
  inside = slot_below (state a).cache.shape k (state-machine a table told below).cache.sized.shape within

  set-in : set_at (state a).cache.shape l < (state a).cache.shape.sets
  set-in = (slot-split (state a).cache.shape l (state-machine a table told below).cache.sized.shape inside).0

  near-as : near_line (state a).cache k
      ≡ line_of (state a).cache.shape (set_at (state a).cache.shape l)
      (bit_xor (slot_at (state a).cache l).tag (2 ^ (k % tag_bits (state a).cache.shape)))
  near-as = rw (
    set_of_line (state a).cache.shape.sets (set_at (state a).cache.shape l) (slot_at (state a).cache l).tag set-in,
    tag_of_line (state a).cache.shape.sets (set_at (state a).cache.shape l) (slot_at (state a).cache l).tag set-in,
  ) refl

  pub clean-tag-same : IsCleanSlot (state a).cache l → (IsAccessedAgain a (near_line (state a).cache k) → ⊥)
      → HasSame a.r a.t (flip_in CTag (state a) k)
  clean-tag-same clean near =
      spared-same a table (only (near_line (state a).cache k)) (flip_in CTag (state a) k) told below quiet
      (tag-spared a table (only (near_line (state a).cache k)) l told below quiet inside (only-alone a (near_line (state a).cache k) near) k place within refl
      (ap (only (near_line (state a).cache k)) (sym near-as) ∙ only-in (near_line (state a).cache k)) (inl clean.clean))

  pub dirty-tag-same : IsDirtySlot (state a).cache l → (IsAccessedAgain a (tag_line (state a).cache k) → ⊥)
      → (IsAccessedAgain a (near_line (state a).cache k) → ⊥) → HasSame a.r a.t (flip_in CTag (state a) k)
  dirty-tag-same dirty own near =
      let out : ℕ → Bool = either (tag_line (state a).cache k) (near_line (state a).cache k) in
      spared-same a table out (flip_in CTag (state a) k) told below quiet
      (tag-spared a table out l told below quiet inside (either-alone a (tag_line (state a).cache k) (near_line (state a).cache k) own near) k place within refl
      (ap out (sym near-as) ∙ either-second (tag_line (state a).cache k) (near_line (state a).cache k))
      (inr (either-first (tag_line (state a).cache k) (near_line (state a).cache k))))

pub unaccessed-same : (a : Moment) (table : Needs) (s : Structure) (k : ℕ) → IsTold a.r a.run table → a.t < a.r.cycles
    → IsPlaceIn a.r.shape (record { structure = s; bit = k }) → IsQuiet a → IsUnaccessedBit a s k → HasSame a.r a.t (flip_in s (state a) k)
unaccessed-same a table CTag k told below place quiet (inl is) = clean-tag-same a table k told below place quiet is.0 is.1
unaccessed-same a table CTag k told below place quiet (inr is) = dirty-tag-same a table k told below place quiet is.0 is.1 is.2
unaccessed-same a table CValid k told below place quiet (inl off, not) =
    spared-same a table (only (line_in a k)) (flip_in CValid (state a) k) told below quiet
    (valid-on a table (only (line_in a k)) k told below quiet (bit-in a table told CValid k place) (only-alone a (line_in a k) not) place off
    (ap (only (line_in a k)) (line-as a table told k) ∙ only-in (line_in a k)))
unaccessed-same a table CValid k told below place quiet (inr dirty, not) =
    spared-same a table (only (line_in a k)) (flip_in CValid (state a) k) told below quiet
    (valid-off a table (only (line_in a k)) k told below quiet (bit-in a table told CValid k place) (only-alone a (line_in a k) not) place dirty.valid
    (inr (ap (only (line_in a k)) (line-as a table told k) ∙ only-in (line_in a k))))
unaccessed-same a table CDirty k told below place quiet is =
    spared-same a table (only (line_in a k)) (flip_in CDirty (state a) k) told below quiet
    (dirty-off a table (only (line_in a k)) k told below quiet (bit-in a table told CDirty k place) (only-alone a (line_in a k) is.1) place is.0.dirty
    (ap (only (line_in a k)) (line-as a table told k) ∙ only-in (line_in a k)))
unaccessed-same a table _ k told below place quiet is = absurd is
