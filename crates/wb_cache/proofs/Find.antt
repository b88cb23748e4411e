-- The first number below a bound that passes a test.
use Rattle.std.proofs.Common.{◌≡◌, ◌⊎◌, ℕ, zero, suc, ◌+◌, ◌<◌, Bool, true, false, arith, refl, ap, ◌∙◌, inl, inr, add-one}
use Rattle.std.specs.Prelude.{Option, Some, None}
use Rattle.std.proofs.lemmas.Bool.{cases_eq}
use Rattle.wb_cache.specs.Lookup.{first_below, or_at}

pub first_below-start : (test : ℕ → Bool) → first_below 0 test ≡ None
unfolding first_below
first_below-start test = refl

-- the bound moves on past a number that fails
pub first_below-on : (w : ℕ) (test : ℕ → Bool) → first_below w test ≡ None → test w ≡ false → first_below (w + 1) test ≡ None
unfolding first_below
first_below-on w test h e = rw add-one (rw (h, e))

-- and keeps what was found
pub first_below-keeps : (n w : ℕ) (test : ℕ → Bool) → first_below n test ≡ Some w → first_below (suc n) test ≡ Some w
unfolding first_below
first_below-keeps n w test h = rw h

-- found at w, found below any greater bound
pub first_below-found : (n w : ℕ) (test : ℕ → Bool) → w < n → first_below w test ≡ None → test w ≡ true → first_below n test ≡ Some w
unfolding first_below
first_below-found zero w test l h e = absurd (omega arith)
first_below-found (suc n) w test l h e =
    elim (cases_eq n w) [
      | inl q ↦ rw q (rw (h, e))
      | inr m ↦ first_below-keeps n w test (first_below-found n w test (omega arith) h e)
    ]

pub ruleset finds = (first_below-start, first_below-on, first_below-found)

pub first_below-same : (n : ℕ) (test other : ℕ → Bool) → ((k : ℕ) → k < n → test k ≡ other k) → first_below n test ≡ first_below n other
unfolding first_below
first_below-same zero test other same = refl
first_below-same (suc n) test other same = rw (first_below-same n test other (λ k l. same k (omega arith)), same n (omega arith))

-- it passes, it is below the bound, and no lesser one passes
pub record IsFirst (n : ℕ) (test : ℕ → Bool) (w : ℕ) : Type 0 where
  pub below : w < n
  pub passes : test w ≡ true
  pub first : (k : ℕ) → k < w → test k ≡ false

none_before : (n : ℕ) (test : ℕ → Bool) (found : Option ℕ) (b : Bool) → first_below n test ≡ found → test n ≡ b → or_at found b n ≡ None
    → (found ≡ None) × (b ≡ false)
none_before n test (Some w) b h e m = absurd cc
none_before n test None true h e m = absurd cc
none_before n test None false h e m = (refl, refl)

pub first_below-none : (n : ℕ) (test : ℕ → Bool) → first_below n test ≡ None → (k : ℕ) → k < n → test k ≡ false
unfolding first_below
first_below-none zero test h k l = absurd (omega arith)
first_below-none (suc n) test h k l =
    let before = none_before n test (first_below n test) (test n) refl refl h in
    elim (cases_eq k n) [ inl q ↦ ap test q ∙ before.1 | inr ne ↦ first_below-none n test before.0 k (omega arith) ]

-- none passes, so none is found
pub first_below-nothing : (n : ℕ) (test : ℕ → Bool) → ((k : ℕ) → k < n → test k ≡ false) → first_below n test ≡ None
unfolding first_below
first_below-nothing zero test fails = refl
first_below-nothing (suc n) test fails = rw (first_below-nothing n test (λ k l. fails k (omega arith)), fails n (omega arith))

pub first_below-is : (n w : ℕ) (test : ℕ → Bool) → IsFirst n test w → first_below n test ≡ Some w
first_below-is n w test first = first_below-found n w test first.below (first_below-nothing w test first.first) first.passes

some_before : (n w : ℕ) (test : ℕ → Bool) (found : Option ℕ) (b : Bool) → first_below n test ≡ found → test n ≡ b → or_at found b n ≡ Some w
    → (first_below n test ≡ Some w) ⊎ ((w ≡ n) × (first_below n test ≡ None) × (test n ≡ true))
some_before n w test (Some v) b h e m = inl (h ∙ m)
some_before n w test None true h e m = inr (cc, h, e)
some_before n w test None false h e m = absurd cc

pub first_below-some : (n w : ℕ) (test : ℕ → Bool) → first_below n test ≡ Some w → IsFirst n test w
unfolding first_below
first_below-some zero w test h = absurd cc
first_below-some (suc n) w test h =
    elim (some_before n w test (first_below n test) (test n) refl refl h) [
      | inl m ↦ let before : IsFirst n test w =
          first_below-some n w test m in record { below = omega (arith, before.below); passes = before.passes; first = before.first }
      | inr m ↦ record { below = omega (arith, m.0); passes = ap test m.0 ∙ m.2; first = λ k l. first_below-none n test m.1 k (omega (arith, m.0)) }
    ]

fails_before : (w k : ℕ) (test : ℕ → Bool) (b : Bool) → test k ≡ b → (b ≡ true → k ≡ w) → k < w → test k ≡ false
fails_before w k test true h only m = absurd (omega (arith, only refl))
fails_before w k test false h only m = h

-- the only number that passes is found
pub first_below-only : (n w : ℕ) (test : ℕ → Bool) → w < n → test w ≡ true → ((k : ℕ) → k < n → test k ≡ true → k ≡ w) → first_below n test ≡ Some w
first_below-only n w test l e only =
    first_below-is n w test (record { below = l; passes = e; first = λ k m. fails_before w k test (test k) refl (only k (omega arith)) m })
