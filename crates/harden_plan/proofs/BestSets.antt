-- The best set so far, set by set, and that there is one plan.
use Rattle.std.proofs.Common.{◌≡◌, ◌+◌, ◌<◌, ◌≤◌, ◌==◌, ◌↔◌, ℕ, Bool, true, false, IsTrue, inl, inr, refl, sym, ap, ◌∙◌, arith}
use Rattle.std.specs.Prelude.{◌&&◌, nat_le, nat_lt, if◌then◌else◌}
use Rattle.std.proofs.lemmas.Bool.{cases_lt, leb-false, leb-true, ltb-false, ltb-true}
use Rattle.std.proofs.lemmas.Bool.Decides.{nat_tests}
use Rattle.ace_class.specs.Counts.{Counted}
use Rattle.harden_plan.specs.Plans.{IsBestBelow, IsPlan, better_of, cost, covered, is_member, worth}
use Rattle.harden_plan.specs.declared.plan.Plan.{Plan}

-- the empty set costs nothing
empty_cost : (counted : Counted) → cost counted 0 ≡ 0
unfolding is_member
empty_cost counted = refl

pub best-first : (counted : Counted) (bits : ℕ) → IsBestBelow counted bits 1 (covered counted 0)
best-first counted bits = record {
  below = omega arith;
  is = refl;
  fits = let none = empty_cost counted in omega (arith, none);
  greatest = λ other l fits. let e : other ≡ 0 = omega arith in rw e (omega arith);
  least = λ other l fits same. omega arith;
}

-- the next set is better
taken : (counted : Counted) (bits n : ℕ) (best : Plan) → cost counted n ≤ bits → best.ace < worth counted n → IsBestBelow counted bits n best
    → IsBestBelow counted bits (n + 1) (covered counted n)
taken counted bits n best fits more h = record {
  below = omega arith;
  is = refl;
  fits = fits;
  greatest = λ other l c. elim (cases_lt other n) [
    | inl early ↦ let old = h.greatest other early c in omega (arith, old)
    | inr late ↦ let e : other ≡ n = omega arith in rw e (omega arith)
  ];
  least = λ other l c same. elim (cases_lt other n) [
    | inl early ↦ let old = h.greatest other early c in absurd (omega (arith, old, same))
    | inr late ↦ late
  ];
}

-- the next set doesn't fit, or is worth no more
kept : (counted : Counted) (bits n : ℕ) (best : Plan) → (cost counted n ≤ bits → worth counted n ≤ best.ace) → IsBestBelow counted bits n best
    → IsBestBelow counted bits (n + 1) best
kept counted bits n best no_more h = record {
  below = let below = h.below in omega arith;
  is = h.is;
  fits = h.fits;
  greatest = λ other l c. elim (cases_lt other n) [
    | inl early ↦ h.greatest other early c
    | inr late ↦ let e : other ≡ n = omega arith in rw e (no_more (rw e at c))
  ];
  least = λ other l c same. elim (cases_lt other n) [
    | inl early ↦ h.least other early c same
    | inr late ↦ let below = h.below in omega arith
  ];
}

chosen : (counted : Counted) (bits n : ℕ) (best : Plan) (fits more : Bool) → nat_le (cost counted n) bits ≡ fits → nat_lt best.ace (worth counted n) ≡ more
    → IsBestBelow counted bits n best → IsBestBelow counted bits (n + 1) (if fits && more then covered counted n else best)
chosen counted bits n best true true fits more h =
    taken counted bits n best (leb-true (cost counted n) bits fits) (ltb-true best.ace (worth counted n) more) h
chosen counted bits n best true false fits more h = kept counted bits n best (λ _. ltb-false best.ace (worth counted n) more) h
chosen counted bits n best false more fits e h =
    kept counted bits n best (λ c. let not_fit = leb-false (cost counted n) bits fits in absurd (omega (arith, not_fit, c))) h

pub best-on : (counted : Counted) (bits n : ℕ) (best next : Plan) → next ≡ better_of bits best (covered counted n) → IsBestBelow counted bits n best
    → IsBestBelow counted bits (n + 1) next
best-on counted bits n best next e h =
    rw e (chosen counted bits n best (nat_le (cost counted n) bits) (nat_lt best.ace (worth counted n)) refl refl h)

-- ---- one plan is due

cost_of : (counted : Counted) (bits : ℕ) (p : Plan) → IsPlan counted bits p → cost counted p.set ≤ bits
cost_of counted bits p h = let cost = ap (λ (x : Plan). x.bits) h.is in let fits = h.fits in omega (arith, cost, fits)

worth_of : (counted : Counted) (bits : ℕ) (p : Plan) → IsPlan counted bits p → p.ace ≡ worth counted p.set
worth_of counted bits p h = ap (λ (x : Plan). x.ace) h.is

no_more : (counted : Counted) (bits : ℕ) (p q : Plan) → IsPlan counted bits p → IsPlan counted bits q → p.ace ≤ q.ace
no_more counted bits p q hp hq =
    let worth = worth_of counted bits p hp in
    let most = hq.greatest p.set hp.below (cost_of counted bits p hp) in
    omega (arith, worth, most)

not_later : (counted : Counted) (bits : ℕ) (p q : Plan) → IsPlan counted bits p → IsPlan counted bits q → p.set ≤ q.set
not_later counted bits p q hp hq =
    let worth = worth_of counted bits q hq in
    let one = no_more counted bits p q hp hq in
    let two = no_more counted bits q p hq hp in
    hp.least q.set hq.below (cost_of counted bits q hq) (omega (arith, worth, one, two))

pub one_plan : (counted : Counted) (bits : ℕ) (p q : Plan) → IsPlan counted bits p → IsPlan counted bits q → p ≡ q
one_plan counted bits p q hp hq =
    let one = not_later counted bits p q hp hq in
    let two = not_later counted bits q p hq hp in
    let same : p.set ≡ q.set = omega (arith, one, two) in
    hp.is ∙ ap (covered counted) same ∙ sym hq.is

-- a test of a bit
pub tested : (result : Bool) (m n : ℕ) → (IsTrue result ↔ (m ≡ n)) → result ≡ (m == n)
tested result m n h = grind (arith, nat_tests)
