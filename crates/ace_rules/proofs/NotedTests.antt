-- What tests of noted values decide.
use Rattle.std.proofs.Common.{◌≡◌, ◌<◌, ◌≤◌, ◌==◌, ◌&&◌, not, ℕ, Bool, true, false, Decides, arith, refl, ap, sym, subst, ◌∙◌}
use Rattle.std.specs.Prelude.{Option, Some, nat_le, nat_lt}
use Rattle.std.proofs.lemmas.Bool.Decides.{nat_tests, Decides-and, Decides-at, Decides-eqb, Decides-like}
use Rattle.ace_law.specs.PipelineRules.{IsIn}

pub number-decides : (noted is r : ℕ) → noted ≡ is → Decides (noted == r) (is ≡ r)
number-decides noted is r e = Decides-at (noted == r) (is == r) (ap (λ x. x == r) e) (Decides-eqb is r)

pub true-decides : (noted is : Bool) → noted ≡ is → Decides noted (is ≡ true)
true-decides noted is e = ((λ h. sym e ∙ h), (λ h. e ∙ h))

pub false-decides : (noted is : Bool) → noted ≡ is → Decides (not noted) (is ≡ false)
false-decides noted is e = go is noted e
  where
    go : (is noted : Bool) → noted ≡ is → Decides (not noted) (is ≡ false)
    go true true e = ((λ h. absurd cc), (λ h. absurd cc))
    go false false e = ((λ h. refl), (λ h. refl))
    go _ _ e = absurd cc

-- a test of a field decides what is said of the bit at a place in it
pub in-decides : {F : Type 0} (named : F → ℕ → Type 0) (test : Bool) (o : Option (F × ℕ)) (place : F × ℕ) → o ≡ Some place
    → Decides test (named place.0 place.1) → Decides test (IsIn named o)
in-decides named test o place e d = subst (λ o. Decides test (IsIn named o)) (sym e) d

pub below-decides : (n m a b : ℕ) → a ≡ n → b ≡ m → Decides (nat_lt n m) (a < b)
below-decides n m a b e f = ((λ h. grind (arith, nat_tests)), (λ h. grind (arith, nat_tests)))

pub most-decides : (n m a b : ℕ) → a ≡ n → b ≡ m → Decides (nat_le n m) (a ≤ b)
most-decides n m a b e f = ((λ h. grind (arith, nat_tests)), (λ h. grind (arith, nat_tests)))

-- a test that is only asked after another
pub then-and : {P Q : Type 0} (x y : Bool) → Decides x P → (P → Decides y Q) → Decides (x && y) (P × Q)
then-and true y p q = let d = q (p.0 refl) in ((λ e. (p.0 refl, d.0 e)), (λ h. d.1 h.1))
then-and false y p q = ((λ e. absurd cc), (λ h. let e = p.1 h.0 in absurd cc))

-- three at once
pub three-decide : {P Q R : Type 0} (x y z : Bool) → Decides x P → Decides y Q → Decides z R → Decides (x && (y && z)) (P × Q × R)
three-decide x y z p q r =
    Decides-like (x && (y && z)) (λ h. (h.0, h.1.0, h.1.1)) (λ h. (h.0, (h.1, h.2))) (Decides-and x (y && z) p (Decides-and y z q r))

-- the same, where the third is only asked after the others
pub and-then : {P Q R : Type 0} (x y z : Bool) → Decides x P → Decides y Q → (P → Q → Decides z R) → Decides (x && (y && z)) (P × Q × R)
and-then true true z p q r = let d = r (p.0 refl) (q.0 refl) in ((λ e. (p.0 refl, q.0 refl, d.0 e)), (λ h. d.1 h.2))
and-then true false z p q r = ((λ e. absurd cc), (λ h. let e = q.1 h.1 in absurd cc))
and-then false y z p q r = ((λ e. absurd cc), (λ h. let e = p.1 h.0 in absurd cc))
