-- What a list of changes says once one change more stands behind it.
use Rattle.std.proofs.Common.{◌≡◌, ℕ, suc, ◌<◌, ◌≤◌, true, false, cond, ltb, List, [], ◌∷◌, ◌++◌, refl, ap, arith}
use Rattle.std.specs.List.{All}
use Rattle.std.proofs.lemmas.Bool.Decides.{nat_tests}
use Rattle.change_list.specs.Lists.{last_value, value_before}
use Rattle.change_list.specs.declared.changes.Change.{Change}

-- past all changes
pub all-before : {A : Type 0} (start : A) (xs : List (Change A)) (m t : ℕ) → All (λ c. c.cycle < m) xs → m ≤ t
    → value_before start xs t ≡ last_value start xs
unfolding value_before last_value
all-before start [] m t below l = refl
all-before start (c ∷ xs) m t below l =
    let b : c.cycle < m = below 0 c (omega arith) in
    let e : ltb c.cycle t ≡ true = grind (arith, nat_tests) in
    rw e (all-before c.value xs m t (λ k d l. below (suc k) d (omega arith)) l)

pub push-earlier : {A : Type 0} (start : A) (xs : List (Change A)) (c : Change A) (t : ℕ) → t ≤ c.cycle
    → value_before start (xs ++ c ∷ []) t ≡ value_before start xs t
unfolding value_before
push-earlier start [] c t l = let e : ltb c.cycle t ≡ false = grind (arith, nat_tests) in rw e refl
push-earlier start (x ∷ xs) c t l = ap (λ v. cond (ltb x.cycle t) v start) (push-earlier x.value xs c t l)

pub push-later : {A : Type 0} (start : A) (xs : List (Change A)) (c : Change A) (t : ℕ) → All (λ x. x.cycle < c.cycle) xs → c.cycle < t
    → value_before start (xs ++ c ∷ []) t ≡ c.value
unfolding value_before
push-later start [] c t below l = let e : ltb c.cycle t ≡ true = grind (arith, nat_tests) in rw e refl
push-later start (x ∷ xs) c t below l =
    let b : x.cycle < c.cycle = below 0 x (omega arith) in
    let e : ltb x.cycle t ≡ true = grind (arith, nat_tests) in
    rw e (push-later x.value xs c t (λ k d l. below (suc k) d (omega arith)) l)
