-- What a search in a list of changes finds.
use Rattle.std.proofs.Common.{◌≡◌, ℕ, zero, suc, ◌+◌, ◌-◌, ◌<◌, ◌≤◌, true, false, ltb, List, [], ◌∷◌, length, get_or, refl, sym, ◌∙◌, ap, arith}
use Rattle.std.specs.List.{AllWithin}
use Rattle.change_list.specs.Lists.{last_value, value_before}
use Rattle.change_list.specs.declared.changes.Change.{Change}

-- where the first change comes in cycle t or later
pub none-before : {A : Type 0} (start : A) (xs : List (Change A)) (t : ℕ) → AllWithin (λ c. ltb c.cycle t ≡ false) xs 0 (length xs)
    → value_before start xs t ≡ start
unfolding value_before
none-before start [] t late = refl
none-before start (c ∷ xs) t late = let e : ltb c.cycle t ≡ false = late 0 c (omega arith) (omega arith) in rw e refl

-- where change k is the last in a cycle below t
pub last-before : {A : Type 0} (start : A) (xs : List (Change A)) (t k : ℕ) (d : Change A) → k < length xs
    → AllWithin (λ c. ltb c.cycle t ≡ true) xs 0 (k + 1) → AllWithin (λ c. ltb c.cycle t ≡ false) xs (k + 1) (length xs)
    → value_before start xs t ≡ (get_or xs k d).value
unfolding value_before
last-before start [] t k d l early late = absurd (omega arith)
last-before start (c ∷ xs) t zero d l early late =
    let e : ltb c.cycle t ≡ true = early 0 c (omega arith) (omega arith) in
    rw e (none-before c.value xs t (λ a e p q. late (suc a) e (omega arith) (omega arith)))
last-before start (c ∷ xs) t (suc k) d l early late =
    let e : ltb c.cycle t ≡ true = early 0 c (omega arith) (omega arith) in
    rw e (last-before c.value xs t k d (omega arith) (λ a e p q. early (suc a) e (omega arith) (omega arith))
    (λ a e p q. late (suc a) e (omega arith) (omega arith)))

-- the last change of all
last-is : {A : Type 0} (start : A) (xs : List (Change A)) (k : ℕ) (d : Change A) → length xs ≡ k + 1 → last_value start xs ≡ (get_or xs k d).value
unfolding last_value
last-is start [] k d l = absurd (omega arith)
last-is start (c ∷ []) zero d l = refl
last-is start (c ∷ x ∷ xs) zero d l = absurd (omega arith)
last-is start (c ∷ xs) (suc k) d l = last-is c.value xs k d (omega arith)

pub last-some : {A : Type 0} (start : A) (xs : List (Change A)) (c : Change A) → 0 < length xs → c ≡ get_or xs (length xs - 1) c
    → c.value ≡ last_value start xs
last-some {A = A} start xs c l e = ap (λ (x : Change A). x.value) e ∙ sym (last-is start xs (length xs - 1) c (omega arith))

pub last-none : {A : Type 0} (start : A) (xs : List (Change A)) → length xs ≤ 0 → start ≡ last_value start xs
unfolding last_value
last-none start [] l = refl
last-none start (c ∷ xs) l = absurd (omega arith)
