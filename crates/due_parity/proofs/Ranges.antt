-- Counts over ranges of numbers.
use Rattle.std.proofs.Common.{◌≡◌, ℕ, zero, suc, ◌+◌, ◌-◌, ◌*◌, ◌<◌, ◌≤◌, Bool, true, false, refl, sym, ◌∙◌, ap, arith}
use Rattle.std.specs.Prelude.{nat_lt, if◌then◌else◌}
use Rattle.std.proofs.lemmas.Bool.Decides.{nat_tests}
use Rattle.bit_field.specs.Layouts.{number_of}
use Rattle.ace_rules.proofs.Tallies.{number-le}
use Rattle.due_parity.specs.Due.{count_from, sum_from}

pub sum-split : (m n total a b : ℕ) (f : ℕ → ℕ) → total ≡ m + n → b ≡ a + m → sum_from a total f ≡ sum_from a m f + sum_from b n f
unfolding sum_from
sum-split zero n total a b f e h =
    let g : total ≡ n = omega (arith, e) in
    let i : a ≡ b = omega (arith, h) in
    ap (λ k. sum_from a k f) g ∙ ap (λ c. sum_from c n f) i ∙ omega arith
sum-split (suc m) n total a b f e h =
    let g : total ≡ suc (m + n) = omega (arith, e) in
    let rest = sum-split m n (m + n) (a + 1) b f refl (omega (arith, h)) in
    ap (λ k. sum_from a k f) g ∙ omega (arith, rest)

-- the numbers from a up to before b, and from there up to before c
pub count-split : (a b c : ℕ) (p : ℕ → Bool) → a ≤ b → b ≤ c → count_from a (c - a) p ≡ count_from a (b - a) p + count_from b (c - b) p
count-split a b c p l m =
    sum-split (b - a) (c - b) (c - a) a b (λ t. number_of (p t)) (omega (arith, l, m)) (omega (arith, l))

-- a sum goes by the values in it alone
pub sum-same : (n a : ℕ) (f g : ℕ → ℕ) → ((k : ℕ) → a ≤ k → k < a + n → f k ≡ g k) → sum_from a n f ≡ sum_from a n g
unfolding sum_from
sum-same zero a f g h = refl
sum-same (suc n) a f g h =
    let here = h a (omega arith) (omega arith) in
    let rest = sum-same n (a + 1) f g (λ k l m. h k (omega (arith, l)) (omega (arith, m))) in
    omega (arith, here, rest)

pub count-same : (n a : ℕ) (p q : ℕ → Bool) → ((t : ℕ) → a ≤ t → t < a + n → p t ≡ q t) → count_from a n p ≡ count_from a n q
count-same n a p q h = sum-same n a (λ t. number_of (p t)) (λ t. number_of (q t)) (λ t l m. ap number_of (h t l m))

pub count-all : (n a : ℕ) → count_from a n (λ t. true) ≡ n
unfolding sum_from
count-all zero a = refl
count-all (suc n) a = let h = count-all n (a + 1) in omega (arith, h)

pub count-none : (n a : ℕ) → count_from a n (λ t. false) ≡ 0
unfolding sum_from
count-none zero a = refl
count-none (suc n) a = let h = count-none n (a + 1) in omega (arith, h)

pub count-const : (b : Bool) (n a : ℕ) → count_from a n (λ t. b) ≡ (if b then n else 0)
count-const true n a = count-all n a
count-const false n a = count-none n a

pub sum-three : (n a s : ℕ) (f g h : ℕ → ℕ) → ((k : ℕ) → f k + g k + h k ≡ s) → sum_from a n f + sum_from a n g + sum_from a n h ≡ n * s
unfolding sum_from
sum-three zero a s f g h e = omega arith
sum-three (suc n) a s f g h e =
    let here = e a in
    let rest = sum-three n (a + 1) s f g h e in
    let more : suc n * s ≡ n * s + s = grind arith in
    omega (arith, here, rest, more)

-- of three tests exactly one holds
pub data One : Bool → Bool → Bool → Type 0 where
  First : One true false false
  Second : One false true false
  Third : One false false true

one-of : (x y z : Bool) → One x y z → number_of x + number_of y + number_of z ≡ 1
one-of _ _ _ First = refl
one-of _ _ _ Second = refl
one-of _ _ _ Third = refl

pub count-three : (n a : ℕ) (p q r : ℕ → Bool) → ((t : ℕ) → One (p t) (q t) (r t)) → count_from a n p + count_from a n q + count_from a n r ≡ n
count-three n a p q r h =
    let all = sum-three n a 1 (λ t. number_of (p t)) (λ t. number_of (q t)) (λ t. number_of (r t)) (λ t. one-of (p t) (q t) (r t) (h t)) in
    omega (arith, all)

-- values that come from one function below a number and from another from there on
abbrev pub pick : {A : Type 0} → ℕ → (ℕ → A) → (ℕ → A) → ℕ → A
pick b f g t = if nat_lt t b then f t else g t

pub pick-below : {A : Type 0} (b : ℕ) (f g : ℕ → A) (t : ℕ) → t < b → pick b f g t ≡ f t
pick-below b f g t l = let e : nat_lt t b ≡ true = grind (arith, nat_tests) in rw e refl

pub pick-behind : {A : Type 0} (b : ℕ) (f g : ℕ → A) (t : ℕ) → b ≤ t → pick b f g t ≡ g t
pick-behind b f g t l = let e : nat_lt t b ≡ false = grind (arith, nat_tests) in rw e refl

pub count-joined : {A : Type 0} (a b c : ℕ) (f g : ℕ → A) (test : ℕ → A → Bool) → a ≤ b → b ≤ c
    → count_from a (b - a) (λ t. test t (f t)) + count_from b (c - b) (λ t. test t (g t)) ≡ count_from a (c - a) (λ t. test t (pick b f g t))
count-joined {A} a b c f g test l m =
    ap (λ n. n + count_from b (c - b) (λ t. test t (g t)))
    (count-same (b - a) a (λ t. test t (f t)) (λ t. test t (pick b f g t)) (λ t k o. ap (test t) (sym (pick-below b f g t (omega (arith, l, o))))))
    ∙ ap (λ n. count_from a (b - a) (λ t. test t (pick b f g t)) + n)
    (count-same (c - b) b (λ t. test t (g t)) (λ t. test t (pick b f g t)) (λ t k o. ap (test t) (sym (pick-behind b f g t k))))
    ∙ sym (count-split a b c (λ t. test t (pick b f g t)) l m)

pub sum-more : (n : ℕ) (f : ℕ → ℕ) → sum_from 0 (n + 1) f ≡ sum_from 0 n f + f n
unfolding sum_from
sum-more n f = let all = sum-split n 1 (n + 1) 0 n f refl (omega arith) in omega (arith, all)

pub count-most : (n a : ℕ) (p : ℕ → Bool) → count_from a n p ≤ n
unfolding sum_from
count-most zero a p = omega arith
count-most (suc n) a p = let rest = count-most n (a + 1) p in let one = number-le (p a) in omega (arith, rest, one)
