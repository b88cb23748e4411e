-- Numbers of cycles that are noted in order: those below t are the ones that were noted by t.
use Rattle.std.proofs.Common.{◌≡◌, ℕ, zero, suc, ◌+◌, ◌<◌, ◌≤◌, List, [], ◌∷◌, ◌++◌, length, Bool, true, false, Option, Some, None, refl, sym, ap, ◌∙◌}
use Rattle.std.proofs.Common.{arith, inl, inr, get_or, length-append, append-nil, append_assoc}
use Rattle.std.specs.Prelude.{All, AllPairs, count_by, filter, nat_le, nat_lt}
use Rattle.std.specs.Bool.{then_some}
use Rattle.std.proofs.Math.ListN.{get_or-append}
use Rattle.std.proofs.Math.Seq.{get_or-append_seam}
use Rattle.std.proofs.lemmas.Bool.{cases_lt}
use Rattle.std.proofs.lemmas.Bool.Decides.{nat_tests}
use Rattle.std.proofs.lemmas.List.Elements.{All-append, filter-append}
use Rattle.std.proofs.lemmas.List.Sums.{length-filter}
use Rattle.cyc_machine.specs.Run.{with_one}

-- the numbers below t at which something is done
unfoldable pub noted : (ℕ → Bool) → ℕ → List ℕ
noted does zero = []
noted does (suc t) = with_one (noted does t) (then_some (does t) t)

-- One more number, which passes a test or fails it.

with_kept : (p : ℕ → Bool) (xs : List ℕ) (x : ℕ) (b : Bool) → p x ≡ true → filter p (with_one xs (then_some b x)) ≡ with_one (filter p xs) (then_some b x)
with_kept p xs x true e = filter-append p xs (x ∷ []) ∙ ap (λ c. filter p xs ++ c) (rw e refl)
with_kept p xs x false e = refl

with_dropped : (p : ℕ → Bool) (xs : List ℕ) (x : ℕ) (b : Bool) → p x ≡ false → filter p (with_one xs (then_some b x)) ≡ filter p xs
with_dropped p xs x true e = filter-append p xs (x ∷ []) ∙ ap (λ c. filter p xs ++ c) (rw e refl) ∙ append-nil (filter p xs)
with_dropped p xs x false e = refl

pub with_behind : (xs ys : List ℕ) (o : Option ℕ) → with_one (xs ++ ys) o ≡ xs ++ with_one ys o
with_behind xs ys None = refl
with_behind xs ys (Some x) = append_assoc xs ys (x ∷ [])

all_with : (t : ℕ) (xs : List ℕ) (b : Bool) → All (λ c. c < t) xs → All (λ c. c < suc t) (with_one xs (then_some b t))
all_with t xs true h = All-append (λ c. c < suc t) xs (t ∷ []) (λ k d l. let m = h k d l in omega (arith, m)) (λ k d l. one k d l)
  where
    one : (k d : ℕ) → k < 1 → get_or (t ∷ []) k d < suc t
    one zero d l = omega arith
    one (suc k) d l = absurd (omega (arith, l))
all_with t xs false h = λ k d l. let m = h k d l in omega (arith, m)

module _ (does : ℕ → Bool) where
  below : (t : ℕ) → All (λ c. c < t) (noted does t)
  unfolding noted
  below zero = λ k d l. absurd (omega (arith, l))
  below (suc t) = all_with t (noted does t) (does t) (below t)

  -- all of them, where the bound isn't passed yet
  whole : (t n : ℕ) → n ≤ t → filter (λ c. nat_lt c t) (noted does n) ≡ noted does n
  unfolding noted
  whole t zero l = refl
  whole t (suc n) l =
      let e : nat_lt n t ≡ true = grind (arith, nat_tests) in
      with_kept (λ c. nat_lt c t) (noted does n) n (does n) e ∙ ap (λ xs. with_one xs (then_some (does n) n)) (whole t n (omega (arith, l)))

  none : (t n : ℕ) → n ≤ t → filter (λ c. nat_le t c) (noted does n) ≡ []
  unfolding noted
  none t zero l = refl
  none t (suc n) l =
      let e : nat_le t n ≡ false = grind (arith, nat_tests) in
      with_dropped (λ c. nat_le t c) (noted does n) n (does n) e ∙ none t n (omega (arith, l))

  pub front : (t n : ℕ) → t ≤ n → filter (λ c. nat_lt c t) (noted does n) ≡ noted does t
  unfolding noted
  front t zero l = let e : zero ≡ t = omega (arith, l) in whole t zero (omega arith) ∙ ap (noted does) e
  front t (suc n) l =
      elim (cases_lt n t) [
        | inr m ↦ let e : nat_lt n t ≡ false = grind (arith, nat_tests) in with_dropped (λ c. nat_lt c t) (noted does n) n (does n) e ∙ front t n m
        | inl m ↦ let e : suc n ≡ t = omega (arith, l, m) in whole t (suc n) (omega (arith, e)) ∙ ap (noted does) e
      ]

  pub rest : (t n : ℕ) → t ≤ n → noted does n ≡ noted does t ++ filter (λ c. nat_le t c) (noted does n)
  unfolding noted
  rest t zero l =
      let e : zero ≡ t = omega (arith, l) in ap (noted does) e ∙ sym (append-nil (noted does t))
      ∙ ap (λ xs. noted does t ++ xs) (sym (none t zero (omega arith)))
  rest t (suc n) l =
      elim (cases_lt n t) [
        | inr m ↦
            let e : nat_le t n ≡ true = grind (arith, nat_tests) in
            ap (λ xs. with_one xs (then_some (does n) n)) (rest t n m)
            ∙ with_behind (noted does t) (filter (λ c. nat_le t c) (noted does n)) (then_some (does n) n)
            ∙ ap (λ xs. noted does t ++ xs) (sym (with_kept (λ c. nat_le t c) (noted does n) n (does n) e))
        | inl m ↦
            let e : suc n ≡ t = omega (arith, l, m) in
            ap (noted does) e ∙ sym (append-nil (noted does t)) ∙ ap (λ xs. noted does t ++ xs) (sym (none t (suc n) (omega (arith, e))))
      ]

  -- how many are below t
  pub counted : (t n : ℕ) → t ≤ n → length (noted does t) ≡ count_by (λ c. nat_lt c t) (noted does n)
  counted t n l = ap length (sym (front t n l)) ∙ length-filter (λ c. nat_lt c t) (noted does n)

  rising_with : (t : ℕ) (xs : List ℕ) (b : Bool) → All (λ c. c < t) xs → AllPairs (λ c d. c < d) xs → AllPairs (λ c d. c < d) (with_one xs (then_some b t))
  rising_with t xs false h rise = rise
  rising_with t xs true h rise = λ i j d m l.
      let long : length (xs ++ t ∷ []) ≡ length xs + 1 = length-append xs (t ∷ []) in
      elim (cases_lt j (length xs)) [
        | inl inside ↦
            let a = get_or-append xs (t ∷ []) d i (omega (arith, m, inside)) in
            let b = get_or-append xs (t ∷ []) d j inside in
            let p = rise i j d m inside in
            omega (arith, a, b, p)
        | inr behind ↦
            let e : j ≡ length xs = omega (arith, long, l, behind) in
            let a = get_or-append xs (t ∷ []) d i (omega (arith, m, e)) in
            let b : get_or (xs ++ t ∷ []) j d ≡ t = ap (λ k. get_or (xs ++ t ∷ []) k d) e ∙ get_or-append_seam xs t [] d in
            let p = h i d (omega (arith, m, e)) in
            omega (arith, a, b, p)
      ]

  pub rising : (t : ℕ) → AllPairs (λ c d. c < d) (noted does t)
  unfolding noted
  rising zero = λ i j d m l. absurd (omega (arith, l))
  rising (suc t) = rising_with t (noted does t) (does t) (below t) (rising t)
