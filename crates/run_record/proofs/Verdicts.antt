-- Of a run that goes on from any state in place of a recorded one exactly one verdict holds.
use Rattle.std.proofs.Common.{◌≡◌, ◌⊎◌, ℕ, zero, suc, ◌+◌, ◌-◌, ◌*◌, ◌<◌, ◌≤◌, List, [], ◌∷◌, ◌++◌, length, take, Option, None, Some, refl, sym, ap, ◌∙◌}
use Rattle.std.proofs.Common.{subst, arith, inl, inr, append-nil, append_assoc}
use Rattle.std.proofs.Math.Seq.{take-append_seam}
use Rattle.std.proofs.lemmas.Bool.{cases_eq, cases_order}
use Rattle.avf_base.specs.declared.end.End.{End}
use Rattle.avf_base.specs.declared.end.End.TheVariants.{Exit, Trap}
use Rattle.cyc_machine.specs.Cycle.{end_in, put_in}
use Rattle.cyc_machine.specs.Run.{EndsIn, output_after, output_below, state_after, with_one}
use Rattle.cyc_machine.specs.State.{State}
use Rattle.cyc_machine.specs.declared.machine.TheConstants.{CYCLES_PER_INSTRUCTION}
use Rattle.run_record.specs.Run.{RecordedRun}
use Rattle.run_record.specs.Verdict.{ComesUnlike, EndsSame, EndsUnlike, GoesOn, HasOneVerdict, IsFront, IsStillOn, IsVerdict, PutsUnlike, bound, output_since}
use Rattle.run_record.specs.declared.verdict.Verdict.{Verdict}
use Rattle.run_record.specs.declared.verdict.Verdict.TheVariants.{Same, Differs, NoEnd}

-- Lists and ends are the same or not.

list_cases : (xs ys : List ℕ) → (xs ≡ ys) ⊎ (xs ≡ ys → ⊥)
list_cases [] [] = inl refl
list_cases [] (y ∷ ys) = inr (λ e. absurd cc)
list_cases (x ∷ xs) [] = inr (λ e. absurd cc)
list_cases (x ∷ xs) (y ∷ ys) =
    elim (cases_eq x y) [
      | inr ne ↦ inr (λ e. ne cc)
      | inl same ↦ elim (list_cases xs ys) [ inl rest ↦ inl cc | inr ne ↦ inr (λ e. ne cc) ]
    ]

end_cases : (a b : End) → (a ≡ b) ⊎ (a ≡ b → ⊥)
end_cases (Exit m) (Exit n) = elim (cases_eq m n) [ inl same ↦ inl (ap (λ k. Exit k) same) | inr ne ↦ inr (λ e. ne cc) ]
end_cases (Trap m) (Trap n) = elim (cases_eq m n) [ inl same ↦ inl (ap (λ k. Trap k) same) | inr ne ↦ inr (λ e. ne cc) ]
end_cases (Exit m) (Trap n) = inr (λ e. absurd cc)
end_cases (Trap m) (Exit n) = inr (λ e. absurd cc)

-- What was put stays, and more may follow.

record Grows (old new : List ℕ) : Type 0 where
  more : List ℕ
  is : new ≡ old ++ more

one_more : (xs : List ℕ) (o : Option ℕ) → Grows xs (with_one xs o)
one_more xs None = record { more = []; is = sym (append-nil xs) }
one_more xs (Some x) = record { more = x ∷ []; is = refl }

grows-on : (xs ys zs : List ℕ) → Grows xs ys → Grows ys zs → Grows xs zs
grows-on xs ys zs g h = record { more = g.more ++ h.more; is = h.is ∙ ap (λ l. l ++ h.more) g.is ∙ append_assoc xs g.more h.more }

output_grows : (u : State) (n d m : ℕ) → m ≡ d + n → Grows (output_after n u) (output_after m u)
unfolding output_after
output_grows u n zero m e =
    let same : m ≡ n = omega (arith, e) in record { more = []; is = ap (λ k. output_after k u) same ∙ sym (append-nil (output_after n u)) }
output_grows u n (suc d) zero e = absurd (omega (arith, e))
output_grows u n (suc d) (suc m) e = grows-on _ _ _ (output_grows u n d m (omega (arith, e))) (one_more (output_after m u) (put_in (state_after m u)))

-- the bytes that others follow are the first of all
pub front_of : (bytes more all : List ℕ) → all ≡ bytes ++ more → bytes ≡ take (length bytes) all
front_of bytes more all e = sym (ap (take (length bytes)) e ∙ take-append_seam bytes more)

module _ (r : RecordedRun) (t : ℕ) (u : State) where
  -- what is put up to a cycle is a front of what is put up to a later one
  front_before : (n m : ℕ) → n ≤ m → output_since r t u m ≡ r.output → IsFront r (output_since r t u n)
  front_before n m l e =
      let g = output_grows u n (m - n) m (omega (arith, l)) in
      front_of (output_since r t u n) g.more r.output
      (sym e ∙ ap (λ x. output_below r.image r.shape t ++ x) g.is ∙ sym (append_assoc (output_below r.image r.shape t) (output_after n u) g.more))

  -- A cycle goes on like the recorded run, or ends it as recorded, or is unlike.

  record EndsHere (k : ℕ) : Type 0 where
    ends : end_in (state_after k u) ≡ Some r.end
    output : output_since r t u (k + 1) ≡ r.output

  data Judged (k : ℕ) : Type 0 where
    On : GoesOn r t u k → Judged k
    Here : EndsHere k → Judged k
    Unlike : PutsUnlike r t u k ⊎ EndsUnlike r t u k → Judged k

  judged_end : (k : ℕ) (end : Option End) → end_in (state_after k u) ≡ end → IsFront r (output_since r t u (k + 1)) → Judged k
  judged_end k None e front = On (record { no_end = e; front = front })
  judged_end k (Some end) e front =
      elim (end_cases end r.end) [
        | inr ne ↦ Unlike (inr (record { end = end; ends = e; unlike = λ p. ne p.0 }))
        | inl same ↦ elim (list_cases (output_since r t u (k + 1)) r.output) [
          | inr ne ↦ Unlike (inr (record { end = end; ends = e; unlike = λ p. ne p.1 }))
          | inl all ↦ Here (record { ends = e ∙ ap Some same; output = all })
        ]
      ]

  judged : (k : ℕ) → Judged k
  judged k =
      elim (list_cases (output_since r t u (k + 1)) (take (length (output_since r t u (k + 1))) r.output)) [
        | inr ne ↦ Unlike (inl ne)
        | inl front ↦ judged_end k (end_in (state_after k u)) refl front
      ]

  -- The first of n cycles that doesn't go on, if there is one.

  record Stops (n : ℕ) : Type 0 where
    k : ℕ
    below : k < n
    before : (i : ℕ) → i < k → GoesOn r t u i
    here : EndsHere k ⊎ (PutsUnlike r t u k ⊎ EndsUnlike r t u k)

  abbrev GoesOnFor : ℕ → Type 0
  GoesOnFor n = (i : ℕ) → i < n → GoesOn r t u i

  later : (n : ℕ) → Stops n → Stops (suc n)
  later n s = record { k = s.k; below = omega (arith, s.below); before = s.before; here = s.here }

  one_on : (n : ℕ) → GoesOnFor n → GoesOn r t u n → GoesOnFor (suc n)
  one_on n before here i l = elim (cases_eq i n) [ inl e ↦ subst (GoesOn r t u) (sym e) here | inr ne ↦ before i (omega arith) ]

  next : (n : ℕ) → GoesOnFor n → Judged n → GoesOnFor (suc n) ⊎ Stops (suc n)
  next n before (On g) = inl (one_on n before g)
  next n before (Here h) = inr (record { k = n; below = omega arith; before = before; here = inl h })
  next n before (Unlike h) = inr (record { k = n; below = omega arith; before = before; here = inr h })

  search_for : (n : ℕ) → GoesOnFor n ⊎ Stops n
  search_for zero = inl (λ i l. absurd (omega (arith, l)))
  search_for (suc n) = elim (search_for n) [ inl before ↦ next n before (judged n) | inr s ↦ inr (later n s) ]

  -- one verdict holds

  record Found : Type 0 where
    verdict : Verdict
    is : IsVerdict r t u verdict

  stopped : (s : Stops (CYCLES_PER_INSTRUCTION * (r.instructions + 8))) → EndsHere s.k ⊎ (PutsUnlike r t u s.k ⊎ EndsUnlike r t u s.k) → Found
  stopped s (inl h) = record {
    verdict = Same (t + s.k + 1);
    is = record {
      last = s.k;
      counted = refl;
      within = omega (arith, s.below);
      ends = record { running = λ i l. (s.before i l).no_end; ends = h.ends };
      output = h.output;
    };
  }
  stopped s (inr h) = record {
    verdict = Differs (t + s.k);
    is = record { k = s.k; counted = refl; within = omega (arith, s.below); before = s.before; unlike = h };
  }

  found : Found
  found =
      elim (search_for (CYCLES_PER_INSTRUCTION * (r.instructions + 8))) [
        | inr s ↦ stopped s s.here
        | inl on ↦ record { verdict = NoEnd (bound r t); is = record { counted = refl; goes_on = λ i l. on i (omega (arith, l)) } }
      ]

  -- no two hold

  no_two : (end : End) (o : Option End) → o ≡ None → o ≡ Some end → ⊥
  no_two end o e f = absurd cc

  goes_not : (k : ℕ) → GoesOn r t u k → PutsUnlike r t u k ⊎ EndsUnlike r t u k → ⊥
  goes_not k g (inl h) = h g.front
  goes_not k g (inr h) = no_two h.end (end_in (state_after k u)) g.no_end h.ends

  same_last : (m n : ℕ) (a b : End) → EndsIn u m a → EndsIn u n b → m ≡ n
  same_last m n a b e f =
      elim (cases_order m n) [
        | inr (inl l) ↦ absurd (no_two a (end_in (state_after m u)) (f.running m l) e.ends)
        | inr (inr l) ↦ absurd (no_two b (end_in (state_after n u)) (e.running n l) f.ends)
        | inl same ↦ same
      ]

  -- an end as recorded, and something unlike
  unlike_there : (s : ℕ) (k : ℕ) → EndsIn u s r.end → output_since r t u (s + 1) ≡ r.output → k ≤ s → PutsUnlike r t u k ⊎ EndsUnlike r t u k → ⊥
  unlike_there s k ends all l (inl h) = h (front_before (k + 1) (s + 1) (omega (arith, l)) all)
  unlike_there s k ends all l (inr h) =
      elim (cases_order k s) [
        | inr (inl m) ↦ no_two h.end (end_in (state_after k u)) (ends.running k m) h.ends
        | inr (inr m) ↦ absurd (omega (arith, m, l))
        | inl same ↦
            let here : end_in (state_after k u) ≡ Some r.end = ap (λ i. end_in (state_after i u)) same ∙ ends.ends in
            let as_recorded : h.end ≡ r.end = let both : Some h.end ≡ Some r.end = sym h.ends ∙ here in cc in
            h.unlike (as_recorded, ap (λ i. output_since r t u (i + 1)) same ∙ all)
      ]

  same_unlike : (c d : ℕ) → EndsSame r t u c → ComesUnlike r t u d → ⊥
  same_unlike c d s h =
      elim (cases_order h.k s.last) [
        | inr (inl l) ↦ unlike_there s.last h.k s.ends s.output (omega (arith, l)) h.unlike
        | inr (inr l) ↦ no_two r.end (end_in (state_after s.last u)) (h.before s.last l).no_end s.ends.ends
        | inl e ↦ unlike_there s.last h.k s.ends s.output (omega (arith, e)) h.unlike
      ]

  same_on : (c d : ℕ) → EndsSame r t u c → IsStillOn r t u d → ⊥
  same_on c d s h =
      let below : t + s.last < d = omega (arith, s.counted, s.within, h.counted) in
      no_two r.end (end_in (state_after s.last u)) (h.goes_on s.last below).no_end s.ends.ends

  unlike_on : (c d : ℕ) → ComesUnlike r t u c → IsStillOn r t u d → ⊥
  unlike_on c d s h =
      let below : t + s.k < d = omega (arith, s.counted, s.within, h.counted) in
      goes_not s.k (h.goes_on s.k below) s.unlike

  one_unlike : (c d : ℕ) → ComesUnlike r t u c → ComesUnlike r t u d → c ≡ d
  one_unlike c d g h =
      elim (cases_order g.k h.k) [
        | inr (inl l) ↦ absurd (goes_not g.k (h.before g.k l) g.unlike)
        | inr (inr l) ↦ absurd (goes_not h.k (g.before h.k l) h.unlike)
        | inl e ↦ omega (arith, e, g.counted, h.counted)
      ]

  one_same : (c d : ℕ) → EndsSame r t u c → EndsSame r t u d → c ≡ d
  one_same c d g h =
      let e : g.last ≡ h.last = same_last g.last h.last r.end r.end g.ends h.ends in omega (arith, e, g.counted, h.counted)

  only : (v w : Verdict) → IsVerdict r t u v → IsVerdict r t u w → w ≡ v
  only (Same c) (Same d) g h = ap (λ n. Same n) (one_same d c h g)
  only (Same c) (Differs d) g h = absurd (same_unlike c d g h)
  only (Same c) (NoEnd d) g h = absurd (same_on c d g h)
  only (Differs c) (Same d) g h = absurd (same_unlike d c h g)
  only (Differs c) (Differs d) g h = ap (λ n. Differs n) (one_unlike d c h g)
  only (Differs c) (NoEnd d) g h = absurd (unlike_on c d g h)
  only (NoEnd c) (Same d) g h = absurd (same_on d c h g)
  only (NoEnd c) (Differs d) g h = absurd (unlike_on d c h g)
  only (NoEnd c) (NoEnd d) g h = ap (λ n. NoEnd n) (h.counted ∙ sym g.counted)

  pub one_verdict : HasOneVerdict r t u
  one_verdict = record { verdict = found.verdict; is = found.is; only = λ w h. only found.verdict w found.is h }
