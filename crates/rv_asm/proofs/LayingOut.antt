-- Laying out a source line by line.
use Rattle.std.proofs.Common.{◌≡◌, ℕ, ◌+◌, Bool, true, false, cond, List, [], ◌∷◌, ◌++◌, Option}
use Rattle.std.proofs.Common.{Some, None, Result, length, arith, refl, ap, sym, ◌∙◌, inl, inr}
use Rattle.std.specs.Prelude.{bytes_eq, if◌then◌else◌}
use Rattle.std.specs.Bool.{one_answer}
use Rattle.std.specs.Option.{option_or}
use Rattle.std.proofs.lemmas.Bool.{cases_Bool}
use Rattle.std.proofs.lemmas.Slice.Eq.{bytes_eq-Decides}
use Rattle.rv_asm.specs.Layout.{behind_line, defined, definitions, end_of, first_of, passed}
use Rattle.rv_asm.specs.Lines.{Line, ended, line_of, lines}
use Rattle.rv_asm.specs.declared.fault.Fault.{Fault}
use Rattle.rv_asm.specs.declared.layout.Cursor.{Cursor}
use Rattle.rv_asm.specs.declared.layout.Place.{Place}

pub or-none : (o : Option Place) → option_or o None ≡ o
or-none None = refl
or-none (Some x) = refl

or-assoc : (a b c : Option Place) → option_or (option_or a b) c ≡ option_or a (option_or b c)
or-assoc None b c = refl
or-assoc (Some x) b c = refl

pub first_of-append : (q : List ℕ) (xs ys : List (List ℕ × Place)) → first_of q (xs ++ ys) ≡ option_or (first_of q xs) (first_of q ys)
unfolding first_of
first_of-append q [] ys = refl
first_of-append q (x ∷ xs) ys = by_first (bytes_eq q x.0) (first_of-append q xs ys)
  where
    by_first : (t : Bool) → first_of q (xs ++ ys) ≡ option_or (first_of q xs) (first_of q ys)
        → cond t (Some x.1) (first_of q (xs ++ ys)) ≡ option_or (cond t (Some x.1) (first_of q xs)) (first_of q ys)
    by_first true h = refl
    by_first false h = h

-- a line's definitions come before those of the lines behind it
pub step : (labels labels' : List ℕ → Option Place) (c c' : Cursor) (k : ℕ) (bytes : List ℕ) (parts rest : List (List ℕ)) (line : Result Line Fault) (all :
    List ℕ → Option Place)
    → parts ≡ bytes ∷ rest → line ≡ line_of c.in_data bytes → c' ≡ passed c line
    → ((q : List ℕ) → labels' q ≡ option_or (labels q) (first_of q (defined c k line)))
    → ((q : List ℕ) → option_or (labels q) (first_of q (definitions c k parts)) ≡ all q)
    → (q : List ℕ) → option_or (labels' q) (first_of q (definitions c' (k + 1) rest)) ≡ all q
unfolding definitions
step labels labels' c c' k bytes parts rest line all cut said further more so_far q =
    let joined : first_of q (definitions c k (bytes ∷ rest)) ≡ option_or (first_of q (defined c k line)) (first_of q (definitions c' (k + 1) rest)) =
    rw (further, said) (first_of-append q (defined c k (line_of c.in_data bytes)) (definitions (behind_line c bytes) (k + 1) rest)) in
    ap (λ (o : Option Place). option_or o (first_of q (definitions c' (k + 1) rest))) (more q)
    ∙ or-assoc (labels q) (first_of q (defined c k line)) (first_of q (definitions c' (k + 1) rest))
    ∙ ap (option_or (labels q)) (sym joined)
    ∙ ap (λ (ls : List (List ℕ)). option_or (labels q) (first_of q (definitions c k ls))) (sym cut)
    ∙ so_far q

pub step_end : (c c' e : Cursor) (bytes : List ℕ) (parts rest : List (List ℕ)) (line : Result Line Fault)
    → parts ≡ bytes ∷ rest → line ≡ line_of c.in_data bytes → c' ≡ passed c line → end_of c parts ≡ e → end_of c' rest ≡ e
unfolding end_of
step_end c c' e bytes parts rest line cut said further so_far = rw (further, said) (sym (ap (end_of c) cut) ∙ so_far)

pub bytes_eq-sym : (xs ys : List ℕ) → bytes_eq xs ys ≡ bytes_eq ys xs
bytes_eq-sym xs ys = one_answer {P = xs ≡ ys} (bytes_eq xs ys) (bytes_eq ys xs) (bytes_eq-Decides xs ys)
    (let other = bytes_eq-Decides ys xs in (λ t. sym (other.0 t), λ e. other.1 (sym e)))

-- a label that wasn't defined is added
pub added : (name q : List ℕ) (place : Place) (labels : List ℕ → Option Place) → labels name ≡ None
    → cond (bytes_eq name q) (Some place) (labels q) ≡ option_or (labels q) (if bytes_eq q name then Some place else None)
added name q place labels none = elim (cases_Bool (bytes_eq name q)) [
  | inl e ↦
      let same : q ≡ name = sym ((bytes_eq-Decides name q).0 e) in
      let missing : labels q ≡ None = ap labels same ∙ none in
      rw (e, bytes_eq-sym q name, e, missing) refl
  | inr e ↦ rw (e, bytes_eq-sym q name, e) (sym (or-none (labels q)))
]

-- where no line is left, all is laid out
pub done : (labels all : List ℕ → Option Place) (c : Cursor) (k : ℕ) (text : List ℕ) → length text ≡ 0
    → ((q : List ℕ) → option_or (labels q) (first_of q (definitions c k (lines text))) ≡ all q) → (q : List ℕ) → labels q ≡ all q
unfolding definitions first_of lines ended
done labels all c k [] none h q = sym (or-none (labels q)) ∙ h q
done labels all c k (b ∷ bs) none h q = absurd (omega arith)

pub done_end : (c e : Cursor) (text : List ℕ) → length text ≡ 0 → end_of c (lines text) ≡ e → c ≡ e
unfolding end_of lines ended
done_end c e [] none h = h
done_end c e (b ∷ bs) none h = absurd (omega arith)

pub ruleset adding = or-none
