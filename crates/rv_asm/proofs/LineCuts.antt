-- The lines of a text, cut off one after the other.
use Rattle.std.proofs.Common.{◌≡◌, ℕ, ◌+◌, ◌-◌, ◌<◌, ◌≤◌, Bool, not, cond}
use Rattle.std.proofs.Common.{eqb, List, [], ◌∷◌, length, take, drop, refl, ap, ◌∙◌, arith, inl, inr}
use Rattle.std.specs.List.{position_or_len, slice_split, onto_first, before_first, after_first}
use Rattle.std.proofs.lemmas.Bool.{cases_Bool}
use Rattle.std.proofs.lemmas.List.{take_rest}
use Rattle.std.proofs.lemmas.List.Splits.{length-slice_split, slice_split_first, slice_split-cons_no}
use Rattle.rv_asm.specs.Lines.{ended, lines, without_return}
use Rattle.rv_asm.specs.declared.bytes.TheConstants.{LINE_FEED}

is_feed : ℕ → Bool
is_feed b = eqb b LINE_FEED

-- a line that others follow
ended-more : (line : List ℕ) (parts : List (List ℕ)) → 0 < length parts → ended (line ∷ parts) ≡ without_return line ∷ ended parts
unfolding ended
ended-more line [] h = absurd (omega arith)
ended-more [] (next ∷ rest) h = refl
ended-more (b ∷ bs) (next ∷ rest) h = refl

pub lines-cut : (text : List ℕ) (n : ℕ) → n ≡ position_or_len (λ b. eqb b LINE_FEED) text → n < length text
    → lines text ≡ without_return (take n text) ∷ lines (take (length text - (n + 1)) (drop (n + 1) text))
unfolding lines
lines-cut text n e h =
    let within : position_or_len (λ b. eqb b LINE_FEED) text < length text = omega (arith, e) in
    let some = length-slice_split (λ b. eqb b LINE_FEED) (after_first (λ b. eqb b LINE_FEED) text) in
    rw (take_rest text (n + 1), e)
    (ap ended (slice_split_first (λ b. eqb b LINE_FEED) text 0 within)
    ∙ ended-more (before_first (λ b. eqb b LINE_FEED) text) (slice_split (λ b. eqb b LINE_FEED) (after_first (λ b. eqb b LINE_FEED) text)) (omega (
      arith,
      some,
    )))

-- a text with no line feed is one line
one_part : (text : List ℕ) → length text ≤ position_or_len (λ b. eqb b LINE_FEED) text → slice_split (λ b. eqb b LINE_FEED) text ≡ text ∷ []
one_part [] h = refl
one_part (b ∷ bs) h = elim (cases_Bool (eqb b LINE_FEED)) [
  | inl e ↦
      let none : position_or_len (λ b. eqb b LINE_FEED) (b ∷ bs) ≡ 0 = ap (λ t. cond (not t) (1 + position_or_len (λ b. eqb b LINE_FEED) bs) 0) e in
      absurd (omega (arith, none))
  | inr e ↦
      let more : position_or_len (λ b. eqb b LINE_FEED) (b ∷ bs) ≡ 1 + position_or_len (λ b. eqb b LINE_FEED) bs =
      ap (λ t. cond (not t) (1 + position_or_len (λ b. eqb b LINE_FEED) bs) 0) e in
      slice_split-cons_no (λ b. eqb b LINE_FEED) b bs e ∙ ap (onto_first b) (one_part bs (omega (arith, more)))
]

pub lines-last : (text : List ℕ) (n : ℕ) → n ≡ position_or_len (λ b. eqb b LINE_FEED) text → length text ≤ n → 0 < length text
    → lines text ≡ text ∷ lines (take (length text - n) (drop n text))
unfolding lines ended
lines-last [] n e h some = absurd (omega arith)
lines-last (b ∷ bs) n e h some =
    let none : length (b ∷ bs) - n ≡ 0 = omega arith in
    let one = one_part (b ∷ bs) (omega (arith, e)) in
    rw none (ap ended one)
