-- The lines of a file.
use Rattle.std.proofs.Common.{◌≡◌, ℕ, suc, ◌+◌, ◌<◌, ◌≤◌, true, false, not, cond, ◌-◌, List, [], ◌∷◌, ◌++◌, length, take, drop, refl, sym, ap, ◌∙◌, subst, append_assoc, inl, inr, arith}
use Rattle.std.specs.Prelude.{◌==◌}
use Rattle.std.specs.List.{position_or_len}
use Rattle.std.proofs.lemmas.Bool.{cases_Bool}
use Rattle.std.proofs.lemmas.Bool.Decides.{nat_tests}
use Rattle.std.proofs.lemmas.List.{drop-drop, length-drop, length-take-le, take_all}
use Rattle.class_map.specs.Faults.{FileLine, lines_of, onto_line}
use Rattle.class_map.specs.Judging.{ended_line}
use Rattle.class_map.specs.Pieces.{HasNoFeed, IsNextText}
use Rattle.class_map.specs.Texts.{line_feed}

one_more : (n : ℕ) → 1 + n ≡ suc n
one_more n = omega arith

feed_here : (x : ℕ) (xs : List ℕ) → (x == line_feed) ≡ true → position_or_len (λ b. b == line_feed) (x ∷ xs) ≡ 0
feed_here x xs e = ap (λ t. cond (not t) (1 + position_or_len (λ b. b == line_feed) xs) 0) e

feed_later : (x : ℕ) (xs : List ℕ) → (x == line_feed) ≡ false → position_or_len (λ b. b == line_feed) (x ∷ xs) ≡ suc (position_or_len (λ b. b == line_feed) xs)
feed_later x xs e =
    ap (λ t. cond (not t) (1 + position_or_len (λ b. b == line_feed) xs) 0) e ∙ one_more (position_or_len (λ b. b == line_feed) xs)

-- the bytes before the first line feed
pub free_front : (xs : List ℕ) → HasNoFeed (take (position_or_len (λ b. b == line_feed) xs) xs)
free_front [] = tt
free_front (x ∷ xs) = elim (cases_Bool (x == line_feed)) [
  | inl e ↦ subst (λ (n : ℕ). HasNoFeed (take n (x ∷ xs))) (sym (feed_here x xs e)) tt
  | inr e ↦ subst (λ (n : ℕ). HasNoFeed (take n (x ∷ xs))) (sym (feed_later x xs e)) (e, free_front xs)
]

is_feed : (x : ℕ) → (x == line_feed) ≡ true → x ≡ line_feed
is_feed x e = grind (arith, nat_tests)

-- the first line feed
pub feed_at : (xs : List ℕ) → position_or_len (λ b. b == line_feed) xs < length xs
    → xs ≡ take (position_or_len (λ b. b == line_feed) xs) xs ++ line_feed ∷ drop (suc (position_or_len (λ b. b == line_feed) xs)) xs
feed_at [] h = absurd (omega arith)
feed_at (x ∷ xs) h = elim (cases_Bool (x == line_feed)) [
  | inl e ↦
      subst (λ (n : ℕ). x ∷ xs ≡ take n (x ∷ xs) ++ line_feed ∷ drop (suc n) (x ∷ xs)) (sym (feed_here x xs e)) (ap (λ (b : ℕ). b ∷ xs) (is_feed x e))
  | inr e ↦
      let less : position_or_len (λ b. b == line_feed) xs < length xs = (let m = feed_later x xs e in omega (arith, m, h)) in
      subst (λ (n : ℕ). x ∷ xs ≡ take n (x ∷ xs) ++ line_feed ∷ drop (suc n) (x ∷ xs)) (sym (feed_later x xs e)) (ap (λ (l : List ℕ). x ∷ l) (feed_at xs less))
]

pub none_of : lines_of [] ≡ []
unfolding lines_of
none_of = refl

-- a line that has its line feed
pub cut_line : (text more : List ℕ) → HasNoFeed text → lines_of (text ++ line_feed ∷ more) ≡ ended_line text ∷ lines_of more
unfolding lines_of
cut_line [] more h = refl
cut_line (b ∷ bs) more h = rw h.0 (ap (onto_line b) (cut_line bs more h.1))

-- ---- bytes with no line feed, in front of lines

abbrev pub glue : List ℕ → List FileLine → List FileLine
glue [] lines = lines
glue (b ∷ bs) lines = onto_line b (glue bs lines)

pub glued : (xs more : List ℕ) → HasNoFeed xs → lines_of (xs ++ more) ≡ glue xs (lines_of more)
unfolding lines_of
glued [] more h = refl
glued (b ∷ bs) more h = rw h.0 (ap (onto_line b) (glued bs more h.1))

-- the first line has at least these bytes
pub record Begins (n : ℕ) (lines : List FileLine) : Type 0 where
  pub line : FileLine
  pub rest : List FileLine
  pub is : lines ≡ line ∷ rest
  pub longer : n ≤ length line.text

onto_begins : (b : ℕ) (lines : List FileLine) → Begins 1 (onto_line b lines)
onto_begins b [] = record { line = record { text = b ∷ []; is_ended = false }; rest = []; is = refl; longer = omega arith }
onto_begins b (line ∷ rest) = record { line = record line { text = b ∷ line.text }; rest = rest; is = refl; longer = omega arith }

longer_begins : (b n : ℕ) (lines : List FileLine) → Begins n lines → Begins (suc n) (onto_line b lines)
longer_begins b n lines h = record {
  line = record h.line { text = b ∷ h.line.text };
  rest = h.rest;
  is = ap (onto_line b) h.is;
  longer = (let l = h.longer in omega (arith, l));
}

pub begins : (b : ℕ) (bs : List ℕ) (lines : List FileLine) → Begins (suc (length bs)) (glue (b ∷ bs) lines)
begins b [] lines = onto_begins b lines
begins b (c ∷ bs) lines = longer_begins b (suc (length bs)) (glue (c ∷ bs) lines) (begins c bs lines)

-- the last line without a line feed
pub unended : (b : ℕ) (bs : List ℕ) → glue (b ∷ bs) [] ≡ record { text = b ∷ bs; is_ended = false } ∷ []
unended b [] = refl
unended b (c ∷ bs) = ap (onto_line b) (unended c bs)

-- ---- the next line of a piece

pub all_free : (xs : List ℕ) (n : ℕ) → n ≡ position_or_len (λ b. b == line_feed) xs → length xs ≤ n → HasNoFeed xs
all_free xs n e h =
    subst HasNoFeed (take_all (position_or_len (λ b. b == line_feed) xs) xs (omega (arith, e))) (free_front xs)

rest_cut : (rest more : List ℕ) (n : ℕ) → n ≡ position_or_len (λ b. b == line_feed) rest → n < length rest
    → lines_of (rest ++ more) ≡ ended_line (take n rest) ∷ lines_of (drop (suc n) rest ++ more)
rest_cut rest more n e h =
    let at : rest ≡ take n rest ++ line_feed ∷ drop (suc n) rest = rw e (feed_at rest (subst (λ (k : ℕ). k < length rest) e h)) in
    let free : HasNoFeed (take n rest) = subst (λ (k : ℕ). HasNoFeed (take k rest)) (sym e) (free_front rest) in
    ap (λ (l : List ℕ). lines_of (l ++ more)) at ∙ ap lines_of (append_assoc (take n rest) (line_feed ∷ drop (suc n) rest) more)
    ∙ cut_line (take n rest) (drop (suc n) rest ++ more) free

pub next_text : (piece : List ℕ) (used n : ℕ) → used ≤ length piece → n ≡ position_or_len (λ b. b == line_feed) (drop used piece) → n < length (drop used piece)
    → IsNextText piece used (take n (drop used piece))
next_text piece used n within e h =
    let size : length (take n (drop used piece)) ≡ n = length-take-le n (drop used piece) (omega arith) in
    let left : length (drop used piece) ≡ length piece - used = length-drop used piece in
    let behind : drop (suc n) (drop used piece) ≡ drop (used + (length (take n (drop used piece)) + 1)) piece =
    drop-drop (suc n) used piece ∙ ap (λ (k : ℕ). drop k piece) (omega (arith, size)) in
    record {
      cut = λ more. rest_cut (drop used piece) more n e h ∙ ap (λ (l : List ℕ). ended_line (take n (drop used piece)) ∷ lines_of (l ++ more)) behind;
      within = omega (arith, size, left, h, within);
    }
