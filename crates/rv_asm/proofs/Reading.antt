-- Tokens as they are read from the front of a text.
use Rattle.std.proofs.Common.{◌⊎◌, ◌≡◌, ℕ, suc, ◌+◌, ◌<◌, not, Bool, true, false, cond, eqb, List}
use Rattle.std.proofs.Common.{[], ◌∷◌, Option, Some, None, length, get_or, ◌-◌, take, drop, length-drop, ap, refl, sym, ◌∙◌, arith, inl, inr}
use Rattle.std.specs.List.{prefix_len}
use Rattle.std.proofs.lemmas.Bool.{cases_Bool, false≢true, and_parts, and_cases, both_ways, not-true, not-false, or_cases, and_from, ne_eqb, eq-eqb, eqb-true}
use Rattle.std.proofs.lemmas.List.{take_all}
use Rattle.std.proofs.lemmas.Bool.Decides.{nat_tests}
use Rattle.rv_asm.specs.Bytes.{is_blank, is_mark, is_word_byte}
use Rattle.rv_asm.specs.declared.bytes.TheConstants.{COMMA, COLON, OPEN, CLOSE}
use Rattle.rv_asm.specs.Tokens.{Token, Word, Comma, Colon, Open, Close, begins_word, behind, end, first_word, mark_of, onto_word, tokens, trim_start}

blank : (b : ℕ) (bs : List ℕ) → is_blank b ≡ true → tokens (b ∷ bs) ≡ tokens bs
unfolding tokens
blank b bs e = rw e refl

mark : (b : ℕ) (bs : List ℕ) → is_blank b ≡ false → is_mark b ≡ true → tokens (b ∷ bs) ≡ mark_of b ∷ tokens bs
unfolding tokens
mark b bs e m = rw (e, m) refl

last : (b : ℕ) (bs : List ℕ) → is_blank b ≡ false → is_mark b ≡ false → begins_word bs ≡ false → tokens (b ∷ bs) ≡ Word (b ∷ []) ∷ tokens bs
unfolding tokens
last b bs e m w = rw (e, m, w) refl

more : (b : ℕ) (bs : List ℕ) → is_blank b ≡ false → is_mark b ≡ false → begins_word bs ≡ true → tokens (b ∷ bs) ≡ onto_word b (tokens bs)
unfolding tokens
more b bs e m w = rw (e, m, w) refl

trim_blank : (b : ℕ) (bs : List ℕ) → is_blank b ≡ true → trim_start (b ∷ bs) ≡ trim_start bs
unfolding trim_start
trim_blank b bs e =
    let one : 1 + prefix_len is_blank bs ≡ suc (prefix_len is_blank bs) = omega arith in
    rw (e, one) refl

trim_other : (b : ℕ) (bs : List ℕ) → is_blank b ≡ false → trim_start (b ∷ bs) ≡ b ∷ bs
unfolding trim_start
trim_other b bs e = rw e refl

-- blanks before a text don't matter
pub tokens-trimmed : (text : List ℕ) → tokens (trim_start text) ≡ tokens text
unfolding trim_start
tokens-trimmed [] = refl
tokens-trimmed (b ∷ bs) = elim (cases_Bool (is_blank b)) [
  | inl e ↦ ap tokens (trim_blank b bs e) ∙ tokens-trimmed bs ∙ sym (blank b bs e)
  | inr e ↦ ap tokens (trim_other b bs e)
]

begins_blank : List ℕ → Bool
begins_blank [] = false
begins_blank (b ∷ bs) = is_blank b

trimmed : (text : List ℕ) → begins_blank (trim_start text) ≡ false
unfolding trim_start begins_blank
trimmed [] = refl
trimmed (b ∷ bs) = elim (cases_Bool (is_blank b)) [
  | inl e ↦ ap begins_blank (trim_blank b bs e) ∙ trimmed bs
  | inr e ↦ ap begins_blank (trim_other b bs e) ∙ e
]

no_prefix : (text : List ℕ) → begins_word text ≡ false → prefix_len is_word_byte text ≡ 0
no_prefix [] e = refl
no_prefix (b ∷ bs) e = ap (λ t. cond t (1 + prefix_len is_word_byte bs) 0) e

some_prefix : (b : ℕ) (bs : List ℕ) → is_word_byte b ≡ true → prefix_len is_word_byte (b ∷ bs) ≡ suc (prefix_len is_word_byte bs)
some_prefix b bs e = ap (λ t. cond t (1 + prefix_len is_word_byte bs) 0) e ∙ omega arith

-- a word at the front
word_front : (text : List ℕ) → begins_word text ≡ true → let n : ℕ = prefix_len is_word_byte text in tokens text ≡ Word (take n text) ∷ tokens (drop n text)
word_front [] h = absurd (false≢true h)
word_front (b ∷ bs) h = front (cases_Bool (begins_word bs)) (word_front bs)
  where
    parts : (not (is_blank b) ≡ true) × (not (is_mark b) ≡ true)
    parts = and_parts _ _ h

    plain : is_blank b ≡ false
    plain = not-true _ parts.0

    no_mark : is_mark b ≡ false
    no_mark = not-true _ parts.1

    front : (begins_word bs ≡ true) ⊎ (begins_word bs ≡ false)
        → (begins_word bs ≡ true → tokens bs ≡ Word (take (prefix_len is_word_byte bs) bs) ∷ tokens (drop (prefix_len is_word_byte bs) bs))
        → tokens (b ∷ bs) ≡ Word (take (prefix_len is_word_byte (b ∷ bs)) (b ∷ bs)) ∷ tokens (drop (prefix_len is_word_byte (b ∷ bs)) (b ∷ bs))
    front (inl e) ih = rw (some_prefix b bs h) (more b bs plain no_mark e ∙ ap (onto_word b) (ih e))
    front (inr e) ih = rw (some_prefix b bs h, no_prefix bs e) (last b bs plain no_mark e)

first_at : (text : List ℕ) → begins_word (trim_start text) ≡ true → let t : List ℕ = trim_start text in let n : ℕ = prefix_len is_word_byte t in
    first_word (tokens text) ≡ Some (take n t, tokens (drop n t))
unfolding first_word
first_at text h = ap first_word (sym (tokens-trimmed text) ∙ word_front (trim_start text) h)

marked : (x y z : Bool) (ts : List Token) → first_word (cond x Comma (cond y Colon (cond z Open Close)) ∷ ts) ≡ None
unfolding first_word
marked true y z ts = refl
marked false true z ts = refl
marked false false true ts = refl
marked false false false ts = refl

no_word : (text : List ℕ) → begins_blank text ≡ false → begins_word text ≡ false → first_word (tokens text) ≡ None
unfolding first_word tokens begins_blank
no_word [] p h = refl
no_word (b ∷ bs) p h = elim (and_cases _ _ h) [
  | inl e ↦ absurd (both_ways (is_blank b) p (not-false _ e))
  | inr e ↦ ap first_word (mark b bs p (not-false _ e)) ∙ marked (eqb b COMMA) (eqb b COLON) (eqb b OPEN) (tokens bs)
]

-- a word is read where one stands
pub word_read : (text t : List ℕ) (n : ℕ) → t ≡ trim_start text → n ≡ prefix_len is_word_byte t → (n ≡ 0 → ⊥)
    → first_word (tokens text) ≡ Some (take n t, tokens (drop n t))
word_read text t n e f some = rw (f, e) (elim (cases_Bool (begins_word (trim_start text))) [
  | inl h ↦ first_at text h
  | inr h ↦ absurd (some (f ∙ ap (prefix_len is_word_byte) e ∙ no_prefix (trim_start text) h))
])

pub none_read : (text t : List ℕ) (n : ℕ) → t ≡ trim_start text → n ≡ prefix_len is_word_byte t → n ≡ 0 → first_word (tokens text) ≡ None
none_read text t n e f none = elim (cases_Bool (begins_word (trim_start text))) [
  | inl h ↦ absurd (word_length (trim_start text) h (sym (ap (prefix_len is_word_byte) e) ∙ sym f ∙ none))
  | inr h ↦ sym (ap first_word (tokens-trimmed text)) ∙ no_word (trim_start text) (trimmed text) h
]
  where
    word_length : (t : List ℕ) → begins_word t ≡ true → prefix_len is_word_byte t ≡ 0 → ⊥
    word_length [] h z = absurd (false≢true h)
    word_length (b ∷ bs) h z = let some = some_prefix b bs h in absurd (omega (arith, some, z))

pub ruleset words = none_read

-- A mark, and the end

mark_plain : (b : ℕ) → is_mark b ≡ true → is_blank b ≡ false
mark_plain b h = grind (arith, nat_tests)

-- which mark it is
behind_mark : (mark b : ℕ) (ts : List Token) → is_mark b ≡ true → behind mark (mark_of b ∷ ts) ≡ cond (eqb mark b) (Some ts) None
unfolding behind
behind_mark mark b ts q = elim (or_cases _ _ q) [
  | inl q ↦ elim (or_cases _ _ q) [
    | inl q ↦ elim (or_cases _ _ q) [
      | inl q ↦ let e : b ≡ COMMA = eqb-true _ _ q in rw e refl
      | inr q ↦ let e : b ≡ COLON = eqb-true _ _ q in rw e refl
    ]
    | inr q ↦ let e : b ≡ OPEN = eqb-true _ _ q in rw e refl
  ]
  | inr q ↦ let e : b ≡ CLOSE = eqb-true _ _ q in rw e refl
]

behind_word : (mark : ℕ) (bytes : List ℕ) (ts : List Token) → behind mark (Word bytes ∷ ts) ≡ None
unfolding behind
behind_word mark bytes ts = refl

-- the tokens of a text that begins with no blank: a mark, or a word
front : (b : ℕ) (bs : List ℕ) → is_blank b ≡ false → ((is_mark b ≡ true) × (tokens (b ∷ bs) ≡ mark_of b ∷ tokens bs)) ⊎ ((is_mark b ≡ false) × (begins_word
    (b ∷ bs) ≡ true))
front b bs plain = elim (cases_Bool (is_mark b)) [
  | inl m ↦ inl (m, mark b bs plain m)
  | inr m ↦ inr (m, and_from _ _ (not_from_false _ plain) (not_from_false _ m))
]
  where
    not_from_false : (t : Bool) → t ≡ false → not t ≡ true
    not_from_false t e = rw e refl

not_first : (mark first : ℕ) (rest : List ℕ) → is_blank first ≡ false → (first ≡ mark → ⊥) → behind mark (tokens (first ∷ rest)) ≡ None
not_first mark first rest plain g = elim (front first rest plain) [
  | inl m ↦
      let other : eqb mark first ≡ false = ne_eqb mark first (λ e. g (sym e)) in
      ap (behind mark) m.1 ∙ behind_mark mark first (tokens rest) m.0 ∙ ap (λ t. cond {A = Option (List Token)} t (Some (tokens rest)) None) other
  | inr w ↦ ap (behind mark) (word_front (first ∷ rest) w.1) ∙ behind_word mark _ _
]

plain_first : (text rest : List ℕ) (first : ℕ) → trim_start text ≡ first ∷ rest → is_blank first ≡ false
unfolding begins_blank
plain_first text rest first e = sym (ap begins_blank e) ∙ trimmed text

pub mark_read : (mark : ℕ) (text rest : List ℕ) → is_mark mark ≡ true → trim_start text ≡ mark ∷ rest → behind mark (tokens text) ≡ Some (tokens rest)
mark_read m text rest p e =
    let same : eqb m m ≡ true = eq-eqb m m refl in
    ap (behind m) (sym (tokens-trimmed text) ∙ ap tokens e ∙ mark m rest (mark_plain m p) p) ∙ behind_mark m m (tokens rest) p
    ∙ ap (λ t. cond {A = Option (List Token)} t (Some (tokens rest)) None) same

pub no_mark : (mark first : ℕ) (text rest : List ℕ) → trim_start text ≡ first ∷ rest → (first ≡ mark → ⊥) → behind mark (tokens text) ≡ None
no_mark m first text rest e g = ap (behind m) (sym (tokens-trimmed text) ∙ ap tokens e) ∙ not_first m first rest (plain_first text rest first e) g

pub nothing_behind : (mark : ℕ) (text : List ℕ) → trim_start text ≡ [] → behind mark (tokens text) ≡ None
unfolding behind tokens
nothing_behind mark text e = ap (behind mark) (sym (tokens-trimmed text) ∙ ap tokens e)

pub at_end : (text : List ℕ) → trim_start text ≡ [] → end (tokens text) ≡ Some tt
unfolding end tokens
at_end text e = ap end (sym (tokens-trimmed text) ∙ ap tokens e)

pub before_end : (b : ℕ) (text bs : List ℕ) → trim_start text ≡ b ∷ bs → end (tokens text) ≡ None
unfolding end
before_end b text bs e = ap end (sym (tokens-trimmed text) ∙ ap tokens e) ∙ elim (front b bs (plain_first text bs b e)) [
  | inl m ↦ ap end m.1
  | inr w ↦ ap end (word_front (b ∷ bs) w.1)
]

-- The same of a slice, by its first byte and what lies behind it

rest_all : (n : ℕ) (t : List ℕ) → take (length t - n) (drop n t) ≡ drop n t
rest_all n t = take_all (length t - n) (drop n t) (let long = length-drop n t in omega (arith, long))

pub mark_at : (mark : ℕ) (text t : List ℕ) → is_mark mark ≡ true → t ≡ trim_start text → 0 < length t → get_or t 0 0 ≡ mark
    → Some (tokens (take (length t - 1) (drop 1 t))) ≡ behind mark (tokens text)
mark_at mark text [] p e h g = absurd (omega arith)
mark_at mark text (first ∷ rest) p e h g = rw (rest_all 1 (first ∷ rest)) (sym (mark_read mark text rest p (sym e ∙ ap (λ b. b ∷ rest) g)))

pub no_mark_at : (mark : ℕ) (text t : List ℕ) → t ≡ trim_start text → (0 < length t → get_or t 0 0 ≡ mark → ⊥)
    → ◌≡◌ {A = Option (List Token)} None (behind mark (tokens text))
no_mark_at mark text [] e g = sym (nothing_behind mark text (sym e))
no_mark_at mark text (first ∷ rest) e g = sym (no_mark mark first text rest (sym e) (g (omega arith)))

pub end_at : (text t : List ℕ) → t ≡ trim_start text → length t ≡ 0 → Some tt ≡ end (tokens text)
end_at text [] e h = sym (at_end text (sym e))
end_at text (b ∷ bs) e h = absurd (omega arith)

pub no_end_at : (text t : List ℕ) → t ≡ trim_start text → (length t ≡ 0 → ⊥) → ◌≡◌ {A = Option (Unit {0})} None (end (tokens text))
no_end_at text [] e h = absurd (h refl)
no_end_at text (b ∷ bs) e h = sym (before_end b text bs (sym e))

pub word_at : (text t : List ℕ) (n : ℕ) → t ≡ trim_start text → n ≡ prefix_len is_word_byte t → (n ≡ 0 → ⊥)
    → Some (take n t, tokens (take (length t - n) (drop n t))) ≡ first_word (tokens text)
word_at text t n e f some = rw (rest_all n t) (sym (word_read text t n e f some))
