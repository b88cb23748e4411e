-- Which bytes a load depends on.
use Rattle.std.proofs.Common.{◌≡◌, ℕ, zero, suc, lit<, ◌+◌, ◌*◌, ◌/◌, ◌%◌, ◌^◌, ◌<◌, true, arith, ap, sym, ◌∙◌, refl}
use Rattle.std.proofs.lemmas.Nat.{mod_below}
use Rattle.std.proofs.lemmas.Bool.{eq-eqb, eqb-true}
use Rattle.rv_table.specs.Accesses.{accesses, word_of_bytes, byte_of, load_size, loaded, word_at, extended_byte, extended_half, half_at}
use Rattle.rv_table.specs.declared.operation.LoadKind.{LoadKind}
use Rattle.rv_table.specs.declared.operation.LoadKind.TheVariants.{Lb, Lh, Lw, Lbu, Lhu}

pub accessed : (size x p : ℕ) → p / size ≡ x / size → accesses size x p ≡ true
unfolding accesses
accessed size x p e = eq-eqb (p / size) (x / size) e

half-same : (x : ℕ) (f g : ℕ → ℕ) → ((p : ℕ) → accesses 2 x p ≡ true → f p ≡ g p) → half_at x f ≡ half_at x g
half-same x f g same =
    let low : f (x / 2 * 2) ≡ g (x / 2 * 2) = same _ (accessed 2 x (x / 2 * 2) (omega arith)) in
    let high : f (x / 2 * 2 + 1) ≡ g (x / 2 * 2 + 1) = same _ (accessed 2 x (x / 2 * 2 + 1) (omega arith)) in
    cc

word-same : (x : ℕ) (f g : ℕ → ℕ) → ((p : ℕ) → accesses 4 x p ≡ true → f p ≡ g p) → word_at x f ≡ word_at x g
word-same x f g same =
    let first : f (x / 4 * 4 + 0) ≡ g (x / 4 * 4 + 0) = same _ (accessed 4 x (x / 4 * 4 + 0) (omega arith)) in
    let second : f (x / 4 * 4 + 1) ≡ g (x / 4 * 4 + 1) = same _ (accessed 4 x (x / 4 * 4 + 1) (omega arith)) in
    let third : f (x / 4 * 4 + 2) ≡ g (x / 4 * 4 + 2) = same _ (accessed 4 x (x / 4 * 4 + 2) (omega arith)) in
    let fourth : f (x / 4 * 4 + 3) ≡ g (x / 4 * 4 + 3) = same _ (accessed 4 x (x / 4 * 4 + 3) (omega arith)) in
    cc

-- two memories with the same bytes where it accesses them give it the same value
pub loaded-same : (kind : LoadKind) (x : ℕ) (f g : ℕ → ℕ) → ((p : ℕ) → accesses (load_size kind) x p ≡ true → f p ≡ g p) → loaded kind x f ≡ loaded kind x g
unfolding loaded
loaded-same Lb x f g same = ap extended_byte (same x (accessed 1 x x refl))
loaded-same Lh x f g same = ap extended_half (half-same x f g same)
loaded-same Lw x f g same = word-same x f g same
loaded-same Lbu x f g same = same x (accessed 1 x x refl)
loaded-same Lhu x f g same = half-same x f g same

-- a word of four bytes has them as its bytes
byte_by : (g : ℕ → ℕ) (r : ℕ) → r < 4 → g 0 < 2 ^ 8 → g 1 < 2 ^ 8 → g 2 < 2 ^ 8 → g 3 < 2 ^ 8 → byte_of (word_of_bytes g) r ≡ g r
unfolding byte_of
byte_by g zero h a b c d = omega arith
byte_by g (suc zero) h a b c d = omega arith
byte_by g (suc (suc zero)) h a b c d = omega arith
byte_by g (suc (suc (suc zero))) h a b c d = omega arith
byte_by g (suc (suc (suc (suc r)))) h a b c d = absurd (omega arith)

-- byte p of the word at x, where p is in that word
pub byte_of-word_at : (x p : ℕ) (memory : ℕ → ℕ) → ((q : ℕ) → memory q < 2 ^ 8) → p / 4 ≡ x / 4 → byte_of (word_at x memory) (p % 4) ≡ memory p
byte_of-word_at x p memory bytes h =
    let place : x / 4 * 4 + p % 4 ≡ p = omega arith in
    byte_by (λ i. memory (x / 4 * 4 + i)) (p % 4) (mod_below p 4 (lit< tt)) (bytes _) (bytes _) (bytes _) (bytes _) ∙ ap memory place

-- what it accesses lies in its word
pub same_word : (kind : LoadKind) (x p : ℕ) → accesses (load_size kind) x p ≡ true → p / 4 ≡ x / 4
unfolding accesses
same_word Lb x p h = let e = eqb-true (p / 1) (x / 1) h in omega arith
same_word Lh x p h = let e = eqb-true (p / 2) (x / 2) h in omega arith
same_word Lw x p h = eqb-true (p / 4) (x / 4) h
same_word Lbu x p h = let e = eqb-true (p / 1) (x / 1) h in omega arith
same_word Lhu x p h = let e = eqb-true (p / 2) (x / 2) h in omega arith

-- a load reads its word alone
pub loaded-word : (kind : LoadKind) (x : ℕ) (memory : ℕ → ℕ) → ((q : ℕ) → memory q < 2 ^ 8) → loaded kind x memory ≡ loaded kind x (λ p. byte_of (word_at x memory) (p % 4))
loaded-word kind x memory bytes = loaded-same kind x memory (λ p. byte_of (word_at x memory) (p % 4)) (λ p h. sym (byte_of-word_at x p memory bytes (same_word kind x p h)))

-- the half of a word that a load takes
half_by : (x w r : ℕ) → r < 2 → x / 2 % 2 ≡ r → w / 2 ^ (16 * r) % 65536 ≡ w / 2 ^ (8 * (x / 2 * 2 % 4)) % 2 ^ 8 + 2 ^ 8 * (w / 2 ^ (8 * ((x / 2 * 2 + 1) % 4)) % 2 ^ 8)
half_by x w zero h e =
    let low : x / 2 * 2 % 4 ≡ 0 = omega arith in
    let high : (x / 2 * 2 + 1) % 4 ≡ 1 = omega arith in
    rw (low, high) (omega arith)
half_by x w (suc zero) h e =
    let low : x / 2 * 2 % 4 ≡ 2 = omega arith in
    let high : (x / 2 * 2 + 1) % 4 ≡ 3 = omega arith in
    rw (low, high) (omega arith)
half_by x w (suc (suc r)) h e = absurd (omega arith)

pub half_in_word : (x w : ℕ) → w / 2 ^ (16 * (x / 2 % 2)) % 65536 ≡ half_at x (λ p. byte_of w (p % 4))
unfolding byte_of
half_in_word x w = half_by x w (x / 2 % 2) (mod_below (x / 2) 2 (lit< tt)) refl
