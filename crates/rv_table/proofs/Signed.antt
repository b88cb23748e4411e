-- Signed shifts and products as numbers of 32 and 64 bits.
use Rattle.std.proofs.Common.{◌≡◌, ℕ, suc, subst, ◌+◌, ◌-◌, ◌*◌, ◌/◌, ◌%◌, ◌^◌, ◌<◌, ◌≤◌, ℤ, pos, negsuc, ◌*ℤ◌, FitsSigned, arith, ap, sym, ◌∙◌, w32, w64, lit<, refl, Bool, true, false, nat_lt, cond, pow-add, lt_of_le_of_lt}
use Rattle.std.proofs.Math.Nat.{pow-le-pow_right}
use Rattle.std.proofs.Math.Facts.{sfits_to_z, sfits_widen}
use Rattle.std.proofs.lemmas.Nat.{div-mul-add, div_below, div-add-mod', mod_below, pow_pos}
use Rattle.std.proofs.lemmas.Int.{fits_signed_mul, to_z-of_z, of_z-to_z}
use Rattle.std.specs.Int.{cast_signed, cast_unsigned}
use Rattle.std.specs.Int.Signed.{nat_abs-le, shr_z, mag_shr}
use mir.Val.{sel}
use Rattle.rv_table.specs.Arithmetic.{shift_signed, signed}

-- the quotient of the complement
div_of_parts : (m d k r : ℕ) → r < m → ((d + suc k) * m - suc (k * m + r)) / m ≡ d
div_of_parts m d k r h =
    let e : (d + suc k) * m - suc (k * m + r) ≡ d * m + (m - suc r) = omega arith in
    ap (λ n. n / m) e ∙ div-mul-add d m (m - suc r) (omega arith)

shift_complement : (a m q : ℕ) → 0 < m → a < q * m → suc ((q * m - suc a) / m) + a / m ≡ q
shift_complement a m q h below =
    let quotient : a / m < q = div_below a m q h below in
    let rest : a % m < m = mod_below a m h in
    let parts : a / m * m + a % m ≡ a = div-add-mod' a m in
    let d : ℕ = q - suc (a / m) in
    let e : d + suc (a / m) ≡ q = omega arith in
    let whole : (d + suc (a / m)) * m - suc (a / m * m + a % m) ≡ q * m - suc a = ap (λ x. x * m - suc (a / m * m + a % m)) e ∙ ap (λ x. q * m - suc x) parts in
    let f : (q * m - suc a) / m ≡ d = ap (λ x. x / m) (sym whole) ∙ div_of_parts m d (a / m) (a % m) rest in
    omega arith

-- what a 32-bit number is as a signed one, it is also in a word of 64 bits
signed_fits : (a : ℕ) → a < 2 ^ 32 → FitsSigned w32 (signed a)
signed_fits a fits = sfits_to_z (record { fits = fits })

pub again : (a : ℕ) → a < 2 ^ 32 → cast_signed w32 (cast_unsigned w32 (cast_signed w32 a)) ≡ signed a
again a fits = ap (cast_signed w32) (of_z-to_z w32 a fits)

widened : (a : ℕ) → a < 2 ^ 32 → cast_signed w64 (cast_unsigned w64 (signed a)) ≡ signed a
widened a fits = to_z-of_z w64 (signed a) (sfits_widen tt (signed_fits a fits))

product_fits : (a b : ℕ) → a < 2 ^ 32 → b < 2 ^ 32 → FitsSigned w64 (signed a *ℤ signed b)
product_fits a b fa fb =
    fits_signed_mul w64 (signed a) (signed b) (2 ^ 31) (2 ^ 31)
    (nat_abs-le (signed a) (signed_fits a fa).sfits) (nat_abs-le (signed b) (signed_fits b fb).sfits) (lit< tt)

pub product_bits : (a b : ℕ) → a < 2 ^ 32 → b < 2 ^ 32 → (x y : ℤ) → x ≡ signed a → y ≡ signed b → cast_unsigned w64 (cast_signed w64 (cast_unsigned w64 (cast_signed w64 (cast_unsigned w64 x) *ℤ cast_signed w64 (cast_unsigned w64 y)))) ≡ cast_unsigned w64 (signed a *ℤ signed b)
product_bits a b fa fb x y ex ey =
    let fx : cast_signed w64 (cast_unsigned w64 x) ≡ signed a = ap (λ z. cast_signed w64 (cast_unsigned w64 z)) ex ∙ widened a fa in
    let fy : cast_signed w64 (cast_unsigned w64 y) ≡ signed b = ap (λ z. cast_signed w64 (cast_unsigned w64 z)) ey ∙ widened b fb in
    ap (λ z. cast_unsigned w64 (cast_signed w64 (cast_unsigned w64 z))) (ap (λ z. z *ℤ cast_signed w64 (cast_unsigned w64 y)) fx ∙ ap (λ z. signed a *ℤ z) fy)
    ∙ ap (cast_unsigned w64) (to_z-of_z w64 (signed a *ℤ signed b) (product_fits a b fa fb))

-- the product of a signed and an unsigned number
word_fits : (b : ℕ) → b < 2 ^ 32 → FitsSigned w64 (pos b)
word_fits b fb = record { sfits = omega (arith, fb) }

mixed_fits : (a b : ℕ) → a < 2 ^ 32 → b < 2 ^ 32 → FitsSigned w64 (signed a *ℤ pos b)
mixed_fits a b fa fb =
    fits_signed_mul w64 (signed a) (pos b) (2 ^ 31) (2 ^ 32 - 1)
    (nat_abs-le (signed a) (signed_fits a fa).sfits) (omega (arith, fb)) (lit< tt)

mixed_widened : (a b : ℕ) → a < 2 ^ 32 → b < 2 ^ 32 → (x y : ℤ) → x ≡ signed a → y ≡ pos b → cast_signed w64 (cast_unsigned w64 x) *ℤ cast_signed w64 (cast_unsigned w64 y) ≡ signed a *ℤ pos b
mixed_widened a b fa fb x y ex ey =
    let fx : cast_signed w64 (cast_unsigned w64 x) ≡ signed a = ap (λ z. cast_signed w64 (cast_unsigned w64 z)) ex ∙ widened a fa in
    let fy : cast_signed w64 (cast_unsigned w64 y) ≡ pos b = ap (λ z. cast_signed w64 (cast_unsigned w64 z)) ey ∙ to_z-of_z w64 (pos b) (word_fits b fb) in
    ap (λ z. z *ℤ cast_signed w64 (cast_unsigned w64 y)) fx ∙ ap (λ z. signed a *ℤ z) fy

pub mixed_in_range : (a b : ℕ) → a < 2 ^ 32 → b < 2 ^ 32 → (x y : ℤ) → x ≡ signed a → y ≡ pos b → FitsSigned w64 (cast_signed w64 (cast_unsigned w64 x) *ℤ cast_signed w64 (cast_unsigned w64 y))
mixed_in_range a b fa fb x y ex ey = subst (FitsSigned w64) (sym (mixed_widened a b fa fb x y ex ey)) (mixed_fits a b fa fb)

pub mixed_bits : (a b : ℕ) → a < 2 ^ 32 → b < 2 ^ 32 → (x y : ℤ) → x ≡ signed a → y ≡ pos b → cast_unsigned w64 (cast_signed w64 (cast_unsigned w64 (cast_signed w64 (cast_unsigned w64 x) *ℤ cast_signed w64 (cast_unsigned w64 y)))) ≡ cast_unsigned w64 (signed a *ℤ pos b)
mixed_bits a b fa fb x y ex ey =
    ap (λ z. cast_unsigned w64 (cast_signed w64 (cast_unsigned w64 z))) (mixed_widened a b fa fb x y ex ey)
    ∙ ap (cast_unsigned w64) (to_z-of_z w64 (signed a *ℤ pos b) (mixed_fits a b fa fb))

-- a shift to the right by n is a division by m, where m * q is 2 ^ 32; by the sign
shift_by : (t : Bool) (a m q : ℕ) → 0 < m → q * m ≡ 2 ^ 32 → q ≤ 2 ^ 32 → a < 2 ^ 32 → cast_unsigned w32 (shr_z (sel t (pos a) (negsuc (2 ^ 32 - suc a))) m) ≡ cond t (a / m) (a / m + (2 ^ 32 - q))
shift_by true a m q h e fits below = refl
shift_by false a m q h e fits below =
    let f : suc ((q * m - suc a) / m) + a / m ≡ q = shift_complement a m q h (omega arith) in
    let g : suc ((2 ^ 32 - suc a) / m) + a / m ≡ q = ap (λ x. suc ((x - suc a) / m) + a / m) (sym e) ∙ f in
    omega arith

pub power_split : (n : ℕ) → n < 32 → 2 ^ (32 - n) * 2 ^ n ≡ 2 ^ 32
power_split n h =
    let e : 32 - n + n ≡ 32 = omega arith in
    sym (pow-add 2 (32 - n) n) ∙ ap (λ k. 2 ^ k) e

shifted_fits : (a n : ℕ) → a < 2 ^ 32 → FitsSigned w32 (shr_z (signed a) (2 ^ n))
shifted_fits a n fits = record { sfits = lt_of_le_of_lt (mag_shr (signed a) (2 ^ n)) (signed_fits a fits).sfits }

pub shift_signed-shr : (a n : ℕ) → a < 2 ^ 32 → n < 32 → (x : ℤ) → x ≡ signed a → cast_unsigned w32 (cast_signed w32 (cast_unsigned w32 (shr_z (cast_signed w32 (cast_unsigned w32 x)) (2 ^ n)))) ≡ shift_signed a n
shift_signed-shr a n fits h x e =
    let f : cast_signed w32 (cast_unsigned w32 x) ≡ signed a = ap (λ z. cast_signed w32 (cast_unsigned w32 z)) e ∙ again a fits in
    ap (λ z. cast_unsigned w32 (cast_signed w32 (cast_unsigned w32 (shr_z z (2 ^ n))))) f
    ∙ ap (cast_unsigned w32) (to_z-of_z w32 (shr_z (signed a) (2 ^ n)) (shifted_fits a n fits))
    ∙ shift_by (nat_lt a (2 ^ 31)) a (2 ^ n) (2 ^ (32 - n)) (pow_pos n) (power_split n h) (pow-le-pow_right {n = 2} (lit< tt) {i = 32 - n} {j = 32} (omega arith)) fits
