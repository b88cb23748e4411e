-- Results of 32-bit operands have 32 bits.
use Rattle.std.proofs.Common.{◌≡◌, ℕ, zero, suc, ◌+◌, ◌-◌, ◌*◌, ◌/◌, ◌%◌, ◌^◌, ◌<◌, ◌≤◌, ℤ, pos, negsuc, neg_ℤ, ◌*ℤ◌, Bool, true, false, cond, ltb, eqb, refl, arith, lit<, w32, w64, lt_of_le_of_lt}
use Rattle.std.proofs.Math.Nat.{div-le_self, mod-le, mul-le-mul}
use Rattle.std.proofs.lemmas.Int.{unsigned_abs-mul}
use Rattle.std.proofs.lemmas.Nat.{div_below, shr_below, xor_lt}
use Rattle.std.proofs.lemmas.Bool.Decides.{nat_tests}
use Rattle.std.specs.Int.{cast_unsigned}
use Rattle.std.specs.Int.RustNames.{int_div, int_rem, unsigned_abs}
use Rattle.std.specs.Int.Bits.{and_lt, or_lt}
use mir.Val.{sel}
use Rattle.rv_table.specs.Arithmetic.{alu, signed, high_word, signed_order}
use Rattle.rv_table.specs.declared.operation.AluKind.{AluKind}
use Rattle.rv_table.specs.declared.operation.AluKind.TheVariants.{Add, Sub, Sll, Slt, Sltu, Xor, Srl, Sra, Or, And, Mul, Mulh, Mulhsu, Mulhu, Div, Divu, Rem, Remu}

-- ---- signed numbers

abs_neg : (n : ℕ) → unsigned_abs (neg_ℤ (pos n)) ≡ n
abs_neg zero = refl
abs_neg (suc n) = refl

abs_signed : (a : ℕ) → a < 2 ^ 32 → unsigned_abs (signed a) ≤ 2 ^ 31
abs_signed a h = go (ltb a (2 ^ 31)) refl
  where
    go : (t : Bool) → ltb a (2 ^ 31) ≡ t → unsigned_abs (sel t (pos a) (negsuc (2 ^ 32 - suc a))) ≤ 2 ^ 31
    go true e = grind (arith, nat_tests)
    go false e = grind (arith, nat_tests)

abs_quot : (a d : ℤ) → unsigned_abs (int_div a d) ≤ unsigned_abs a
abs_quot (pos a) (pos b) = div-le_self a b
abs_quot (pos a) (negsuc b) = rw (abs_neg (a / suc b)) (div-le_self a (suc b))
abs_quot (negsuc a) (pos b) = rw (abs_neg (suc a / b)) (div-le_self (suc a) b)
abs_quot (negsuc a) (negsuc b) = div-le_self (suc a) (suc b)

abs_rem : (a d : ℤ) → unsigned_abs (int_rem a d) ≤ unsigned_abs a
abs_rem (pos a) d = mod-le a (unsigned_abs d)
abs_rem (negsuc a) d = rw (abs_neg (suc a % unsigned_abs d)) (mod-le (suc a) (unsigned_abs d))

word_of : (z : ℤ) → unsigned_abs z ≤ 2 ^ 31 → cast_unsigned w32 z < 2 ^ 32
word_of (pos n) h = omega arith
word_of (negsuc n) h = omega arith

double_of : (z : ℤ) → unsigned_abs z < 2 ^ 64 → cast_unsigned w64 z < 2 ^ 64
double_of (pos n) h = h
double_of (negsuc n) h = omega arith

high_below : (z : ℤ) → unsigned_abs z < 2 ^ 64 → high_word z < 2 ^ 32
high_below z h = omega (arith, double_of z h)

product_abs : (x y : ℤ) (m n : ℕ) → unsigned_abs x ≤ m → unsigned_abs y ≤ n → m * n < 2 ^ 64 → unsigned_abs (x *ℤ y) < 2 ^ 64
product_abs x y m n h g l = rw (unsigned_abs-mul x y) (lt_of_le_of_lt (mul-le-mul h g) l)

-- what a shift to the right leaves of a word
pub part_below : (a n : ℕ) → a < 2 ^ 32 → n < 32 → a / 2 ^ n < 2 ^ (32 - n)
part_below a n h l =
    let e : 32 - n + n ≡ 32 = omega arith in
    shr_below a (32 - n) n (rw e h)

-- ---- the operations

pub alu_below : (kind : AluKind) (a b : ℕ) → a < 2 ^ 32 → b < 2 ^ 32 → alu kind a b < 2 ^ 32
unfolding alu
alu_below Add a b h g = omega arith
alu_below Sub a b h g = omega arith
alu_below Sll a b h g = omega arith
alu_below Slt a b h g = elim (ltb (signed_order a) (signed_order b)) as (λ t. cond t 1 0 < 2 ^ 32) [ true ↦ lit< tt | false ↦ lit< tt ]
alu_below Sltu a b h g = elim (ltb a b) as (λ t. cond t 1 0 < 2 ^ 32) [ true ↦ lit< tt | false ↦ lit< tt ]
alu_below Xor a b h g = xor_lt 32 a b h g
alu_below Srl a b h g = lt_of_le_of_lt (div-le_self a (2 ^ (b % 32))) h
alu_below Sra a b h g =
    let p : a / 2 ^ (b % 32) < 2 ^ (32 - b % 32) = part_below a (b % 32) h (omega arith) in
    let q : a / 2 ^ (b % 32) ≤ a = div-le_self a (2 ^ (b % 32)) in
    elim (ltb a (2 ^ 31)) as (λ t. cond t (a / 2 ^ (b % 32)) (a / 2 ^ (b % 32) + (2 ^ 32 - 2 ^ (32 - b % 32))) < 2 ^ 32) [ true ↦ omega arith | false ↦ omega arith ]
alu_below Or a b h g = or_lt 32 a b h g
alu_below And a b h g = and_lt 32 a b h g
alu_below Mul a b h g = omega arith
alu_below Mulh a b h g = high_below (signed a *ℤ signed b) (product_abs (signed a) (signed b) (2 ^ 31) (2 ^ 31) (abs_signed a h) (abs_signed b g) (lit< tt))
alu_below Mulhsu a b h g = high_below (signed a *ℤ pos b) (product_abs (signed a) (pos b) (2 ^ 31) (2 ^ 32) (abs_signed a h) (omega arith) (lit< tt))
alu_below Mulhu a b h g =
    let l : a * b ≤ (2 ^ 32 - 1) * (2 ^ 32 - 1) = mul-le-mul {n₁ = a} {m₁ = b} {n₂ = 2 ^ 32 - 1} {m₂ = 2 ^ 32 - 1} (omega arith) (omega arith) in
    div_below (a * b) (2 ^ 32) (2 ^ 32) (lit< tt) (omega arith)
alu_below Div a b h g = elim (eqb b 0) as (λ t. cond t (2 ^ 32 - 1) (cast_unsigned w32 (int_div (signed a) (signed b))) < 2 ^ 32) [ true ↦ lit< tt | false ↦ word_of (int_div (signed a) (signed b)) (omega (arith, abs_quot (signed a) (signed b), abs_signed a h)) ]
alu_below Divu a b h g = elim (eqb b 0) as (λ t. cond t (2 ^ 32 - 1) (a / b) < 2 ^ 32) [ true ↦ lit< tt | false ↦ lt_of_le_of_lt (div-le_self a b) h ]
alu_below Rem a b h g = elim (eqb b 0) as (λ t. cond t a (cast_unsigned w32 (int_rem (signed a) (signed b))) < 2 ^ 32) [ true ↦ h | false ↦ word_of (int_rem (signed a) (signed b)) (omega (arith, abs_rem (signed a) (signed b), abs_signed a h)) ]
alu_below Remu a b h g = elim (eqb b 0) as (λ t. cond t a (a % b) < 2 ^ 32) [ true ↦ h | false ↦ lt_of_le_of_lt (mod-le a b) h ]
