-- The fields of a word put together of them: the numbers of the fields are those that went in.
use Rattle.std.proofs.Common.{◌≡◌, ℕ, ◌+◌, ◌*◌, ◌/◌, ◌%◌, ◌^◌, ◌<◌, true, arith}
use Rattle.std.proofs.lemmas.Bool.Decides.{nat_tests}
use Rattle.rv_table.specs.Words.{sign_extended}
use Rattle.rv_table.specs.WellFormed.{is_signed}

-- opcode, rd, funct3, rs1, rs2 and funct7, from the low bits to the high ones
abbrev pub joined : ℕ → ℕ → ℕ → ℕ → ℕ → ℕ → ℕ
joined o d f s t g = o + 2 ^ 7 * d + 2 ^ 12 * f + 2 ^ 15 * s + 2 ^ 20 * t + 2 ^ 25 * g

pub record AreFields (o d f s t g : ℕ) : Type 0 where
  pub opcode : o < 2 ^ 7
  pub rd : d < 2 ^ 5
  pub funct3 : f < 2 ^ 3
  pub rs1 : s < 2 ^ 5
  pub rs2 : t < 2 ^ 5
  pub funct7 : g < 2 ^ 7

-- the fields of such a word, and the parts that the immediates are made of
pub record HasFields (w o d f s t g : ℕ) : Type 0 where
  pub below : w < 2 ^ 32
  pub opcode : w % 2 ^ 7 ≡ o
  pub rd : w / 2 ^ 7 % 2 ^ 5 ≡ d
  pub funct3 : w / 2 ^ 12 % 2 ^ 3 ≡ f
  pub rs1 : w / 2 ^ 15 % 2 ^ 5 ≡ s
  pub rs2 : w / 2 ^ 20 % 2 ^ 5 ≡ t
  pub funct7 : w / 2 ^ 25 ≡ g
  pub above_12 : w / 2 ^ 12 ≡ f + 2 ^ 3 * s + 2 ^ 8 * t + 2 ^ 13 * g
  pub above_20 : w / 2 ^ 20 ≡ t + 2 ^ 5 * g
  pub sign : w / 2 ^ 31 ≡ g / 2 ^ 6
  pub funct7_low : w / 2 ^ 25 % 2 ^ 6 ≡ g % 2 ^ 6
  pub rd_low : w / 2 ^ 7 % 2 ≡ d % 2
  pub rd_high : w / 2 ^ 8 % 2 ^ 4 ≡ d / 2
  pub middle : w / 2 ^ 12 % 2 ^ 8 ≡ f + 2 ^ 3 * s
  pub rs2_low : w / 2 ^ 20 % 2 ≡ t % 2
  pub rs2_high : w / 2 ^ 21 % 2 ^ 10 ≡ t / 2 + 2 ^ 4 * (g % 2 ^ 6)

pub fields_of : (w o d f s t g : ℕ) → AreFields o d f s t g → w ≡ joined o d f s t g → HasFields w o d f s t g
fields_of w o d f s t g h e = record {
  below = omega arith;
  opcode = omega arith;
  rd = omega arith;
  funct3 = omega arith;
  rs1 = omega arith;
  rs2 = omega arith;
  funct7 = omega arith;
  above_12 = omega arith;
  above_20 = omega arith;
  sign = omega arith;
  funct7_low = omega arith;
  rd_low = omega arith;
  rd_high = omega arith;
  middle = omega arith;
  rs2_low = omega arith;
  rs2_high = omega arith;
}

-- a signed number of 12, 13 or 21 bits is got back from its low bits
pub extended_12 : (v : ℕ) → v < 2 ^ 32 → is_signed 12 v ≡ true → sign_extended 12 (v % 2 ^ 12) ≡ v
extended_12 v h k = grind (arith, nat_tests)

pub extended_13 : (v : ℕ) → v < 2 ^ 32 → is_signed 13 v ≡ true → sign_extended 13 (v % 2 ^ 13) ≡ v
extended_13 v h k = grind (arith, nat_tests)

pub extended_21 : (v : ℕ) → v < 2 ^ 32 → is_signed 21 v ≡ true → sign_extended 21 (v % 2 ^ 21) ≡ v
extended_21 v h k = grind (arith, nat_tests)
