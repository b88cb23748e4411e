-- How many bits a structure has at most.
use Rattle.std.proofs.Common.{◌≡◌, ℕ, ◌+◌, ◌-◌, ◌*◌, ◌^◌, ◌<◌, ◌≤◌, ◌==◌, ◌⊎◌, inl, inr, List, [], ◌∷◌, sum_by, arith}
use Rattle.std.proofs.lemmas.Bool.{cases_Bool}
use Rattle.std.proofs.Math.Nat.{div-le_of_le-mul}
use Rattle.std.proofs.lemmas.List.Sums.{sum_by-cons, sum_by-le-sum_by}
use Rattle.std.proofs.lemmas.Nat.{mul-le}
use Rattle.ace_class.specs.Classes.{classes}
use Rattle.ace_class.specs.Counts.{Counted, IsCounted, ace_of, bits_of, count_of, pairs_of, parts, ppm_of, structures, total_bits, total_of}
use Rattle.ace_class.specs.declared.class.Class.{Class}
use Rattle.ace_class.specs.declared.class.Class.TheVariants.{Ace, UnAce}
use Rattle.ace_class.specs.declared.class.Rule.TheVariants.{Timing, EmptyPlace, WrongPath, OnPath, Masked, DeadRegister, DeadData}
use Rattle.ace_class.specs.declared.class.Rule.TheVariants.{StoreRedirection, CleanData, CleanLine, UnaccessedLine, CleanTag, NoTrapCause}
use Rattle.bit_field.specs.Shapes.{IsShape, bits_in, slots, tag_bits}
use Rattle.bit_field.specs.declared.places.Structure.{Structure}
use Rattle.bit_field.specs.declared.places.Structure.TheVariants.{Pc, Npc, Bht, Btb, Ib, IdEx, ExMem, MemWb}
use Rattle.bit_field.specs.declared.places.Structure.TheVariants.{Rf, Sb, Port, CData, CTag, CValid, CDirty, CLru}
use Rattle.bit_field.specs.declared.shapes.Shape.{Shape}

-- at most 512 lines of 16 bytes
pub sets_most : (s : Shape) → IsShape s → s.sets ≤ 128
sets_most s h = elim h.sets [
  | inl e ↦ omega arith
  | inr r ↦ elim r [ inl e ↦ omega arith | inr q ↦ elim q [ inl e ↦ omega arith | inr e ↦ omega arith ] ]
]

slots_by_ways : (sets ways : ℕ) → sets ≤ 128 → (ways ≡ 1) ⊎ (ways ≡ 2) ⊎ (ways ≡ 4) → (sets * ways ≤ 512) × (sets * (ways - 1) ≤ 512)
slots_by_ways sets ways b h = elim h [
  | inl e ↦ rw e (omega arith, omega arith)
  | inr r ↦ elim r [ inl e ↦ rw e (omega arith, omega arith) | inr e ↦ rw e (omega arith, omega arith) ]
]

pub slots_most : (s : Shape) → IsShape s → (slots s ≤ 512) × (s.sets * (s.ways - 1) ≤ 512)
slots_most s h = slots_by_ways s.sets s.ways (sets_most s h) h.ways

tag_bits_most : (s : Shape) → tag_bits s ≤ 28
tag_bits_most s = omega arith

product_most : (m n : ℕ) → m ≤ 512 → n ≤ 28 → m * n ≤ 65536
product_most m n p q = let h = mul-le m n 512 28 p q in omega (arith, h)

-- no structure has more bits than the largest data cache has in its bytes
pub bits_in_most : (x : Structure) (s : Shape) → IsShape s → bits_in x s ≤ 65536
bits_in_most Pc s h = omega arith
bits_in_most Npc s h = omega arith
bits_in_most Bht s h = omega arith
bits_in_most Btb s h = omega arith
bits_in_most Ib s h = omega arith
bits_in_most IdEx s h = omega arith
bits_in_most ExMem s h = omega arith
bits_in_most MemWb s h = omega arith
bits_in_most Rf s h = omega arith
bits_in_most Sb s h = omega arith
bits_in_most Port s h = omega arith
bits_in_most CData s h = let m = (slots_most s h).0 in omega (arith, m)
bits_in_most CTag s h = product_most (slots s) (tag_bits s) (slots_most s h).0 (tag_bits_most s)
bits_in_most CValid s h = let m = (slots_most s h).0 in omega (arith, m)
bits_in_most CDirty s h = let m = (slots_most s h).0 in omega (arith, m)
bits_in_most CLru s h = let m = (slots_most s h).1 in omega (arith, m)

-- a class has no more pairs than all classes together
in_all : (f : Class → ℕ) (class : Class) → f class ≤ sum_by f classes
in_all f Ace = omega arith
in_all f (UnAce Timing) = omega arith
in_all f (UnAce EmptyPlace) = omega arith
in_all f (UnAce WrongPath) = omega arith
in_all f (UnAce OnPath) = omega arith
in_all f (UnAce Masked) = omega arith
in_all f (UnAce DeadRegister) = omega arith
in_all f (UnAce DeadData) = omega arith
in_all f (UnAce StoreRedirection) = omega arith
in_all f (UnAce CleanData) = omega arith
in_all f (UnAce CleanLine) = omega arith
in_all f (UnAce UnaccessedLine) = omega arith
in_all f (UnAce CleanTag) = omega arith
in_all f (UnAce NoTrapCause) = omega arith

pub count_most : (counted : Counted) → IsCounted counted → (s : Structure) (class : Class) → count_of counted s class ≤ pairs_of counted s
count_most counted h s class = rw (← h.pairs s) (in_all (count_of counted s) class)

pub pairs_most : (counted : Counted) → IsCounted counted → (s : Structure) → pairs_of counted s ≤ 65536 * 1000000
pairs_most counted h s =
    let m = mul-le (bits_of counted s) counted.cycles 65536 1000000 (bits_in_most s counted.shape h.shape) h.most in
    omega (arith, m)

parts_most : (part whole : ℕ) → part ≤ whole → parts part whole ≤ 1000000
parts_most part whole h = elim (cases_Bool (whole == 0)) [
  | inl zero ↦ rw zero (omega arith)
  | inr some ↦ rw some (let m = mul-le part 1000000 whole 1000000 h (omega arith) in div-le_of_le-mul whole m)
]

pub ppm_most : (counted : Counted) → IsCounted counted → (s : Structure) → ppm_of counted s ≤ 1000000
ppm_most counted h s = parts_most (ace_of counted s) (pairs_of counted s) (count_most counted h s Ace)

-- ---- all structures together

one_more : (m n k : ℕ) → m * k + n * k ≡ (m + n) * k
one_more m n k = omega arith

sum_by-mul : {A : Type 0} (f : A → ℕ) (k : ℕ) (xs : List A) → sum_by (λ x. f x * k) xs ≡ sum_by f xs * k
sum_by-mul f k [] = grind arith
sum_by-mul f k (x ∷ xs) =
    rw (sum_by-cons (λ y. f y * k) x xs, sum_by-cons f x xs, sum_by-mul f k xs) (one_more (f x) (sum_by f xs) k)

pub total_bits_most : (counted : Counted) → IsCounted counted → total_bits counted ≤ 1048576
total_bits_most counted h = sum_by-le-sum_by (bits_of counted) (λ s. 65536) structures (λ s. bits_in_most s counted.shape h.shape)

pub total_most : (counted : Counted) → IsCounted counted → (class : Class) → total_of counted class ≤ total_bits counted * counted.cycles
total_most counted h class =
    rw (← sum_by-mul (bits_of counted) counted.cycles structures)
    (sum_by-le-sum_by (λ s. count_of counted s class) (pairs_of counted) structures (λ s. count_most counted h s class))

pub total_pairs_most : (counted : Counted) → IsCounted counted → total_bits counted * counted.cycles ≤ 1048576 * 1000000
total_pairs_most counted h =
    let m = mul-le (total_bits counted) counted.cycles 1048576 1000000 (total_bits_most counted h) h.most in
    omega (arith, m)

pub total_fits : (counted : Counted) → IsCounted counted → (class : Class) → sum_by (λ s. count_of counted s class) structures < 2 ^ 64
total_fits counted h class = let m = total_most counted h class in let p = total_pairs_most counted h in omega (arith, m, p)

pub total_bits_fits : (counted : Counted) → IsCounted counted → sum_by (bits_of counted) structures < 2 ^ 32
total_bits_fits counted h = let m = total_bits_most counted h in omega (arith, m)
