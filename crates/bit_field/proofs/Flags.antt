-- The laws of a flip for a list of single bits.
use Rattle.std.proofs.Common.{◌≡◌, ℕ, ◌-◌, ◌<◌, Bool, true, false, List, length, get_or, not, refl, sym, ◌∙◌, ap, arith}
use Rattle.std.proofs.Math.ListN.{set}
use Rattle.std.proofs.lemmas.List.{length-set, get_or-set_same, get_or-set_other, set-set, set-get_or, ext_get_or}
use Rattle.bit_field.specs.Arrays.{bit_of_flags, flip_flag}
use Rattle.bit_field.specs.Laws.{FlipLaws}
use Rattle.bit_field.specs.Layouts.{number_of}
use Rattle.bit_field.proofs.LayoutLaws.{number_of-same}

pub number_of_is_bit : (b : Bool) → number_of b < 2
number_of_is_bit true = omega arith
number_of_is_bit false = omega arith

number_of-not : (b : Bool) → number_of (not b) ≡ 1 - number_of b
number_of-not true = refl
number_of-not false = refl

not-not : (b : Bool) → not (not b) ≡ b
not-not true = refl
not-not false = refl

flags_flip_it : (xs : List Bool) (k : ℕ) → k < length xs → bit_of_flags (flip_flag xs k) k ≡ 1 - bit_of_flags xs k
flags_flip_it xs k l = ap number_of (get_or-set_same xs k _ false l) ∙ number_of-not (get_or xs k false)

flags_restore : (xs : List Bool) (k : ℕ) → k < length xs → flip_flag (flip_flag xs k) k ≡ xs
flags_restore xs k l =
    ap (λ (b : Bool). set (flip_flag xs k) k (not b)) (get_or-set_same xs k _ false l)
    ∙ ap (λ (b : Bool). set (flip_flag xs k) k b) (not-not (get_or xs k false))
    ∙ set-set xs k _ (get_or xs k false)
    ∙ set-get_or xs k false

flags_same : (xs ys : List Bool) → length xs ≡ length ys → ((k : ℕ) → k < length xs → bit_of_flags xs k ≡ bit_of_flags ys k) → xs ≡ ys
flags_same xs ys e bits = ext_get_or false xs ys e (λ k l. number_of-same _ _ (bits k l))

-- a list of any length
pub laws_of_flags : FlipLaws (λ (xs : List Bool). Unit {0}) (λ xs. length xs) bit_of_flags flip_flag
laws_of_flags = record {
  fit_stays = λ xs k h l. tt;
  count_stays = λ xs k h l. length-set xs k _;
  is_bit = λ xs k. number_of_is_bit _;
  flips_it = λ xs k h l. flags_flip_it xs k l;
  flips_no_other = λ xs k j h l m ne. ap number_of (get_or-set_other xs k j _ false ne);
  restores = λ xs k h l. flags_restore xs k l;
  same = λ xs ys h i e bits. flags_same xs ys e bits;
}

-- n of them
pub laws_of_flag_array : (n : ℕ) → FlipLaws (λ (xs : List Bool). length xs ≡ n) (λ _. n) bit_of_flags flip_flag
laws_of_flag_array n = record {
  fit_stays = λ xs k h l. length-set xs k _ ∙ h;
  count_stays = λ xs k h l. refl;
  is_bit = λ xs k. number_of_is_bit _;
  flips_it = λ xs k h l. flags_flip_it xs k (rw h l);
  flips_no_other = λ xs k j h l m ne. ap number_of (get_or-set_other xs k j _ false ne);
  restores = λ xs k h l. flags_restore xs k (rw h l);
  same = λ xs ys h i e bits. flags_same xs ys (h ∙ sym i) (λ k l. bits k (rw (sym h) l));
}
