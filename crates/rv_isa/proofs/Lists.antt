-- Lists as functions of their indexes.
use Rattle.std.proofs.Common.{◌≡◌, ℕ, zero, suc, ◌+◌, ◌*◌, ◌/◌, ◌%◌, ◌^◌, ◌<◌, ◌==◌, List, [], ◌∷◌, get_or, length, replicate, drop, refl, arith, add-one, if◌then◌else◌}
use Rattle.std.specs.Prelude.{slice_index, slice_set}
use Rattle.std.proofs.Math.Path.{fun_ext}
use Rattle.std.proofs.Math.Seq.{drop-cons, drop-length}
use Rattle.std.proofs.lemmas.Bool.Decides.{nat_tests}
use Rattle.std.proofs.lemmas.List.{get_or-set_same, get_or-set_other, get_or-drop}
use Rattle.std.proofs.Math.ListN.{get_or-eq_default}
use Rattle.byteorder.specs.Endian.{little_number}
use Rattle.rv_table.specs.Accesses.{byte_of, word_of_bytes}
use Rattle.rv_isa.specs.Architecture.{byte_stored}
use Rattle.rv_isa.specs.Instruction.{put_reg, first_clock, later_clocks}

pub indexed_at : (xs : List ℕ) (k v r : ℕ) → k < length xs → slice_index (slice_set xs k v) r ≡ (if r == k then v else slice_index xs r)
indexed_at xs k v r h = grind (arith, nat_tests, get_or-set_same {A = ℕ}, get_or-set_other {A = ℕ})

pub indexed : (xs : List ℕ) (k v : ℕ) → 0 < k → k < length xs → slice_index (slice_set xs k v) ≡ put_reg k v (slice_index xs)
indexed xs k v h l = fun_ext (λ r. grind (arith, nat_tests, indexed_at xs k v r))

zero_at : (n r : ℕ) → slice_index (replicate n 0) r ≡ 0
zero_at zero r = refl
zero_at (suc n) zero = refl
zero_at (suc n) (suc r) = zero_at n r

-- registers that are all 0
pub all_zero : (n : ℕ) → slice_index (replicate n 0) ≡ λ r. 0
all_zero n = fun_ext (zero_at n)

-- one byte more of a value
pub stored_more : (xs bs : List ℕ) (at k v p : ℕ) → slice_index bs p ≡ byte_stored at k v xs p → at + k < length bs → slice_index (slice_set bs (at + k) (v / 2 ^ (8 * k) % 256)) p ≡ byte_stored at (k + 1) v xs p
unfolding byte_of
stored_more xs bs at k v p e h = grind (arith, nat_tests, indexed_at bs (at + k) (v / 2 ^ (8 * k) % 256) p)

-- the first four bytes of the rest of a list, lowest first
pub word_of_list : (xs : List ℕ) (at : ℕ) → little_number 4 (drop at xs) ≡ word_of_bytes (λ i. slice_index xs (at + i))
word_of_list xs at = simp get_or-drop (omega arith)

-- bytes are below 256, and so is what is read past the end
pub bytes_below : (xs : List ℕ) → ((i d : ℕ) → i < length xs → get_or xs i d < 256) → (k : ℕ) → slice_index xs k < 256
bytes_below xs fits k = grind (arith, fits k 0, get_or-eq_default {A = ℕ})

-- the first clock value that is left
pub first_drop : (k : ℕ) (xs : List ℕ) → first_clock (drop k xs) ≡ slice_index xs k
first_drop zero [] = refl
first_drop zero (x ∷ xs) = refl
first_drop (suc k) [] = refl
first_drop (suc k) (x ∷ xs) = first_drop k xs

-- the clock values after the first
pub later_drop : (k : ℕ) (xs : List ℕ) → k < length xs → later_clocks (drop k xs) ≡ drop (k + 1) xs
later_drop k xs h = rw (drop-cons xs k 0, add-one) refl

pub later_none : (k : ℕ) (xs : List ℕ) → k ≡ length xs → later_clocks (drop k xs) ≡ drop k xs
later_none k xs e = rw (e, drop-length xs) refl

pub ruleset clock_steps = (later_drop, later_none)
