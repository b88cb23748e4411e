-- A set costs no more, and is worth no more, than all structures together.
use Rattle.std.proofs.Common.{◌^◌, ◌<◌, ◌≤◌, ℕ, Bool, not, List, refl, arith}
use Rattle.std.specs.Prelude.{filter, sum_by}
use Rattle.std.proofs.lemmas.List.Filters.{sum_by-filter_both}
use Rattle.ace_class.specs.Counts.{Counted, IsCounted, ace_of, bits_of, structures}
use Rattle.ace_class.specs.declared.class.Class.TheVariants.{Ace}
use Rattle.ace_class.proofs.Sizes.{total_bits_fits, total_fits}
use Rattle.harden_plan.specs.Plans.{is_member}

part : {A : Type 0} (p : A → Bool) (f : A → ℕ) (xs : List A) → sum_by f (filter p xs) ≤ sum_by f xs
part p f xs = let both = sum_by-filter_both p (λ x. not (p x)) (λ _. refl) f xs in omega (arith, both)

pub bits_fit : (counted : Counted) → IsCounted counted → (set : ℕ) → sum_by (bits_of counted) (filter (is_member set) structures) < 2 ^ 32
bits_fit counted h set =
    let all = total_bits_fits counted h in
    let some = part (is_member set) (bits_of counted) structures in
    omega (arith, all, some)

pub ace_fits : (counted : Counted) → IsCounted counted → (set : ℕ) → sum_by (ace_of counted) (filter (is_member set) structures) < 2 ^ 64
ace_fits counted h set =
    let all = total_fits counted h Ace in
    let some = part (is_member set) (ace_of counted) structures in
    omega (arith, all, some)
