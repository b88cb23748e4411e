-- How many bits of a register are ACE, by a mask.
use Rattle.std.proofs.Common.{◌≡◌, ℕ, ◌+◌, ◌-◌, ◌*◌, ◌/◌, ◌%◌, ◌^◌, ◌<◌, ◌&&◌, ◌||◌, not, Bool, true, false, refl, sym, ap, ◌∙◌, arith}
use Rattle.std.specs.Prelude.{if◌then◌else◌}
use Rattle.std.specs.Int.Count.{ones}
use Rattle.std.proofs.lemmas.Bool.Decides.{nat_tests}
use Rattle.std.proofs.lemmas.Nat.Bits.{bit_at_ones}
use Rattle.bit_field.specs.Layouts.{number_of}
use Rattle.need_pass.specs.Tables.{Needs, reg_need}
use Rattle.ace_rules.specs.AceGroups.{is_ace}
use Rattle.ace_rules.specs.FirstRules.{class_by, no_rule}
use Rattle.ace_rules.specs.PipelineTests.{decoded_by, is_needed, is_overwritten, register_tests}
use Rattle.ace_rules.specs.RuleMasks.{is_set}
use Rattle.ace_rules.specs.Sums.{count_below}
use Rattle.ace_rules.specs.declared.note.Note.{Note}
use Rattle.ace_rules.proofs.MarkedBits.{when-set}
use Rattle.ace_rules.proofs.Popcounts.{ones-count}
use Rattle.ace_rules.proofs.Sums.{sum_below-same}

-- a bit is ACE where the rule of dead registers doesn't hold of it
ace-by : (dead : Bool) → is_ace (class_by (record no_rule { dead_register = dead })) ≡ not dead
unfolding class_by no_rule
ace-by true = refl
ace-by false = refl

twice : (b : Bool) → b ≡ not (not b)
twice true = refl
twice false = refl

set-where : (quiet overwritten : Bool) (needed j : ℕ) → j < 32
    → is_set (if not quiet then 2 ^ 32 - 1 else if overwritten then 0 else needed) j ≡ not (quiet && (overwritten || not (is_set needed j)))
set-where true true needed j l = when-set false needed j
set-where true false needed j l = twice (is_set needed j)
set-where false overwritten needed j l = let h = bit_at_ones 32 j l in grind (arith, nat_tests)

ace-where : (needs : Needs) (note : Note) (quiet : Bool) (r j : ℕ) → 0 < r → j < 32
    → is_ace (class_by (register_tests needs note quiet (32 * (r - 1) + j)))
    ≡ not (quiet && (is_overwritten note r || not (is_set (reg_need needs r (decoded_by note)) j)))
unfolding register_tests is_needed
ace-where needs note quiet r j above l =
    let register : (32 * (r - 1) + j) / 32 + 1 ≡ r = omega (arith, above, l) in
    let bit : (32 * (r - 1) + j) % 32 ≡ j = omega (arith, l) in
    rw (register, bit) (ace-by (quiet && (is_overwritten note r || not (is_set (reg_need needs r (decoded_by note)) j))))

pub aces-counted : (needs : Needs) (note : Note) (quiet : Bool) (r mask : ℕ) → 0 < r → mask < 2 ^ 32
    → mask ≡ (if not quiet then 2 ^ 32 - 1 else if is_overwritten note r then 0 else reg_need needs r (decoded_by note))
    → ones mask ≡ count_below 32 (λ j. is_ace (class_by (register_tests needs note quiet (32 * (r - 1) + j))))
aces-counted needs note quiet r mask above small e =
    ones-count 32 mask small
    ∙ sum_below-same 32 _ _ (λ j l. ap number_of
    (ap (λ (m : ℕ). is_set m j) e
    ∙ set-where quiet (is_overwritten note r) (reg_need needs r (decoded_by note)) j l
    ∙ sym (ace-where needs note quiet r j above l)))
