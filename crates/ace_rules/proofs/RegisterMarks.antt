-- The classes of the bits of a register by a mask.
use Rattle.std.proofs.Common.{◌≡◌, ℕ, ◌+◌, ◌-◌, ◌*◌, ◌/◌, ◌%◌, ◌^◌, ◌<◌, ◌&&◌, ◌||◌, not, Bool, true, false, cond, [], ◌∷◌, refl, ap, ◌∙◌, arith}
use Rattle.std.specs.Prelude.{bit_and, bit_xor, if◌then◌else◌}
use Rattle.std.proofs.lemmas.Bool.Decides.{nat_tests}
use Rattle.std.proofs.lemmas.Nat.Bits.{bit_at_ones}
use Rattle.ace_class.specs.declared.class.Rule.TheVariants.{DeadRegister}
use Rattle.need_pass.specs.Tables.{Needs, reg_need}
use Rattle.ace_rules.specs.FirstRules.{class_by, no_rule}
use Rattle.ace_rules.specs.PipelineTests.{decoded_by, is_needed, is_overwritten, register_tests}
use Rattle.ace_rules.specs.RuleMasks.{first_of, is_set}
use Rattle.ace_rules.specs.declared.note.Note.{Note}
use Rattle.ace_rules.specs.declared.tally_registers.TheConstants.{REGISTER_MASK}
use Rattle.ace_rules.proofs.FirstMasks.{is_rest}
use Rattle.ace_rules.proofs.LatchMarks.{of}
use Rattle.ace_rules.proofs.MarkedBits.{when-set}

all-set : (j : ℕ) → j < 32 → is_set REGISTER_MASK j ≡ true
all-set j l = let e : is_set (2 ^ 32 - 1) j ≡ true = (let h = bit_at_ones 32 j l in grind (arith, nat_tests)) in e

rest : (o n : Bool) → (true && cond (not o && n) false true) ≡ (o || not n)
rest true n = refl
rest false true = refl
rest false false = refl

dead-set : (needs : Needs) (note : Note) (r j needed kept dead : ℕ) → j < 32 → needed ≡ reg_need needs r (decoded_by note)
    → kept ≡ (if not (is_overwritten note r) then needed else 0) → dead ≡ bit_xor REGISTER_MASK (bit_and REGISTER_MASK kept)
    → is_set dead j ≡ (is_overwritten note r || not (is_needed needs note r j))
unfolding is_needed
dead-set needs note r j needed kept dead l n k d =
    ap (λ (x : ℕ). is_set x j) d ∙ is_rest REGISTER_MASK kept j
    ∙ rw (all-set j l, k, when-set (not (is_overwritten note r)) needed j, n)
    (rest (is_overwritten note r) (is_set (reg_need needs r (decoded_by note)) j))

by-mask : (masked j : ℕ) (b : Bool) → is_set masked j ≡ b
    → first_of (of DeadRegister masked ∷ []) j ≡ class_by (record no_rule { dead_register = b })
unfolding class_by no_rule
by-mask masked j b e = rw e refl

pub register-marked : (needs : Needs) (note : Note) (quiet : Bool) (r needed kept dead masked : ℕ) → 0 < r
    → needed ≡ reg_need needs r (decoded_by note) → kept ≡ (if not (is_overwritten note r) then needed else 0)
    → dead ≡ bit_xor REGISTER_MASK (bit_and REGISTER_MASK kept) → masked ≡ (if quiet then dead else 0) → (j : ℕ) → j < 32
    → first_of (of DeadRegister masked ∷ []) j ≡ class_by (register_tests needs note quiet (32 * (r - 1) + j))
unfolding register_tests
register-marked needs note quiet r needed kept dead masked above n k d m j l =
    let register : (32 * (r - 1) + j) / 32 + 1 ≡ r = omega (arith, above, l) in
    let bit : (32 * (r - 1) + j) % 32 ≡ j = omega (arith, l) in
    rw (register, bit)
    (by-mask masked j (quiet && (is_overwritten note r || not (is_needed needs note r j)))
    (ap (λ (x : ℕ). is_set x j) m ∙ when-set quiet dead j ∙ ap (λ (b : Bool). quiet && b) (dead-set needs note r j needed kept dead l n k d)))
