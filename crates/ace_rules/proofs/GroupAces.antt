-- How many bits of a register are ACE in a cycle.
use Rattle.std.proofs.Common.{◌≡◌, ℕ, ◌+◌, ◌-◌, ◌*◌, ◌<◌, Bool, subst, arith}
use Rattle.bit_field.specs.declared.places.Structure.TheVariants.{Rf}
use Rattle.need_pass.specs.Tables.{Needs}
use Rattle.ace_law.specs.Classes.{IsClass}
use Rattle.ace_rules.specs.AceGroups.{AreAces, is_ace}
use Rattle.ace_rules.specs.FirstRules.{class_by}
use Rattle.ace_rules.specs.Notes.{IsKnown, Story, moment}
use Rattle.ace_rules.specs.PipelineTests.{register_tests}
use Rattle.ace_rules.specs.Sums.{count_below}
use Rattle.ace_rules.specs.declared.note.Note.{Note}
use Rattle.ace_rules.proofs.RegisterClasses.{register_class}

-- group g of the register file, by the bits of register r of which the rule of dead registers doesn't hold
pub register-aces : (story : Story) (needs : Needs) (note : Note) (quiet : Bool) (g r bits from : ℕ) → r ≡ g + 1 → g < 31
    → IsKnown (moment story from) needs note quiet
    → bits ≡ count_below 32 (λ j. is_ace (class_by (register_tests needs note quiet (32 * (r - 1) + j))))
    → AreAces story Rf (32 * g) 32 from (record { bits = bits; until = from + 1 })
register-aces story needs note quiet g r bits from e few known counted = record {
  classes = λ k. class_by (register_tests needs note quiet (32 * (r - 1) + k));
  are = λ k t l m below.
      let at : from ≡ t = omega (arith, m, below) in
      let bit : 32 * (r - 1) + k ≡ 32 * g + k = omega (arith, e) in
      let small : 32 * (r - 1) + k < 992 = omega (arith, e, few, l) in
      subst (λ (i : ℕ). IsClass (class_by (register_tests needs note quiet (32 * (r - 1) + k))) (moment story i) (record { structure = Rf; bit = 32 * g + k })) at
      (subst (λ (i : ℕ). IsClass (class_by (register_tests needs note quiet (32 * (r - 1) + k))) (moment story from) (record { structure = Rf; bit = i })) bit
      (register_class needs note quiet (32 * (r - 1) + k) small (moment story from) known));
  count = counted;
}
