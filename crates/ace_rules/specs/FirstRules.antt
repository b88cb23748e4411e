-- The class of a bit by the first of the rules that holds, as the code finds it.
use Rattle.std.specs.Prelude.{false, if◌then◌else◌, Decides}
use Rattle.bit_field.specs.declared.places.Place.{Place}
use Rattle.ace_class.specs.declared.class.Class.{Class}
use Rattle.ace_class.specs.declared.class.Class.TheVariants.{Ace, UnAce}
use Rattle.ace_class.specs.declared.class.Rule.TheVariants.{Timing, EmptyPlace, WrongPath, OnPath, Masked, DeadRegister}
use Rattle.ace_class.specs.declared.class.Rule.TheVariants.{DeadData, StoreRedirection, CleanData, CleanLine, UnaccessedLine}
use Rattle.ace_class.specs.declared.class.Rule.TheVariants.{CleanTag, NoTrapCause}
use Rattle.ace_law.specs.Classes.{Holds}
use Rattle.ace_law.specs.Moments.{Moment}
use Rattle.ace_rules.specs.declared.first_rule.RuleTests.{RuleTests}

unfoldable pub no_rule : RuleTests
no_rule =
    record {
      timing = false;
      empty_place = false;
      wrong_path = false;
      on_path = false;
      masked = false;
      dead_register = false;
      dead_data = false;
      store_redirection = false;
      clean_data = false;
      clean_line = false;
      unaccessed_line = false;
      clean_tag = false;
      no_trap_cause = false;
    }

unfoldable pub class_by : RuleTests → Class
class_by tests =
    if tests.timing then UnAce Timing
    else (if tests.empty_place then UnAce EmptyPlace
    else (if tests.wrong_path then UnAce WrongPath
    else (if tests.on_path then UnAce OnPath
    else (if tests.masked then UnAce Masked
    else (if tests.dead_register then UnAce DeadRegister
    else (if tests.dead_data then UnAce DeadData
    else (if tests.store_redirection then UnAce StoreRedirection
    else (if tests.clean_data then UnAce CleanData
    else (if tests.clean_line then UnAce CleanLine
    else (if tests.unaccessed_line then UnAce UnaccessedLine
    else (if tests.clean_tag then UnAce CleanTag
    else (if tests.no_trap_cause then UnAce NoTrapCause
    else Ace))))))))))))

-- each test says whether its rule holds of the bit
pub record AreTests (a : Moment) (p : Place) (tests : RuleTests) : Type 0 where
  pub timing : Decides tests.timing (Holds Timing a p)
  pub empty_place : Decides tests.empty_place (Holds EmptyPlace a p)
  pub wrong_path : Decides tests.wrong_path (Holds WrongPath a p)
  pub on_path : Decides tests.on_path (Holds OnPath a p)
  pub masked : Decides tests.masked (Holds Masked a p)
  pub dead_register : Decides tests.dead_register (Holds DeadRegister a p)
  pub dead_data : Decides tests.dead_data (Holds DeadData a p)
  pub store_redirection : Decides tests.store_redirection (Holds StoreRedirection a p)
  pub clean_data : Decides tests.clean_data (Holds CleanData a p)
  pub clean_line : Decides tests.clean_line (Holds CleanLine a p)
  pub unaccessed_line : Decides tests.unaccessed_line (Holds UnaccessedLine a p)
  pub clean_tag : Decides tests.clean_tag (Holds CleanTag a p)
  pub no_trap_cause : Decides tests.no_trap_cause (Holds NoTrapCause a p)
