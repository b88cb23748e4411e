-- The classes of the bits that only change what is predicted, or when something is done, and of those of the next address.
use Rattle.std.proofs.Common.{◌≡◌, ◌↔◌, ℕ, Bool, true, false, Decides}
use Rattle.bit_field.specs.declared.places.Place.{Place}
use Rattle.bit_field.specs.declared.places.Structure.{Structure}
use Rattle.bit_field.specs.declared.places.Structure.TheVariants.{Pc, Npc, Bht, Btb, Port, CLru}
use Rattle.ace_class.specs.declared.class.Rule.TheVariants.{Timing, EmptyPlace, WrongPath, OnPath, Masked, DeadRegister, DeadData, StoreRedirection}
use Rattle.ace_class.specs.declared.class.Rule.TheVariants.{CleanData, CleanLine, UnaccessedLine, CleanTag, NoTrapCause}
use Rattle.ace_law.specs.Classes.{Holds, IsClass}
use Rattle.ace_law.specs.Moments.{IsQuiet, Moment}
use Rattle.ace_rules.specs.FirstRules.{AreTests, class_by, no_rule}
use Rattle.ace_rules.specs.PipelineTests.{IsOfTiming, timing_tests}
use Rattle.ace_rules.proofs.FirstRuleLaws.{class-by, never}

-- no rule but that of timing holds of the bit
record NoOther (a : Moment) (p : Place) : Type 0 where
  pub empty_place : Holds EmptyPlace a p → ⊥
  pub wrong_path : Holds WrongPath a p → ⊥
  pub on_path : Holds OnPath a p → ⊥
  pub masked : Holds Masked a p → ⊥
  pub dead_register : Holds DeadRegister a p → ⊥
  pub dead_data : Holds DeadData a p → ⊥
  pub store_redirection : Holds StoreRedirection a p → ⊥
  pub clean_data : Holds CleanData a p → ⊥
  pub clean_line : Holds CleanLine a p → ⊥
  pub unaccessed_line : Holds UnaccessedLine a p → ⊥
  pub clean_tag : Holds CleanTag a p → ⊥
  pub no_trap_cause : Holds NoTrapCause a p → ⊥

none_of : (a : Moment) (p : Place) → (Holds EmptyPlace a p → ⊥) → (Holds WrongPath a p → ⊥) → (Holds OnPath a p → ⊥) → (Holds Masked a p → ⊥)
    → (Holds DeadRegister a p → ⊥) → (Holds DeadData a p → ⊥) → (Holds StoreRedirection a p → ⊥) → (Holds CleanData a p → ⊥)
    → (Holds CleanLine a p → ⊥) → (Holds UnaccessedLine a p → ⊥) → (Holds CleanTag a p → ⊥) → (Holds NoTrapCause a p → ⊥) → NoOther a p
none_of a p empty wrong on_path masked register dead store clean line unaccessed tag cause = record {
  empty_place = empty;
  wrong_path = wrong;
  on_path = on_path;
  masked = masked;
  dead_register = register;
  dead_data = dead;
  store_redirection = store;
  clean_data = clean;
  clean_line = line;
  unaccessed_line = unaccessed;
  clean_tag = tag;
  no_trap_cause = cause;
}

timing-are : (a : Moment) (p : Place) (test : Bool) → Decides test (Holds Timing a p) → NoOther a p
    → AreTests a p (record no_rule { timing = test })
unfolding no_rule
timing-are a p test timing none = record {
  timing = timing;
  empty_place = never none.empty_place;
  wrong_path = never none.wrong_path;
  on_path = never none.on_path;
  masked = never none.masked;
  dead_register = never none.dead_register;
  dead_data = never none.dead_data;
  store_redirection = never none.store_redirection;
  clean_data = never none.clean_data;
  clean_line = never none.clean_line;
  unaccessed_line = never none.unaccessed_line;
  clean_tag = never none.clean_tag;
  no_trap_cause = never none.no_trap_cause;
}

no-other : (a : Moment) (s : Structure) (k : ℕ) → IsOfTiming s → NoOther a (record { structure = s; bit = k })
no-other a Pc k of =
    none_of a _ (λ h. h) (λ h. h.1) (λ h. h.1) (λ h. h.1) (λ h. h.1) (λ h. h.1) (λ h. h.1) (λ h. h) (λ h. h.1) (λ h. h.1) (λ h. h) (λ h. h)
no-other a Bht k of =
    none_of a _ (λ h. h) (λ h. h.1) (λ h. h.1) (λ h. h.1) (λ h. h.1) (λ h. h.1) (λ h. h.1) (λ h. h) (λ h. h.1) (λ h. h.1) (λ h. h) (λ h. h)
no-other a Btb k of =
    none_of a _ (λ h. h) (λ h. h.1) (λ h. h.1) (λ h. h.1) (λ h. h.1) (λ h. h.1) (λ h. h.1) (λ h. h) (λ h. h.1) (λ h. h.1) (λ h. h) (λ h. h)
no-other a Port k of =
    none_of a _ (λ h. h) (λ h. h.1) (λ h. h.1) (λ h. h.1) (λ h. h.1) (λ h. h.1) (λ h. h.1) (λ h. h) (λ h. h.1) (λ h. h.1) (λ h. h) (λ h. h)
no-other a CLru k of =
    none_of a _ (λ h. h) (λ h. h.1) (λ h. h.1) (λ h. h.1) (λ h. h.1) (λ h. h.1) (λ h. h.1) (λ h. h) (λ h. h.1) (λ h. h.1) (λ h. h) (λ h. h)
no-other a _ k of = absurd of

timed : (a : Moment) (quiet : Bool) (s : Structure) (k : ℕ) → ((quiet ≡ true) ↔ IsQuiet a) → IsOfTiming s
    → Decides quiet (Holds Timing a (record { structure = s; bit = k }))
timed a quiet Pc k silent of = ((λ e. (silent.0 e, tt)), (λ h. silent.1 h.0))
timed a quiet Bht k silent of = ((λ e. (silent.0 e, tt)), (λ h. silent.1 h.0))
timed a quiet Btb k silent of = ((λ e. (silent.0 e, tt)), (λ h. silent.1 h.0))
timed a quiet Port k silent of = ((λ e. (silent.0 e, tt)), (λ h. silent.1 h.0))
timed a quiet CLru k silent of = ((λ e. (silent.0 e, tt)), (λ h. silent.1 h.0))
timed a quiet _ k silent of = absurd of

pub timing_class : (a : Moment) (quiet : Bool) (s : Structure) (k : ℕ) → ((quiet ≡ true) ↔ IsQuiet a) → IsOfTiming s
    → IsClass (class_by (timing_tests quiet)) a (record { structure = s; bit = k })
unfolding timing_tests
timing_class a quiet s k silent of = class-by a _ _ (timing-are a _ quiet (timed a quiet s k silent of) (no-other a s k of))

pub next_class : (a : Moment) (k : ℕ) → IsClass (class_by no_rule) a (record { structure = Npc; bit = k })
unfolding no_rule
next_class a k =
    class-by a _ no_rule (timing-are a (record { structure = Npc; bit = k }) false (never (λ h. h.1))
    (none_of a _ (λ h. h) (λ h. h.1) (λ h. h.1) (λ h. h.1) (λ h. h.1) (λ h. h.1) (λ h. h.1) (λ h. h) (λ h. h.1) (λ h. h.1) (λ h. h) (λ h. h)))
