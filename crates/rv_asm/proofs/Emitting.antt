-- What a line without a fault allows to put.
use Rattle.std.proofs.Common.{◌≡◌, ℕ, ◌^◌, ◌<◌, ◌||◌, ◌&&◌, Bool, true, false}
use Rattle.std.proofs.Common.{cond, List, Option, Some, None, refl, sym, arith, ℤ, pos}
use Rattle.std.specs.Prelude.{negsuc, unsigned_abs}
use Rattle.std.proofs.lemmas.Bool.{false≢true, not-false}
use Rattle.std.proofs.lemmas.Bool.Decides.{nat_tests}
use Rattle.rv_table.specs.Operations.{form_of}
use Rattle.rv_table.specs.declared.op.Op.{Op}
use Rattle.rv_asm.specs.Faults.{is_bad_place, is_again, is_missing, is_out_of_range, is_start, later_fault, misses, reach_of, reaches, target_of}
use Rattle.rv_asm.specs.Layout.{address, is_space}
use Rattle.rv_asm.specs.Lines.{Line}
use Rattle.rv_asm.specs.Program.{address_or}
use Rattle.rv_asm.specs.Statements.{WithLabel}
use Rattle.rv_asm.specs.declared.fault.Fault.{Fault}
use Rattle.rv_asm.specs.declared.fault.Fault.TheVariants.{OutOfRange, DefinedTwice, Undefined}
use Rattle.rv_asm.specs.declared.layout.Cursor.{Cursor}
use Rattle.rv_asm.specs.declared.layout.Place.{Place}

-- a label that isn't missing and isn't missed is reached
pub reached : (op : Op) (name : List ℕ) (target : Option Place) (origin : ℕ) → is_missing (Some name) target ≡ false
    → misses origin target (WithLabel op name) ≡ false
    → reaches (reach_of (form_of op.code)) origin (address_or 0 target) ≡ true
unfolding misses
reached op name (Some place) origin m h = not-false _ h
reached op name None origin m h = absurd (false≢true (sym m))

-- a line with no later fault
pub later-none : (own target : Option Place) (c : Cursor) (k : ℕ) (line : Line) → later_fault own target c k line ≡ None
    → (is_out_of_range line.statement ≡ false) × (misses (address c) target line.statement ≡ false) × (is_missing (target_of line.statement) target ≡ false)
unfolding later_fault
later-none own target c k line h =
    by_tests (is_out_of_range line.statement) (misses (address c) target line.statement) (is_start line.name && is_bad_place k own) (is_again k own)
    (is_missing (target_of line.statement) target) h
  where
    by_tests : (a b s t u : Bool) → ◌≡◌ {A = Option Fault} (cond (a || b || s) (Some OutOfRange) (cond t (Some DefinedTwice) (cond u (Some Undefined)
        None))) None
        → (a ≡ false) × (b ≡ false) × (u ≡ false)
    by_tests false false false false false h = (refl, refl, refl)
    by_tests true b s t u h = absurd cc
    by_tests false true s t u h = absurd cc
    by_tests false false true t u h = absurd cc
    by_tests false false false true u h = absurd cc
    by_tests false false false false true h = absurd cc

-- the data part has room for the space
pub space_small : (n : ℤ) → is_space n ≡ true → unsigned_abs n < 2 ^ 20
space_small (pos n) h = grind (arith, nat_tests)
space_small (negsuc n) h = absurd (false≢true h)

pub in_its_range : (own target : Option Place) (c : Cursor) (k : ℕ) (line : Line) → later_fault own target c k line ≡ None
    → is_out_of_range line.statement ≡ false
in_its_range own target c k line h = (later-none own target c k line h).0

pub near_enough : (own target : Option Place) (c : Cursor) (k : ℕ) (line : Line) → later_fault own target c k line ≡ None
    → misses (address c) target line.statement ≡ false
near_enough own target c k line h = (later-none own target c k line h).1

pub defined_somewhere : (own target : Option Place) (c : Cursor) (k : ℕ) (line : Line) → later_fault own target c k line ≡ None
    → is_missing (target_of line.statement) target ≡ false
defined_somewhere own target c k line h = (later-none own target c k line h).2

pub ruleset allowed = (in_its_range, near_enough, defined_somewhere)
