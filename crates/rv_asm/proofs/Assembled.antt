-- What a source means, by the steps in which it is assembled.
use Rattle.std.proofs.Common.{◌≡◌, ℕ, ◌+◌, ◌*◌, ◌%◌, ◌<◌, ◌≤◌, not, Bool, true, false}
use Rattle.std.proofs.Common.{cond, eqb, List, Option, Some, None, length, refl, ap, sym, ◌∙◌, arith}
use Rattle.std.specs.Prelude.{option_map}
use Rattle.std.specs.List.{AllByRecursion}
use Rattle.std.proofs.lemmas.Bool.{le-ltb, lt-ltb}
use Rattle.std.proofs.lemmas.Bool.Decides.{nat_tests}
use Rattle.elf_write.specs.Code.{IsCoded}
use Rattle.elf_write.specs.File.{file}
use Rattle.elf_write.specs.Loading.{IsLoaded, begins_in_text}
use Rattle.elf_write.specs.declared.layout.TheConstants.{DATA_ROOM, TEXT_BASE, TEXT_ROOM}
use Rattle.elf_write.proofs.CodeSizes.{length-code}
use Rattle.rv_asm.specs.Faults.{first_fault}
use Rattle.rv_asm.specs.Layout.{definitions, end_of, first_of, place_of, start}
use Rattle.rv_asm.specs.Lines.{lines}
use Rattle.rv_asm.specs.Program.{address_or, entry_in}
use Rattle.rv_asm.specs.Sources.{IsProgram, assembled, data_part, entry, fault_in, has_bad_size, number_of, numbered, program, text_part}
use Rattle.rv_asm.specs.declared.fault.Fault.{Fault}
use Rattle.rv_asm.specs.declared.layout.Cursor.{Cursor}
use Rattle.rv_asm.specs.declared.layout.Place.{Place}
use Rattle.rv_asm.specs.declared.layout.TheConstants.{SOURCE_ROOM}
use Rattle.rv_asm.proofs.Starting.{StartsWell, start_name, starts_well}

-- The fault, by the first test that it fails

pub too_long : (source : List ℕ) → SOURCE_ROOM < length source → option_map numbered (fault_in source) ≡ Some (0, 7)
unfolding fault_in
too_long source h = rw (lt-ltb SOURCE_ROOM (length source) h) refl

pub on_line : (source : List ℕ) (line : ℕ) (fault : Fault) → length source ≤ SOURCE_ROOM
    → Some (line, fault) ≡ first_fault (place_of source) start 1 (lines source)
    → option_map numbered (fault_in source) ≡ Some (line, number_of fault)
unfolding fault_in
on_line source line fault h f = rw (le-ltb SOURCE_ROOM (length source) h, sym f) refl

pub bad_size : (source : List ℕ) → length source ≤ SOURCE_ROOM → ◌≡◌ {A = Option (ℕ × Fault)} None (first_fault (place_of source) start 1 (lines source))
    → has_bad_size (end_of start (lines source)) ≡ true → option_map numbered (fault_in source) ≡ Some (0, 7)
unfolding fault_in
bad_size source h f b = rw (le-ltb SOURCE_ROOM (length source) h, sym f, b) refl

pub no_fault : (source : List ℕ) → length source ≤ SOURCE_ROOM → ◌≡◌ {A = Option (ℕ × Fault)} None (first_fault (place_of source) start 1 (lines source))
    → has_bad_size (end_of start (lines source)) ≡ false → fault_in source ≡ None
unfolding fault_in
no_fault source h f b = rw (le-ltb SOURCE_ROOM (length source) h, sym f, b) refl

-- the sizes of parts that there is room for
pub record AreRoomy (end : Cursor) : Type 0 where
  pub some : 0 < end.text_size
  pub text_room : end.text_size ≤ TEXT_ROOM
  pub data_room : end.data_size ≤ DATA_ROOM

pub roomy : (end : Cursor) → has_bad_size end ≡ false → AreRoomy end
roomy end h = record { some = grind (arith, nat_tests); text_room = grind (arith, nat_tests); data_room = grind (arith, nat_tests) }

-- The entry

pub record IsEntry (address n : ℕ) : Type 0 where
  pub aligned : address % 4 ≡ 0
  pub above : TEXT_BASE ≤ address
  pub within : address ≤ TEXT_BASE + n

placed : (source : List ℕ) (own : Place) → place_of source start_name ≡ Some own → first_of start_name (definitions start 1 (lines source)) ≡ Some own
unfolding place_of
placed source own e = e

pub entry_well : (source : List ℕ) → ◌≡◌ {A = Option (ℕ × Fault)} None (first_fault (place_of source) start 1 (lines source))
    → IsEntry (entry source) (end_of start (lines source)).text_size
unfolding entry entry_in
entry_well source none = by_place (place_of source start_name) refl
  where
    by_place : (o : Option Place) → place_of source start_name ≡ o → IsEntry (address_or TEXT_BASE o) (end_of start (lines source)).text_size
    by_place None e = record { aligned = refl; above = omega arith; within = omega arith }
    by_place (Some own) e =
        let well : StartsWell own (end_of start (lines source)) = starts_well (place_of source) start 1 (lines source) own (sym none) e (placed source own
        e) in
        record { aligned = well.aligned; above = well.above; within = well.within }

-- a whole word of the text part stands at an entry that isn't its end
begins : (address n k : ℕ) → n ≡ 4 * k → IsEntry address n → begins_in_text address n ≡ not (eqb address (TEXT_BASE + n))
unfolding begins_in_text
begins address n k e well =
    let aligned : address % 4 ≡ 0 = well.aligned in
    let above : TEXT_BASE ≤ address = well.above in
    let within : address ≤ TEXT_BASE + n = well.within in
    grind (arith, nat_tests)

turned : (b : Bool) → ◌≡◌ {A = Option ℕ} (cond (not b) None (Some 12)) (cond b (Some 12) None)
turned true = refl
turned false = refl

pub finished : (source : List ℕ) (e : ℕ) (t d items : List ℕ) → e ≡ entry source → t ≡ text_part source → d ≡ data_part source → items ≡ file e t d
    → IsLoaded e t d → AllByRecursion IsCoded (program source) → IsEntry (entry source) (length (text_part source))
    → (items ≡ assembled source) × IsProgram source
unfolding assembled text_part
finished source e t d items p q r same loaded coded well =
    let loads : IsLoaded (entry source) (text_part source) (data_part source) = rw (p, q, r) at loaded in (
      rw (same, p, q, r) refl,
      record {
        decodes = coded;
        loads = loads;
        refusal = λ ram fits.
            loads.refusal ram fits
            ∙ ap (λ t. cond {A = Option ℕ} t None (Some 12)) (begins (entry source) (length (text_part source)) (length (program source)) (length-code
            (program source)) well)
            ∙ turned (eqb (entry source) (TEXT_BASE + length (text_part source)));
      },
    )
