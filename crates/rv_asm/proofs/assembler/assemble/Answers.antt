use Rattle.std.proofs.Common.{◌≡◌, ◌∙◌, ◌<◌, ◌≤◌, ℕ, List, Option, Some, None, true, false, length, ap, subst, sym, arith}
use Rattle.std.proofs.Math.Path.{fun_ext}
use Rattle.std.specs.List.{AllByRecursion, flat_map}
use Rattle.elf_write.specs.Code.{IsCoded, op_bytes}
use Rattle.rv_asm.specs.Faults.{first_fault}
use Rattle.rv_asm.specs.Labels.{found}
use Rattle.rv_asm.specs.Layout.{end_of, place_of, start}
use Rattle.rv_asm.specs.Lines.{lines}
use Rattle.rv_asm.specs.Program.{entry_in, ops_in}
use Rattle.rv_asm.specs.Sources.{data_part, entry, has_bad_size, program, text_part}
use Rattle.rv_asm.specs.declared.fault.Fault.{Fault}
use Rattle.rv_asm.specs.declared.layout.Cursor.{Cursor}
use Rattle.rv_asm.specs.declared.layout.Place.{Place}
use Rattle.rv_asm.proofs.Assembled.{AreRoomy, IsEntry, bad_size, entry_well, finished, no_fault, on_line, roomy, too_long}
use Rattle.rv_asm.proofs.assembler.assemble.Goals as goal

pub returns-then-source-gt-SOURCE_ROOM : goal.returns-then-source-gt-SOURCE_ROOM
returns-then-source-gt-SOURCE_ROOM c = rw c.bad.ensures (too_long c.args.source.now c.if-source-gt-SOURCE_ROOM.true)

pub returns-in-Some : goal.returns-in-Some
returns-in-Some c =
    let places : found c.in_ok-layout.layout.labels ≡ place_of c.args.source.now = fun_ext c.in_ok-layout.ensures.labels in
    let first : Some (c.in-Some.found.line, c.in-Some.found.fault) ≡ first_fault (place_of c.args.source.now) start 1 (lines c.args.source.now) =
    c.in-Some.ensures ∙ ap (λ (p : List ℕ → Option Place). first_fault p start 1 (lines c.args.source.now)) places in
    rw c.bad-in-Some.ensures (on_line c.args.source.now c.in-Some.found.line c.in-Some.found.fault c.if-source-gt-SOURCE_ROOM.false first)

pub returns-then-has_bad_size : goal.returns-then-has_bad_size
returns-then-has_bad_size c =
    let places : found c.in_ok-layout.layout.labels ≡ place_of c.args.source.now = fun_ext c.in_ok-layout.ensures.labels in
    let none : ◌≡◌ {A = Option (ℕ × Fault)} None (first_fault (place_of c.args.source.now) start 1 (lines c.args.source.now)) =
    c.in_default.ensures ∙ ap (λ (p : List ℕ → Option Place). first_fault p start 1 (lines c.args.source.now)) places in
    let bad : has_bad_size (end_of start (lines c.args.source.now)) ≡ true = ap has_bad_size (sym c.in_ok-layout.ensures.end)
    ∙ sym c.if-has_bad_size.ensures in
    rw c.bad-then-has_bad_size.ensures (bad_size c.args.source.now c.if-source-gt-SOURCE_ROOM.false none bad)

pub entry-entry-requires : goal.entry-entry-requires
unfolding entry
entry-entry-requires c =
    let source : List ℕ = c.args.source.now in
    let places : found c.in_ok-layout.layout.labels ≡ place_of source = fun_ext c.in_ok-layout.ensures.labels in
    let none : ◌≡◌ {A = Option (ℕ × Fault)} None (first_fault (place_of source) start 1 (lines source)) =
    c.in_default.ensures ∙ ap (λ (p : List ℕ → Option Place). first_fault p start 1 (lines source)) places in
    let well : IsEntry (entry source) (end_of start (lines source)).text_size = entry_well source none in
    let roomy_end : AreRoomy c.in_ok-layout.layout.end = roomy c.in_ok-layout.layout.end (sym c.if-has_bad_size.ensures) in
    let small : (end_of start (lines source)).text_size ≤ 458752 = rw c.in_ok-layout.ensures.end at roomy_end.text_room in
    let same : entry_in (found c.in_ok-layout.layout.labels) ≡ entry source = ap entry_in places in
    rw same (omega (arith, well.within, small))

pub returns : goal.returns
unfolding entry text_part data_part program
returns c =
    let source : List ℕ = c.args.source.now in
    let places : found c.in_ok-layout.layout.labels ≡ place_of source = fun_ext c.in_ok-layout.ensures.labels in
    let none : ◌≡◌ {A = Option (ℕ × Fault)} None (first_fault (place_of source) start 1 (lines source)) =
    c.in_default.ensures ∙ ap (λ (p : List ℕ → Option Place). first_fault p start 1 (lines source)) places in
    let good : has_bad_size (end_of start (lines source)) ≡ false = ap has_bad_size (sym c.in_ok-layout.ensures.end) ∙ sym c.if-has_bad_size.ensures in
    let code : c.in_ok-parts.parts.text_part.items ≡ text_part source =
    c.in_ok-parts.ensures.code ∙ ap (λ (p : List ℕ → Option Place). flat_map op_bytes (ops_in p start (lines source))) places in
    let size : length (text_part source) ≡ (end_of start (lines source)).text_size = ap length (sym code) ∙ c.in_ok-parts.ensures.text_size in
    let roomy_end : AreRoomy (end_of start (lines source)) = roomy (end_of start (lines source)) good in
    let written : c.deref.result.now ≡ text_part source = c.deref.ensures.value ∙ code in
    let some : 0 < length c.deref.result.now = rw (written, size) roomy_end.some in
    let P : (List ℕ → Option Place) → Type 0 = λ p. AllByRecursion IsCoded (ops_in p start (lines source)) in
    let coded : AllByRecursion IsCoded (program source) = subst P places c.in_ok-parts.ensures.coded in
    let well : IsEntry (entry source) (length (text_part source)) = rw size (entry_well source none) in
    let all = finished source c.entry-entry.result c.deref.result.now c.deref-2.result.now c.in_ok-write.field-0.items
    (c.entry-entry.ensures ∙ ap entry_in places) written (c.deref-2.ensures.value ∙ c.in_ok-parts.ensures.contents)
    c.in_ok-write.ensures.file (c.in_ok-write.ensures.loads some) coded well in
    (no_fault source c.if-source-gt-SOURCE_ROOM.false none good, all.0, all.1)

pub write-requires-clause-data_room : goal.write-requires-clause-data_room
write-requires-clause-data_room c =
    let roomy_end : AreRoomy c.in_ok-layout.layout.end = roomy c.in_ok-layout.layout.end (sym c.if-has_bad_size.ensures) in
    let size : length c.in_ok-parts.parts.data_part.items ≡ c.in_ok-layout.layout.end.data_size =
    c.in_ok-parts.ensures.data_size ∙ ap (λ (end : Cursor). end.data_size) (sym c.in_ok-layout.ensures.end) in
    rw (c.deref-2.ensures.value, size) roomy_end.data_room
