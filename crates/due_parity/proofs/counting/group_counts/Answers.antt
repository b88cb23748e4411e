use Rattle.std.proofs.Common.{◌≡◌, ◌+◌, ◌*◌, ◌<◌, ◌∙◌, ℕ, ap, length, get_or, false, refl, arith, subst}
use Rattle.std.proofs.lemmas.List.{get_or_default}
use Rattle.due_parity.specs.Stretches.{CountsGroup, width}
use Rattle.due_parity.specs.declared.watched.Noted.{Noted}
use Rattle.due_parity.proofs.Passed.{IsPassed, counted-all, last-fates, passed-more, passed-none, so-far, stretch-fates, until-within}
use Rattle.due_parity.proofs.Groups.{all-of-group, pairs-fit, width-most}
use Rattle.due_parity.proofs.counting.group_counts.Goals as goal

abbrev no_note : Noted
no_note = record { cycle = 0; reads = false }

pub loop-note-init : goal.loop-note-init
loop-note-init c = rw c.no_pairs-counts.ensures (passed-none c.args.a.now c.args.s c.args.group c.args.row.now)

pub overflow_add-until : goal.overflow_add-until
overflow_add-until c =
    let items = c.notes-note-items.result.now in
    let i = c.loop-note.note-index in
    let note : Noted = get_or items i no_note in
    let inside : i < length items = omega (arith, c.loop-note-test.true) in
    let before : IsPassed c.args.a.now c.args.s c.args.group items i c.loop-note.from c.loop-note.counts = rw c.notes-note-items.ensures c.loop-note.invariant in
    let within = until-within c.args.a.now c.args.s c.args.group c.requires.protected items (c.notes-note-items.ensures ∙ c.requires.row) i c.loop-note.from c.loop-note.counts before
    note inside (get_or_default items i no_note note inside) in
    omega (arith, within, c.requires.short)

pub stretch-requires-clause-within : goal.stretch-requires-clause-within
stretch-requires-clause-within c =
    let items = c.notes-note-items.result.now in
    let i = c.loop-note.note-index in
    let note : Noted = get_or items i no_note in
    let inside : i < length items = omega (arith, c.loop-note-test.true) in
    let before : IsPassed c.args.a.now c.args.s c.args.group items i c.loop-note.from c.loop-note.counts = rw c.notes-note-items.ensures c.loop-note.invariant in
    until-within c.args.a.now c.args.s c.args.group c.requires.protected items (c.notes-note-items.ensures ∙ c.requires.row) i c.loop-note.from c.loop-note.counts before
    note inside (get_or_default items i no_note note inside)

pub stretch-requires-clause-fates : goal.stretch-requires-clause-fates
stretch-requires-clause-fates c =
    let items = c.notes-note-items.result.now in
    let i = c.loop-note.note-index in
    let note : Noted = get_or items i no_note in
    let inside : i < length items = omega (arith, c.loop-note-test.true) in
    let before : IsPassed c.args.a.now c.args.s c.args.group items i c.loop-note.from c.loop-note.counts = rw c.notes-note-items.ensures c.loop-note.invariant in
    stretch-fates c.args.a.now c.args.s c.args.group c.requires.protected items (c.notes-note-items.ensures ∙ c.requires.row) i c.loop-note.from c.loop-note.counts before
    note inside (get_or_default items i no_note note inside)

pub plus-counts-requires : goal.plus-counts-requires
plus-counts-requires c =
    let items = c.notes-note-items.result.now in
    let i = c.loop-note.note-index in
    let note : Noted = get_or items i no_note in
    let inside : i < length items = omega (arith, c.loop-note-test.true) in
    let before : IsPassed c.args.a.now c.args.s c.args.group items i c.loop-note.from c.loop-note.counts = rw c.notes-note-items.ensures c.loop-note.invariant in
    let within = until-within c.args.a.now c.args.s c.args.group c.requires.protected items (c.notes-note-items.ensures ∙ c.requires.row) i c.loop-note.from c.loop-note.counts before
    note inside (get_or_default items i no_note note inside) in
    let first = so-far c.args.a.now c.args.s c.args.group c.requires.protected items (c.notes-note-items.ensures ∙ c.requires.row) i c.loop-note.from c.loop-note.counts before in
    let second = all-of-group c.args.a.now c.args.s c.args.group c.loop-note.from (note.cycle + 1) c.stretch.result c.stretch.ensures in
    pairs-fit (width c.args.s) c.loop-note.from (note.cycle + 1) c.args.a.now.r.cycles _ _ (width-most c.args.s) within c.requires.short first second before.within

pub loop-note-preserved : goal.loop-note-preserved
loop-note-preserved c =
    let items = c.notes-note-items.result.now in
    let i = c.loop-note.note-index in
    let note : Noted = get_or items i no_note in
    let inside : i < length items = omega (arith, c.loop-note-test.true) in
    let before : IsPassed c.args.a.now c.args.s c.args.group items i c.loop-note.from c.loop-note.counts = rw c.notes-note-items.ensures c.loop-note.invariant in
    rw (c.plus-counts.ensures, ← c.notes-note-items.ensures)
    (passed-more c.args.a.now c.args.s c.args.group c.requires.protected items (c.notes-note-items.ensures ∙ c.requires.row) i c.loop-note.from c.loop-note.counts before
    note inside (get_or_default items i no_note note inside) c.stretch.result c.stretch.ensures)

pub stretch-requires-2-clause-fates : goal.stretch-requires-2-clause-fates
stretch-requires-2-clause-fates c =
    let items = c.notes-note-items.result.now in
    let i = c.loop-note.note-index in
    let before : IsPassed c.args.a.now c.args.s c.args.group items i c.loop-note.from c.loop-note.counts = rw c.notes-note-items.ensures c.loop-note.invariant in
    rw (c.cycles.ensures, c.recorded.ensures)
    (last-fates c.args.a.now c.args.s c.args.group c.requires.protected items (c.notes-note-items.ensures ∙ c.requires.row) i c.loop-note.from c.loop-note.counts before
    (omega (arith, c.loop-note-test.false)))

pub plus-requires : goal.plus-requires
plus-requires c =
    let before = c.loop-note.invariant in
    let same : c.cycles.result ≡ c.args.a.now.r.cycles = rw (c.cycles.ensures, c.recorded.ensures) refl in
    let first = all-of-group c.args.a.now c.args.s c.args.group 0 c.loop-note.from c.loop-note.counts before.counted in
    let second = all-of-group c.args.a.now c.args.s c.args.group c.loop-note.from c.cycles.result c.stretch-2.result c.stretch-2.ensures in
    pairs-fit (width c.args.s) c.loop-note.from c.cycles.result c.args.a.now.r.cycles _ _ (width-most c.args.s) (omega (arith, same)) c.requires.short
    (first ∙ ap (λ (n : ℕ). width c.args.s * n) (omega arith)) second before.within

pub returns : goal.returns
returns c =
    let before = c.loop-note.invariant in
    let same : c.cycles.result ≡ c.args.a.now.r.cycles = rw (c.cycles.ensures, c.recorded.ensures) refl in
    rw c.plus.ensures (counted-all c.args.a.now c.args.s c.args.group c.requires.protected c.args.row.now c.requires.row c.loop-note.note-index c.loop-note.from c.loop-note.counts before
    c.stretch-2.result (subst (λ n. CountsGroup c.args.a.now c.args.s c.args.group c.loop-note.from n c.stretch-2.result) same c.stretch-2.ensures))
