use Rattle.std.proofs.Common.{◌≡◌, ◌*◌, ◌≤◌, ◌∙◌, ℕ, refl, ap, arith, subst}
use Rattle.bit_field.specs.Shapes.{bits_in}
use Rattle.bit_field.specs.declared.shapes.Shape.{Shape}
use Rattle.due_parity.specs.Due.{CountsBits}
use Rattle.due_parity.specs.Notes.{group_count}
use Rattle.due_parity.specs.Stretches.{no_pairs, width}
use Rattle.due_parity.proofs.Groups.{all-of-group, groups-fit, width-most}
use Rattle.due_parity.proofs.Totals.{all-pairs, bits-of-groups, more-group, no-bits}
use Rattle.due_parity.proofs.counting.due.Goals as goal

pub loop-group-init : goal.loop-group-init
loop-group-init c =
    let none : 0 ≡ width c.args.s * 0 = omega arith in
    rw c.no_pairs-counts.ensures (subst (λ (n : ℕ). CountsBits c.args.a.now c.args.s n no_pairs) none (no-bits c.args.a.now c.args.s))

pub plus-counts-requires : goal.plus-counts-requires
plus-counts-requires c =
    let first = all-pairs c.args.a.now c.args.s (width c.args.s * c.loop-group.group) c.loop-group.counts c.loop-group.invariant in
    let second = all-of-group c.args.a.now c.args.s c.loop-group.group 0 c.args.a.now.r.cycles c.group_counts.result c.group_counts.ensures in
    let short : c.args.a.now.r.cycles ≤ 1000000 = rw (← c.recorded-recorded.ensures) c.is_record.ensures.short in
    groups-fit (width c.args.s) c.loop-group.group c.args.a.now.r.cycles _ _ (width-most c.args.s)
    (omega (arith, c.loop-group-test.true, c.group_count-group-end.type_inv)) short first second

pub loop-group-preserved : goal.loop-group-preserved
loop-group-preserved c =
    rw c.plus-counts.ensures
    (more-group c.args.a.now c.args.s c.loop-group.group c.loop-group.counts c.group_counts.result c.loop-group.invariant c.group_counts.ensures)

pub returns-clause-counts : goal.returns-clause-counts
returns-clause-counts c =
    let groups : c.group_count-group-end.result ≡ group_count c.args.s c.args.a.now.r.shape = c.group_count-group-end.ensures
    ∙ ap (λ (shape : Shape). group_count c.args.s shape) c.shape-shape.ensures ∙ rw c.recorded-recorded.ensures refl in
    let end : c.loop-group.group ≡ c.group_count-group-end.result = omega (arith, c.loop-group-test.false, c.loop-group.auto.group-end) in
    let bits : width c.args.s * c.loop-group.group ≡ bits_in c.args.s c.args.a.now.r.shape =
    ap (λ (n : ℕ). width c.args.s * n) (end ∙ groups) ∙ bits-of-groups c.args.s c.args.a.now.r.shape c.requires.protected in
    subst (λ (n : ℕ). CountsBits c.args.a.now c.args.s n c.loop-group.counts) bits c.loop-group.invariant

pub returns-clause-all : goal.returns-clause-all
returns-clause-all c =
    let groups : c.group_count-group-end.result ≡ group_count c.args.s c.args.a.now.r.shape = c.group_count-group-end.ensures
    ∙ ap (λ (shape : Shape). group_count c.args.s shape) c.shape-shape.ensures ∙ rw c.recorded-recorded.ensures refl in
    let end : c.loop-group.group ≡ c.group_count-group-end.result = omega (arith, c.loop-group-test.false, c.loop-group.auto.group-end) in
    let bits : width c.args.s * c.loop-group.group ≡ bits_in c.args.s c.args.a.now.r.shape =
    ap (λ (n : ℕ). width c.args.s * n) (end ∙ groups) ∙ bits-of-groups c.args.s c.args.a.now.r.shape c.requires.protected in
    all-pairs c.args.a.now c.args.s (width c.args.s * c.loop-group.group) c.loop-group.counts c.loop-group.invariant
    ∙ ap (λ (n : ℕ). n * c.args.a.now.r.cycles) bits
