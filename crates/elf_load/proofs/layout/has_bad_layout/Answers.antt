use Rattle.std.proofs.Common.{◌+◌, ◌≢◌, length, sym, ◌∙◌, arith}
use Rattle.std.proofs.lemmas.Bool.{eqb-true, eqb-false}
use Rattle.elf_load.proofs.Lent.{has_bad_layout-none, has_bad_layout-lent, bad_by_limit, bad_by_overlap}
use Rattle.elf_load.proofs.layout.has_bad_layout.Goals as goal

pub returns-then-is_empty : goal.returns-then-is_empty
returns-then-is_empty c =
    sym (has_bad_layout-none c.args.segments.now c.args.size (eqb-true _ _ (sym c.is_empty.ensures ∙ c.if-is_empty.true)))

pub returns-then-leaves_ram : goal.returns-then-leaves_ram
returns-then-leaves_ram c =
    let filled : length c.args.segments.now ≢ 0 = eqb-false _ _ (sym c.is_empty.ensures ∙ c.if-is_empty.false) in
    let parts = has_bad_layout-lent c.args.segments.now c.args.size (c.from.result + c.from-2.result) (omega arith) (omega arith) in
    bad_by_limit _ _ _ _ parts c.leaves_ram.ensures c.if-leaves_ram.true

pub returns-else-leaves_ram : goal.returns-else-leaves_ram
returns-else-leaves_ram c =
    let filled : length c.args.segments.now ≢ 0 = eqb-false _ _ (sym c.is_empty.ensures ∙ c.if-is_empty.false) in
    let parts = has_bad_layout-lent c.args.segments.now c.args.size (c.from.result + c.from-2.result) (omega arith) (omega arith) in
    c.some_overlap.ensures ∙ bad_by_overlap _ _ _ _ parts c.leaves_ram.ensures c.if-leaves_ram.false
