use Rattle.std.proofs.Common.{◌≡◌, ◌≢◌, ◌%◌, sym, ap, not, map, ◌∙◌}
use Rattle.std.proofs.lemmas.Bool.{ne_eqb}
use Rattle.elf_load.specs.Answers.{lent}
use Rattle.elf_load.proofs.Entry.{has_bad_entry-code, has_bad_entry-odd}
use Rattle.elf_load.proofs.layout.has_bad_entry.Goals as goal

pub returns-then-entry-ne0 : goal.returns-then-entry-ne0
returns-then-entry-ne0 c size h =
    let odd : c.args.entry % 4 ≢ 0 = c.if-entry-ne0.true in
    ap not (ne_eqb (c.args.entry % 4) 0 odd) ∙ sym (has_bad_entry-odd (map lent c.args.segments.now) c.args.entry size odd)

pub returns-else-entry-ne0 : goal.returns-else-entry-ne0
returns-else-entry-ne0 c size h =
    let even : c.args.entry % 4 ≡ 0 = c.if-entry-ne0.false in
    ap not c.is_code_word.ensures ∙ sym (has_bad_entry-code (map lent c.args.segments.now) c.args.entry size h even)
