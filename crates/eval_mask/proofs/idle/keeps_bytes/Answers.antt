use Rattle.std.proofs.Common.{◌↔◌, sym, subst}
use Rattle.std.specs.Prelude.{IsTrue, Option}
use Rattle.elf_load.specs.Image.{ram_byte}
use Rattle.eval_mask.specs.Aftermaths.{stored_over}
use Rattle.eval_mask.specs.Compared.{SameCovered}
use Rattle.eval_mask.specs.declared.completing.Store.{Store}
use Rattle.eval_mask.proofs.Differences.{chained, covered_byte, covered_half, covered_word}
use Rattle.eval_mask.proofs.idle.keeps_bytes.Goals as goal

pub returns-in-Sb : goal.returns-in-Sb
returns-in-Sb c =
    let under = stored_over c.args.under.now (ram_byte c.args.arch.now.image c.args.arch.now.memory) in
    let own = c.in-Some.own in
    subst (λ (s : Option Store). IsTrue c.keeps_byte.result ↔ SameCovered c.args.needs.now c.args.at (stored_over c.args.store.now under) under s)
    (sym c.in-Some.is)
    (chained c.keeps_byte.ensures
    (covered_byte c.args.needs.now c.args.at (stored_over c.args.store.now under) under own.kind own.address own.value c.in-Sb.is))

pub returns-in-Sh : goal.returns-in-Sh
returns-in-Sh c =
    let under = stored_over c.args.under.now (ram_byte c.args.arch.now.image c.args.arch.now.memory) in
    let own = c.in-Some.own in
    subst (λ (s : Option Store). IsTrue c.keeps_two.result ↔ SameCovered c.args.needs.now c.args.at (stored_over c.args.store.now under) under s)
    (sym c.in-Some.is)
    (chained c.keeps_two.ensures
    (covered_half c.args.needs.now c.args.at (stored_over c.args.store.now under) under own.kind own.address own.value c.in-Sh.is))

pub returns-in-Sw : goal.returns-in-Sw
returns-in-Sw c =
    let under = stored_over c.args.under.now (ram_byte c.args.arch.now.image c.args.arch.now.memory) in
    let own = c.in-Some.own in
    subst (λ (s : Option Store). IsTrue c.keeps_four.result ↔ SameCovered c.args.needs.now c.args.at (stored_over c.args.store.now under) under s)
    (sym c.in-Some.is)
    (chained c.keeps_four.ensures
    (covered_word c.args.needs.now c.args.at (stored_over c.args.store.now under) under own.kind own.address own.value c.in-Sw.is))
