use Rattle.std.proofs.Common.{◌≡◌, ℕ, ◌+◌, ◌-◌, List, length, drop, ap, sym, ◌∙◌, arith}
use Rattle.std.proofs.lemmas.List.{take_at, reverse-reverse}
use Rattle.dead_class.proofs.Kept.{kept_none, kept_by, classes-length}
use Rattle.dead_class.proofs.Unread.{unread_is_unneeded}
use Rattle.dead_class.specs.Classes.{classes_of}
use Rattle.dead_class.specs.Readers.{IsKept, class_from}
use Rattle.std.specs.Prelude.{reverse}
use Rattle.dead_class.specs.declared.class.DeadClass.{DeadClass}
use Rattle.dead_class.specs.declared.readers.Readers.{Readers}
use Rattle.rv_isa.specs.declared.effect.Retired.{Retired}
use Rattle.dead_class.proofs.table.classify.Goals as goal

pub loop-at-init : goal.loop-at-init
loop-at-init c =
    rw (c.new-bytes.ensures.empty, c.new-classes.ensures.items, c.len-at.ensures) (kept_none c.args.trace.now.entries c.in_ok-registers.registers.items c.in_ok-registers.ensures)

pub loop-at-preserved : goal.loop-at-preserved
loop-at-preserved c =
    let entries = c.args.trace.now.entries in
    let before = c.deref_mut.result.now in
    let after = c.pass_registers.new.registers in
    let bytes = c.loop-at.bytes.entries in
    let entry = c.entry-entry.result.now in
    let class = c.class_after-class.result in
    let at : ℕ = c.loop-at.at - 1 in
    let back : at + 1 ≡ c.loop-at.at = omega arith in
    let kept : IsKept entries before bytes c.loop-at.classes.items (at + 1) = rw (c.deref_mut.ensures.value, back) c.loop-at.invariant in
    let judged : class ≡ class_from entry before bytes = c.class_after-class.ensures ∙ ap (λ x. class_from entry x bytes) (c.deref.ensures.value ∙ sym c.deref_mut.ensures.value) in
    let count : length after ≡ 32 = omega (arith, c.pass_registers.auto.registers, kept.count) in
    let kept_count : length after ≡ c.loop-at.registers.len = omega (arith, count, c.loop-at.invariant.count, c.loop-at.registers.ok.0) in
    rw (take_at after (drop (length after) c.loop-at.registers.items) c.loop-at.registers.len kept_count, c.in_ok-push.ensures.items) (kept_by entries before after bytes c.pass_bytes.new.bytes.entries c.loop-at.classes.items at entry class c.one-reader.result c.entry-entry.ensures.entry c.entry-entry.ensures.retired.write kept judged c.one-reader.ensures count c.pass_registers.ensures c.in_ok-pass_bytes.ensures)

-- what is kept of the whole run, turned over
all_classes : (entries : List Retired) (registers : List Readers) (bytes : List (ℕ × Readers)) (classes reversed : List DeadClass) (at : ℕ) → at ≡ 0 → IsKept entries registers bytes classes at → reversed ≡ reverse classes → reversed ≡ classes_of entries
all_classes entries registers bytes classes reversed at e kept r =
    r ∙ ap reverse kept.classes_are ∙ reverse-reverse (classes_of (drop at entries)) ∙ ap (λ n. classes_of (drop n entries)) e

pub invariant_of-result : goal.invariant_of-result
invariant_of-result c =
    let entries = c.args.trace.now.entries in
    let all = all_classes entries c.loop-at.registers.items c.loop-at.bytes.entries c.loop-at.classes.items c.reverse.new.self.items c.loop-at.at (omega arith) c.loop-at.invariant c.reverse.ensures.items in
    omega (arith, ap length all, classes-length entries, c.len-at.ensures, c.len-at.type_inv)

pub returns-clause-length : goal.returns-clause-length
returns-clause-length c =
    let entries = c.args.trace.now.entries in
    let all = all_classes entries c.loop-at.registers.items c.loop-at.bytes.entries c.loop-at.classes.items c.reverse.new.self.items c.loop-at.at (omega arith) c.loop-at.invariant c.reverse.ensures.items in
    ap length all ∙ classes-length entries

pub returns-clause-law : goal.returns-clause-law
returns-clause-law c = unread_is_unneeded c.args.trace.now.entries c.args.needs.now c.requires

pub returns-in_err-registers-clause-law : goal.returns-in_err-registers-clause-law
returns-in_err-registers-clause-law c = unread_is_unneeded c.args.trace.now.entries c.args.needs.now c.requires

pub returns-in_err-push-clause-law : goal.returns-in_err-push-clause-law
returns-in_err-push-clause-law c = unread_is_unneeded c.args.trace.now.entries c.args.needs.now c.requires

pub returns-in_err-pass_bytes-clause-law : goal.returns-in_err-pass_bytes-clause-law
returns-in_err-pass_bytes-clause-law c = unread_is_unneeded c.args.trace.now.entries c.args.needs.now c.requires
