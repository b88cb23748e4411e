use Rattle.std.proofs.Common.{◌≡◌, ℕ, ◌+◌, ◌-◌, length, drop, ap, subst, arith}
use Rattle.std.proofs.lemmas.List.{take_at}
use Rattle.need_pass.proofs.NeedLaw.{need_law}
use Rattle.need_pass.proofs.Passes.{IsPassed, passed_none, passed_more, passed_all}
use Rattle.need_pass.proofs.table.needs.Goals as goal

pub loop-at-init : goal.loop-at-init
loop-at-init c =
    rw (c.new-bytes.ensures.empty, c.len-at.ensures) (passed_none c.args.trace.now.entries c.in_ok-registers.registers.items c.in_ok-registers.ensures)

pub loop-at-preserved : goal.loop-at-preserved
loop-at-preserved c =
    let entries = c.args.trace.now.entries in
    let before = c.deref_mut.result.now in
    let after = c.step_back.new.registers in
    let bytes = c.loop-at.bytes.entries in
    let at : ℕ = c.loop-at.at - 1 in
    let back : at + 1 ≡ c.loop-at.at = omega arith in
    let passed : IsPassed entries before bytes (at + 1) = rw (c.deref_mut.ensures.value, back) c.loop-at.invariant in
    let count : length after ≡ c.loop-at.registers.len = omega (arith, c.step_back.auto.registers, ap length c.deref_mut.ensures.value, c.loop-at.registers.ok.0) in
    rw (take_at after (drop (length after) c.loop-at.registers.items) c.loop-at.registers.len count) (passed_more entries before after bytes c.step_back.new.bytes.entries at c.entry.result.now c.entry.ensures.entry c.step_back.auto.registers passed c.in_ok-step_back.ensures)

pub returns-clause-exact : goal.returns-clause-exact
returns-clause-exact c =
    let entries = c.args.trace.now.entries in
    let at : c.loop-at.at ≡ 0 = omega arith in
    passed_all entries c.loop-at.registers.items c.loop-at.bytes.entries c.len.result c.len.ensures (subst (IsPassed entries c.loop-at.registers.items c.loop-at.bytes.entries) at c.loop-at.invariant)

pub returns-clause-law : goal.returns-clause-law
returns-clause-law c = λ image clocks is fit trace. need_law image clocks c.args.trace.now is fit trace

pub returns-in_err-registers-clause-law : goal.returns-in_err-registers-clause-law
returns-in_err-registers-clause-law c = λ image clocks is fit trace. need_law image clocks c.args.trace.now is fit trace

pub returns-in_err-step_back-clause-law : goal.returns-in_err-step_back-clause-law
returns-in_err-step_back-clause-law c = λ image clocks is fit trace. need_law image clocks c.args.trace.now is fit trace
