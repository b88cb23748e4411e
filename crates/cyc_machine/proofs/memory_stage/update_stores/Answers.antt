use Rattle.std.proofs.Common.{◌≡◌, ◌<◌, ap, ◌∙◌, arith, length}
use Rattle.std.specs.Prelude.{◌++◌, nat_lt}
use Rattle.std.proofs.lemmas.Bool.Decides.{nat_tests}
use Rattle.store_buf.specs.Pending.{packed, pending}
use Rattle.cyc_machine.specs.Memory.{appended, kept_stores, stores_after}
use Rattle.cyc_machine.proofs.Buffers.{length-kept, pending-kept}
use Rattle.cyc_machine.proofs.memory_stage.update_stores.Goals as goal

pub append-requires : goal.append-requires
append-requires c h =
    let kept : pending c.leave.new.stores ≡ kept_stores c.args.image.now c.args.motion.now (pending c.args.stores.now) =
    ap pending c.leave.ensures ∙ pending-kept c.args.image.now c.args.motion.now c.args.stores.now in
    let few : length (pending c.leave.new.stores) ≡ length (kept_stores c.args.image.now c.args.motion.now (pending c.args.stores.now)) = ap length kept in
    let less = length-kept c.args.image.now c.args.motion.now (pending c.args.stores.now) in
    let room : c.len.result < 4 = grind (arith, nat_tests) in
    let count = c.len.ensures in
    omega (arith, less, count)

pub returns : goal.returns
unfolding stores_after
returns c =
    let kept : pending c.leave.new.stores ≡ kept_stores c.args.image.now c.args.motion.now (pending c.args.stores.now) =
    ap pending c.leave.ensures ∙ pending-kept c.args.image.now c.args.motion.now c.args.stores.now in
    c.append.ensures
    ∙ ap (λ es. packed (es ++ appended c.args.image.now c.args.action.now (nat_lt c.len.result 4))) kept
    ∙ ap
    (λ n. packed (kept_stores c.args.image.now c.args.motion.now (pending c.args.stores.now)
    ++ appended c.args.image.now c.args.action.now (nat_lt n 4))) c.len.ensures
