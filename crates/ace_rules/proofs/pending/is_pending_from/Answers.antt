use Rattle.std.proofs.Common.{◌≡◌, ◌+◌, ◌||◌, suc, Bool, ap, sym, ◌∙◌, arith}
use Rattle.store_buf.specs.Entry.{Entry}
use Rattle.ace_law.specs.MemoryRules.{writes}
use Rattle.ace_rules.specs.Asked.{written_from}
use Rattle.ace_rules.proofs.PendingBytes.{written-more, written-none}
use Rattle.ace_rules.proofs.pending.is_pending_from.Goals as goal

pub returns-then-writes : goal.returns-then-writes
returns-then-writes c =
    sym (c.loop-slot.invariant.same
    ∙ written-more c.args.stores.now c.loop-slot.slot c.args.byte (omega (arith, c.loop-slot-test.true, c.fits.ensures.0))
    ∙ ap (λ (e : Entry). writes e c.args.byte || written_from c.args.stores.now (suc c.loop-slot.slot) c.args.byte) (sym c.slot.ensures)
    ∙ ap (λ (b : Bool). b || written_from c.args.stores.now (suc c.loop-slot.slot) c.args.byte) (sym c.writes.ensures ∙ c.if-writes.true))

pub loop-slot-preserved : goal.loop-slot-preserved
loop-slot-preserved c = record {
  same = c.loop-slot.invariant.same
      ∙ written-more c.args.stores.now c.loop-slot.slot c.args.byte (omega (arith, c.loop-slot-test.true, c.fits.ensures.0))
      ∙ ap (λ (e : Entry). writes e c.args.byte || written_from c.args.stores.now (suc c.loop-slot.slot) c.args.byte) (sym c.slot.ensures)
      ∙ ap (λ (b : Bool). b || written_from c.args.stores.now (suc c.loop-slot.slot) c.args.byte) (sym c.writes.ensures ∙ c.if-writes.false)
      ∙ (let e : suc c.loop-slot.slot ≡ c.loop-slot.slot + 1 = omega arith in ap (λ i. written_from c.args.stores.now i c.args.byte) e);
}

pub returns : goal.returns
returns c =
    sym (c.loop-slot.invariant.same
    ∙ written-none c.args.stores.now c.loop-slot.slot c.args.byte (omega (arith, c.loop-slot-test.false, c.fits.ensures.0)))
