use Rattle.std.proofs.Common.{◌≡◌, length, drop, get_or, ap, subst, arith}
use Rattle.std.proofs.lemmas.List.{get_or_default, take_at}
use Rattle.wb_cache.specs.declared.event.EventKind.TheVariants.{Read}
use Rattle.line_life.proofs.Answered.{life-all, lives-all}
use Rattle.line_life.proofs.Noted.{IsNoted, noted-more, noted-none}
use Rattle.line_life.proofs.life.data_life.Goals as goal

pub loop-event-init : goal.loop-event-init
loop-event-init c = rw (c.in_ok-reads.ensures, c.in_ok-changes.ensures, c.slot_count.ensures.value, c.slot_count-2.ensures.value)
    (noted-none c.args.shape.now c.args.events.now)

pub loop-event-preserved : goal.loop-event-preserved
loop-event-preserved c =
    let rs = c.note.new.reads in
    let cs = c.note.new.changes in
    let reads : length rs ≡ c.loop-event.reads.len = omega (arith, c.note.auto.reads, ap length c.deref_mut.ensures.value, c.loop-event.reads.ok.0) in
    let changes : length cs ≡ c.loop-event.changes.len = omega
    (arith, c.note.auto.changes, ap length c.deref_mut-in-loop-event.ensures.value, c.loop-event.changes.ok.0) in
    let noted : IsNoted c.args.shape.now c.args.events.now c.loop-event.event-index c.deref_mut.result.now c.deref_mut-in-loop-event.result.now = rw
    (c.deref_mut.ensures.value, c.deref_mut-in-loop-event.ensures.value) c.loop-event.invariant in
    rw (
      take_at rs (drop (length rs) c.loop-event.reads.items) c.loop-event.reads.len reads,
      take_at cs
          (drop (length cs) c.loop-event.changes.items) c.loop-event.changes.len changes,
    )
    (noted-more c.args.shape.now c.args.events.now c.loop-event.event-index c.slot_number-slot.result
    (get_or c.args.events.now c.loop-event.event-index
    (record {
      cycle = 0;
      kind = Read;
      line = 0;
      set = 0;
      way = 0;
      mask = 0;
      word = 0;
    })) c.deref_mut.result.now rs c.deref_mut-in-loop-event.result.now cs (omega arith)
    (get_or_default c.args.events.now c.loop-event.event-index _ _
    (omega arith)) c.slot_number-slot.ensures.value c.note.auto.reads c.note.auto.changes c.in_ok-note.ensures.read c.in_ok-note.ensures.changed noted)

pub invariant_of-result : goal.invariant_of-result
invariant_of-result c =
    let n : c.loop-event.event-index ≡ length c.args.events.now = omega arith in
    lives-all c.args.shape.now c.args.events.now c.args.cycles c.loop-event.reads.items c.loop-event.changes.items c.requires.shape c.requires.events
    (subst (λ n. IsNoted c.args.shape.now c.args.events.now n c.loop-event.reads.items c.loop-event.changes.items) n c.loop-event.invariant)

pub returns : goal.returns
returns c =
    let n : c.loop-event.event-index ≡ length c.args.events.now = omega arith in
    life-all c.args.shape.now c.args.events.now c.args.cycles c.loop-event.reads.items c.loop-event.changes.items c.requires.shape c.requires.events
    (subst (λ n. IsNoted c.args.shape.now c.args.events.now n c.loop-event.reads.items c.loop-event.changes.items) n c.loop-event.invariant)
