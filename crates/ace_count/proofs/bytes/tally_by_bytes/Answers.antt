use Rattle.std.proofs.Common.{◌≡◌, ◌≤◌, ◌*◌, ℕ, ap, subst, ◌∙◌, arith}
use Rattle.bit_field.specs.Shapes.{bits_in}
use Rattle.bit_field.specs.declared.places.Structure.TheVariants.{CData}
use Rattle.run_record.specs.Run.{RecordedRun}
use Rattle.ace_count.specs.RunCounts.{HasClass}
use Rattle.ace_rules.specs.Tallies.{IsTally}
use Rattle.ace_rules.proofs.Pairs.{tally-more}
use Rattle.ace_rules.proofs.Tallies.{tally-none, tally-room_for_byte}
use Rattle.ace_count.proofs.bytes.tally_by_bytes.Goals as goal

pub loop-byte-init : goal.loop-byte-init
loop-byte-init c = tally-none (HasClass c.args.a.now CData) c.args.a.now.r.cycles

pub add_byte-requires-clause-room : goal.add_byte-requires-clause-room
add_byte-requires-clause-room c =
    let short : c.args.a.now.r.cycles ≤ 1000000 = rw (← c.recorded.ensures) c.is_record.ensures.short in
    tally-room_for_byte (HasClass c.args.a.now CData) (8 * c.loop-byte.byte) c.args.a.now.r.cycles c.loop-byte.row c.loop-byte.invariant (omega arith) short

pub loop-byte-preserved : goal.loop-byte-preserved
loop-byte-preserved c =
    subst (λ (n : ℕ). IsTally (HasClass c.args.a.now CData) n c.args.a.now.r.cycles c.add_byte.new.row) (omega arith)
    (tally-more (HasClass c.args.a.now CData) (8 * c.loop-byte.byte) 8 c.args.a.now.r.cycles c.loop-byte.row c.add_byte.new.row c.loop-byte.invariant
    c.add_byte.ensures)

pub returns : goal.returns
returns c =
    let all : c.bits_in-byte-end.result ≡ bits_in CData c.args.a.now.r.shape =
    c.bits_in-byte-end.ensures ∙ ap (bits_in CData) (c.shape-shape.ensures ∙ ap (λ (r : RecordedRun). r.shape) c.recorded-2.ensures) in
    subst (λ (n : ℕ). IsTally (HasClass c.args.a.now CData) n c.args.a.now.r.cycles c.loop-byte.row) (omega (arith, all)) c.loop-byte.invariant
