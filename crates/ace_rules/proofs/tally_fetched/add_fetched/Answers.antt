use Rattle.std.proofs.Common.{ℕ, ◌+◌, ◌*◌, ◌==◌, subst, arith}
use Rattle.bit_field.proofs.Located.{is_located}
use Rattle.bit_field.specs.declared.places.Structure.TheVariants.{Ib}
use Rattle.inst_buf.specs.EntryBits as entry
use Rattle.ace_class.specs.Classes.{class_number}
use Rattle.ace_rules.specs.RuleMasks.{first_of}
use Rattle.ace_rules.specs.Tallies.{HasClass, IsAdded}
use Rattle.ace_rules.proofs.FetchedSlots.{fetched-class-at}
use Rattle.ace_rules.proofs.FirstMasks.{added-firsts}
use Rattle.ace_rules.proofs.Tallies.{added-behind, added-start, count-le}
use Rattle.ace_rules.proofs.tally_fetched.add_fetched.Goals as goal

pub loop-slot-init : goal.loop-slot-init
loop-slot-init c = record { most = λ n. omega arith; added = λ a needs known masks. added-start (HasClass a Ib) c.args.row.now }

pub add_firsts-requires-clause-room : goal.add_firsts-requires-clause-room
add_firsts-requires-clause-room c = λ n.
    let most = c.loop-slot.invariant.most n in
    let room = c.requires n in
    omega (arith, most, room)

pub loop-slot-preserved : goal.loop-slot-preserved
loop-slot-preserved c =
    let note = c.args.note.now in
    let words = c.args.words.now in
    let quiet = c.args.quiet in
    let i = c.loop-slot.slot in
    record {
      most = λ n.
          let most = c.loop-slot.invariant.most n in
          let counts = c.add_firsts.ensures.counts n in
          let few = count-le 64 (λ k. class_number (first_of c.slot_masks.result k) == n) in
          omega (arith, most, counts, few);
      added = λ a needs known masks.
          subst (λ (n : ℕ). IsAdded (HasClass a Ib) n c.args.row.now c.add_firsts.new.row) (omega arith)
          (added-behind (HasClass a Ib) (64 * i) 64 c.args.row.now c.loop-slot.row c.add_firsts.new.row (c.loop-slot.invariant.added a needs known masks)
          (added-firsts (λ k. HasClass a Ib (64 * i + k)) c.slot_masks.result 64 c.loop-slot.row c.add_firsts.new.row c.add_firsts.ensures.full
          c.add_firsts.ensures.counts
          (λ k l.
          let (place, at) = is_located entry.width entry.layout.fields k l in
          rw (c.slot_masks.ensures k place l at)
          (fetched-class-at a needs note words quiet known masks i k place at (omega arith) l))));
    }

pub returns : goal.returns
returns c = λ a needs known masks.
    subst (λ (n : ℕ). IsAdded (HasClass a Ib) n c.args.row.now c.loop-slot.row) (omega arith) (c.loop-slot.invariant.added a needs known masks)
