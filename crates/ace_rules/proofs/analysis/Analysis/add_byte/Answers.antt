use Rattle.std.proofs.Common.{◌+◌, ◌-◌, ◌*◌, [], ◌∷◌, arith}
use Rattle.bit_field.specs.declared.places.Structure.TheVariants.{CData}
use Rattle.ace_rules.specs.Notes.{moment}
use Rattle.ace_rules.specs.Tallies.{HasClass}
use Rattle.ace_rules.proofs.Pairs.{pairs-kept}
use Rattle.ace_rules.proofs.analysis.Analysis.add_byte.Goals as goal

pub returns-clause-added : goal.returns-clause-added
returns-clause-added c =
    let stay = c.byte_in-until.result in
    pairs-kept (λ k t. HasClass (moment c.args.self.now (c.args.cycle + t)) CData (8 * c.args.byte + k)) (stay.found ∷ []) 8 (stay.until - c.args.cycle)
    c.args.row.now c.add_times.new.row c.add_times.ensures.full c.add_times.ensures.counts
    (λ k t l m. c.byte_in-until.ensures.stays k (c.args.cycle + t) l (omega arith) (omega (arith, m)))
