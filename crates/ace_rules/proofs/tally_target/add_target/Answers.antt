use Rattle.std.proofs.Common.{◌≡◌, ◌+◌, ◌*◌, subst}
use Rattle.bit_field.specs.declared.places.Structure.TheVariants.{Sb}
use Rattle.elf_load.specs.Image.{LoadedImage}
use Rattle.store_buf.specs.declared.pending.PendingField.TheVariants.{Addr, Mask}
use Rattle.ace_rules.specs.Asked.{pending_class}
use Rattle.ace_rules.specs.RuleMasks.{first_of}
use Rattle.ace_rules.specs.Tallies.{HasClass}
use Rattle.ace_rules.proofs.FirstMasks.{added-firsts}
use Rattle.ace_rules.proofs.TargetMarks.{target-class}
use Rattle.ace_rules.proofs.Unneeded.{retired_counted}
use Rattle.ace_rules.proofs.tally_target.add_target.Goals as goal

pub target_masks-requires-clause-instruction : goal.target_masks-requires-clause-instruction
target_masks-requires-clause-instruction c = retired_counted c.args.needs.now c.args.note.now c.args.quiet c.requires.some

pub returns : goal.returns
returns c = λ a known same.
    added-firsts (λ k. HasClass a Sb (66 * c.args.slot + k)) c.target_masks.result 34 c.args.row.now c.add_firsts.new.row c.add_firsts.ensures.full
    c.add_firsts.ensures.counts
    (target-class a c.args.needs.now c.args.note.now c.args.quiet known c.args.slot c.requires.slot c.target_masks.result
    (λ j l. subst (λ (image : LoadedImage). first_of c.target_masks.result j ≡ pending_class image c.args.needs.now c.args.note.now c.args.quiet
    c.args.slot j Mask j) same (c.target_masks.ensures.mask j l))
    (λ j l. subst (λ (image : LoadedImage). first_of c.target_masks.result (4 + j) ≡ pending_class image c.args.needs.now c.args.note.now c.args.quiet
    c.args.slot (4 + j) Addr j) same (c.target_masks.ensures.address j l)))
