use Rattle.std.proofs.Common.{◌≡◌, map, ◌∙◌, arith}
use Rattle.elf_load.specs.Answers.{lent}
use Rattle.elf_load.specs.Meaning.{image_in}
use Rattle.elf_load.proofs.FileHeader.{accepted-long}
use Rattle.elf_load.proofs.Loaded.{accepted-file, accepted-layout, accepted-bytes, accepted-image}
use Rattle.elf_load.proofs.loader.load.Goals as goal

pub word_at-requires : goal.word_at-requires
word_at-requires c =
    omega (arith, accepted-long c.args.bytes.now (accepted-file c.args.bytes.now c.args.ram c.in_ok-segments.ensures.0))

pub image_of-requires-clause-bytes : goal.image_of-requires-clause-bytes
image_of-requires-clause-bytes c =
    rw c.deref.ensures.value (accepted-bytes c.args.bytes.now c.args.ram
    (map lent c.in_ok-segments.segments.items) c.in_ok-segments.ensures.0 c.in_ok-segments.ensures.1)

pub image_of-requires-clause-accepted : goal.image_of-requires-clause-accepted
image_of-requires-clause-accepted c =
    rw c.deref.ensures.value (accepted-layout c.args.bytes.now c.args.ram c.word_at.result
    (map lent c.in_ok-segments.segments.items) c.in_ok-segments.ensures.0 c.in_ok-segments.ensures.1 c.word_at.ensures)

pub returns : goal.returns
returns c =
    let made : c.in_ok-image_of.field-0 ≡ image_in (map lent c.in_ok-segments.segments.items) c.word_at.result c.args.ram =
    rw (← c.deref.ensures.value) c.in_ok-image_of.ensures in (
      c.in_ok-segments.ensures.0,
      made
          ∙ accepted-image c.args.bytes.now c.args.ram c.word_at.result (map lent c.in_ok-segments.segments.items) c.in_ok-segments.ensures.1 c.word_at.ensures,
    )
