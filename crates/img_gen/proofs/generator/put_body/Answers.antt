use Rattle.std.proofs.Common.{◌≡◌, ◌++◌}
use Rattle.elf_write.specs.Code.{op_bytes}
use Rattle.img_gen.specs.Program.{body_op}
use Rattle.img_gen.proofs.Bodies.{body_bytes, body_more}
use Rattle.img_gen.proofs.generator.put_body.Goals as goal

pub loop-k-preserved : goal.loop-k-preserved
loop-k-preserved c =
    let more : c.put_op.new.text_part.items ≡ c.loop-k.text.items ++ op_bytes (body_op c.next_word.result) =
    rw c.body_op.ensures.op at c.in_ok-put_op.ensures.bytes in
    body_more c.loop-k.text.items c.put_op.new.text_part.items (c.args.text.now.items ++ body_bytes c.args.size c.args.words.now) c.loop-k._k c.args.size
    c.next_word.result c.loop-k.words c.next_word.new.self c.loop-k-test.true c.loop-k.invariant c.next_word.ensures more
