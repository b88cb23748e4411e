use Rattle.need_pass.proofs.ByteBits.{byte_low, byte_past}
use Rattle.need_pass.proofs.byte_histories.byte_of_word.Goals as goal

pub returns-then-n-lt4 : goal.returns-then-n-lt4
returns-then-n-lt4 c = byte_low c.args.word c.args.n

pub returns-else-n-lt4 : goal.returns-else-n-lt4
returns-else-n-lt4 c = byte_past c.args.word c.args.n c.ranges.word.fits c.if-n-lt4.false
