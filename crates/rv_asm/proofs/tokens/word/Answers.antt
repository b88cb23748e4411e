use Rattle.rv_asm.proofs.Reading.{word_at}
use Rattle.rv_asm.proofs.tokens.word.Goals as goal

pub returns-else-length-eq0 : goal.returns-else-length-eq0
returns-else-length-eq0 c =
    word_at c.args.text.now c.trim_start-text.result.now c.word_length-length.result c.trim_start-text.ensures c.word_length-length.ensures.length
    c.if-length-eq0.false
