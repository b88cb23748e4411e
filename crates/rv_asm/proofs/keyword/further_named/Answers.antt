use Rattle.rv_asm.proofs.KeywordTable.{further-none, further-one, further_known}
use Rattle.rv_asm.proofs.keyword.further_named.Goals as goal

pub returns-in-Some-clause-keyword : goal.returns-in-Some-clause-keyword
returns-in-Some-clause-keyword c = further-one c.args.word.now c.further.result.now c.in-Some.named.now c.further.ensures c.in-Some.ensures

pub returns-in-Some-clause-known : goal.returns-in-Some-clause-known
returns-in-Some-clause-known c = further_known c.args.word.now c.in-Some.named.now.keyword (further-one c.args.word.now c.further.result.now
    c.in-Some.named.now c.further.ensures c.in-Some.ensures)

pub returns-in-None-clause-keyword : goal.returns-in-None-clause-keyword
returns-in-None-clause-keyword c = further-none c.args.word.now c.further.result.now c.further.ensures c.in-None.ensures
