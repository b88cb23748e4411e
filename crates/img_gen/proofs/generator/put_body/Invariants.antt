use Rattle.std.proofs.Common.{◌≡◌, ◌++◌, ◌-◌}
use Rattle.img_gen.proofs.Bodies.{body_bytes}
use Rattle.img_gen.proofs.generator.put_body.Given as goal

-- what is put and what the words that are left give make the whole body
abbrev pub invariant-loop-k : goal.invariant-loop-k
invariant-loop-k l = l.text.items ++ body_bytes (l.size - l._k) l.words ≡ l.initial.text.items ++ body_bytes l.size l.initial.words
