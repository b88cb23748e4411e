use Rattle.std.proofs.Common.{arith}
use Rattle.std.proofs.lemmas.Bool.Decides.{nat_tests}
use Rattle.eval_mask.proofs.Missed.{apart_stores}
use Rattle.eval_mask.proofs.needed.misses_store.Goals as goal

pub returns-in-Some-Stores : goal.returns-in-Some-Stores
returns-in-Some-Stores c =
    let i = c.in-Some-Stores in
    λ t. rw (i.is-0, i.is-1) (apart_stores i.store i.kind-1 i.address i.value-1 (grind (arith, nat_tests)))
