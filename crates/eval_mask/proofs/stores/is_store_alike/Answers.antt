use Rattle.std.proofs.Common.{sym, ◌∙◌}
use Rattle.std.specs.Prelude.{slice_index}
use Rattle.rv_isa.specs.Architecture.{state_of}
use Rattle.eval_mask.specs.Aftermaths.{written}
use Rattle.eval_mask.proofs.OtherStores.{none_where, store_exactly}
use Rattle.eval_mask.proofs.stores.is_store_alike.Goals as goal

pub returns : goal.returns
returns c =
    let case = c.args.case.now in
    rw (c.store_by-other.ensures, c.image.ensures) at
    (store_exactly c.args.needs.now case.first_after (written case.oldest (slice_index c.args.arch.now.registers)) (state_of c.args.arch.now).memory case.own
    c.store_by-other.result c.same_overwritten.result c.same_overwritten.ensures.same c.same_overwritten.ensures.all
    (none_where case.own.end (sym c.is_some.ensures ∙ c.if-is_some.false)))
