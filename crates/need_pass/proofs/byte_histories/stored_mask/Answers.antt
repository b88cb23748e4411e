use Rattle.need_pass.proofs.byte_histories.stored_mask.Goals as goal

pub returns-in-Some : goal.returns-in-Some
returns-in-Some c = rw c.in-Some.is c.accessed_word.ensures
