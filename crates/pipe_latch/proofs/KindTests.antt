-- What EX/MEM does, as tests on the number of its kind.
use Rattle.std.specs.Prelude.{◌≡◌, ℕ, zero, suc, ◌==◌, refl, if◌then◌else◌}
use Rattle.std.proofs.Common.{ap, arith}
use Rattle.std.proofs.lemmas.Bool.Decides.{nat_tests}
use Rattle.rv_table.specs.declared.operation.LoadKind.TheVariants.{Lb, Lh, Lw, Lbu, Lhu}
use Rattle.rv_table.specs.declared.operation.StoreKind.TheVariants.{Sb, Sh, Sw}
use Rattle.rv_table.specs.declared.action.Action.{Action}
use Rattle.rv_table.specs.declared.action.Action.TheVariants.{Nothing, Writes, Loads, Stores, Puts, Exits, Traps}
use Rattle.pipe_latch.specs.Latches.{ExecutedLatch}
use Rattle.pipe_latch.specs.LatchedActions.{action_by, action_of, kind_of}

abbrev pub by_tests : ℕ → ExecutedLatch → Action
by_tests number m =
    if number == 1 then Loads Lb m.rd m.x else
    (if number == 2 then Loads Lh m.rd m.x else
    (if number == 3 then Loads Lw m.rd m.x else
    (if number == 4 then Loads Lbu m.rd m.x else
    (if number == 5 then Loads Lhu m.rd m.x else
    (if number == 6 then Stores Sb m.x m.y else
    (if number == 7 then Stores Sh m.x m.y else
    (if number == 8 then Stores Sw m.x m.y else
    (if number == 9 then Puts m.x else
    (if number == 10 then Exits m.x else
    (if number == 11 then Traps m.cause else Writes m.rd m.x))))))))))

by_kind : (number : ℕ) (m : ExecutedLatch) → action_by (kind_of number) m ≡ by_tests number m
unfolding kind_of
by_kind zero m = refl
by_kind (suc zero) m = refl
by_kind (suc (suc zero)) m = refl
by_kind (suc (suc (suc zero))) m = refl
by_kind (suc (suc (suc (suc zero)))) m = refl
by_kind (suc (suc (suc (suc (suc zero))))) m = refl
by_kind (suc (suc (suc (suc (suc (suc zero)))))) m = refl
by_kind (suc (suc (suc (suc (suc (suc (suc zero))))))) m = refl
by_kind (suc (suc (suc (suc (suc (suc (suc (suc zero)))))))) m = refl
by_kind (suc (suc (suc (suc (suc (suc (suc (suc (suc zero))))))))) m = refl
by_kind (suc (suc (suc (suc (suc (suc (suc (suc (suc (suc zero)))))))))) m = refl
by_kind (suc (suc (suc (suc (suc (suc (suc (suc (suc (suc (suc zero))))))))))) m = refl
by_kind (suc (suc (suc (suc (suc (suc (suc (suc (suc (suc (suc (suc number)))))))))))) m = grind (arith, nat_tests)

pub action_of-tests : (m : ExecutedLatch) → action_of m ≡ (if m.valid then by_tests m.kind m else Nothing)
unfolding action_of
action_of-tests m = ap (λ (a : Action). if m.valid then a else Nothing) (by_kind m.kind m)
