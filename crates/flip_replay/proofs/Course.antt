-- The cycles that a machine makes and what they complete are those of its state.
use Rattle.std.proofs.Common.{◌≡◌, ℕ, ◌+◌, ◌<◌, Some, None, refl, ap, ◌∙◌, arith}
use Rattle.avf_base.specs.declared.end.End.{End}
use Rattle.cyc_machine.specs.Cycle.{end_in}
use Rattle.cyc_machine.specs.Run.{retired_after}
use Rattle.cyc_machine.specs.Sizes.{IsSteady}
use Rattle.cyc_machine.specs.State.{State}
use Rattle.flip_replay.specs.Lasting.{Outlasts}
use Rattle.flip_replay.proofs.Follows.{Follows, follows-end}
use Rattle.flip_replay.proofs.Lasts.{lasts}

-- an end came
pub ended : (s : State) (n made : ℕ) (machine : State) (completed : ℕ) (end : End) → made < n → end_in machine ≡ Some end
    → Follows s made machine → completed ≡ retired_after (made + 1) s
    → Outlasts s n (record { cycles = made + 1; completed = completed; end = Some end })
ended s n made machine completed end l e f retired = record {
  cycles = record { last = made; counted = refl; within = omega (arith, l); ends = follows-end s made machine end e f };
  completed = retired;
  lasts = λ none. absurd cc;
}

-- none came
pub lasted : (s : State) (n made : ℕ) (machine : State) (completed : ℕ) → IsSteady s → made ≡ n → Follows s made machine
    → completed ≡ retired_after made s
    → Outlasts s n (record { cycles = n; completed = completed; end = None })
lasted s n made machine completed is e f retired =
    let same : completed ≡ retired_after n s = retired ∙ ap (λ k. retired_after k s) e in
    record {
      cycles = (refl, λ k l. f.running k (omega (arith, l, e)));
      completed = same;
      lasts = λ none. let h = lasts n s is in omega (arith, h, same);
    }
