-- From every state whose sizes last an instruction is completed in every 256 cycles.
use Rattle.std.proofs.Common.{◌≡◌, ℕ, zero, suc, ◌+◌, ◌-◌, ◌*◌, ◌<◌, ◌≤◌, true, refl, ap, arith, inl, inr}
use Rattle.std.proofs.lemmas.Bool.{cases_lt}
use Rattle.cyc_machine.specs.Cycle.{retires}
use Rattle.cyc_machine.specs.Run.{retired_after, state_after}
use Rattle.cyc_machine.specs.Sizes.{IsSteady}
use Rattle.cyc_machine.specs.State.{State}
use Rattle.cyc_machine.specs.declared.machine.TheConstants.{CYCLES_PER_INSTRUCTION}
use Rattle.cyc_machine.proofs.RunsOn.{retired-on}
use Rattle.cyc_machine.proofs.Sizes.Lasting.{steady-after}
use Rattle.flush_view.specs.Progress.{LeavesWithin}
use Rattle.flush_view.proofs.Progress.ProgressLaw.{progress}

one_retired : (n : ℕ) (s : State) → retires (state_after n s) ≡ true → retired_after (suc n) s ≡ retired_after n s + 1
unfolding retired_after
one_retired n s e = rw e refl

enough : (m n : ℕ) (s : State) → CYCLES_PER_INSTRUCTION * m ≤ n → IsSteady s → m ≤ retired_after n s
enough zero n s h is = omega arith
enough (suc m) n s h is =
    let soon : LeavesWithin 256 s = progress s is in
    let waits : soon.waits < 256 = soon.within in
    let first = suc soon.waits in
    let others = n - first in
    let all : n ≡ others + first = omega (arith, h, waits) in
    let left : CYCLES_PER_INSTRUCTION * m ≤ others = omega (arith, h, waits) in
    let later = enough m others (state_after first s) left (steady-after first s is) in
    let one = one_retired soon.waits s soon.leaves in
    let both = retired-on others first s in
    let same = ap (λ k. retired_after k s) all in
    omega (arith, later, one, both, same)

pub lasts : (n : ℕ) (s : State) → IsSteady s → n < CYCLES_PER_INSTRUCTION * (retired_after n s + 1)
lasts n s is =
    elim (cases_lt n (CYCLES_PER_INSTRUCTION * (retired_after n s + 1))) [
      | inl l ↦ l
      | inr h ↦ let more = enough (retired_after n s + 1) n s h is in absurd (omega (arith, more))
    ]
