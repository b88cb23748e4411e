-- Whether a line is looked up stays the same up to the next cycle in which it is asked for or its slot is filled.
use Rattle.std.proofs.Common.{◌≡◌, ◌≤◌, ℕ, Bool, true, false, List, [], ◌∷◌, Option, Some, None, find, nat_le, arith, refl, if◌then◌else◌}
use Rattle.std.specs.Prelude.{slice_index_or}
use Rattle.std.proofs.lemmas.Bool.Decides.{nat_tests}
use Rattle.event_log.specs.Cycles.{first_from}
use Rattle.tag_dist.specs.Tables.{IsBy, Tables, asked_in, earlier, first_asked, looked_up_in, next_asked}

-- the first cycle of a list from t on is also the first from u on, where it doesn't come before u
first-same : (t u : ℕ) → t ≤ u → (cycles : List ℕ) → IsBy u (first_from t cycles) → first_from u cycles ≡ first_from t cycles
unfolding first_from
first-same t u l [] h = refl
first-same t u l (c ∷ cs) h = go (nat_le t c) refl (nat_le u c) refl (first-same t u l cs) h
  where
    go : (a : Bool) → nat_le t c ≡ a → (b : Bool) → nat_le u c ≡ b
        → (IsBy u (find (λ c. nat_le t c) cs) → find (λ c. nat_le u c) cs ≡ find (λ c. nat_le t c) cs)
        → IsBy u (if a then Some c else find (λ c. nat_le t c) cs)
        → (if b then Some c else find (λ c. nat_le u c) cs) ≡ (if a then Some c else find (λ c. nat_le t c) cs)
    go true p true q rest h = refl
    go true p false q rest h = absurd (grind (arith, nat_tests))
    go false p true q rest h = absurd (grind (arith, nat_tests))
    go false p false q rest h = rest h

by-both : (u : ℕ) (a b : Option ℕ) → IsBy u (earlier a b) → IsBy u a × IsBy u b
by-both u None b h = (tt, h)
by-both u (Some a) None h = (h, tt)
by-both u (Some a) (Some b) h = (omega (arith, h), omega (arith, h))

pub asked-same : (table : Tables) (l line t u : ℕ) → t ≤ u → IsBy u (next_asked table l line t)
    → looked_up_in table l line u ≡ looked_up_in table l line t
unfolding looked_up_in next_asked
asked-same table l line t u later h =
    let both = by-both u (first_asked table.asked line t) (first_from t (slice_index_or table.filled l [])) h in
    rw (first-same t u later (asked_in table.asked line) both.0, first-same t u later (slice_index_or table.filled l []) both.1) refl
