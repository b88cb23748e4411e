-- The last read of the cycle counter: from the cycle on in which it has left EX a run is quiet.
use Rattle.std.proofs.Common.{◌≡◌, ◌+◌, ◌-◌, ◌≤◌, ◌<◌, ℕ, zero, suc, Bool, true, false, List, [], ◌∷◌, length, arith, refl, ap, sym, ◌∙◌}
use Rattle.std.specs.Prelude.{Option, Some, None, slice_get, nat_lt, if◌then◌else◌}
use Rattle.std.proofs.lemmas.Bool.Decides.{nat_tests}
use Rattle.std.proofs.lemmas.Option.{slice_get_within}
use Rattle.rv_table.specs.Actions.{is_clocked}
use Rattle.rv_isa.specs.declared.effect.Retired.{Retired}
use Rattle.ace_law.specs.Moments.{IsQuiet, Moment, executed}
use Rattle.ace_rules.specs.Walks.{IsLastClock}

pub last_start : (run : List Retired) → IsLastClock run 0 0
last_start run = record {
  within = omega arith;
  reads = λ i entry e h. absurd (omega (arith, e));
  silent = λ i entry e l h. absurd (omega (arith, l));
}

last_read : (run : List Retired) (n last : ℕ) (entry : Retired) → slice_get run n ≡ Some entry → is_clocked entry.op ≡ true → IsLastClock run n last
    → IsLastClock run (n + 1) (n + 1)
last_read run n last entry at reads is = record {
  within = omega arith;
  reads = λ i other e h. let same : n ≡ i = omega (arith, e) in let there : slice_get run i ≡ Some entry = ap (slice_get run) (sym same) ∙ at in cc;
  silent = λ i other e l h. absurd (omega (arith, e, l));
}

last_kept : (run : List Retired) (n last : ℕ) (entry : Retired) → slice_get run n ≡ Some entry → is_clocked entry.op ≡ false → IsLastClock run n last
    → IsLastClock run (n + 1) last
last_kept run n last entry at reads is = record {
  within = let w = is.within in omega (arith, w);
  reads = is.reads;
  silent = λ i other e l h. go i other e l h (nat_lt i n) refl;
}
  where
    go : (i : ℕ) (other : Retired) → last ≤ i → i < n + 1 → slice_get run i ≡ Some other → (b : Bool) → nat_lt i n ≡ b → is_clocked other.op ≡ false
    go i other e l h true t = is.silent i other e (grind (arith, nat_tests)) h
    go i other e l h false t =
        let same : n ≡ i = grind (arith, nat_tests) in
        let there : slice_get run i ≡ Some entry = ap (slice_get run) (sym same) ∙ at in
        cc

pub last_more : (run : List Retired) (n last : ℕ) (entry : Retired) → slice_get run n ≡ Some entry → IsLastClock run n last
    → IsLastClock run (n + 1) (if is_clocked entry.op then n + 1 else last)
last_more run n last entry at is = go (is_clocked entry.op) refl
  where
    go : (b : Bool) → is_clocked entry.op ≡ b → IsLastClock run (n + 1) (if b then n + 1 else last)
    go true e = last_read run n last entry at e is
    go false e = last_kept run n last entry at e is

entry_there : (xs : List Retired) (i : ℕ) → i < length xs → slice_get xs i ≡ None → ⊥
entry_there [] i l none = absurd (omega (arith, l))
entry_there (x ∷ xs) zero l none = absurd cc
entry_there (x ∷ xs) (suc i) l none = entry_there xs i (omega (arith, l)) none

module _ (a : Moment) (last : ℕ) (is : IsLastClock a.run.entries (length a.run.entries) last) where
  pub quiet_from : last ≤ executed a → IsQuiet a
  quiet_from from i entry l h = is.silent i entry (omega (arith, from, l)) (slice_get_within a.run.entries i entry h) h

  pub quiet_not : executed a < last → IsQuiet a → ⊥
  quiet_not below quiet = go (slice_get a.run.entries (last - 1)) refl
    where
      go : (o : Option Retired) → slice_get a.run.entries (last - 1) ≡ o → ⊥
      go (Some entry) e =
          let reads = is.reads (last - 1) entry (omega (arith, below)) e in
          let not = quiet (last - 1) entry (omega (arith, below)) e in
          absurd cc
      go None e = entry_there a.run.entries (last - 1) (let w = is.within in omega (arith, w, below)) e
