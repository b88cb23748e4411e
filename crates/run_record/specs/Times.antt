-- What of a record lies below a cycle t, and what from t on.
use Rattle.std.specs.Prelude.{◌≡◌, ◌≤◌, ◌<◌, ◌++◌, ℕ, AllPairs, count_by, filter, length, nat_le, nat_lt}
use Rattle.cyc_machine.specs.Run.{clocks_below, issues_below}
use Rattle.run_record.specs.Run.{RecordedRun}

pub record IsTimed (r : RecordedRun) : Type 0 where
  -- instructions leave EX one after another
  pub rising : AllPairs (λ c d. c < d) r.issues
  -- x(t), how many have left EX before cycle t
  pub issued : (t : ℕ) → t ≤ r.cycles → length (issues_below r.image r.shape t) ≡ count_by (λ c. nat_lt c t) r.issues
  -- the clock values below t are those of the first t cycles, and those from t on follow them
  pub clocks : (t : ℕ) → t ≤ r.cycles → clocks_below r.image r.shape t ≡ filter (λ c. nat_lt c t) r.clocks
  pub split : (t : ℕ) → t ≤ r.cycles → r.clocks ≡ clocks_below r.image r.shape t ++ filter (λ c. nat_le t c) r.clocks
