-- The strikes of a seed. Each is named by two words of a random generator.
use Rattle.std.specs.Prelude.{◌≡◌, ◌+◌, ◌*◌, ◌%◌, ℕ}
use Rattle.rand_core.specs.Pcg32Seed.{pcg32_seed}
use Rattle.rand_pcg.specs.Lcg.{Lcg, advance, next}
use Rattle.rand_pcg.specs.Pcg.{multiplier_64, pcg32, pcg32_of_seed}
use Rattle.run_record.specs.Run.{RecordedRun}
use Rattle.strike_campaign.specs.Places.{IsPlaceAt, all_bits}
use Rattle.strike_campaign.specs.declared.strikes.Strike.{Strike}

-- the next word of a generator (PCG32, XSH RR 64/32), and the generator after it
unfoldable pub word : Lcg → ℕ
word g = (pcg32 g).0

abbrev pub after : Lcg → Lcg
after g = next 64 multiplier_64 g

-- the generator of a seed after so many words
abbrev pub generator : ℕ → ℕ → Lcg
generator seed words = advance 64 multiplier_64 words (pcg32_of_seed (pcg32_seed 16 seed))

-- word k, from 0 on, of a seed
abbrev pub word_of : ℕ → ℕ → ℕ
word_of seed k = word (generator seed k)

-- The strike that two words name: the first is the index of its bit among all bits of the machine, the second its cycle, each taken modulo
-- their number.
pub record IsStrikeOf (r : RecordedRun) (first second : ℕ) (strike : Strike) : Type 0 where
  pub place : IsPlaceAt r.shape (first % all_bits r.shape) strike.place
  pub cycle : strike.cycle ≡ second % r.cycles

-- strike k, from 0 on, of a seed
abbrev pub IsStrike : RecordedRun → ℕ → ℕ → Strike → Type 0
IsStrike r seed k = IsStrikeOf r (word_of seed (2 * k)) (word_of seed (2 * k + 1))
