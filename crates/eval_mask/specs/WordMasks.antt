-- Which bits of an instruction word are logically masked: with one flipped the word is decoded to an instruction that does the
-- same, where it is needed, as the recorded one.
use Rattle.std.specs.Prelude.{◌≡◌, ℕ, ◌+◌, false}
use Rattle.bit_field.specs.Layouts.{flip}
use Rattle.rv_table.specs.Actions.{is_clocked}
use Rattle.rv_table.specs.Words.{decode}
use Rattle.rv_isa.specs.Architecture.{ArchState, state_of}
use Rattle.rv_isa.specs.Effects.{operated}
use Rattle.need_pass.specs.Tables.{Needs}
use Rattle.eval_mask.specs.Agreement.{Agree}
use Rattle.eval_mask.specs.LatchMasks.{HasBits}

-- The other word, as instruction i, leaves a state that agrees with that of the recorded word. Neither reads the cycle counter.
pub record IsAlikeWord (needs : Needs) (i : ℕ) (arch : ArchState) (word other : ℕ) : Type 0 where
  pub unread : is_clocked (decode other) ≡ false
  pub was_unread : is_clocked (decode word) ≡ false
  pub agree : Agree needs (i + 1) (operated arch.image (decode other) (state_of arch)) (operated arch.image (decode word) (state_of arch))

abbrev pub IsWordMask : Needs → ℕ → ArchState → ℕ → ℕ → Type 0
IsWordMask needs i arch word mask = HasBits 32 (λ k. IsAlikeWord needs i arch word (flip word k)) mask
