-- What an instruction does with the register rd that it names.
use Rattle.std.specs.Prelude.{◌≡◌, ◌≢◌, ◌⊎◌, ℕ, Bool, true}
use Rattle.rv_table.specs.Actions.{action}
use Rattle.rv_table.specs.Effects.{written_register}
use Rattle.rv_table.specs.WellFormed.{well_formed}
use Rattle.rv_table.specs.declared.action.Action.{Action}
use Rattle.rv_table.specs.declared.action.Action.TheVariants.{Traps}
use Rattle.rv_table.specs.declared.op.Op.{Op}
use Rattle.rv_table.specs.declared.op.TheConstants.{FETCH_FAULT_CODE}
use Rattle.rv_table.specs.declared.trap.TheConstants.{FETCH_FAULT}

-- it writes that register, or it traps
abbrev pub WritesOrTraps : ℕ → Action → Type 0
WritesOrTraps rd done = (written_register done ≡ rd) ⊎ ((cause : ℕ) × (done ≡ Traps cause))

pub record WriteLaw : Type 0 where
  -- a decoded operation whose rd isn't 0 writes it or traps, whatever its operands are and whatever memory allows
  pub writes : (ram executable : ℕ → Bool) (op : Op) (pc a b : ℕ) → well_formed op ≡ true → op.rd ≢ 0
      → WritesOrTraps op.rd (action ram executable op pc a b)
  -- and a fetch fault traps, whatever its fields are
  pub faults : (ram executable : ℕ → Bool) (op : Op) (pc a b : ℕ) → op.code ≡ FETCH_FAULT_CODE → action ram executable op pc a b ≡ Traps FETCH_FAULT
