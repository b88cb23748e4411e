-- The flush is the outcome of the latches, with the entries of the instruction buffer completed behind it.
use Rattle.std.proofs.Common.{◌≡◌, ℕ, Bool, true, false, List, ◌∷◌, map, refl}
use Rattle.std.specs.Prelude.{◌==◌, ◌&&◌, is_none, not, if◌then◌else◌}
use Rattle.rv_isa.specs.Instruction.{State as Arch, Log}
use Rattle.inst_buf.specs.Buffer.{entries}
use Rattle.cyc_machine.specs.Cycle.{action_in_m}
use Rattle.cyc_machine.specs.InFlight.{Item, completed_item, item_of_latch, outcome}
use Rattle.cyc_machine.specs.State.{State}
use Rattle.flush_view.specs.Flush.{completed_path, flush, item_of_entry, latched}
use Rattle.flush_view.specs.FlushInputs.{completed_behind}
use Rattle.flush_view.specs.Views.{view}

pub flush-outcome : (s : State) (clocks : List ℕ) (log : Log) → flush s clocks log ≡ completed_behind s clocks log
unfolding flush completed_path outcome
flush-outcome s clocks log = go s.d.valid
  where
    d : Item
    d = item_of_latch s.image (action_in_m s) s.w (view s) s.d

    at : Arch
    at = latched s clocks log

    rest : List Item
    rest = map item_of_entry (entries s.buffer)

    occupied : (r : Bool) → (if r then completed_path s.image rest (completed_item s.image d at) else at)
        ≡ (if not r then (if r then completed_item s.image d at else at) else completed_path s.image rest (if r then completed_item s.image d at else at))
    occupied true = refl
    occupied false = refl

    go : (v : Bool) → completed_path s.image (if v then d ∷ rest else rest) at
        ≡ (if v && not (v && (is_none at.stop && s.d.pc == at.pc))
        then (if v && (is_none at.stop && s.d.pc == at.pc) then completed_item s.image d at else at)
        else completed_path s.image rest (if v && (is_none at.stop && s.d.pc == at.pc) then completed_item s.image d at else at))
    go true = occupied (is_none at.stop && s.d.pc == at.pc)
    go false = refl
