-- How many actions the log of a flush has: one for each that is completed.
use Rattle.std.proofs.Common.{◌≡◌, ℕ, ◌+◌, Bool, true, false, List, [], ◌∷◌, ◌++◌, length, arith, refl, ap, ◌∙◌, length-append}
use Rattle.std.specs.Prelude.{◌≢◌, ◌&&◌, if◌then◌else◌}
use Rattle.elf_load.specs.Image.{LoadedImage, executable, word_in_ram}
use Rattle.rv_table.specs.Actions.{with_counter}
use Rattle.rv_table.specs.declared.op.Op.{Op}
use Rattle.rv_table.specs.declared.action.Action.{Action}
use Rattle.rv_table.specs.declared.action.Action.TheVariants.{Nothing, Writes, Loads, Stores, Puts, Exits, Traps}
use Rattle.rv_isa.specs.Instruction.{State as Arch, Log, completed, first_clock, logged, with_action}
use Rattle.pipe_latch.specs.LatchedActions.{action_of}
use Rattle.pipe_latch.specs.Latches.{ExecutedLatch}
use Rattle.pipe_latch.proofs.Actions.{action-something}
use Rattle.pipe_latch.proofs.Latches.{action_of-invalid, action_of-valid}
use Rattle.cyc_machine.specs.Cycle.{action_in_m, retires, served_m, done_in}
use Rattle.cyc_machine.specs.State.{State}
use Rattle.flush_view.specs.Flush.{completed_count, completed_path, entries_completed, flush, latched, path}
use Rattle.cyc_machine.specs.InFlight.{Item, completed_item, is_reached}

one_more : (actions : List Action) (a : Action) → length (actions ++ a ∷ []) ≡ length actions + 1
one_more actions a = length-append actions (a ∷ [])

-- what isn't nothing is logged
pub something-logged : (actions : List Action) (a : Action) → a ≢ Nothing → length (with_action actions a) ≡ length actions + 1
something-logged actions Nothing h = absurd (h refl)
something-logged actions (Writes rd value) h = one_more actions (Writes rd value)
something-logged actions (Loads kind rd x) h = one_more actions (Loads kind rd x)
something-logged actions (Stores kind x y) h = one_more actions (Stores kind x y)
something-logged actions (Puts value) h = one_more actions (Puts value)
something-logged actions (Exits value) h = one_more actions (Exits value)
something-logged actions (Traps cause) h = one_more actions (Traps cause)

-- an instruction is
pub completed-logged : (image : LoadedImage) (op : Op) (pc a b : ℕ) (at : Arch)
    → length (completed image op pc a b at).log.actions ≡ length at.log.actions + 1
unfolding completed
completed-logged image op pc a b at =
    let c = with_counter op (first_clock at.clocks) at.count b in
    something-logged at.log.actions _ (action-something (word_in_ram image) (executable image) op pc a c)

-- what EX/MEM holds is, where it is occupied
pub latch-logged : (actions : List Action) (m : ExecutedLatch)
    → length (with_action actions (action_of m)) ≡ length actions + (if m.valid then 1 else 0)
latch-logged actions m = go m.valid refl
  where
    go : (v : Bool) → m.valid ≡ v → length (with_action actions (action_of m)) ≡ length actions + (if v then 1 else 0)
    go true e = something-logged actions (action_of m) (action_of-valid m e)
    go false e = ap (λ a. length (with_action actions a)) (action_of-invalid m e) ∙ omega arith

-- so many items are, as are completed
pub path-counts : (image : LoadedImage) (items : List Item) (at : Arch)
    → length (completed_path image items at).log.actions ≡ length at.log.actions + completed_count image items at
unfolding completed_path completed_count
path-counts image [] at = omega arith
path-counts image (item ∷ items) at =
    go (path-counts image items (completed_item image item at)) (completed-logged image item.op item.pc (item.a at.registers) (item.b at.registers) at)
    (is_reached item at)
  where
    go : length (completed_path image items (completed_item image item at)).log.actions
        ≡ length (completed_item image item at).log.actions + completed_count image items (completed_item image item at)
        → length (completed_item image item at).log.actions ≡ length at.log.actions + 1 → (b : Bool)
        → length (if b then completed_path image items (completed_item image item at) else at).log.actions
        ≡ length at.log.actions + (if b then completed_count image items (completed_item image item at) + 1 else 0)
    go h e true = omega arith
    go h e false = omega arith

pub flush-counts : (s : State) (clocks : List ℕ) (log : Log)
    → length (flush s clocks log).log.actions ≡ length log.actions + (if s.m.valid then 1 else 0) + entries_completed s clocks log
unfolding flush
flush-counts s clocks log =
    path-counts s.image (path s) (latched s clocks log) ∙ ap (λ n. n + entries_completed s clocks log) (latch-logged log.actions s.m)

pub flush-leaves : (s : State) (log : Log) → length (logged log (done_in s)).actions ≡ length log.actions + (if retires s then 1 else 0)
flush-leaves s log = go (served_m s).goes
  where
    occupied : (v : Bool) → s.m.valid ≡ v → length (with_action log.actions (action_in_m s)) ≡ length log.actions + (if v && true then 1 else 0)
    occupied true e = latch-logged log.actions s.m ∙ ap (λ v. length log.actions + (if v then 1 else 0)) e
    occupied false e = latch-logged log.actions s.m ∙ ap (λ v. length log.actions + (if v then 1 else 0)) e

    unoccupied : (v : Bool) → length log.actions ≡ length log.actions + (if v && false then 1 else 0)
    unoccupied true = omega arith
    unoccupied false = omega arith

    go : (b : Bool) → length (with_action log.actions (if b then action_in_m s else Nothing)) ≡ length log.actions + (if s.m.valid && b then 1 else 0)
    go true = occupied s.m.valid refl
    go false = unoccupied s.m.valid
