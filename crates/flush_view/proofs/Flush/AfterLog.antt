-- The flush after a log is that after an empty log, but for the log; and the clock values that it leaves.
use Rattle.std.proofs.Common.{◌≡◌, ◌≤◌, ℕ, zero, suc, ◌+◌, Bool, true, false, List, [], ◌∷◌, ◌++◌, drop, arith, refl, ap, sym, ◌∙◌, append_assoc, append-nil}
use Rattle.std.specs.Prelude.{Option, Some, None, if◌then◌else◌}
use Rattle.elf_load.specs.Image.{LoadedImage}
use Rattle.rv_table.specs.Actions.{is_clocked}
use Rattle.rv_table.specs.Effects.{byte_put}
use Rattle.rv_table.specs.declared.action.Action.{Action}
use Rattle.rv_table.specs.declared.action.Action.TheVariants.{Nothing, Writes, Loads, Stores, Puts, Exits, Traps}
use Rattle.rv_table.specs.declared.op.Op.{Op}
use Rattle.rv_isa.specs.Instruction.{State as Arch, Log, completed, later_clocks, logged, performed, put_reg, with_action, with_byte}
use Rattle.cyc_machine.specs.Cycle.{action_in_m}
use Rattle.cyc_machine.specs.Pipeline.{register}
use Rattle.cyc_machine.specs.State.{State}
use Rattle.flush_view.specs.Flush.{completed_count, completed_path, flush, latched, path}
use Rattle.cyc_machine.specs.InFlight.{Item, completed_item, is_reached}
use Rattle.flush_view.specs.FlushInputs.{TakesClocks, after_log, behind, no_log}
use Rattle.flush_view.specs.Views.{view}

-- ---- the log

with_byte-behind : (xs ys : List ℕ) (o : Option ℕ) → with_byte (xs ++ ys) o ≡ xs ++ with_byte ys o
with_byte-behind xs ys (Some byte) = append_assoc xs ys (byte ∷ [])
with_byte-behind xs ys None = refl

with_action-behind : (xs ys : List Action) (m : Action) → with_action (xs ++ ys) m ≡ xs ++ with_action ys m
with_action-behind xs ys Nothing = refl
with_action-behind xs ys (Writes rd value) = append_assoc xs ys (Writes rd value ∷ [])
with_action-behind xs ys (Loads kind rd x) = append_assoc xs ys (Loads kind rd x ∷ [])
with_action-behind xs ys (Stores kind x y) = append_assoc xs ys (Stores kind x y ∷ [])
with_action-behind xs ys (Puts value) = append_assoc xs ys (Puts value ∷ [])
with_action-behind xs ys (Exits value) = append_assoc xs ys (Exits value ∷ [])
with_action-behind xs ys (Traps cause) = append_assoc xs ys (Traps cause ∷ [])

pub logged-behind : (log later : Log) (m : Action) → logged (behind log later) m ≡ behind log (logged later m)
logged-behind log later m =
    ap (λ (bytes : List ℕ). record { output = bytes; actions = with_action (log.actions ++ later.actions) m })
    (with_byte-behind log.output later.output (byte_put m))
    ∙ ap (λ (actions : List Action). record { output = log.output ++ with_byte later.output (byte_put m); actions = actions })
    (with_action-behind log.actions later.actions m)

pub performed-behind : (image : LoadedImage) (m : Action) (log : Log) (at : Arch)
    → performed image m (after_log log at) ≡ after_log log (performed image m at)
performed-behind image m log at = ap (λ (l : Log). record (performed image m at) { log = l }) (logged-behind log at.log m)

pub completed-behind : (image : LoadedImage) (op : Op) (pc a b : ℕ) (log : Log) (at : Arch)
    → completed image op pc a b (after_log log at) ≡ after_log log (completed image op pc a b at)
unfolding completed
completed-behind image op pc a b log at =
    ap (λ (l : Log). record (completed image op pc a b at) { log = l }) (logged-behind log at.log _)

pub path-behind : (image : LoadedImage) (items : List Item) (log : Log) (at : Arch)
    → completed_path image items (after_log log at) ≡ after_log log (completed_path image items at)
unfolding completed_path
path-behind image [] log at = refl
path-behind image (item ∷ items) log at = go (path-behind image items log (completed_item image item at)) (is_reached item at)
  where
    go : completed_path image items (after_log log (completed_item image item at))
        ≡ after_log log (completed_path image items (completed_item image item at))
        → (b : Bool) → (if b then completed_path image items (completed_item image item (after_log log at)) else after_log log at)
        ≡ after_log log (if b then completed_path image items (completed_item image item at) else at)
    go rest true =
        ap (completed_path image items) (completed-behind image item.op item.pc (item.a at.registers) (item.b at.registers) log at) ∙ rest
    go rest false = refl

behind-none : (log : Log) → behind log no_log ≡ log
behind-none log =
    ap (λ (bytes : List ℕ). record { output = bytes; actions = log.actions ++ [] }) (append-nil log.output)
    ∙ ap (λ (actions : List Action). record { output = log.output; actions = actions }) (append-nil log.actions)

pub latched-behind : (s : State) (clocks : List ℕ) (log later : Log) → latched s clocks (behind log later) ≡ after_log log (latched s clocks later)
latched-behind s clocks log later =
    performed-behind s.image (action_in_m s) log
    (record {
      registers = put_reg s.w.rd s.w.value (register s.registers);
      memory = view s;
      pc = s.npc;
      count = s.issued;
      clocks = clocks;
      log = later;
      stop = None;
    })

pub flush-behind : (s : State) (clocks : List ℕ) (log later : Log) → flush s clocks (behind log later) ≡ after_log log (flush s clocks later)
unfolding flush
flush-behind s clocks log later =
    ap (completed_path s.image (path s)) (latched-behind s clocks log later) ∙ path-behind s.image (path s) log (latched s clocks later)

pub flush-after_log : (s : State) (clocks : List ℕ) (log : Log) → flush s clocks log ≡ after_log log (flush s clocks no_log)
flush-after_log s clocks log = ap (flush s clocks) (sym (behind-none log)) ∙ flush-behind s clocks log no_log

-- ---- the clock values

-- some values are taken from the front, at most n
pub record Takes (n : ℕ) (clocks left : List ℕ) : Type 0 where
  pub taken : ℕ
  pub most : taken ≤ n
  pub is : left ≡ drop taken clocks

later-drop : (clocks : List ℕ) → later_clocks clocks ≡ drop 1 clocks
later-drop [] = refl
later-drop (c ∷ clocks) = refl

none_left : (n : ℕ) → drop {A = ℕ} n [] ≡ []
none_left zero = refl
none_left (suc n) = refl

drop-later : (n : ℕ) (clocks : List ℕ) → drop n (later_clocks clocks) ≡ drop (suc n) clocks
drop-later n [] = none_left n
drop-later n (c ∷ clocks) = refl

pub path-takes : (image : LoadedImage) (items : List Item) (at : Arch)
    → Takes (completed_count image items at) at.clocks (completed_path image items at).clocks
unfolding completed_path completed_count completed
path-takes image [] at = record { taken = 0; most = omega arith; is = refl }
path-takes image (item ∷ items) at = go (is_reached item at) (path-takes image items (completed_item image item at))
  where
    one : (n : ℕ) (left : List ℕ) (b : Bool) → Takes n (if b then later_clocks at.clocks else at.clocks) left → Takes (n + 1) at.clocks left
    one n left true t = record { taken = suc t.taken; most = let m = t.most in omega arith; is = t.is ∙ drop-later t.taken at.clocks }
    one n left false t = record { taken = t.taken; most = let m = t.most in omega arith; is = t.is }

    go : (b : Bool) → Takes (completed_count image items (completed_item image item at)) (completed_item image item at).clocks
        (completed_path image items (completed_item image item at)).clocks
        → Takes (if b then completed_count image items (completed_item image item at) + 1 else 0) at.clocks
        (if b then completed_path image items (completed_item image item at) else at).clocks
    go true t = one _ _ (is_clocked item.op) t
    go false t = record { taken = 0; most = omega arith; is = refl }

pub takes-clocks : (s : State) (clocks : List ℕ) (log : Log) → TakesClocks s clocks log
unfolding flush
takes-clocks s clocks log = let t = path-takes s.image (path s) (latched s clocks log) in record { taken = t.taken; most = t.most; left = t.is }
