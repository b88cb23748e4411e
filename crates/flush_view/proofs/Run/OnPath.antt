-- The flush of a state that follows a trace is the state of the trace behind the entries that are on path.
use Rattle.std.proofs.Common.{◌≡◌, ℕ, ◌+◌, Bool, true, false, List, [], ◌∷◌, map, arith, add-one, refl, ap, sym, ◌∙◌}
use Rattle.std.specs.Prelude.{Option, Some, None, ◌==◌, ◌&&◌, is_none, if◌then◌else◌}
use Rattle.std.proofs.lemmas.Bool.Decides.{nat_tests}
use Rattle.std.proofs.lemmas.List.Elements.{All-head, All-tail}
use Rattle.avf_base.specs.declared.end.End.{End}
use Rattle.elf_load.specs.Image.{LoadedImage}
use Rattle.rv_isa.specs.Instruction.{State as Arch, Log, instruction, op_at, reg}
use Rattle.inst_buf.specs.Buffer.{entries}
use Rattle.inst_buf.specs.Entry.{Entry}
use Rattle.rv_table.specs.declared.action.Action.{Action}
use Rattle.pipe_latch.specs.Latches.{DecodedLatch, ResultLatch, op_of_latch}
use Rattle.cyc_machine.specs.Cycle.{action_in_m}
use Rattle.cyc_machine.specs.Pipeline.{fetched, register}
use Rattle.cyc_machine.specs.State.{State}
use Rattle.flush_view.specs.Flush.{before_latches, completed_path, flush, item_of_entry, latched, path}
use Rattle.cyc_machine.specs.InFlight.{Item, completed_item, is_reached, item_of_latch, latches_completed, operand_held}
use Rattle.flush_view.specs.Positions.{on_path}
use Rattle.flush_view.specs.RunFacts.{HoldsNext}
use Rattle.flush_view.specs.Views.{view}
use Rattle.flush_view.proofs.Run.Followed.{Steps}
use Rattle.flush_view.proofs.Flush.Path.{completed_op, fetched-next}
use Rattle.flush_view.proofs.Flush.Pipes.{completed_with}
use Rattle.flush_view.proofs.Run.Sound.{AreFetched, Sound, held-operand}
use Rattle.flush_view.proofs.Flush.MachinePipe.{piped}

-- what it tells that an item is reached
pub reached-stop : (o : Option End) (b : Bool) → is_none o && b ≡ true → o ≡ None
reached-stop None b h = refl
reached-stop (Some end) b h = absurd cc

pub reached-pc : (item : Item) (at : Arch) → is_reached item at ≡ true → item.pc ≡ at.pc
reached-pc item at h = go (is_none at.stop) h
  where
    go : (b : Bool) → b && item.pc == at.pc ≡ true → item.pc ≡ at.pc
    go true e = grind (arith, nat_tests)
    go false e = absurd cc

-- an entry that holds what is fetched at its address is the next instruction where it is reached
pub entry-next : (image : LoadedImage) (e : Entry) (at : Arch) → e ≡ fetched image e.pc → e.pc ≡ at.pc
    → completed_item image (item_of_entry e) at ≡ instruction image at
entry-next image e at same h =
    ap (λ (x : Entry). completed_item image (item_of_entry x) at) same ∙ fetched-next image e.pc at h

-- and so is an ID/EX that holds the next instruction's decoding and operands, over whatever memory
pub held-next : (image : LoadedImage) (m : Action) (w : ResultLatch) (memory : ℕ → ℕ) (d : DecodedLatch) (at : Arch)
    → op_of_latch d ≡ op_at image at.pc
    → operand_held image m w memory d.rs1 d.a ≡ reg at.registers d.rs1 → operand_held image m w memory d.rs2 d.b ≡ reg at.registers d.rs2
    → d.pc ≡ at.pc → completed_item image (item_of_latch image m w memory d) at ≡ instruction image at
unfolding instruction
held-next image m w memory d at op a b e =
    completed_with image (op_of_latch d) d.pc _ _ _ _ at a b ∙ completed_op image (op_of_latch d) (op_at image at.pc) d.pc at.pc at op e

-- so a sound ID/EX at the address that W and M completed over any memory lead to is the next instruction
pub latch-next : (s : State) (memory : ℕ → ℕ) (clocks : List ℕ) (log : Log) → Sound (piped s) → s.d.valid ≡ true → s.d.pc ≡ s.npc
    → completed_item s.image (item_of_latch s.image (action_in_m s) s.w memory s.d)
    (latches_completed s.image (action_in_m s) s.w (before_latches s memory clocks log))
    ≡ instruction s.image (latches_completed s.image (action_in_m s) s.w (before_latches s memory clocks log))
latch-next s memory clocks log sound v e =
    held-next s.image (action_in_m s) s.w memory s.d _ (sound.latch.op v ∙ ap (op_at s.image) e)
    (held-operand s.image (action_in_m s) s.w memory (register s.registers) s.d.rs1 s.d.a (sound.latch.a v))
    (held-operand s.image (action_in_m s) s.w memory (register s.registers) s.d.rs2 s.d.b (sound.latch.b v)) e

module _ (image : LoadedImage) (trace : ℕ → Arch) (steps : Steps image trace) where
  -- one item, and the rest behind it
  more : (x : ℕ) (item : Item) (items : List Item)
      → (is_reached item (trace x) ≡ true → completed_item image item (trace x) ≡ instruction image (trace x))
      → completed_path image items (trace (x + 1)) ≡ trace (x + 1 + on_path trace (x + 1) items)
      → completed_path image (item ∷ items) (trace x) ≡ trace (x + on_path trace x (item ∷ items))
  unfolding completed_path on_path
  more x item items next rest = go (is_reached item (trace x)) refl
    where
      go : (b : Bool) → is_reached item (trace x) ≡ b → (if b then completed_path image items (completed_item image item (trace x)) else trace x)
          ≡ trace (x + (if b then on_path trace (x + 1) items + 1 else 0))
      go true r =
          let one : completed_item image item (trace x) ≡ trace (x + 1) =
          next r ∙ sym (steps x (reached-stop (trace x).stop _ r)) ∙ ap trace (sym (add-one x)) in
          ap (completed_path image items) one ∙ rest ∙ ap trace (omega arith)
      go false r = ap trace (omega arith)

  entries-on_path : (es : List Entry) (x : ℕ) → AreFetched image es
      → completed_path image (map item_of_entry es) (trace x) ≡ trace (x + on_path trace x (map item_of_entry es))
  unfolding completed_path on_path
  entries-on_path [] x are = ap trace (omega arith)
  entries-on_path (e ∷ es) x are =
      more x (item_of_entry e) (map item_of_entry es)
      (λ r. entry-next image e (trace x) (All-head (λ entry. entry ≡ fetched image entry.pc) e es are) (reached-pc (item_of_entry e) (trace x) r))
      (entries-on_path es (x + 1) (All-tail (λ entry. entry ≡ fetched image entry.pc) e es are))

pub flush-on_path : (s : State) (log : Log) (later : List ℕ) (trace : ℕ → Arch) (x : ℕ) → Steps s.image trace → AreFetched s.image (entries s.buffer)
    → (s.d.valid ≡ true → s.d.pc ≡ (trace x).pc → HoldsNext s (trace x)) → latched s later log ≡ trace x
    → flush s later log ≡ trace (x + on_path trace x (path s))
unfolding flush
flush-on_path s log later trace x steps are holds position =
    ap (completed_path s.image (path s)) position ∙ go s.d.valid refl
  where
    d : Item
    d = item_of_latch s.image (action_in_m s) s.w (view s) s.d

    rest : List Item
    rest = map item_of_entry (entries s.buffer)

    go : (v : Bool) → s.d.valid ≡ v → completed_path s.image (if v then d ∷ rest else rest) (trace x)
        ≡ trace (x + on_path trace x (if v then d ∷ rest else rest))
    go true v =
        more s.image trace steps x d rest
        (λ r. let e = reached-pc d (trace x) r in let h = holds v e in
        held-next s.image (action_in_m s) s.w (view s) s.d (trace x) h.op h.a h.b e)
        (entries-on_path s.image trace steps (entries s.buffer) (x + 1) are)
    go false v = entries-on_path s.image trace steps (entries s.buffer) x are
