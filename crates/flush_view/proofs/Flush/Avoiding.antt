-- From the law over the masked view to the law outside X: where what is completed avoids X, the bytes of X take no part.
use Rattle.std.proofs.Common.{◌≡◌, ℕ, Bool, true, false, List, [], ◌∷◌, ◌++◌, refl, ap, sym, ◌∙◌, subst}
use Rattle.std.specs.Prelude.{if◌then◌else◌}
use Rattle.elf_load.specs.Image.{LoadedImage}
use Rattle.rv_table.specs.Actions.{is_clocked, next_address, with_counter}
use Rattle.rv_table.specs.Effects.{written_register}
use Rattle.rv_table.specs.declared.op.Op.{Op}
use Rattle.rv_table.specs.declared.action.Action.{Action}
use Rattle.rv_table.specs.declared.action.Action.TheVariants.{Nothing, Writes, Loads, Stores, Puts, Exits, Traps}
use Rattle.rv_isa.specs.Instruction.{State as Arch, action_in, completed, first_clock, given, instruction}
use Rattle.rv_isa.specs.Instruction.{later_clocks, memory_after, next_count, performed, put_reg, with_action}
use Rattle.flush_view.specs.Avoids.{Avoids, AvoidsAll, masked, outside}
use Rattle.rv_isa.specs.Accesses.{next_action}
use Rattle.flush_view.specs.Flush.{completed_path}
use Rattle.cyc_machine.specs.InFlight.{Item, completed_item, is_reached}
use Rattle.flush_view.proofs.Flush.Masked.{given-masked, memory_after-masked}

-- ---- an instruction that avoids X

performed-by : (image : LoadedImage) (out : ℕ → Bool) (m : Action) (at : Arch) (value : ℕ) (memory : ℕ → ℕ)
    → given image m (masked out at.memory) ≡ value
    → memory_after image m (masked out at.memory) ≡ memory
    → performed image m (outside out at) ≡ record (performed image m at) { registers = put_reg (written_register m) value at.registers; memory = memory }
performed-by image out m at value memory e f =
    ap
    (λ (v : ℕ). record (performed image m at) {
      registers = put_reg (written_register m) v at.registers;
      memory = memory_after image m (masked out at.memory);
    }) e
    ∙ ap (λ (g : ℕ → ℕ). record (performed image m at) { registers = put_reg (written_register m) value at.registers; memory = g }) f

pub outside-performed : (image : LoadedImage) (out : ℕ → Bool) (m : Action) (at : Arch) → Avoids out m
    → outside out (performed image m at) ≡ performed image m (outside out at)
outside-performed image out m at h =
    sym (performed-by image out m at (given image m at.memory) (masked out (memory_after image m at.memory)) (given-masked image out m at.memory h)
    (memory_after-masked image out m at.memory h))

pub outside-completed : (image : LoadedImage) (out : ℕ → Bool) (op : Op) (pc a b : ℕ) (at : Arch)
    → Avoids out (action_in image op pc a (with_counter op (first_clock at.clocks) at.count b))
    → outside out (completed image op pc a b at) ≡ completed image op pc a b (outside out at)
unfolding completed
outside-completed image out op pc a b at h =
    ap
    (λ (x : Arch). record x {
      pc = next_address op pc a (with_counter op (first_clock at.clocks) at.count b);
      count = next_count at.count;
      clocks = if is_clocked op then later_clocks at.clocks else at.clocks;
    })
    (outside-performed image out (action_in image op pc a (with_counter op (first_clock at.clocks) at.count b)) at h)

-- ---- what the log says at the end it says before

before-action : (out : ℕ → Bool) (actions : List Action) (m : Action) → AvoidsAll out (actions ++ m ∷ []) → AvoidsAll out actions × Avoids out m
before-action out [] m h = (tt, h.0)
before-action out (a ∷ actions) m h = let rest = before-action out actions m h.1 in ((h.0, rest.0), rest.1)

pub before-logged : (out : ℕ → Bool) (actions : List Action) (m : Action) → AvoidsAll out (with_action actions m)
    → AvoidsAll out actions × Avoids out m
before-logged out actions Nothing h = (h, tt)
before-logged out actions (Writes rd value) h = before-action out actions (Writes rd value) h
before-logged out actions (Loads kind rd x) h = before-action out actions (Loads kind rd x) h
before-logged out actions (Stores kind x y) h = before-action out actions (Stores kind x y) h
before-logged out actions (Puts value) h = before-action out actions (Puts value) h
before-logged out actions (Exits value) h = before-action out actions (Exits value) h
before-logged out actions (Traps cause) h = before-action out actions (Traps cause) h

completed-log : (image : LoadedImage) (op : Op) (pc a b : ℕ) (at : Arch)
    → (completed image op pc a b at).log.actions ≡ with_action at.log.actions (action_in image op pc a (with_counter op (first_clock at.clocks) at.count b))
unfolding completed
completed-log image op pc a b at = refl

abbrev pub item_action : LoadedImage → Item → Arch → Action
item_action image item at =
    action_in image item.op item.pc (item.a at.registers) (with_counter item.op (first_clock at.clocks) at.count (item.b at.registers))

pub before-item : (image : LoadedImage) (out : ℕ → Bool) (item : Item) (at : Arch) → AvoidsAll out (completed_item image item at).log.actions
    → AvoidsAll out at.log.actions × Avoids out (item_action image item at)
before-item image out item at h =
    before-logged out at.log.actions (item_action image item at)
    (subst (AvoidsAll out) (completed-log image item.op item.pc (item.a at.registers) (item.b at.registers) at) h)

-- ---- a path whose log avoids X

pub before-path : (image : LoadedImage) (out : ℕ → Bool) (items : List Item) (at : Arch) → AvoidsAll out (completed_path image items at).log.actions
    → AvoidsAll out at.log.actions
unfolding completed_path
before-path image out [] at h = h
before-path image out (item ∷ items) at h = go (before-path image out items (completed_item image item at)) (is_reached item at) h
  where
    go : (AvoidsAll out (completed_path image items (completed_item image item at)).log.actions → AvoidsAll out (completed_item image item at).log.actions)
        → (b : Bool) → AvoidsAll out (if b then completed_path image items (completed_item image item at) else at).log.actions
        → AvoidsAll out at.log.actions
    go ih true h = (before-item image out item at (ih h)).0
    go ih false h = h

pub outside-path : (image : LoadedImage) (out : ℕ → Bool) (items : List Item) (at : Arch) → AvoidsAll out (completed_path image items at).log.actions
    → outside out (completed_path image items at) ≡ completed_path image items (outside out at)
unfolding completed_path
outside-path image out [] at h = refl
outside-path image out (item ∷ items) at h =
    go (outside-path image out items (completed_item image item at)) (before-path image out items (completed_item image item at)) (is_reached item at) h
  where
    go : (AvoidsAll out (completed_path image items (completed_item image item at)).log.actions
        → outside out (completed_path image items (completed_item image item at))
        ≡ completed_path image items (outside out (completed_item image item at)))
        → (AvoidsAll out (completed_path image items (completed_item image item at)).log.actions → AvoidsAll out (completed_item image item at).log.actions)
        → (b : Bool) → AvoidsAll out (if b then completed_path image items (completed_item image item at) else at).log.actions
        → outside out (if b then completed_path image items (completed_item image item at) else at)
        ≡ (if b then completed_path image items (completed_item image item (outside out at)) else outside out at)
    go ih before true h =
        ih h
        ∙ ap (completed_path image items) (outside-completed image out item.op item.pc (item.a at.registers)
        (item.b at.registers) at (before-item image out item at (before h)).1)
    go ih before false h = refl

-- the next instruction is logged
pub instruction-log : (image : LoadedImage) (at : Arch) → (instruction image at).log.actions ≡ with_action at.log.actions (next_action image at)
unfolding instruction completed
instruction-log image at = refl
