-- Completing a path, one more item at its end, and the entry that is fetched.
use Rattle.std.proofs.Common.{◌≡◌, ℕ, ◌+◌, Bool, true, false, List, [], ◌∷◌, ◌++◌, length, arith, refl, ap, sym, ◌∙◌, append-nil}
use Rattle.std.specs.Prelude.{Option, Some, None, ◌==◌, ◌&&◌, is_none, nat_lt, if◌then◌else◌}
use Rattle.std.proofs.lemmas.Bool.Decides.{nat_tests}
use Rattle.elf_load.specs.Image.{LoadedImage, fetch}
use Rattle.rv_table.specs.Words.{decode, row_of_word}
use Rattle.rv_table.specs.declared.op.Op.{Op}
use Rattle.rv_isa.specs.Instruction.{State as Arch, completed, instruction, op_at, op_of_word, reg}
use Rattle.cyc_machine.specs.Pipeline.{entry_of_word, fetched, op_of_entry}
use Rattle.flush_view.specs.Flush.{completed_count, completed_path, item_of_entry}
use Rattle.cyc_machine.specs.InFlight.{Item, completed_item, is_reached}

-- ---- one more item

-- an item behind a path is completed where all of the path is and the item is reached
abbrev pub pushed : LoadedImage → List Item → Item → Arch → Arch
pushed image items item at =
    if completed_count image items at == length items && is_reached item (completed_path image items at)
    then completed_item image item (completed_path image items at)
    else completed_path image items at

count_more : (count : ℕ) (items : List Item) (item : Item) → (count + 1 == length (item ∷ items)) ≡ (count == length items)
count_more count items item = grind (arith, nat_tests)

none_more : (items : List Item) (item : Item) → (0 == length (item ∷ items)) ≡ false
none_more items item = grind (arith, nat_tests)

pub path-push : (image : LoadedImage) (items : List Item) (item : Item) (at : Arch)
    → completed_path image (items ++ item ∷ []) at ≡ pushed image items item at
unfolding completed_path completed_count
path-push image [] item at = refl
path-push image (i ∷ items) item at = go (path-push image items item (completed_item image i at)) (is_reached i at)
  where
    go : completed_path image (items ++ item ∷ []) (completed_item image i at) ≡ pushed image items item (completed_item image i at) → (b : Bool)
        → (if b then completed_path image (items ++ item ∷ []) (completed_item image i at) else at)
        ≡ (if (if b then completed_count image items (completed_item image i at) + 1 else 0) == length (i ∷ items)
        && is_reached item (if b then completed_path image items (completed_item image i at) else at)
        then completed_item image item (if b then completed_path image items (completed_item image i at) else at)
        else (if b then completed_path image items (completed_item image i at) else at))
    go h true =
        h
        ∙ ap (λ (b : Bool). if b && is_reached item (completed_path image items (completed_item image i at))
        then completed_item image item (completed_path image items (completed_item image i at))
        else completed_path image items (completed_item image i at))
        (sym (count_more (completed_count image items (completed_item image i at)) items i))
    go h false = rw (none_more items i) refl

-- ---- the entry that is fetched

-- the operation of a fetched entry is that of the word
no_word : record (decode 0) { code = 1 } ≡ op_of_word None
unfolding decode row_of_word
no_word = refl

op_by_word : (pc : ℕ) (o : Option ℕ) → op_of_entry (entry_of_word pc o) ≡ op_of_word o
op_by_word pc (Some word) = refl
op_by_word pc None = no_word

pub fetched-op : (image : LoadedImage) (pc : ℕ) → op_of_entry (fetched image pc) ≡ op_at image pc
fetched-op image pc = op_by_word pc (fetch image pc)

pub fetched-pc : (pc : ℕ) (o : Option ℕ) → (entry_of_word pc o).pc ≡ pc
fetched-pc pc (Some word) = refl
fetched-pc pc None = refl

pub completed_op : (image : LoadedImage) (op other : Op) (pc place : ℕ) (at : Arch) → op ≡ other → pc ≡ place
    → completed image op pc (reg at.registers op.rs1) (reg at.registers op.rs2) at ≡ completed image other place (reg at.registers other.rs1)
    (reg at.registers other.rs2) at
completed_op image op other pc place at e f = rw (e, f) refl

-- a fetched entry at the address reached is the next instruction
pub fetched-next : (image : LoadedImage) (pc : ℕ) (at : Arch) → pc ≡ at.pc
    → completed_item image (item_of_entry (fetched image pc)) at ≡ instruction image at
unfolding instruction
fetched-next image pc at e =
    completed_op image (op_of_entry (fetched image pc)) (op_at image at.pc) (fetched image pc).pc at.pc at
    (fetched-op image pc ∙ ap (op_at image) e)
    (fetched-pc pc (fetch image pc) ∙ e)

-- the item that is fetched where n entries remain
abbrev pub added : LoadedImage → ℕ → ℕ → List Item
added image pc n = if nat_lt n 4 then item_of_entry (fetched image pc) ∷ [] else []

-- Completing the path with it behind completes the next instruction where all of the path is completed, no end has come, there is room
-- and the fetch address is the address reached.
pub path-added : (image : LoadedImage) (items : List Item) (pc n : ℕ) (at : Arch)
    → completed_path image (items ++ added image pc n) at ≡ (if completed_count image items at == length items
    && is_none (completed_path image items at).stop && nat_lt n 4 && pc == (completed_path image items at).pc
    then instruction image (completed_path image items at) else completed_path image items at)
path-added image items pc n at = go (nat_lt n 4)
  where
    next : (after : Arch) (b : Bool) → (pc == after.pc) ≡ b
        → (if b then completed_item image (item_of_entry (fetched image pc)) after else after) ≡ (if b then instruction image after else after)
    next after true e = fetched-next image pc after (grind (arith, nat_tests))
    next after false e = refl

    one : (after : Arch) (c e : Bool) → (if c && (e && pc == after.pc) then completed_item image (item_of_entry (fetched image pc)) after else after)
        ≡ (if c && e && true && pc == after.pc then instruction image after else after)
    one after true true = next after (pc == after.pc) refl
    one after true false = refl
    one after false e = refl

    none : (after : Arch) (c e : Bool) → after ≡ (if c && e && false && pc == after.pc then instruction image after else after)
    none after true true = refl
    none after true false = refl
    none after false e = refl

    go : (b : Bool)
        → completed_path image (items ++ (if b then item_of_entry (fetched image pc) ∷ [] else []))
        at ≡ (if completed_count image items at == length items && is_none (completed_path image items at).stop && b
        && pc == (completed_path image items at).pc then instruction image (completed_path image items at) else completed_path image items at)
    go true =
        path-push image items (item_of_entry (fetched image pc)) at
        ∙ ap (λ place. if completed_count image items at == length items
        && (is_none (completed_path image items at).stop && place == (completed_path image items at).pc)
        then completed_item image (item_of_entry (fetched image pc)) (completed_path image items at) else completed_path image items at)
        (fetched-pc pc (fetch image pc))
        ∙ one (completed_path image items at) (completed_count image items at == length items) (is_none (completed_path image items at).stop)
    go false =
        ap (λ (is : List Item). completed_path image is at) (append-nil items)
        ∙ none (completed_path image items at) (completed_count image items at == length items) (is_none (completed_path image items at).stop)
