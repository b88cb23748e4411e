-- Items of a path: which are on path, and a front with what stands behind it.
use Rattle.std.proofs.Common.{◌≡◌, ◌+◌, ◌<◌, ◌++◌, ℕ, suc, Bool, true, false, List, [], ◌∷◌, length, map, arith, refl, ap, sym, ◌∙◌}
use Rattle.std.specs.Prelude.{◌==◌, ◌&&◌, is_none, if◌then◌else◌}
use Rattle.std.proofs.lemmas.Bool.Decides.{nat_tests}
use Rattle.std.proofs.lemmas.List.{map-append}
use Rattle.elf_load.specs.Image.{LoadedImage}
use Rattle.rv_table.specs.declared.action.Action.{Action}
use Rattle.rv_isa.specs.Instruction.{State as Arch}
use Rattle.pipe_latch.specs.Latches.{DecodedLatch, ResultLatch}
use Rattle.inst_buf.specs.Entry.{Entry}
use Rattle.cyc_machine.specs.InFlight.{Item, item_of_latch}
use Rattle.flush_view.specs.Flush.{item_of_entry, path_of}
use Rattle.flush_view.specs.Positions.{is_instruction, on_path}
use Rattle.ace_law.specs.Moments.{trace}

-- ---- which items are on path

first_more : (n m : ℕ) → n + 1 ≡ suc m → n ≡ m
first_more n m e = omega arith

pub position-on : (x n : ℕ) → x + 1 + n ≡ x + suc n
position-on x n = omega arith

-- behind a front that is on path, the next instruction is
pub next-on_path : (trace : ℕ → Arch) (x : ℕ) (before : List Item) (item : Item) (rest : List Item) → on_path trace x before ≡ length before
    → is_instruction trace (x + length before) item ≡ true → length before < on_path trace x (before ++ item ∷ rest)
unfolding on_path
next-on_path trace x [] item rest e h = go (is_instruction trace x item) (ap (λ n. is_instruction trace n item) (omega arith) ∙ h)
  where
    go : (b : Bool) → b ≡ true → 0 < (if b then on_path trace (x + 1) rest + 1 else 0)
    go true c = omega arith
    go false c = absurd cc
next-on_path trace x (first ∷ before) item rest e h =
    go (is_instruction trace x first) e
    (λ f. next-on_path trace (x + 1) before item rest f (ap (λ n. is_instruction trace n item) (position-on x (length before)) ∙ h))
  where
    go : (b : Bool) → (if b then on_path trace (x + 1) before + 1 else 0) ≡ suc (length before)
        → (on_path trace (x + 1) before ≡ length before → length before < on_path trace (x + 1) (before ++ item ∷ rest))
        → suc (length before) < (if b then on_path trace (x + 1) (before ++ item ∷ rest) + 1 else 0)
    go true f more = let l = more (first_more (on_path trace (x + 1) before) (length before) f) in omega (arith, l)
    go false f more = absurd (omega (arith, f))

-- an item on path is the next instruction
pub on_path-next : (trace : ℕ → Arch) (x : ℕ) (before : List Item) (item : Item) (rest : List Item)
    → length before < on_path trace x (before ++ item ∷ rest) → is_instruction trace (x + length before) item ≡ true
unfolding on_path
on_path-next trace x [] item rest h = ap (λ n. is_instruction trace n item) (omega arith) ∙ go (is_instruction trace x item) refl h
  where
    go : (b : Bool) → is_instruction trace x item ≡ b → 0 < (if b then on_path trace (x + 1) rest + 1 else 0) → is_instruction trace x item ≡ true
    go true e l = e
    go false e l = absurd (omega (arith, l))
on_path-next trace x (first ∷ before) item rest h =
    ap (λ n. is_instruction trace n item) (sym (position-on x (length before)))
    ∙ go (is_instruction trace x first) h (on_path-next trace (x + 1) before item rest)
  where
    go : (b : Bool) → suc (length before) < (if b then on_path trace (x + 1) (before ++ item ∷ rest) + 1 else 0)
        → (length before < on_path trace (x + 1) (before ++ item ∷ rest) → is_instruction trace (x + 1 + length before) item ≡ true)
        → is_instruction trace (x + 1 + length before) item ≡ true
    go true l more = more (omega (arith, l))
    go false l more = absurd (omega (arith, l))

pub instruction-pc : (trace : ℕ → Arch) (x : ℕ) (item : Item) → is_instruction trace x item ≡ true → item.pc ≡ (trace x).pc
instruction-pc trace x item h = go (is_none (trace x).stop) h
  where
    go : (b : Bool) → b && item.pc == (trace x).pc ≡ true → item.pc ≡ (trace x).pc
    go true e = grind (arith, nat_tests)
    go false e = absurd cc

-- an item at the same address is so too
pub same-place : (trace : ℕ → Arch) (x : ℕ) (item other : Item) → item.pc ≡ other.pc → is_instruction trace x item ≡ is_instruction trace x other
same-place trace x item other e = ap (λ pc. is_none (trace x).stop && pc == (trace x).pc) e

pub first_true : (c d : Bool) → c && d ≡ true → c ≡ true
first_true true d h = refl
first_true false d h = absurd cc

-- ---- a front and what stands behind it

pub path-front : (image : LoadedImage) (m : Action) (w : ResultLatch) (memory : ℕ → ℕ) (d : DecodedLatch) (es more : List Entry)
    → path_of image m w memory d (es ++ more) ≡ path_of image m w memory d es ++ map item_of_entry more
path-front image m w memory d es more = go d.valid
  where
    item : Item
    item = item_of_latch image m w memory d

    go : (v : Bool) → (if v then item ∷ map item_of_entry (es ++ more) else map item_of_entry (es ++ more))
        ≡ (if v then item ∷ map item_of_entry es else map item_of_entry es) ++ map item_of_entry more
    go true = ap (λ items. item ∷ items) (map-append item_of_entry es more)
    go false = map-append item_of_entry es more
