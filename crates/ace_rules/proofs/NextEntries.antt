-- What would come behind the entries on path.
use Rattle.std.proofs.Common.{◌≡◌, ◌==◌, ◌&&◌, ◌+◌, ◌≤◌, ℕ, suc, Bool, true, false, List, [], ◌∷◌, ◌++◌, length, Decides, if◌then◌else◌, arith, refl}
use Rattle.std.proofs.Common.{ap, sym, subst, ◌∙◌}
use Rattle.std.specs.Prelude.{Some, None, is_none, option_map, slice_get}
use Rattle.std.proofs.lemmas.Bool.Decides.{Decides-like}
use Rattle.bit_field.specs.Layouts.{flip}
use Rattle.rv_isa.specs.Instruction.{State as Arch}
use Rattle.cyc_machine.specs.InFlight.{Item}
use Rattle.need_pass.specs.Tables.{Needs}
use Rattle.flush_view.specs.Flush.{path}
use Rattle.flush_view.specs.Positions.{is_instruction, on_path}
use Rattle.ace_law.specs.Moments.{Moment, entries_on_path, executed, state, trace}
use Rattle.ace_law.specs.PipelineRules.{ComesNext}
use Rattle.ace_rules.specs.Notes.{IsNote}
use Rattle.ace_rules.specs.PipelineTests.{becomes_next, is_address, is_next, is_next_flipped}
use Rattle.ace_rules.specs.declared.note.Note.{Note}
use Rattle.ace_rules.proofs.NotedTests.{true-decides}

address-by : (running : Bool) (here pc : ℕ) → is_address (if running then Some here else None) pc ≡ (running && pc == here)
address-by true here pc = refl
address-by false here pc = refl

-- ---- entries in front

front-if : (b : Bool) (n m k : ℕ) → (m ≤ k → n ≡ m) → (if b then m + 1 else 0) ≤ suc k → (if b then n + 1 else 0) ≡ (if b then m + 1 else 0)
front-if true n m k same l = ap (λ (i : ℕ). i + 1) (same (omega (arith, l)))
front-if false n m k same l = refl

-- what comes behind them doesn't tell how many of them are on path, where it isn't reached
pub on-path-front : (run : ℕ → Arch) (xs ys : List Item) (x : ℕ) → on_path run x (xs ++ ys) ≤ length xs
    → on_path run x xs ≡ on_path run x (xs ++ ys)
unfolding on_path
on-path-front run [] ys x l = omega (arith, l)
on-path-front run (item ∷ xs) ys x l =
    front-if (is_instruction run x item) (on_path run (x + 1) xs) (on_path run (x + 1) (xs ++ ys)) (length xs) (on-path-front run xs ys (x + 1)) l

module _ (a : Moment) (table : Needs) (note : Note) (noted : IsNote a table note) where
  -- an item is the instruction behind the entries on path
  pub next-decides : (item : Item) → Decides (is_next note item.pc) (is_instruction (trace a) (executed a + entries_on_path a) item ≡ true)
  unfolding is_next
  next-decides item =
      true-decides _ _
      (ap (λ o. is_address o item.pc) noted.next
      ∙ address-by (is_none (trace a (executed a + entries_on_path a)).stop) (trace a (executed a + entries_on_path a)).pc item.pc)

  -- The first entries end where those on path do: the item would be the next instruction behind them.
  pub comes-decides : (front : List Item) (item : Item) → on_path (trace a) (executed a) front ≡ entries_on_path a → length front ≡ entries_on_path a
      → Decides (is_next note item.pc) (ComesNext a front item)
  comes-decides front item on same =
      Decides-like (is_next note item.pc)
      (λ is. (on ∙ sym same, subst (λ (n : ℕ). is_instruction (trace a) (executed a + n) item ≡ true) (sym same) is))
      (λ comes. subst (λ (n : ℕ). is_instruction (trace a) (executed a + n) item ≡ true) same comes.1)
      (next-decides item)

  -- the first entry that isn't on path, with a bit of its address flipped
  pub becomes-is : (missed : Item) (j : ℕ) → slice_get (path (state a)) (entries_on_path a) ≡ Some missed
      → becomes_next note j ≡ is_next note (flip missed.pc j)
  unfolding becomes_next
  becomes-is missed j at =
      ap (λ o. is_next_flipped note o j) (noted.missed ∙ ap (option_map (λ (item : Item). item.pc)) at)
