-- What the cycles of a run from reset count: instructions that left EX, instructions that are done, clock values and bytes.
use Rattle.std.proofs.Common.{◌≡◌, ℕ, zero, suc, ◌+◌, Bool, true, false, List}
use Rattle.std.proofs.Common.{[], ◌∷◌, ◌++◌, length, arith, refl, ap, sym, ◌∙◌, append_assoc, length-append}
use Rattle.std.specs.Prelude.{Option, ◌&&◌, if◌then◌else◌}
use Rattle.std.proofs.lemmas.Bool.Decides.{nat_tests}
use Rattle.elf_load.specs.Image.{LoadedImage, executable, word_in_ram}
use Rattle.bit_field.specs.declared.shapes.Shape.{Shape}
use Rattle.rv_table.specs.Effects.{byte_put}
use Rattle.rv_table.specs.declared.action.Action.{Action}
use Rattle.rv_table.specs.declared.action.Action.TheVariants.{Nothing, Writes, Loads, Stores, Puts, Exits, Traps}
use Rattle.rv_isa.specs.Instruction.{with_byte}
use Rattle.pipe_latch.specs.Execution.{executed}
use Rattle.pipe_latch.specs.Latches.{DecodedLatch, ExecutedLatch, op_of_latch}
use Rattle.pipe_latch.proofs.Actions.{action-something}
use Rattle.pipe_latch.proofs.Latches.{latch_of-valid}
use Rattle.store_buf.specs.Entry.{Entry}
use Rattle.cyc_machine.specs.declared.fate.Fate.{Fate}
use Rattle.cyc_machine.specs.declared.fate.Fate.TheVariants.{Absent, Dropped, Stays, Goes}
use Rattle.cyc_machine.specs.Cycle.{action_in_m, cycled, fate, served_m, done_in}
use Rattle.cyc_machine.specs.Memory.{served}
use Rattle.cyc_machine.specs.Pipeline.{counted, executed_after}
use Rattle.cyc_machine.specs.Run.{clocks_after, clocks_below, cycle_if, goes, issues_after, issues_below, log_after}
use Rattle.cyc_machine.specs.Run.{output_after, output_below, retired_after, retired_below, state_after, state_at, with_one}
use Rattle.cyc_machine.specs.State.{State, reset}
use Rattle.rv_table.specs.Actions.{action, is_clocked}
use Rattle.flush_view.specs.Flush.{clocks_now, fed}
use Rattle.flush_view.specs.Positions.{done_below, left_execute, left_memory}
use Rattle.flush_view.proofs.Run.Followed.{count_after}
use Rattle.flush_view.proofs.Flush.PipeLaw.{fate-goes}
use Rattle.flush_view.proofs.Flush.MachinePipe.{piped}

-- ---- one cycle

left_by : (f : Fate) (s : State) (xs : List ℕ) → length (with_one xs (cycle_if (goes f) s)) ≡ count_after f (length xs)
left_by Absent s xs = refl
left_by Dropped s xs = refl
left_by Stays s xs = refl
left_by (Goes a b) s xs = omega (arith, length-append xs (s.cycle ∷ []))

-- an instruction leaves EX only where EX/MEM leaves
last : (x y : Bool) → (x && y) ≡ true → y ≡ true
last true y h = h
last false y h = absurd cc

goes_where : (s : State) (f : Fate) → fate s ≡ f → goes f ≡ true → (served_m s).goes ≡ true
goes_where s Absent e h = absurd cc
goes_where s Dropped e h = absurd cc
goes_where s Stays e h = absurd cc
goes_where s (Goes a b) e h = last _ (served_m s).goes (fate-goes (piped s) (served_m s).goes a b e).2

-- whether EX/MEM is occupied after it
pub occupied-after : (f : Fate) (l : Bool) (image : LoadedImage) (d : DecodedLatch) (cycle issued : ℕ) (m : ExecutedLatch)
    → (executed_after image f l d cycle issued m).valid ≡ (if goes f then true else (if l then false else m.valid))
unfolding executed_after executed
occupied-after (Goes a b) l image d cycle issued m =
    latch_of-valid (action (word_in_ram image) (executable image) (op_of_latch d) d.pc a (counted d cycle issued b))
    (action-something (word_in_ram image) (executable image) (op_of_latch d) d.pc a (counted d cycle issued b))
occupied-after Absent true image d cycle issued m = refl
occupied-after Absent false image d cycle issued m = refl
occupied-after Dropped true image d cycle issued m = refl
occupied-after Dropped false image d cycle issued m = refl
occupied-after Stays true image d cycle issued m = refl
occupied-after Stays false image d cycle issued m = refl

abbrev one_if : Bool → ℕ
one_if b = if b then 1 else 0

counted_by : (f : Fate) (v l n : Bool) (x r : ℕ) → x ≡ r + one_if v → (goes f ≡ true → l ≡ true)
    → n ≡ (if goes f then true else (if l then false else v))
    → count_after f x ≡ (if v && l then r + 1 else r) + one_if n
counted_by Absent v l n x r e g h = grind (arith, nat_tests)
counted_by Dropped v l n x r e g h = grind (arith, nat_tests)
counted_by Stays v l n x r e g h = grind (arith, nat_tests)
counted_by (Goes a b) v l n x r e g h = grind (arith, nat_tests, g refl)

done_by : (v l : Bool) (x r e : ℕ) → x ≡ r + one_if v → r ≡ e → (if v && l then r + 1 else r) ≡ (if l then x else e)
done_by v l x r e h f = grind (arith, nat_tests)

clocks_by : (f : Fate) (s : State) (xs later : List ℕ) → with_one xs (cycle_if (goes f && is_clocked (op_of_latch s.d)) s) ++ later
    ≡ xs ++ (if clocks_now f s.d then s.cycle ∷ later else later)
clocks_by Absent s xs later = refl
clocks_by Dropped s xs later = refl
clocks_by Stays s xs later = refl
clocks_by (Goes a b) s xs later = go (is_clocked (op_of_latch s.d))
  where
    go : (c : Bool) → with_one xs (cycle_if c s) ++ later ≡ xs ++ (if c then s.cycle ∷ later else later)
    go true = append_assoc xs (s.cycle ∷ []) later
    go false = refl

-- a byte is put at once
pub put_by : (image : LoadedImage) (m : Action) (es : List Entry) (read : Option ℕ) (xs : List ℕ)
    → with_byte xs (byte_put (if (served image m es read).goes then m else Nothing)) ≡ with_one xs (byte_put m)
unfolding served
put_by image Nothing es read xs = refl
put_by image (Writes rd value) es read xs = refl
put_by image (Loads kind rd x) es read xs = go (served image (Loads kind rd x) es read).goes
  where
    go : (b : Bool) → with_byte xs (byte_put (if b then Loads kind rd x else Nothing)) ≡ xs
    go true = refl
    go false = refl
put_by image (Stores kind x y) es read xs = go (served image (Stores kind x y) es read).goes
  where
    go : (b : Bool) → with_byte xs (byte_put (if b then Stores kind x y else Nothing)) ≡ xs
    go true = refl
    go false = refl
put_by image (Puts value) es read xs = refl
put_by image (Exits value) es read xs = refl
put_by image (Traps cause) es read xs = refl

-- ---- the run

module _ (image : LoadedImage) (shape : Shape) where
  abbrev at : ℕ → State
  at t = state_at image shape t

  pub image-kept : (t : ℕ) → (state_at image shape t).image ≡ image
  unfolding state_after cycled reset
  image-kept zero = refl
  image-kept (suc t) = image-kept t

  pub left-next : (t : ℕ) → left_execute image shape (suc t) ≡ count_after (fate (at t)) (left_execute image shape t)
  unfolding issues_after
  left-next t = left_by (fate (at t)) (at t) (issues_below image shape t)

  -- EX/MEM holds the one that has left EX and isn't done
  pub left-retired : (t : ℕ) → left_execute image shape t ≡ retired_below image shape t + (if (state_at image shape t).m.valid then 1 else 0)
  unfolding state_after cycled reset issues_after retired_after
  left-retired zero = refl
  left-retired (suc t) =
      left-next t
      ∙ counted_by (fate (at t)) (at t).m.valid (served_m (at t)).goes (at (suc t)).m.valid (left_execute image shape t) (retired_below image shape t)
      (left-retired t)
      (goes_where (at t) (fate (at t)) refl)
      (occupied-after (fate (at t)) (served_m (at t)).goes (at t).image (at t).d (at t).cycle (at t).issued (at t).m)

  pub retired-left : (t : ℕ) → retired_below image shape t ≡ left_memory image shape t
  retired-left t = let e = left-retired t in omega (arith, e)

  -- an instruction that is done
  pub memory-next : (t : ℕ)
      → left_memory image shape (suc t) ≡ (if (served_m (at t)).goes then left_execute image shape t else left_memory image shape t)
  unfolding retired_after
  memory-next t =
      sym (retired-left (suc t))
      ∙ done_by (at t).m.valid (served_m (at t)).goes (left_execute image shape t) (retired_below image shape t) (left_memory image shape t)
      (left-retired t) (retired-left t)

  pub clocks-next : (t : ℕ) (later : List ℕ) → clocks_below image shape (suc t) ++ later ≡ clocks_below image shape t ++ fed (at t) later
  unfolding clocks_after
  clocks-next t later = clocks_by (fate (at t)) (at t) (clocks_below image shape t) later

  pub done-output : (t : ℕ) → (done_below image shape t).output ≡ output_below image shape t
  unfolding log_after output_after
  done-output zero = refl
  done-output (suc t) =
      ap (λ (xs : List ℕ). with_byte xs (byte_put (done_in (at t)))) (done-output t)
      ∙ put_by (at t).image (action_in_m (at t)) _ _ (output_below image shape t)
