-- The need law, along a recorded run.
use Rattle.std.specs.Prelude.{slice_get}
use Rattle.std.proofs.Common.{◌≡◌, ◌≢◌, true, [], Some, ℕ, zero, suc, ◌+◌, ◌^◌, ◌<◌, ◌≤◌, List, ◌∷◌, length, drop, refl, sym, ◌∙◌, ap, subst, arith}
use Rattle.std.specs.List.{All}
use Rattle.std.proofs.lemmas.List.{drop_more}
use Rattle.std.proofs.lemmas.Option.{get_or_from_slice_get}
use Rattle.elf_load.specs.Image.{LoadedImage, IsImage}
use Rattle.rv_isa.proofs.RunSteps.{after-next}
use Rattle.rv_isa.specs.Effects.{retired_at}
use Rattle.rv_isa.specs.Instruction.{State, instruction}
use Rattle.rv_isa.specs.Runs.{ProgramTrace, IsTrace, reset, trace_at}
use Rattle.rv_isa.specs.declared.effect.Retired.{Retired}
use Rattle.rv_isa.specs.Accesses.{line_of, next_line}
use Rattle.need_pass.proofs.Accessed.{loaded_line, needed_loaded}
use Rattle.need_pass.specs.Links.{loads}
use Rattle.need_pass.specs.ProgramBits.{Byte}
use Rattle.need_pass.specs.Law.{seen, seen_of, NeedLaw}
use Rattle.need_pass.specs.Needed.{Agrees, Needed}
use Rattle.need_pass.proofs.Agreement.{same_seen, agrees_next}
use Rattle.rv_isa.specs.Words.{IsWords}
use Rattle.rv_isa.proofs.Ranges.{words_next, words_reset, words_after}

get-drop : (xs : List Retired) (i j : ℕ) (x : Retired) → slice_get (drop i xs) j ≡ Some x → slice_get xs (i + j) ≡ Some x
get-drop xs zero j x e = let same : 0 + j ≡ j = omega arith in ap (slice_get xs) same ∙ e
get-drop [] (suc i) j x e = absurd cc
get-drop (y ∷ xs) (suc i) j x e = let same : suc (i + j) ≡ suc i + j = omega arith in ap (slice_get (y ∷ xs)) (sym same) ∙ get-drop xs i j x e

get-below : (xs : List Retired) (i : ℕ) (x : Retired) → slice_get xs i ≡ Some x → i < length xs
get-below [] i x e = absurd cc
get-below (y ∷ xs) zero x e = omega arith
get-below (y ∷ xs) (suc i) x e = let later : i < length xs = get-below xs i x e in omega arith

module _ (image : LoadedImage) (clocks : List ℕ) (run : ProgramTrace) (is : IsImage image) (fit : All (λ c. c < 2 ^ 32) clocks) (trace : IsTrace image clocks run) where
  recorded_words : (i : ℕ) → IsWords (trace_at image clocks i)
  recorded_words i = words_after image i (reset image clocks) is (words_reset image clocks is fit)

  rest : (i : ℕ) → i < length run.entries → drop i run.entries ≡ retired_at image (trace_at image clocks i) ∷ drop (i + 1) run.entries
  rest i l =
      let found = trace.retired i l in
      let entry : Retired = retired_at image (trace_at image clocks i) in
      drop_more run.entries i entry l ∙ ap (λ x. x ∷ drop (i + 1) run.entries) (get_or_from_slice_get run.entries i entry entry found)

  recorded_next : (i : ℕ) → i < length run.entries → trace_at image clocks (i + 1) ≡ instruction image (trace_at image clocks i)
  recorded_next i l = let e : i + 1 ≡ suc i = omega arith in ap (λ n. trace_at image clocks n) e ∙ after-next image i (reset image clocks) (trace.running i l)

  at_entry : (i : ℕ) (at : State) → i < length run.entries → Agrees (drop i run.entries) (trace_at image clocks i) at → Agrees (retired_at image (trace_at image clocks i) ∷ drop (i + 1) run.entries) (trace_at image clocks i) at
  at_entry i at l a = subst (λ (t : List Retired). Agrees t (trace_at image clocks i) at) (rest i l) a

  sees : (i : ℕ) (at : State) → i < length run.entries → IsWords at → Agrees (drop i run.entries) (trace_at image clocks i) at → seen image at ≡ seen image (trace_at image clocks i)
  sees i at l w a = same_seen image (drop (i + 1) run.entries) (trace_at image clocks i) at is (recorded_words i) w (at_entry i at l a)

  agrees : (i : ℕ) (at : State) → i < length run.entries → IsWords at → Agrees (drop i run.entries) (trace_at image clocks i) at → Agrees (drop (i + 1) run.entries) (trace_at image clocks (i + 1)) (instruction image at)
  agrees i at l w a =
      subst (λ (s : State). Agrees (drop (i + 1) run.entries) s (instruction image at)) (sym (recorded_next i l)) (agrees_next image (drop (i + 1) run.entries) (trace_at image clocks i) at is (recorded_words i) w (at_entry i at l a))

  runs : (i n : ℕ) (at : State) → i + n ≤ length run.entries → IsWords at → Agrees (drop i run.entries) (trace_at image clocks i) at → seen_of image n at ≡ seen_of image n (trace_at image clocks i)
  unfolding seen_of
  runs i zero at l w a = refl
  runs i (suc n) at l w a =
      let m : i < length run.entries = omega arith in
      ap (λ x. x ∷ seen_of image n (instruction image at)) (sees i at m w a)
      ∙ ap (λ x. seen image (trace_at image clocks i) ∷ x) (runs (i + 1) n (instruction image at) (omega arith) (words_next image at is w) (agrees i at m w a) ∙ ap (seen_of image n) (recorded_next i m))

  unneeded : (i p k : ℕ) → ((j : ℕ) → i ≤ j → j < length run.entries → next_line image (trace_at image clocks j) ≢ Some (line_of p)) → Needed (drop i run.entries) (Byte p k) → ⊥
  unneeded i p k quiet needed =
      let (j, entry, found, loaded) = needed_loaded (drop i run.entries) p k needed in
      let at : slice_get run.entries (i + j) ≡ Some entry = get-drop run.entries i j entry found in
      let within : i + j < length run.entries = get-below run.entries (i + j) entry at in
      let here : retired_at image (trace_at image clocks (i + j)) ≡ entry = cc (at, trace.retired (i + j) within) in
      quiet (i + j) (omega arith) within
      (loaded_line image (trace_at image clocks (i + j)) p (subst (λ (e : Retired). loads e p ≡ true) (sym here) loaded))

  pub need_law : NeedLaw image clocks run.entries
  need_law = record { sees = sees; words = λ at w. words_next image at is w; agrees = agrees; runs = runs; unneeded = unneeded }
