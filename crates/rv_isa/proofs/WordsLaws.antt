-- The numbers of a state stay in their ranges, and its clock values only shrink.
use Rattle.std.proofs.Common.{◌≡◌, ℕ, zero, suc, Bool, true, false, cond, List, [], ◌∷◌, drop, refl, ◌∙◌, ap}
use Rattle.std.specs.Prelude.{is_none}
use Rattle.elf_load.specs.Image.{LoadedImage}
use Rattle.rv_table.specs.Actions.{is_clocked}
use Rattle.rv_isa.proofs.NextState.{clocks_next}
use Rattle.rv_isa.proofs.Ranges.{words_after, words_completed, words_next, words_reset}
use Rattle.rv_isa.specs.Instruction.{State, instruction, later_clocks, op_at}
use Rattle.rv_isa.specs.Runs.{after}
use Rattle.rv_isa.specs.WordsLaw.{WordsLaw}

-- the values from some value on
abbrev IsRest : List ℕ → List ℕ → Type 0
IsRest left clocks = (taken : ℕ) × (left ≡ drop taken clocks)

rest-later : (left clocks : List ℕ) → IsRest left (later_clocks clocks) → IsRest left clocks
rest-later left [] h = h
rest-later left (clock ∷ clocks) (taken, e) = (suc taken, e)

rest-next : (t : Bool) (left clocks : List ℕ) → IsRest left (cond t (later_clocks clocks) clocks) → IsRest left clocks
rest-next true left clocks h = rest-later left clocks h
rest-next false left clocks h = h

ran : (t : Bool) (image : LoadedImage) (at later : State) → IsRest later.clocks (instruction image at).clocks → IsRest (cond t later at).clocks at.clocks
ran true image at later (taken, e) =
    rest-next (is_clocked (op_at image at.pc)) later.clocks at.clocks (taken, e ∙ ap (drop taken) (clocks_next image at))
ran false image at later h = (zero, refl)

clocks-left : (image : LoadedImage) (n : ℕ) (at : State) → IsRest (after image n at).clocks at.clocks
unfolding after
clocks-left image zero at = (zero, refl)
clocks-left image (suc n) at = ran (is_none at.stop) image at (after image n (instruction image at)) (clocks-left image n (instruction image at))

pub law : WordsLaw
law = record { reset = words_reset; next = words_next; runs = words_after; completes = words_completed; clocks = clocks-left }
