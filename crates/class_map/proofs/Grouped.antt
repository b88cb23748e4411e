-- Texts that are put together piece by piece.
use Rattle.std.proofs.Common.{◌≡◌, ℕ, List, [], ◌∷◌, ◌++◌, append_assoc, append-nil}
use Rattle.std.specs.Prelude.{codes}
use Rattle.std.specs.List.{join_with_byte}
use Rattle.class_map.specs.Texts.{blank, ended, title}

pub line_grouped : (name bit from to rule : List ℕ)
    → ((((((([] ++ name) ++ blank ∷ []) ++ (bit ++ blank ∷ [])) ++ (from ++ blank ∷ [])) ++ (to ++ blank ∷ [])) ++ codes "U") ++ rule) ++ codes "\n"
    ≡ ended (join_with_byte blank (name ∷ bit ∷ from ∷ to ∷ (codes "U" ++ rule) ∷ []))
line_grouped name bit from to rule = simp append_assoc

grouped : (title cycles_word cycles instructions_word instructions end : List ℕ)
    → (((((([] ++ (title ++ end)) ++ cycles_word) ++ cycles) ++ end) ++ instructions_word) ++ instructions) ++ end
    ≡ (title ++ end) ++ (((cycles_word ++ cycles) ++ end) ++ (((instructions_word ++ instructions) ++ end) ++ []))
grouped title cycles_word cycles instructions_word instructions end = simp (append_assoc, append-nil)

pub head_grouped : (cycles instructions : List ℕ)
    → (((((([] ++ codes "avf-map 1\n") ++ codes "cycles ") ++ cycles) ++ codes "\n") ++ codes "instructions ") ++ instructions) ++ codes "\n"
    ≡ ended title ++ (ended (codes "cycles " ++ cycles) ++ (ended (codes "instructions " ++ instructions) ++ []))
head_grouped cycles instructions = grouped title (codes "cycles ") cycles (codes "instructions ") instructions (codes "\n")
