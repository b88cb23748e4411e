-- Words that are too few for a command on an image.
use Rattle.std.proofs.Common.{◌≡◌, ◌<◌, ℕ, List, [], ◌∷◌, length, None, refl, arith}
use Rattle.std.specs.Prelude.{String}
use Rattle.std.specs.declared.alloc.Global.{Global}
use Rattle.bit_field.specs.declared.shapes.Shape.{Shape}
use Rattle.avf_tool.specs.Words.{task_job, texts}

pub too_few : (shape : Shape) (name : List ℕ) (words : List (String Global)) → length words < 2 → task_job shape name (texts words) ≡ None
too_few shape name [] h = refl
too_few shape name (a ∷ []) h = refl
too_few shape name (a ∷ b ∷ words) h = absurd (omega (arith, h))
