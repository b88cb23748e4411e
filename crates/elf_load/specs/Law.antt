-- Accepted contents mean an image.
use Rattle.std.specs.Prelude.{◌≡◌, ℕ, ◌^◌, ◌<◌, List, All, None}
use Rattle.elf_load.specs.Image.{IsImage}
use Rattle.elf_load.specs.Layout.{IsRamSize}
use Rattle.elf_load.specs.Meaning.{image_of}
use Rattle.elf_load.specs.Refusal.{first_refusal}

-- Where no reason stands to refuse a file of bytes, for a RAM of this size, the image that it means is one.
pub record AcceptedMeansImage (file : List ℕ) (size : ℕ) : Type 0 where
  pub image : All (λ b. b < 2 ^ 8) file → IsRamSize size → first_refusal file size ≡ None → IsImage (image_of file size)
