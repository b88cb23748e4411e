-- The size of RAM.
use Rattle.std.proofs.Common.{◌≡◌, ℕ, List, length, arith}
use Rattle.std.proofs.lemmas.List.FromFn.{length-map-range_with_len}
use Rattle.bit_field.specs.Shapes.{IsShape}
use Rattle.bit_field.specs.declared.shapes.Shape.{Shape}
use Rattle.elf_load.specs.Layout.{IsRamSize}
use Rattle.elf_load.specs.Image.{LoadedImage}
use Rattle.elf_load.specs.Meaning.{image_of, image_in, byte_in, base_of}
use Rattle.elf_load.specs.Headers.{segments_of}
use Rattle.avf_tool.specs.Answers.{ram_size}

-- each shape has a size that an image can have
pub ram_fits : (shape : Shape) → IsShape shape → IsRamSize (ram_size shape)
ram_fits shape h = record {
  blocks = omega (arith, h.mib.0);
  least = omega (arith, h.mib.0);
  most = omega (arith, h.mib.1);
}

-- an image has the RAM that it was loaded for
pub ram_is : (file : List ℕ) (size : ℕ) (image : LoadedImage) → image ≡ image_of file size → length image.ram ≡ size
unfolding image_of image_in
ram_is file size image e = rw e (length-map-range_with_len (byte_in (segments_of file)) (base_of (segments_of file)) size)

pub ruleset lemmas = (ram_fits, ram_is)
