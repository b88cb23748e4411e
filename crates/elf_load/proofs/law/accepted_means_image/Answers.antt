use Rattle.elf_load.proofs.AcceptedImage.{accepted-image_of}
use Rattle.elf_load.proofs.law.accepted_means_image.Goals as goal

pub returns : goal.returns
returns c = accepted-image_of
