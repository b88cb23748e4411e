-- What is known of needed bits without working them out.
use Rattle.std.proofs.Common.{◌≡◌, ap}
use Rattle.std.specs.Prelude.{option_map}
use Rattle.elf_load.specs.Image.{LoadedImage}
use Rattle.rv_isa.proofs.Accessed.{law}
use Rattle.rv_isa.specs.Accesses.{line_of, next_action, next_line}
use Rattle.rv_isa.specs.Instruction.{State}
use Rattle.need_pass.specs.Law.{Seen, seen}
use Rattle.need_pass.specs.NeedFacts.{NeedFacts}
use Rattle.need_pass.proofs.Accessed.{needed_loaded}
use Rattle.need_pass.proofs.Passes.{needed_bit}

places : (image : LoadedImage) (s u : State) → seen image s ≡ seen image u → next_line image s ≡ next_line image u
unfolding seen
places image s u e = ap (option_map line_of) (law.same (next_action image s) (next_action image u) (ap (λ (x : Seen). x.access) e))

pub facts : NeedFacts
facts = record { bits = needed_bit; loaded = needed_loaded; places = places }
