-- A generated image: how long it is, and for which sizes there is one.
use Rattle.std.proofs.Common.{◌≡◌, ℕ, ◌+◌, ◌*◌, ◌≤◌, List, [], ◌++◌, false, length, refl, ap, ◌∙◌, arith}
use Rattle.std.specs.Prelude.{◌==◌, ◌||◌, IsTrue, nat_lt}
use Rattle.std.proofs.lemmas.List.{append-nil}
use Rattle.std.proofs.lemmas.Bool.Decides.{nat_tests}
use Rattle.std.specs.List.{flat_map}
use Rattle.elf_write.specs.Code.{op_bytes}
use Rattle.elf_write.specs.File.{file, headers, text_headers}
use Rattle.elf_write.specs.declared.layout.TheConstants.{TEXT_BASE}
use Rattle.elf_write.proofs.HeaderFields.{text_length}
use Rattle.img_gen.specs.Program.{generated, is_bad_size, program}
use Rattle.img_gen.specs.declared.generator.TheConstants.{MAX_SIZE}
use Rattle.img_gen.proofs.Sizes.{length-text}
use Rattle.avf_tool.specs.declared.stages.TheConstants.{IMAGE_LIMIT}

pub fits : (number size : ℕ) (image : List ℕ) → size ≤ MAX_SIZE → image ≡ generated number size → length image ≤ IMAGE_LIMIT
unfolding generated file headers
fits number size image most is =
    let text = flat_map op_bytes (program number size) in
    let alone : text_headers TEXT_BASE (length text) ++ text ++ [] ≡ text_headers TEXT_BASE (length text) ++ text =
    append-nil (text_headers TEXT_BASE (length text) ++ text) in
    let all : length (text_headers TEXT_BASE (length text) ++ text) ≡ 84 + length text = text_length TEXT_BASE (length text) text in
    let long : length text ≡ 4 * (size + 9) = length-text number size in
    let same : length image ≡ length (text_headers TEXT_BASE (length text) ++ text) = ap length (is ∙ alone) in
    omega (arith, all, long, same, most)

-- a size that a program is made for
pub good_size : (size : ℕ) → 1 ≤ size → size ≤ MAX_SIZE → IsTrue (is_bad_size size) → ⊥
unfolding is_bad_size
good_size size least most bad =
    let some : (size == 0) ≡ false = grind (arith, nat_tests) in
    let small : nat_lt MAX_SIZE size ≡ false = grind (arith, nat_tests) in
    let good : (size == 0) || nat_lt MAX_SIZE size ≡ false = rw (some, small) refl in
    absurd cc
