-- How many bytes a generated program has.
use Rattle.std.proofs.Common.{◌≡◌, ℕ, zero, suc, ◌+◌, ◌*◌, ◌∙◌, length, map, refl, ap, arith, length-append}
use Rattle.std.specs.List.{flat_map}
use Rattle.std.proofs.lemmas.List.{length-map}
use Rattle.rand_core.specs.Pcg32Seed.{pcg32_seed}
use Rattle.rand_core.specs.Steps.{first_words}
use Rattle.rand_pcg.specs.Lcg.{Lcg}
use Rattle.rand_pcg.specs.Pcg.{pcg32, pcg32_of_seed}
use Rattle.elf_write.specs.Code.{op_bytes}
use Rattle.elf_write.proofs.CodeSizes.{length-code}
use Rattle.img_gen.specs.Program.{body_op, finish, program, random_words}

pub length-words : (count : ℕ) (g : Lcg) → length (first_words pcg32 count g) ≡ count
unfolding first_words
length-words zero g = refl
length-words (suc k) g = let rest = length-words k (pcg32 g).1 in omega (arith, rest)

pub length-program : (number size : ℕ) → length (program number size) ≡ size + 9
unfolding program random_words
length-program number size =
    let g : Lcg = pcg32_of_seed (pcg32_seed 16 number) in
    let words = length-words size g in
    let body = length-map (first_words pcg32 size g) body_op in
    let all = length-append (map body_op (first_words pcg32 size g)) (finish size) in
    omega (arith, words, body, all)

pub length-text : (number size : ℕ) → length (flat_map op_bytes (program number size)) ≡ 4 * (size + 9)
length-text number size = length-code (program number size) ∙ ap (λ n. 4 * n) (length-program number size)

pub ruleset sizes = length-text
