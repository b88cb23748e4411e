-- The instructions of the next random word, and of those behind it.
use Rattle.std.proofs.Common.{◌≡◌, ℕ, suc, ◌+◌, ◌-◌, ◌<◌, List, ◌++◌, map, refl, sym, ap, arith, append_assoc}
use Rattle.std.specs.List.{flat_map}
use Rattle.rand_core.specs.Steps.{first_words}
use Rattle.rand_pcg.specs.Lcg.{Lcg}
use Rattle.rand_pcg.specs.Pcg.{pcg32}
use Rattle.elf_write.specs.Code.{op_bytes}
use Rattle.img_gen.specs.Program.{body_op}

-- the bytes of the body that so many words give
unfoldable pub body_bytes : ℕ → Lcg → List ℕ
body_bytes count g = flat_map op_bytes (map body_op (first_words pcg32 count g))

next : (count rest : ℕ) (g : Lcg) → count ≡ suc rest → body_bytes count g ≡ op_bytes (body_op (pcg32 g).0) ++ body_bytes rest (pcg32 g).1
unfolding body_bytes first_words
next count rest g e = rw e refl

-- one more instruction is put
pub body_more : (put put' all : List ℕ) (i size word : ℕ) (g g' : Lcg) → i < size → put ++ body_bytes (size - i) g ≡ all → (word, g') ≡ pcg32 g
    → put' ≡ put ++ op_bytes (body_op word) → put' ++ body_bytes (size - (i + 1)) g' ≡ all
body_more put put' all i size word g g' h so_far drawn more =
    let count : size - i ≡ suc (size - (i + 1)) = omega arith in
    let one : word ≡ (pcg32 g).0 = ap (λ (p : ℕ × Lcg). p.0) drawn in
    let behind : g' ≡ (pcg32 g).1 = ap (λ (p : ℕ × Lcg). p.1) drawn in
    let opened : body_bytes (size - i) g ≡ op_bytes (body_op word) ++ body_bytes (size - (i + 1)) g' =
    rw (one, behind) (next (size - i) (size - (i + 1)) g count) in
    rw (more, append_assoc, sym opened) so_far
