use Rattle.std.proofs.Common.{◌≡◌, ℕ, refl, subst, rules, arith}
use Rattle.elf_load.specs.Headers.{half_at, headers_offset, headers_count, program_headers, first_headers}
use Rattle.elf_load.specs.Walk.{IsFound}
use Rattle.elf_load.proofs.Walking.{IsFound-none, IsFound-more}
use Rattle.elf_load.proofs.walk.walk.Goals as goal

pub loop-k-init : goal.loop-k-init
loop-k-init c = IsFound-none c.args.file.now _ refl refl (search rules)

pub loop-k-preserved : goal.loop-k-preserved
unfolding headers_offset
loop-k-preserved c = IsFound-more c.args.file.now c.loop-k.k _ _ _ (search rules) c.loop-k.invariant c.in_ok-add.ensures

pub returns : goal.returns
unfolding program_headers headers_count
returns c =
    let file = c.args.file.now in
    let P : ℕ → Type 0 = λ n. IsFound file (first_headers file n) c.loop-k.found in
    let counted : c.loop-k.k ≡ half_at file 44 = omega arith in
    subst P counted c.loop-k.invariant
