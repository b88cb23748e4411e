-- What holds of a file whose file header is accepted.
use Rattle.std.proofs.Common.{◌≡◌, ℕ, ◌+◌, ◌*◌, ◌≤◌, List, length, None, arith}
use Rattle.std.proofs.lemmas.Bool.Decides.{nat_tests}
use Rattle.elf_load.specs.Headers.{word_at, half_at, headers_offset, headers_count}
use Rattle.elf_load.specs.Refusal.{file_refusal, is_short, lacks_headers}

pub accepted-long : (file : List ℕ) → file_refusal file ≡ None → 52 ≤ length file
unfolding file_refusal is_short
accepted-long file h = grind (arith, nat_tests)

pub accepted-headers : (file : List ℕ) → file_refusal file ≡ None → word_at file 28 + 32 * half_at file 44 ≤ length file
unfolding file_refusal lacks_headers headers_offset headers_count
accepted-headers file h = grind (arith, nat_tests)

pub ruleset accepted = (accepted-long, accepted-headers)
