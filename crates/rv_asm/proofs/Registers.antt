-- The names of the registers by number.
use Rattle.std.proofs.Common.{◌≡◌, ℕ, suc, ◌<◌, List, ◌∷◌, length, map, slice_index_or, find}
use Rattle.std.proofs.Common.{◌+◌, ◌-◌, ◌≤◌, cond, true, false, Some, None, ap, sym, ◌∙◌, refl, arith}
use Rattle.std.specs.List.{range_with_len}
use Rattle.std.specs.Borrow.{Bor}
use Rattle.rv_table.proofs.Spelled.{name_at, names-length}
use Rattle.rv_asm.specs.Names.{names_register, numbered_name, numbered_names}

pub numbered-length : (xs : List (Bor (List ℕ))) → map (λ name. name.now) xs ≡ numbered_names → length xs ≡ 32
numbered-length xs e = let many : length xs ≡ length numbered_names = names-length xs numbered_names e in omega arith

pub numbered-index : (xs : List (Bor (List ℕ))) (r : ℕ) (d : Bor (List ℕ)) → map (λ name. name.now) xs ≡ numbered_names → r < 32
    → (slice_index_or xs r d).now ≡ numbered_name r
unfolding numbered_name
numbered-index xs r d e l =
    let many : length xs ≡ 32 = numbered-length xs e in
    let within : r < length xs = omega arith in
    name_at xs numbered_names r d e within

pub ruleset naming = (numbered-length, numbered-index)

range_more : (r : ℕ) → r < 32 → range_with_len r (32 - r) ≡ r ∷ range_with_len (r + 1) (32 - (r + 1))
range_more r h = let many : 32 - r ≡ suc (32 - (r + 1)) = omega arith in rw many refl

pub register_here : (word : List ℕ) (r : ℕ) → r < 32 → names_register word r ≡ true → find (names_register word) (range_with_len r (32 - r)) ≡ Some r
register_here word r h e = ap (find (names_register word)) (range_more r h)
    ∙ ap (λ t. cond t (Some r) (find (names_register word) (range_with_len (r + 1) (32 - (r + 1))))) e

pub register_next : (word : List ℕ) (r : ℕ) → r < 32 → names_register word r ≡ false
    → find (names_register word) (range_with_len (r + 1) (32 - (r + 1))) ≡ find (names_register word) (range_with_len r (32 - r))
register_next word r h e =
    sym (ap (find (names_register word)) (range_more r h) ∙ ap (λ t. cond t (Some r) (find (names_register word) (range_with_len (r + 1) (32 - (r + 1))))) e)

pub register_none : (word : List ℕ) (r : ℕ) → 32 ≤ r → find (names_register word) (range_with_len r (32 - r)) ≡ None
register_none word r h = let many : 32 - r ≡ 0 = omega arith in rw many refl

pub ruleset registers = (register_here, register_next, register_none)
