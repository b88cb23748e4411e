-- Up to where the next change shows, a slot holds what it held.
use Rattle.std.proofs.Common.{◌≡◌, ℕ, ◌<◌, ◌≤◌, Bool, true, false, cond, leb, ltb, List, [], ◌∷◌, refl, arith}
use Rattle.std.specs.Prelude.{Option, Some, find}
use Rattle.std.proofs.lemmas.Bool.Decides.{nat_tests}
use Rattle.change_list.specs.Lists.{first_from, value_before}
use Rattle.change_list.specs.declared.changes.Change.{Change}
use Rattle.slot_history.specs.Histories.{shows_from}
use Rattle.slot_history.specs.declared.changes.Held.{Held}

shows-more : (h : Held) (c : Change Held) (xs : List (Change Held)) (s t : ℕ) (b : Bool) → leb s c.cycle ≡ b → s ≤ t
    → t < shows_from (cond b (Some c) (find (λ x. leb s x.cycle) xs))
    → (t < shows_from (find (λ x. leb s x.cycle) xs) → value_before c.value xs t ≡ value_before c.value xs s)
    → cond (ltb c.cycle t) (value_before c.value xs t) h ≡ cond (ltb c.cycle s) (value_before c.value xs s) h
shows-more h c xs s t true test l below rest =
    let e : ltb c.cycle s ≡ false = grind (arith, nat_tests) in
    let f : ltb c.cycle t ≡ false = grind (arith, nat_tests) in
    rw (e, f) refl
shows-more h c xs s t false test l below rest =
    let e : ltb c.cycle s ≡ true = grind (arith, nat_tests) in
    let f : ltb c.cycle t ≡ true = grind (arith, nat_tests) in
    rw (e, f) (rest below)

pub same-until : (h : Held) (xs : List (Change Held)) (s t : ℕ) → s ≤ t → t < shows_from (first_from s xs) → value_before h xs t ≡ value_before h xs s
unfolding value_before first_from
same-until h [] s t l below = refl
same-until h (c ∷ xs) s t l below = shows-more h c xs s t (leb s c.cycle) refl l below (same-until c.value xs s t l)

-- the next change shows later
above-more : (c : Change Held) (o : Option (Change Held)) (s : ℕ) (b : Bool) → leb s c.cycle ≡ b → s < 4294967295 → s < shows_from o
    → s < shows_from (cond b (Some c) o)
above-more c o s true test l rest = grind (arith, nat_tests)
above-more c o s false test l rest = rest

pub shows-above : (xs : List (Change Held)) (s : ℕ) → s < 4294967295 → s < shows_from (first_from s xs)
unfolding first_from
shows-above [] s l = l
shows-above (c ∷ xs) s l = above-more c (find (λ x. leb s x.cycle) xs) s (leb s c.cycle) refl l (shows-above xs s l)
