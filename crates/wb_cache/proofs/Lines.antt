-- A line is its set and its tag.
use Rattle.std.proofs.Common.{◌≡◌, inl, inr, ℕ, ◌+◌, ◌*◌, ◌/◌, ◌%◌, ◌<◌, arith, ap, ◌∙◌}
use Rattle.std.specs.Prelude.{◌==◌, ◌&&◌}
use Rattle.std.proofs.Math.Nat.{div-add-mod}
use Rattle.std.proofs.lemmas.Nat.{div-mul-add, mod-mul-add}
use Rattle.std.proofs.lemmas.Bool.{cases_eq}
use Rattle.std.proofs.lemmas.Bool.Decides.{nat_tests}

commuted : (sets set tag : ℕ) → sets * tag + set ≡ tag * sets + set
commuted sets set tag = omega arith

pub set_of_line : (sets set tag : ℕ) → set < sets → (sets * tag + set) % sets ≡ set
set_of_line sets set tag h = ap (λ (n : ℕ). n % sets) (commuted sets set tag) ∙ mod-mul-add tag sets set h

pub tag_of_line : (sets set tag : ℕ) → set < sets → (sets * tag + set) / sets ≡ tag
tag_of_line sets set tag h = ap (λ (n : ℕ). n / sets) (commuted sets set tag) ∙ div-mul-add tag sets set h

pub line_from_parts : (sets line set tag : ℕ) → line % sets ≡ set → line / sets ≡ tag → line ≡ sets * tag + set
line_from_parts sets line set tag e f = let whole = div-add-mod line sets in cc

pub one_line : (sets line set tag : ℕ) → set < sets → (line == sets * tag + set) ≡ (line % sets == set && line / sets == tag)
one_line sets line set tag h =
    elim (cases_eq line (sets * tag + set)) [
      | inl e ↦
          let s : line % sets ≡ set = ap (λ (n : ℕ). n % sets) e ∙ set_of_line sets set tag h in
          let t : line / sets ≡ tag = ap (λ (n : ℕ). n / sets) e ∙ tag_of_line sets set tag h in
          grind (arith, nat_tests)
      | inr ne ↦
          elim (cases_eq (line % sets) set) [
            | inr m ↦ grind (arith, nat_tests)
            | inl s ↦ elim (cases_eq (line / sets) tag) [
              | inr m ↦ grind (arith, nat_tests)
              | inl t ↦ absurd (ne (line_from_parts sets line set tag s t))
            ]
          ]
    ]
