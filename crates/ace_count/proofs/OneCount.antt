-- A run has one count.
use Rattle.std.proofs.Common.{◌≡◌, ℕ, zero, suc, ◌<◌, List, [], refl, sym, ◌∙◌, subst, arith}
use Rattle.std.specs.Prelude.{slice_index_or}
use Rattle.std.proofs.lemmas.List.{ext_get_or}
use Rattle.bit_field.specs.Shapes.{bits_in}
use Rattle.bit_field.specs.declared.places.Structure.{Structure}
use Rattle.bit_field.specs.declared.places.Structure.TheVariants.{Pc}
use Rattle.bit_field.specs.declared.shapes.Shape.{Shape}
use Rattle.ace_class.specs.Counts.{Counted, place_of, row_of, structures}
use Rattle.ace_rules.specs.Notes.{Story}
use Rattle.ace_count.specs.RunCounts.{AreCounts, HasClass, IsRowOf}
use Rattle.ace_count.proofs.BitClasses.{one_each}
use Rattle.ace_rules.proofs.Tallies.{tally-one}

at : ℕ → Structure
at i = slice_index_or structures i Pc

place-at : (i : ℕ) → i < 16 → place_of (at i) ≡ i
unfolding at
place-at zero l = refl
place-at (suc zero) l = refl
place-at (suc (suc zero)) l = refl
place-at (suc (suc (suc zero))) l = refl
place-at (suc (suc (suc (suc zero)))) l = refl
place-at (suc (suc (suc (suc (suc zero))))) l = refl
place-at (suc (suc (suc (suc (suc (suc zero)))))) l = refl
place-at (suc (suc (suc (suc (suc (suc (suc zero))))))) l = refl
place-at (suc (suc (suc (suc (suc (suc (suc (suc zero)))))))) l = refl
place-at (suc (suc (suc (suc (suc (suc (suc (suc (suc zero))))))))) l = refl
place-at (suc (suc (suc (suc (suc (suc (suc (suc (suc (suc zero)))))))))) l = refl
place-at (suc (suc (suc (suc (suc (suc (suc (suc (suc (suc (suc zero))))))))))) l = refl
place-at (suc (suc (suc (suc (suc (suc (suc (suc (suc (suc (suc (suc zero)))))))))))) l = refl
place-at (suc (suc (suc (suc (suc (suc (suc (suc (suc (suc (suc (suc (suc zero))))))))))))) l = refl
place-at (suc (suc (suc (suc (suc (suc (suc (suc (suc (suc (suc (suc (suc (suc zero)))))))))))))) l = refl
place-at (suc (suc (suc (suc (suc (suc (suc (suc (suc (suc (suc (suc (suc (suc (suc zero))))))))))))))) l = refl
place-at (suc (suc (suc (suc (suc (suc (suc (suc (suc (suc (suc (suc (suc (suc (suc (suc n)))))))))))))))) l = absurd (omega (arith, l))

one-row : (story : Story) (s : Structure) (a b : List ℕ) → IsRowOf story s a → IsRowOf story s b → a ≡ b
one-row story s a b h k =
    ext_get_or 0 a b (h.full ∙ sym k.full)
    (λ n l. tally-one (HasClass story s) (bits_in s story.r.shape) story.r.cycles a b (one_each story s) h k n)

one-rows : (story : Story) (a b : Counted) → AreCounts story a → AreCounts story b → (i : ℕ) → i < 16
    → slice_index_or a.rows i [] ≡ slice_index_or b.rows i []
one-rows story a b h k i l =
    subst (λ (j : ℕ). slice_index_or a.rows j [] ≡ slice_index_or b.rows j []) (place-at i l)
    (one-row story (at i) (row_of a (at i)) (row_of b (at i)) (h.rows (at i)) (k.rows (at i)))

counted : Shape → ℕ → List (List ℕ) → Counted
counted shape cycles rows = record { shape = shape; cycles = cycles; rows = rows }

alike : (shape shape' : Shape) (cycles cycles' : ℕ) (rows rows' : List (List ℕ)) → shape ≡ shape' → cycles ≡ cycles' → rows ≡ rows'
    → counted shape cycles rows ≡ counted shape' cycles' rows'
alike shape shape' cycles cycles' rows rows' s c r = cc

pub counts_unique : (story : Story) (a b : Counted) → AreCounts story a → AreCounts story b → a ≡ b
unfolding counted
counts_unique story a b h k =
    alike a.shape b.shape a.cycles b.cycles a.rows b.rows (h.shape ∙ sym k.shape) (h.cycles ∙ sym k.cycles)
    (ext_get_or [] a.rows b.rows (h.all ∙ sym k.all) (λ i l. one-rows story a b h k i (omega (arith, l, h.all))))
