-- Places are told by their structure's place in the order of a report.
use Rattle.std.proofs.Common.{◌≡◌, ℕ, zero, suc, ◌<◌, get_or, refl, ap, ◌∙◌, arith}
use Rattle.bit_field.specs.declared.places.Place.{Place}
use Rattle.bit_field.specs.declared.places.Structure.{Structure}
use Rattle.ace_class.specs.Counts.{place_of, structures}
use Rattle.ace_class.proofs.Places.{same_structure}

pub same_place : (p q : Place) → place_of p.structure ≡ place_of q.structure → p.bit ≡ q.bit → p ≡ q
same_place p q e b =
    ap (λ (s : Structure). let r : Place = record { structure = s; bit = p.bit } in r) (same_structure p.structure q.structure e)
    ∙ ap (λ (n : ℕ). let r : Place = record { structure = q.structure; bit = n } in r) b

-- the structure at a place of the list
pub place_at : (i : ℕ) (d : Structure) → i < 16 → place_of (get_or structures i d) ≡ i
place_at zero d h = refl
place_at (suc zero) d h = refl
place_at (suc (suc zero)) d h = refl
place_at (suc (suc (suc zero))) d h = refl
place_at (suc (suc (suc (suc zero)))) d h = refl
place_at (suc (suc (suc (suc (suc zero))))) d h = refl
place_at (suc (suc (suc (suc (suc (suc zero)))))) d h = refl
place_at (suc (suc (suc (suc (suc (suc (suc zero))))))) d h = refl
place_at (suc (suc (suc (suc (suc (suc (suc (suc zero)))))))) d h = refl
place_at (suc (suc (suc (suc (suc (suc (suc (suc (suc zero))))))))) d h = refl
place_at (suc (suc (suc (suc (suc (suc (suc (suc (suc (suc zero)))))))))) d h = refl
place_at (suc (suc (suc (suc (suc (suc (suc (suc (suc (suc (suc zero))))))))))) d h = refl
place_at (suc (suc (suc (suc (suc (suc (suc (suc (suc (suc (suc (suc zero)))))))))))) d h = refl
place_at (suc (suc (suc (suc (suc (suc (suc (suc (suc (suc (suc (suc (suc zero))))))))))))) d h = refl
place_at (suc (suc (suc (suc (suc (suc (suc (suc (suc (suc (suc (suc (suc (suc zero)))))))))))))) d h = refl
place_at (suc (suc (suc (suc (suc (suc (suc (suc (suc (suc (suc (suc (suc (suc (suc zero))))))))))))))) d h = refl
place_at (suc (suc (suc (suc (suc (suc (suc (suc (suc (suc (suc (suc (suc (suc (suc (suc n)))))))))))))))) d h = absurd (omega arith)
