-- What holds of segments whose layout is accepted.
use Rattle.std.proofs.Common.{◌≡◌, ◌≢◌, ℕ, zero, suc, ◌+◌, ◌/◌, ◌%◌, ◌^◌, ◌<◌, ◌≤◌, Bool, true, false, cond, leb, eqb, List, [], ◌∷◌, length, map}
use Rattle.std.proofs.Common.{slice_index, Option, Some, None, is_none, IsSome, refl, ap, sym, subst, ◌∙◌, rules, arith}
use Rattle.std.specs.List.{list_any, range_with_len, All}
use Rattle.std.proofs.lemmas.Bool.{or_parts, ltb-false, leb-false, eqb-true, eqb-false, not-false}
use Rattle.std.proofs.lemmas.List.{length-map}
use Rattle.std.proofs.lemmas.List.FromFn.{length-map-range_with_len}
use Rattle.elf_load.specs.declared.segment.Segment.{Segment}
use Rattle.elf_load.specs.Answers.{lent}
use Rattle.elf_load.specs.Filling.{FitRam}
use Rattle.elf_load.specs.Headers.{LoadSegment}
use Rattle.elf_load.specs.Image.{LoadedImage, IsImage, fetch}
use Rattle.elf_load.specs.Layout.{IsRamSize, AreInOrder, AreApart}
use Rattle.elf_load.specs.Meaning.{byte_in, code_in, base_of, image_in}
use Rattle.elf_load.specs.Refusal.{ends_above, has_bad_layout, has_bad_entry, layout_refusal}
use Rattle.elf_load.proofs.Lowest.{base_of-le}

first_no : (b : Bool) (k : ℕ) (rest : Option ℕ) → cond b (Some k) rest ≡ None → (b ≡ false) × (rest ≡ None)
first_no true k rest e = absurd (cc)
first_no false k rest e = (refl, e)

layout_accepted : (xs : List LoadSegment) (entry size : ℕ) → layout_refusal xs entry size ≡ None
    → (has_bad_layout xs size ≡ false) × (has_bad_entry xs entry size ≡ false)
unfolding layout_refusal
layout_accepted xs entry size h =
    let first = first_no (has_bad_layout xs size) 11 _ h in
    (first.0, (first_no (has_bad_entry xs entry size) 12 _ first.1).0)

pub AreInOrder-AreApart : (xs : List LoadSegment) → AreApart xs → AreInOrder xs
AreInOrder-AreApart xs o = record { some = o.some; rising = λ i j d p q. omega (arith, o.apart i j d p q) }

pub accepted-some : (xs : List Segment) (entry size : ℕ) → layout_refusal (map lent xs) entry size ≡ None → 0 < length xs
unfolding has_bad_layout
accepted-some xs entry size h =
    let some : eqb (length (map lent xs)) 0 ≡ false = (or_parts _ _ (or_parts _ _ (or_parts _ _ (layout_accepted (map lent xs) entry size h).0).0).0).0 in
    let filled : length (map lent xs) ≢ 0 = eqb-false (length (map lent xs)) 0 some in
    omega (arith, filled, length-map xs lent)

not_above : (limit : ℕ) (xs : List LoadSegment) → list_any (ends_above limit) xs ≡ false → All (λ s. s.vaddr + s.memsz ≤ limit) xs
unfolding ends_above
not_above limit [] e k d p = absurd (omega arith)
not_above limit (s ∷ rest) e zero d p = ltb-false _ _ (or_parts _ _ e).0
not_above limit (s ∷ rest) e (suc k) d p = not_above limit rest (or_parts _ _ e).1 k d (omega arith)

layout_parts : (xs : List LoadSegment) (size : ℕ) → has_bad_layout xs size ≡ false
    → (leb (2 ^ 32) (base_of xs + size) ≡ false) × (list_any (ends_above (base_of xs + size)) xs ≡ false)
unfolding has_bad_layout
layout_parts xs size h =
    let most = or_parts _ _ h in
    let ends = or_parts _ _ most.0 in
    ((or_parts _ _ ends.0).1, ends.1)

pub accepted-FitRam : (xs : List LoadSegment) (entry size base : ℕ) → base ≡ base_of xs → AreApart xs → All (λ s. length s.bytes ≤ s.memsz) xs
    → layout_refusal xs entry size ≡ None → FitRam xs base size
accepted-FitRam xs entry size base b o l h =
    let inside : All (λ s. s.vaddr + s.memsz ≤ base_of xs + size) xs =
    not_above (base_of xs + size) xs (layout_parts xs size (layout_accepted xs entry size h).0).1 in
    record {
      order = o;
      above = λ k d p. omega (arith, b, base_of-le xs k d p);
      below = λ k d p. omega (arith, b, inside k d p);
      bytes = l;
    }

entry_accepted : (xs : List LoadSegment) (entry size : ℕ) → has_bad_entry xs entry size ≡ false
    → (entry % 4 ≡ 0) × IsSome (fetch (image_in xs entry size) (entry / 4))
unfolding has_bad_entry
entry_accepted xs entry size h =
    let parts = or_parts _ _ h in
    (eqb-true (entry % 4) 0 (not-false _ parts.0), is_there (fetch (image_in xs entry size) (entry / 4)) parts.1)
  where
    is_there : (o : Option ℕ) → is_none o ≡ false → IsSome o
    is_there None e = absurd (cc)
    is_there (Some w) e = search rules

pub accepted-IsImage : (xs : List LoadSegment) (entry size : ℕ) → IsRamSize size → layout_refusal xs entry size ≡ None
    → ((k : ℕ) → slice_index (map (byte_in xs) (range_with_len (base_of xs) size)) k < 256) → IsImage (image_in xs entry size)
unfolding image_in base_of
accepted-IsImage xs entry size r h bytes =
    let accepted = layout_accepted xs entry size h in
    let limit : base_of xs + size < 2 ^ 32 = leb-false (2 ^ 32) (base_of xs + size) (layout_parts xs size accepted.0).0 in
    let entered = entry_accepted xs entry size accepted.1 in
    let ram : length (map (byte_in xs) (range_with_len (base_of xs) size)) ≡ size = length-map-range_with_len (byte_in xs) (base_of xs) size in
    let code : length (map (code_in xs) (range_with_len (base_of xs) size)) ≡ size = length-map-range_with_len (code_in xs) (base_of xs) size in
    record {
      aligned = omega arith;
      blocks = rw ram r.blocks;
      below = omega (arith, ram, limit);
      flags = code ∙ sym ram;
      bytes = bytes;
      entry_aligned = entered.0;
      entry_executable = entered.1;
    }

-- an image of parts that are those of the segments
pub made : (xs : List LoadSegment) (entry size base : ℕ) (ram : List ℕ) (code : List Bool) → base ≡ base_of xs
    → ram ≡ map (byte_in xs) (range_with_len base size) → code ≡ map (code_in xs) (range_with_len base size) →
    ◌≡◌ {A = LoadedImage} (record { base = base; ram = ram; code = code; entry = entry }) (image_in xs entry size)
unfolding image_in
made xs entry size base ram code b r c = rw (r, c, b) refl

pub made-IsImage : (xs : List LoadSegment) (entry size base : ℕ) (ram : List ℕ) (code : List Bool) → IsRamSize size → layout_refusal xs entry size ≡ None
    → base ≡ base_of xs → ram ≡ map (byte_in xs) (range_with_len base size) → code ≡ map (code_in xs) (range_with_len base size) →
    ((k : ℕ) → slice_index ram k < 256) → IsImage (record { base = base; ram = ram; code = code; entry = entry })
made-IsImage xs entry size base ram code r h b e f bytes =
    let P : List ℕ → Type 0 = λ m. (k : ℕ) → slice_index m k < 256 in
    let there : ram ≡ map (byte_in xs) (range_with_len (base_of xs) size) = e ∙ ap (λ (n : ℕ). map (byte_in xs) (range_with_len n size)) b in
    subst IsImage (sym (made xs entry size base ram code b e f)) (accepted-IsImage xs entry size r h (subst P there bytes))
