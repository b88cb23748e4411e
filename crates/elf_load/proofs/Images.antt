-- The image of segments doesn't depend on their order, and neither does the reason to refuse it.
use Rattle.std.proofs.Common.{◌≡◌, ℕ, ◌+◌, Bool, true, false, cond, List, map, Option, Some, None, refl, ap, sym, ◌∙◌}
use Rattle.std.proofs.Math.Path.{fun_ext}
use Rattle.std.specs.List.{range_with_len}
use Rattle.std.specs.List.Sorted.{IsPermutation}
use Rattle.std.proofs.lemmas.Bool.{or_parts}
use Rattle.std.proofs.lemmas.List.Sorted.{length_permutation, list_any-IsPermutation}
use Rattle.elf_load.specs.Headers.{LoadSegment}
use Rattle.elf_load.specs.Image.{LoadedImage}
use Rattle.elf_load.specs.Meaning.{byte_in, code_in, base_of, image_in}
use Rattle.elf_load.specs.Refusal.{some_overlap, ends_above, has_bad_layout, has_bad_entry, layout_refusal}
use Rattle.elf_load.proofs.Overlap.{some_overlap-IsPermutation}
use Rattle.elf_load.proofs.Lowest.{lowest-IsPermutation}
use Rattle.elf_load.proofs.Bytes.{byte_in-IsPermutation, code_in-IsPermutation}

base_of-IsPermutation : (xs ys : List LoadSegment) → IsPermutation xs ys → base_of xs ≡ base_of ys
unfolding base_of
base_of-IsPermutation xs ys p = rw (lowest-IsPermutation xs ys p) refl

-- an image by its parts
made_of : ℕ → ℕ → (ℕ → ℕ) → (ℕ → Bool) → ℕ → LoadedImage
made_of base size bytes flags entry = record {
  base = base;
  ram = map bytes (range_with_len base size);
  code = map flags (range_with_len base size);
  entry = entry;
}

pub image_in-IsPermutation : (xs ys : List LoadSegment) (entry size : ℕ) → IsPermutation xs ys → some_overlap xs ≡ false
    → image_in xs entry size ≡ image_in ys entry size
unfolding image_in made_of
image_in-IsPermutation xs ys entry size p e =
    let bytes : byte_in xs ≡ byte_in ys = fun_ext (byte_in-IsPermutation xs ys p e) in
    let flags : code_in xs ≡ code_in ys = fun_ext (code_in-IsPermutation xs ys p) in
    ap (λ (b : ℕ). made_of b size (byte_in xs) (code_in xs) entry) (base_of-IsPermutation xs ys p)
    ∙ ap (λ (f : ℕ → ℕ). made_of (base_of ys) size f (code_in xs) entry) bytes
    ∙ ap (λ (f : ℕ → Bool). made_of (base_of ys) size (byte_in ys) f entry) flags

has_bad_layout-IsPermutation : (xs ys : List LoadSegment) (size : ℕ) → IsPermutation xs ys → has_bad_layout xs size ≡ has_bad_layout ys size
unfolding has_bad_layout
has_bad_layout-IsPermutation xs ys size p =
    rw (
      sym (length_permutation xs ys p),
      base_of-IsPermutation xs ys p,
      list_any-IsPermutation
          (ends_above (base_of ys + size)) xs ys p,
      some_overlap-IsPermutation xs ys p,
    ) refl

pub no_overlap-has_bad_layout : (xs : List LoadSegment) (size : ℕ) → has_bad_layout xs size ≡ false → some_overlap xs ≡ false
unfolding has_bad_layout
no_overlap-has_bad_layout xs size h =
    (or_parts _ _ h).1

has_bad_entry-IsPermutation : (xs ys : List LoadSegment) (entry size : ℕ) → IsPermutation xs ys → has_bad_layout xs size ≡ false
    → has_bad_entry xs entry size ≡ has_bad_entry ys entry size
unfolding has_bad_entry
has_bad_entry-IsPermutation xs ys entry size p h =
    rw (image_in-IsPermutation xs ys entry size p (no_overlap-has_bad_layout xs size h)) refl

pub layout_refusal-IsPermutation : (xs ys : List LoadSegment) (entry size : ℕ) → IsPermutation xs ys
    → layout_refusal xs entry size ≡ layout_refusal ys entry size
unfolding layout_refusal
layout_refusal-IsPermutation xs ys entry size p =
    chain (has_bad_layout xs size) (has_bad_layout ys size) (has_bad_entry xs entry size) (has_bad_entry ys entry size)
    (has_bad_layout-IsPermutation xs ys size p) (has_bad_entry-IsPermutation xs ys entry size p)
  where
    chain : (b c x y : Bool) → b ≡ c → (b ≡ false → x ≡ y)
        → ◌≡◌ {A = Option ℕ} (cond b (Some 11) (cond x (Some 12) None)) (cond c (Some 11) (cond y (Some 12) None))
    chain true c x y e f = rw (sym e) refl
    chain false c x y e f = rw (sym e, f refl) refl
