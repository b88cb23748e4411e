-- A flip of a bit of the cache changes that bit and no other, whichever of its five arrays it stands in.
use Rattle.std.proofs.Common.{◌≡◌, ◌≢◌, ℕ, ◌-◌, ◌*◌, ◌^◌, ◌<◌, List, length, arith, ap, refl, sym, ◌∙◌}
use Rattle.std.proofs.Math.ListN.{length-set}
use Rattle.std.specs.Prelude.{bit_xor}
use Rattle.std.specs.List.{All}
use Rattle.std.specs.Int.{bit_at}
use Rattle.bit_field.specs.Laws.{FlipLaws}
use Rattle.bit_field.specs.Shapes.{bits_in, tag_bits, slots as slot_count}
use Rattle.bit_field.specs.declared.shapes.Shape.{Shape}
use Rattle.bit_field.specs.declared.places.Structure.{Structure}
use Rattle.bit_field.specs.declared.places.Structure.TheVariants.{CData, CTag, CValid, CDirty, CLru}
use Rattle.bit_field.proofs.Arrays.{laws_of_list, laws_of_number}
use Rattle.bit_field.proofs.Flags.{laws_of_flags}
use Rattle.wb_cache.specs.Bits.{bit_in, flip_in, IsCache, bit_of_tags, flip_tag}
use Rattle.wb_cache.specs.Contents.{Contents, IsContents}
use Rattle.wb_cache.proofs.ArrayLaws.{data_laws}
use Rattle.wb_cache.proofs.Lengths.{sized-same}

-- tags of one width
pub tags_laws : (width : ℕ) → 0 < width → FlipLaws (All (λ t. t < 2 ^ width)) (λ xs. length xs * width) (bit_of_tags width) (flip_tag width)
tags_laws width pos = laws_of_list width 0 (λ t. t < 2 ^ width) bit_at (λ v j. bit_xor v (2 ^ j)) pos (laws_of_number width)

width_positive : (c : Contents) → IsContents c → 0 < tag_bits c.shape
width_positive c is = grind (arith, is.sized.shape.sets)

-- a place in an array is one in the list that holds it
data_place : (c : Contents) (k : ℕ) → IsContents c → k < bits_in CData c.shape → k < length c.bytes * 8
data_place c k is l = omega (arith, is.sized.bytes)

tag_place : (c : Contents) (k : ℕ) → IsContents c → k < bits_in CTag c.shape → k < length c.tags * tag_bits c.shape
tag_place c k is l = rw (is.sized.tags) l

pub cache_flips_it : (s : Structure) (c : Contents) (k : ℕ) → IsContents c → IsCache s → k < bits_in s c.shape → bit_in s (flip_in s c k) k ≡ 1 - bit_in s c k
cache_flips_it CData c k is h l = data_laws.flips_it c.bytes k is.bytes (data_place c k is l)
cache_flips_it CTag c k is h l = (tags_laws (tag_bits c.shape) (width_positive c is)).flips_it c.tags k is.widths (tag_place c k is l)
cache_flips_it CValid c k is h l = laws_of_flags.flips_it c.valid k tt (rw (is.sized.valid) l)
cache_flips_it CDirty c k is h l = laws_of_flags.flips_it c.dirty k tt (rw (is.sized.dirty) l)
cache_flips_it CLru c k is h l = laws_of_flags.flips_it c.nodes k tt (rw (is.sized.nodes) l)
cache_flips_it _ c k is h l = absurd h

pub cache_flips_no_other : (a b : Structure) (c : Contents) (k j : ℕ) → IsContents c → IsCache a → k < bits_in a c.shape → j < bits_in b c.shape
    → (a ≡ b → j ≢ k) → bit_in b (flip_in a c k) j ≡ bit_in b c j
cache_flips_no_other CData CData c k j is h l m ne = data_laws.flips_no_other c.bytes k j is.bytes (data_place c k is l) (data_place c j is m) (ne refl)
cache_flips_no_other CTag CTag c k j is h l m ne =
    (tags_laws (tag_bits c.shape) (width_positive c is)).flips_no_other c.tags k j is.widths (tag_place c k is l) (tag_place c j is m) (ne refl)
cache_flips_no_other CValid CValid c k j is h l m ne = laws_of_flags.flips_no_other c.valid k j tt (rw (is.sized.valid) l) (rw (is.sized.valid) m) (ne refl)
cache_flips_no_other CDirty CDirty c k j is h l m ne = laws_of_flags.flips_no_other c.dirty k j tt (rw (is.sized.dirty) l) (rw (is.sized.dirty) m) (ne refl)
cache_flips_no_other CLru CLru c k j is h l m ne = laws_of_flags.flips_no_other c.nodes k j tt (rw (is.sized.nodes) l) (rw (is.sized.nodes) m) (ne refl)
cache_flips_no_other _ _ c k j is h l m ne = refl

pub cache_restores : (s : Structure) (c : Contents) (k : ℕ) → IsContents c → IsCache s → k < bits_in s c.shape → flip_in s (flip_in s c k) k ≡ c
cache_restores CData c k is h l = ap (λ (x : List ℕ). record c { bytes = x }) (data_laws.restores c.bytes k is.bytes (data_place c k is l))
cache_restores CTag c k is h l =
    ap (λ (x : List ℕ). record c { tags = x }) ((tags_laws (tag_bits c.shape) (width_positive c is)).restores c.tags k is.widths (tag_place c k is l))
cache_restores CValid c k is h l = ap (λ x. record c { valid = x }) (laws_of_flags.restores c.valid k tt (rw (is.sized.valid) l))
cache_restores CDirty c k is h l = ap (λ x. record c { dirty = x }) (laws_of_flags.restores c.dirty k tt (rw (is.sized.dirty) l))
cache_restores CLru c k is h l = ap (λ x. record c { nodes = x }) (laws_of_flags.restores c.nodes k tt (rw (is.sized.nodes) l))
cache_restores _ c k is h l = absurd h

-- contents of one shape with all bits equal are equal
pub cache_same : (c e : Contents) → IsContents c → IsContents e → c.shape ≡ e.shape
    → ((s : Structure) (k : ℕ) → IsCache s → k < bits_in s c.shape → bit_in s c k ≡ bit_in s e k) → c ≡ e
cache_same c e is other same bits =
    let count : slot_count c.shape ≡ slot_count e.shape = ap slot_count same in
    let nodes : c.shape.sets * (c.shape.ways - 1) ≡ e.shape.sets * (e.shape.ways - 1) = ap (λ (s : Shape). s.sets * (s.ways - 1)) same in
    let width : tag_bits e.shape ≡ tag_bits c.shape = ap tag_bits (sym same) in
    let widths : All (λ t. t < 2 ^ tag_bits c.shape) e.tags = rw width at other.widths in
    let bytes : c.bytes ≡ e.bytes =
    data_laws.same c.bytes e.bytes is.bytes other.bytes (ap (λ (n : ℕ). n * 8) (is.sized.bytes ∙ ap (λ (n : ℕ). 16 * n) count ∙ sym other.sized.bytes))
    (λ k l. bits CData k tt (omega (arith, is.sized.bytes))) in
    let tags : c.tags ≡ e.tags =
    (tags_laws (tag_bits c.shape) (width_positive c is)).same c.tags e.tags is.widths widths
    (ap (λ (n : ℕ). n * tag_bits c.shape) (is.sized.tags ∙ count ∙ sym other.sized.tags))
    (λ k l. bits CTag k tt (rw (sym is.sized.tags) l) ∙ ap (λ (w : ℕ). bit_of_tags w e.tags k) width) in
    let valid : c.valid ≡ e.valid =
    laws_of_flags.same c.valid e.valid tt tt (is.sized.valid ∙ count ∙ sym other.sized.valid) (λ k l. bits CValid k tt (rw (sym is.sized.valid) l)) in
    let dirty : c.dirty ≡ e.dirty =
    laws_of_flags.same c.dirty e.dirty tt tt (is.sized.dirty ∙ count ∙ sym other.sized.dirty) (λ k l. bits CDirty k tt (rw (sym is.sized.dirty) l)) in
    let trees : c.nodes ≡ e.nodes =
    laws_of_flags.same c.nodes e.nodes tt tt (is.sized.nodes ∙ nodes ∙ sym other.sized.nodes) (λ k l. bits CLru k tt (rw (sym is.sized.nodes) l)) in
    λ i. record { shape = same i; bytes = bytes i; tags = tags i; valid = valid i; dirty = dirty i; nodes = trees i }

-- a flip keeps the lengths and the widths
pub cache_stays : (s : Structure) (c : Contents) (k : ℕ) → IsContents c → IsCache s → k < bits_in s c.shape → IsContents (flip_in s c k)
cache_stays CData c k is h l =
    record {
      sized = sized-same c _ is.sized refl (length-set c.bytes _ _) refl refl refl refl;
      bytes = data_laws.fit_stays c.bytes k is.bytes
          (data_place c k is l);
      widths = is.widths;
    }
cache_stays CTag c k is h l =
    record {
      sized = sized-same c _ is.sized refl refl (length-set c.tags _ _) refl refl refl;
      bytes = is.bytes;
      widths =
          (tags_laws (tag_bits c.shape) (width_positive c is)).fit_stays c.tags k is.widths (tag_place c k is l);
    }
cache_stays CValid c k is h l =
    record { sized = sized-same c _ is.sized refl refl refl (length-set c.valid _ _) refl refl; bytes = is.bytes; widths = is.widths }
cache_stays CDirty c k is h l =
    record { sized = sized-same c _ is.sized refl refl refl refl (length-set c.dirty _ _) refl; bytes = is.bytes; widths = is.widths }
cache_stays CLru c k is h l = record { sized = sized-same c _ is.sized refl refl refl refl refl (length-set c.nodes _ _); bytes = is.bytes; widths = is.widths }
cache_stays _ c k is h l = absurd h
