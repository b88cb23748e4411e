-- The slots and main memory after a refill: the victim is written back where it is valid and dirty, the line stands in its
-- slot, and every other slot stays.
use Rattle.std.proofs.Common.{◌≡◌, ◌≢◌, inl, inr, ℕ, ◌+◌, ◌*◌, ◌<◌, ◌≤◌, true, false, cond, List, length, arith, refl, ◌∙◌}
use Rattle.std.specs.Prelude.{slice_index, nat_lt}
use Rattle.std.specs.List.{replace_range}
use Rattle.std.proofs.lemmas.Bool.{cases_lt}
use Rattle.std.proofs.lemmas.Bool.Decides.{nat_tests}
use Rattle.std.proofs.lemmas.List.{get_or-set_same, get_or-set_other}
use Rattle.elf_load.specs.Image.{LoadedImage, IsImage, ram_byte}
use Rattle.wb_cache.specs.Changes.{put_slot, filled_slot}
use Rattle.wb_cache.specs.Contents.{Contents, IsSized, slots, slot_at, slot_of}
use Rattle.wb_cache.specs.Lookup.{set_of, tag_of}
use Rattle.wb_cache.specs.Refill.{filled, line_bytes}
use Rattle.wb_cache.proofs.Ram.{line_bytes-read, length-line_bytes}
use Rattle.wb_cache.proofs.Ranges.{replaced-in, replaced-off}
use Rattle.wb_cache.proofs.Sizes.{slot_below}
use Rattle.wb_cache.proofs.Slots.{slots-changed, same_slot}
use Rattle.wb_cache.proofs.Written.{byte_by}

filled_byte : (image : LoadedImage) (line l o : ℕ) (memory bytes : List ℕ) → IsImage image → length memory ≡ length image.ram → 16 * l + 16 ≤ length bytes
    → cond (nat_lt o 16) (slice_index (replace_range bytes (16 * l) (16 * l + 16) (line_bytes image line memory)) (16 * l + o)) 0 ≡ cond (nat_lt o 16)
    (ram_byte image memory (16 * line + o)) 0
filled_byte image line l o memory bytes is long within =
    byte_by o (cases_lt o 16) _ _
    (λ m. replaced-in bytes (line_bytes image line memory) (16 * l) (16 * l + 16) o (omega (arith, length-line_bytes image line memory is long)) within
    (omega (arith, length-line_bytes image line memory is long))
    ∙ line_bytes-read image line o memory is m
    ∙ grind (arith, nat_tests))
    (λ m. grind (arith, nat_tests))

kept_byte : (image : LoadedImage) (line l m o : ℕ) (memory bytes : List ℕ) → IsImage image → length memory ≡ length image.ram → 16 * l + 16 ≤ length bytes
    → m ≢ l
    → cond (nat_lt o 16) (slice_index (replace_range bytes (16 * l) (16 * l + 16) (line_bytes image line memory)) (16 * m + o)) 0 ≡ cond (nat_lt o 16)
    (slice_index bytes (16 * m + o)) 0
kept_byte image line l m o memory bytes is long within ne =
    byte_by o (cases_lt o 16) _ _
    (λ p. replaced-off bytes (line_bytes image line memory) (16 * l) (16 * l + 16) (16 * m + o)
    (omega (arith, length-line_bytes image line memory is long)) within (elim (cases_lt m l) [ inl q ↦ inl (omega arith) | inr q ↦ inr (omega arith) ])
    ∙ grind (arith, nat_tests))
    (λ p. grind (arith, nat_tests))

pub slots-filled : (image : LoadedImage) (line way : ℕ) (memory : List ℕ) (c : Contents) → IsImage image → length memory ≡ length image.ram → IsSized c
    → set_of c.shape line < c.shape.sets → way < c.shape.ways
    → slots (filled image line way memory c) ≡ put_slot (set_of c.shape line) way (filled_slot c.shape (ram_byte image memory) line) (slots c)
unfolding filled slot_at filled_slot
slots-filled image line way memory c is long sized h l =
    let below = slot_below c.shape (set_of c.shape line) way sized.shape h l in
    let n : ℕ = slot_of c.shape (set_of c.shape line) way in
    let within : 16 * n + 16 ≤ length c.bytes = omega (arith, sized.bytes) in
    slots-changed c (filled image line way memory c) (set_of c.shape line) way (filled_slot c.shape (ram_byte image memory) line) sized.shape refl h l
    (same_slot _ _
    (get_or-set_same c.valid n true false (omega (arith, sized.valid)))
    (get_or-set_same c.dirty n false false (omega (arith, sized.dirty)))
    (get_or-set_same c.tags n (tag_of c.shape line) 0 (omega (arith, sized.tags)))
    (λ o. filled_byte image line n o memory c.bytes is long within))
    (λ m inside ne. same_slot _ _
    (get_or-set_other c.valid n m true false ne)
    (get_or-set_other c.dirty n m false false ne)
    (get_or-set_other c.tags n m (tag_of c.shape line) 0 ne)
    (λ o. kept_byte image line n m o memory c.bytes is long within ne))
