-- A line lies in RAM as a whole or not at all.
use Rattle.std.proofs.Common.{◌≡◌, ◌≢◌, ◌⊎◌, inl, inr, ℕ, ◌+◌, ◌-◌, ◌*◌, ◌/◌, ◌%◌, ◌<◌, ◌≤◌, Bool, true, false, cond, List, length, arith, ap, refl, sym, ◌∙◌}
use Rattle.std.specs.List.{replace_range}
use Rattle.std.specs.Prelude.{slice_index, slice_range, replicate, ◌==◌, ◌&&◌}
use Rattle.std.proofs.lemmas.Bool.{cases_eq, cases_lt}
use Rattle.std.proofs.lemmas.Bool.Decides.{nat_tests}
use Rattle.std.proofs.lemmas.List.{get_or-replicate}
use Rattle.elf_load.specs.Image.{LoadedImage, IsImage, in_ram, ram_byte}
use Rattle.elf_load.proofs.InRam.{in_ram-bounds, in_ram-line}
use Rattle.wb_cache.specs.Refill.{line_bytes, put_line, place_of}
use Rattle.wb_cache.proofs.Lengths.{length-replace}
use Rattle.wb_cache.proofs.Ranges.{length-range, range-read, replaced-in, replaced-off}

pub line_from : (image : LoadedImage) (line : ℕ) → in_ram image (16 * line) ≡ true → image.base ≤ 16 * line
line_from image line h = (in_ram-bounds image (16 * line) h).0

pub line_to : (image : LoadedImage) (line : ℕ) → IsImage image → in_ram image (16 * line) ≡ true → 16 * line + 16 ≤ image.base + length image.ram
line_to image line is h = omega (arith, is.aligned, is.blocks, (in_ram-bounds image (16 * line) h).1)

pub line-whole : (image : LoadedImage) (line o : ℕ) → IsImage image → o < 16 → in_ram image (16 * line + o) ≡ in_ram image (16 * line)
line-whole image line o is h = in_ram-line image (16 * line + o) (16 * line) is (omega arith)

-- the bytes of a line in main memory
pub length-line_bytes : (image : LoadedImage) (line : ℕ) (memory : List ℕ) → IsImage image → length memory ≡ length image.ram
    → length (line_bytes image line memory) ≡ 16
unfolding line_bytes
length-line_bytes image line memory is long = go (in_ram image (16 * line)) refl
  where
    go : (b : Bool) → in_ram image (16 * line) ≡ b → length (cond b (slice_range memory (place_of image line) (place_of image line + 16)) (replicate 16 0)) ≡ 16
    go true e =
        length-range memory (place_of image line) (place_of image line + 16) (omega arith) (omega (arith, line_from image line e, line_to image line is e))
        ∙ omega arith
    go false e = refl

pub line_bytes-read : (image : LoadedImage) (line o : ℕ) (memory : List ℕ) → IsImage image → o < 16
    → slice_index (line_bytes image line memory) o ≡ ram_byte image memory (16 * line + o)
unfolding line_bytes ram_byte
line_bytes-read image line o memory is h = rw (line-whole image line o is h) (go (in_ram image (16 * line)) refl)
  where
    go : (b : Bool) → in_ram image (16 * line) ≡ b
        → slice_index (cond b (slice_range memory (place_of image line) (place_of image line + 16)) (replicate 16 0)) o ≡ cond b
        (slice_index memory (16 * line + o - image.base)) 0
    go true e =
        range-read memory (place_of image line) (place_of image line + 16) o (omega arith) ∙ ap (slice_index memory) (omega (arith, line_from image line e))
    go false e = get_or-replicate 16 o 0 0 h

-- main memory with a line put there
put_off : (image : LoadedImage) (line p : ℕ) (bytes memory : List ℕ) → IsImage image → length memory ≡ length image.ram → length bytes ≡ 16
    → in_ram image (16 * line) ≡ true → in_ram image p ≡ true → p / 16 ≢ line
    → slice_index (replace_range memory (place_of image line) (place_of image line + 16) bytes) (p - image.base) ≡ slice_index memory (p - image.base)
put_off image line p bytes memory is long sixteen e f ne =
    let from = line_from image line e in
    let to = line_to image line is e in
    let within = in_ram-bounds image p f in
    replaced-off memory bytes (place_of image line) (place_of image line + 16) (p - image.base) (omega arith) (omega arith)
    (elim (cases_lt p (16 * line)) [ inl l ↦ inl (omega (arith, within.0)) | inr l ↦ inr (omega (arith, within.0)) ])

put_here : (image : LoadedImage) (line p : ℕ) (bytes memory : List ℕ) → IsImage image → length memory ≡ length image.ram → length bytes ≡ 16
    → in_ram image (16 * line) ≡ true → p / 16 ≡ line
    → slice_index (replace_range memory (place_of image line) (place_of image line + 16) bytes) (p - image.base) ≡ slice_index bytes (p % 16)
put_here image line p bytes memory is long sixteen e q =
    let from = line_from image line e in
    let to = line_to image line is e in
    let at : p - image.base ≡ place_of image line + p % 16 = omega arith in
    ap (slice_index (replace_range memory (place_of image line) (place_of image line + 16) bytes)) at
    ∙ replaced-in memory bytes (place_of image line) (place_of image line + 16) (p % 16) (omega arith) (omega arith) (omega arith)

put_line_by : (image : LoadedImage) (line p : ℕ) (bytes memory : List ℕ) (b d : Bool) → IsImage image → length memory ≡ length image.ram → length bytes ≡ 16
    → in_ram image (16 * line) ≡ b → in_ram image p ≡ d → ((p / 16 ≡ line) ⊎ (p / 16 ≢ line))
    → cond d (slice_index (cond b (replace_range memory (place_of image line) (place_of image line + 16) bytes) memory) (p - image.base)) 0 ≡ cond
    (p / 16 == line && d) (slice_index bytes (p % 16)) (cond d (slice_index memory (p - image.base)) 0)
put_line_by image line p bytes memory b false is long sixteen e f (inl q) = grind (arith, nat_tests)
put_line_by image line p bytes memory b false is long sixteen e f (inr ne) = grind (arith, nat_tests)
put_line_by image line p bytes memory true true is long sixteen e f (inl q) = put_here image line p bytes memory is long sixteen e q ∙ grind (arith, nat_tests)
put_line_by image line p bytes memory true true is long sixteen e f (inr ne) =
    put_off image line p bytes memory is long sixteen e f ne ∙ grind (arith, nat_tests)
put_line_by image line p bytes memory false true is long sixteen e f (inr ne) = grind (arith, nat_tests)
put_line_by image line p bytes memory false true is long sixteen e f (inl q) =
    let at : p ≡ 16 * line + p % 16 = omega arith in
    absurd (cc (sym f, ap (in_ram image) at, line-whole image line (p % 16) is (omega arith), e))

pub put_line-read : (image : LoadedImage) (line p : ℕ) (bytes memory : List ℕ) → IsImage image → length memory ≡ length image.ram → length bytes ≡ 16
    → ram_byte image (put_line image line bytes memory) p ≡ cond (p / 16 == line && in_ram image p) (slice_index bytes (p % 16)) (ram_byte image memory p)
unfolding put_line ram_byte
put_line-read image line p bytes memory is long sixteen =
    put_line_by image line p bytes memory (in_ram image (16 * line)) (in_ram image p) is long sixteen refl refl (cases_eq (p / 16) line)

pub length-put_line : (image : LoadedImage) (line : ℕ) (bytes memory : List ℕ) → IsImage image → length memory ≡ length image.ram → length bytes ≡ 16
    → length (put_line image line bytes memory) ≡ length memory
unfolding put_line
length-put_line image line bytes memory is long sixteen = go (in_ram image (16 * line)) refl
  where
    go : (b : Bool) → in_ram image (16 * line) ≡ b
        → length (cond b (replace_range memory (place_of image line) (place_of image line + 16) bytes) memory) ≡ length memory
    go true e =
        length-replace memory bytes (place_of image line) (place_of image line + 16) (omega arith)
        (omega (arith, line_from image line e, line_to image line is e))
    go false e = refl
