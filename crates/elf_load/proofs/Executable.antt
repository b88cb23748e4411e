-- Which bytes of an image are executable.
use Rattle.std.proofs.Common.{◌≡◌, ℕ, zero, suc, ◌+◌, ◌<◌, Bool, true, false, ◌||◌, cond, ◌*◌, ◌-◌, ◌^◌, drop, Some, None, refl, inl, inr, arith, add-one}
use Rattle.std.proofs.Common.{add-zero}
use Rattle.std.proofs.lemmas.Bool.Decides.{nat_tests}
use Rattle.std.proofs.lemmas.Bool.{and_parts, and_left, both_ways, cases_Bool}
use Rattle.std.proofs.lemmas.List.{get_or-drop}
use Rattle.byteorder.specs.Endian.{little_number}
use Rattle.byteorder.specs.Numbers.{little_from-lt}
use Rattle.elf_load.specs.Image.{LoadedImage, IsImage, in_ram, executable, any_executable, word_executable, fetch}

pub any_executable-none : (image : LoadedImage) (a : ℕ) → any_executable image a 0 ≡ false
unfolding any_executable
any_executable-none image a = refl

pub any_executable-more : (image : LoadedImage) (a n : ℕ) → any_executable image a (n + 1) ≡ (any_executable image a n || executable image (a + n))
unfolding any_executable
any_executable-more image a n = rw add-one refl

-- one executable byte among them is enough
pub any_executable-at : (image : LoadedImage) (a n k : ℕ) → k < n → executable image (a + k) ≡ true → any_executable image a n ≡ true
unfolding any_executable
any_executable-at image a zero k h e = absurd (omega arith)
any_executable-at image a (suc n) k h e = grind (arith, nat_tests, any_executable-at image a n k)

pub ruleset any_executable_steps = (any_executable-none, any_executable-more, any_executable-at)

-- where none among them is, each is not
pub any_executable-each : (image : LoadedImage) (a n k : ℕ) → any_executable image a n ≡ false → k < n → executable image (a + k) ≡ false
any_executable-each image a n k e h =
    elim (cases_Bool (executable image (a + k))) [
      | inl found ↦ absurd (both_ways _ e (any_executable-at image a n k h found))
      | inr none ↦ none
    ]

pub executable-in_ram : (image : LoadedImage) (a : ℕ) → executable image a ≡ true → in_ram image a ≡ true
unfolding executable
executable-in_ram image a h = (and_parts _ _ h).0

pub executable-outside : (image : LoadedImage) (a : ℕ) → in_ram image a ≡ false → executable image a ≡ false
unfolding executable
executable-outside image a h = and_left _ _ h

pub word_executable-byte : (image : LoadedImage) (w k : ℕ) → word_executable image w ≡ true → k < 4 → executable image (4 * w + k) ≡ true
unfolding word_executable
word_executable-byte image w zero h l = rw add-zero (and_parts _ _ (and_parts _ _ (and_parts _ _ h).0).0).0
word_executable-byte image w (suc zero) h l = (and_parts _ _ (and_parts _ _ (and_parts _ _ h).0).0).1
word_executable-byte image w (suc (suc zero)) h l = (and_parts _ _ (and_parts _ _ h).0).1
word_executable-byte image w (suc (suc (suc zero))) h l = (and_parts _ _ h).1
word_executable-byte image w (suc (suc (suc (suc k)))) h l = absurd (omega arith)

-- what is fetched is a word of executable bytes
pub fetch-executable : (image : LoadedImage) (w x : ℕ) → fetch image w ≡ Some x → word_executable image w ≡ true
unfolding fetch
fetch-executable image w x h = chosen (word_executable image w) (little_number 4 (drop (4 * w - image.base) image.ram)) h
  where
    chosen : (b : Bool) (y : ℕ) → cond b (Some y) None ≡ Some x → b ≡ true
    chosen true y e = refl
    chosen false y e = absurd (cc)

pub fetch-none : (image : LoadedImage) (w : ℕ) → word_executable image w ≡ false → fetch image w ≡ None
unfolding fetch
fetch-none image w h = rw h refl

pub fetch-some : (image : LoadedImage) (w : ℕ) → word_executable image w ≡ true → fetch image w ≡ Some (little_number 4 (drop (4 * w - image.base) image.ram))
unfolding fetch
fetch-some image w h = rw h refl

-- a word that is fetched has 32 bits
pub fetch-below : (image : LoadedImage) (w x : ℕ) → IsImage image → fetch image w ≡ Some x → x < 2 ^ 32
unfolding fetch
fetch-below image w x i h = chosen (word_executable image w) (little_number 4 (drop (4 * w - image.base) image.ram)) h small
  where
    small : little_number 4 (drop (4 * w - image.base) image.ram) < 2 ^ 32
    small = little_from-lt 0 4 (drop (4 * w - image.base) image.ram) (λ k. rw get_or-drop (i.bytes (4 * w - image.base + k)))

    chosen : (b : Bool) (y : ℕ) → cond b (Some y) None ≡ Some x → y < 2 ^ 32 → x < 2 ^ 32
    chosen true y e l = let same : y ≡ x = cc in omega (arith, same, l)
    chosen false y e l = absurd (cc)
