-- Which segments a program has is accepted by the loader, and its entry where a word of the text part stands there.
use Rattle.std.proofs.Common.{◌≡◌, ℕ, ◌+◌, ◌%◌, ◌^◌, ◌≤◌, ◌&&◌, not, Bool, true, false, cond}
use Rattle.std.proofs.Common.{List, [], ◌∷◌, length, Some, None, Option, refl, sym, arith, inl, inr}
use Rattle.std.specs.Prelude.{nat_le}
use Rattle.std.proofs.lemmas.Bool.Decides.{eqb_tells, nat_tests}
use Rattle.elf_load.specs.Headers.{LoadSegment}
use Rattle.elf_load.specs.Meaning.{base_of, code_in, holds, lowest}
use Rattle.elf_load.specs.Refusal.{ends_above, has_bad_layout, layout_refusal, overlaps, some_overlap}
use Rattle.elf_load.proofs.Entry.{has_bad_entry-code, has_bad_entry-odd}
use Rattle.elf_write.specs.Loading.{text_segment, data_segment, begins_in_text}
use Rattle.elf_write.specs.declared.layout.TheConstants.{TEXT_BASE}

text_layout : (text_part : List ℕ) (size : ℕ) → length text_part ≤ 458752 → 2 ^ 20 ≤ size → size ≤ 2 ^ 24
    → has_bad_layout (text_segment text_part ∷ []) size ≡ false
unfolding has_bad_layout base_of lowest ends_above some_overlap
text_layout text_part size small least most = grind (arith, nat_tests)

both_layout : (text_part data_part : List ℕ) (size : ℕ) → length text_part ≤ 458752 → length data_part ≤ 524288 → 2 ^ 20 ≤ size → size ≤ 2 ^ 24
    → has_bad_layout (text_segment text_part ∷ data_segment data_part ∷ []) size ≡ false
unfolding has_bad_layout base_of lowest ends_above some_overlap overlaps
both_layout text_part data_part size small less least most = grind (arith, nat_tests)

-- the word at an address is code where it stands in the text part
text_word : (text_part : List ℕ) (a : ℕ) → let code = code_in (text_segment text_part ∷ []) in
    (code a && code (a + 1) && code (a + 2) && code (a + 3)) ≡ (nat_le TEXT_BASE a && nat_le (a + 4) (TEXT_BASE + length text_part))
unfolding code_in holds
text_word text_part a = grind (arith, nat_tests)

both_word : (text_part data_part : List ℕ) (a : ℕ) → let code = code_in (text_segment text_part ∷ data_segment data_part ∷ []) in
    (code a && code (a + 1) && code (a + 2) && code (a + 3)) ≡ (nat_le TEXT_BASE a && nat_le (a + 4) (TEXT_BASE + length text_part))
unfolding code_in holds
both_word text_part data_part a = grind (arith, nat_tests)

-- the last reasons to refuse segments whose layout is accepted and whose code is the text part
by_entry : (segments : List LoadSegment) (begin n size : ℕ) → has_bad_layout segments size ≡ false
    → (code_in segments begin && code_in segments (begin + 1) && code_in segments (begin + 2) && code_in segments (begin + 3))
    ≡ (nat_le TEXT_BASE begin && nat_le (begin + 4) (TEXT_BASE + n))
    → layout_refusal segments begin size ≡ cond (begins_in_text begin n) None (Some 12)
unfolding layout_refusal begins_in_text
by_entry segments begin n size layout word = elim (eqb_tells (begin % 4) 0) [
  | inl even ↦
      let bad = has_bad_entry-code segments begin size layout even.1 in
      let low : Bool = nat_le TEXT_BASE begin in
      let high : Bool = nat_le (begin + 4) (TEXT_BASE + n) in
      rw (layout, bad, word, even.0) (turned (low && high) low high refl)
  | inr odd ↦
      let bad = has_bad_entry-odd segments begin size odd.1 in
      rw (layout, bad, odd.0) refl
]
  where
    turned : (b x y : Bool) → b ≡ (x && y) → ◌≡◌ {A = Option ℕ} (cond (not b) (Some 12) None) (cond (x && y) None (Some 12))
    turned true x y e = rw (sym e) refl
    turned false x y e = rw (sym e) refl

pub text_refusal : (begin size : ℕ) (text_part : List ℕ) → length text_part ≤ 458752 → 2 ^ 20 ≤ size → size ≤ 2 ^ 24
    → layout_refusal (text_segment text_part ∷ []) begin size ≡ cond (begins_in_text begin (length text_part)) None (Some 12)
text_refusal begin size text_part small least most =
    by_entry (text_segment text_part ∷ []) begin (length text_part) size (text_layout text_part size small least most) (text_word text_part begin)

pub both_refusal : (begin size : ℕ) (text_part data_part : List ℕ) → length text_part ≤ 458752 → length data_part ≤ 524288 → 2 ^ 20 ≤ size → size ≤ 2 ^ 24
    → layout_refusal (text_segment text_part ∷ data_segment data_part ∷ []) begin size ≡ cond (begins_in_text begin (length text_part)) None (Some 12)
both_refusal begin size text_part data_part small less least most =
    by_entry (text_segment text_part ∷ data_segment data_part ∷ []) begin (length text_part) size
    (both_layout text_part data_part size small less least most) (both_word text_part data_part begin)
