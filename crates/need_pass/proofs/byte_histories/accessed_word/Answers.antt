use Rattle.std.proofs.Common.{◌≡◌, ◌↔◌, ℕ, ◌+◌, ◌*◌, ◌<◌, ◌^◌, [], ◌∷◌, ◌∙◌, ap}
use Rattle.std.specs.Int.{bit_at}
use Rattle.std.specs.Prelude.{slice_index}
use Rattle.need_pass.specs.Tables.{byte_mask}
use Rattle.need_pass.proofs.ByteBits.{accessed_bits, each_of_four, word_bits}
use Rattle.need_pass.proofs.byte_histories.accessed_word.Goals as goal

pub returns : goal.returns
returns c =
    let f : ℕ → ℕ = λ p. byte_mask c.args.histories.now.entries p 0 in
    let b0 = c.accessed_byte.result in
    let b1 = c.accessed_byte-2.result in
    let b2 = c.accessed_byte-3.result in
    let b3 = c.accessed_byte-4.result in
    let P : ℕ → ℕ → Type 0 = λ n x. (j : ℕ) → j < 8 → (bit_at x j ≡ 1) ↔ ((n < c.args.size) × (c.args.addr + n < 2 ^ 32) × (bit_at (f (c.args.addr + n)) j ≡ 1)) in
    accessed_bits f (slice_index (b0 ∷ b1 ∷ b2 ∷ b3 ∷ [])) c.args.addr c.args.size c.from_le_bytes.result (λ n j l m. each_of_four P b0 b1 b2 b3 c.accessed_byte.ensures c.accessed_byte-2.ensures c.accessed_byte-3.ensures c.accessed_byte-4.ensures n l j m) (λ n k l m. ap (λ w. bit_at w (8 * n + k)) c.from_le_bytes.ensures ∙ word_bits b0 b1 b2 b3 c.accessed_byte.type_inv c.accessed_byte-2.type_inv c.accessed_byte-3.type_inv c.accessed_byte-4.type_inv n k l m)
