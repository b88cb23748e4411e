use Rattle.std.proofs.Common.{◌≡◌, ◌+◌, sym, ◌∙◌, ap, arith}
use Rattle.std.specs.Int.{bit_at}
use Rattle.std.specs.Prelude.{bit_and}
use Rattle.need_pass.specs.Tables.{byte_mask}
use Rattle.need_pass.proofs.ByteBits.{low_byte}
use Rattle.need_pass.proofs.byte_histories.accessed_byte.Goals as goal

pub returns-in-Some : goal.returns-in-Some
returns-in-Some c = λ j l.
    let g = c.in-Some.ensures in
    let e = c.from.ensures in
    let histories = c.args.histories.now.entries in
    let place : c.in-Some.place ≡ c.args.addr + c.args.n = g.1 ∙ ap (λ x. c.args.addr + x) e in
    let s : bit_at (bit_and c.byte_at.result 255) j ≡ bit_at (byte_mask histories (c.args.addr + c.args.n) 0) j = low_byte c.byte_at.result j l ∙ ap (λ m. bit_at m j) (c.byte_at.ensures ∙ ap (λ p. byte_mask histories p 0) place) in
    (λ one. (c.if-n-size.false, omega (arith, g.0, e), sym s ∙ one), λ (x, y, o). s ∙ o)
