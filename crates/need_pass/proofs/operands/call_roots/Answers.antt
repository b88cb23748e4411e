use Rattle.std.proofs.Common.{◌≡◌, ◌⊎◌, inl, inr}
use Rattle.need_pass.proofs.MaskBits.{mask_low_where}
use Rattle.need_pass.proofs.operands.call_roots.Goals as goal

pub returns-then-a-eq93 : goal.returns-then-a-eq93
returns-then-a-eq93 c =
    mask_low_where 8 ((c.args.a ≡ 1) ⊎ (c.args.a ≡ 93)) (elim c.if-a-eq93.either [ inl e ↦ inl e | inr e ↦ inr e.1 ])
