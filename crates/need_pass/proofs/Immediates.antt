-- The links of an immediate form are those of the register form, but for AND and OR.
use Rattle.std.proofs.Common.{◌≢◌, ℕ, refl}
use Rattle.rv_table.specs.declared.operation.AluKind.{AluKind}
use Rattle.rv_table.specs.declared.operation.AluKind.TheVariants.{Or, And}
use Rattle.need_pass.specs.Links.{FromA, FromImmediate}
use Rattle.need_pass.specs.Masks.{IsMaskOf, HasOne}

pub mask_immediate : (kind : AluKind) (a n m r : ℕ) → kind ≢ And → kind ≢ Or → IsMaskOf r (λ k. HasOne m (FromA kind a n k)) → IsMaskOf r (λ k. HasOne m (FromImmediate kind a n k))
mask_immediate And a n m r x y is = absurd (x refl)
mask_immediate Or a n m r x y is = absurd (y refl)
mask_immediate kind a n m r x y is = is
