use Rattle.std.proofs.Common.{◌≡◌, ◌+◌, ◌<◌}
use Rattle.need_pass.proofs.MaskBits.{mask_either}
use Rattle.need_pass.proofs.masks.signed_shifted.Goals as goal

pub returns : goal.returns
returns c = mask_either c.args.mask c.shifted_right.result c.sign_copies.result (λ k j. k ≡ j + c.args.amount) (λ k j. (k ≡ 31) × (31 < j + c.args.amount)) c.shifted_right.ensures c.sign_copies.ensures
