use Rattle.std.proofs.Common.{◌≡◌, ◌<◌}
use Rattle.need_pass.proofs.MaskBits.{mask_either, mask_same}
use Rattle.need_pass.proofs.masks.from_loaded.Goals as goal

pub returns-in-Lb : goal.returns-in-Lb
returns-in-Lb c = rw c.in-Lb.is (mask_either c.args.mask c.args.mask c.sign_bit.result (λ k j. k ≡ j) (λ k j. (k ≡ 7) × (7 < j)) (mask_same c.args.mask) c.sign_bit.ensures)

pub returns-in-Lh : goal.returns-in-Lh
returns-in-Lh c = rw c.in-Lh.is (mask_either c.args.mask c.args.mask c.sign_bit-in-Lh.result (λ k j. k ≡ j) (λ k j. (k ≡ 15) × (15 < j)) (mask_same c.args.mask) c.sign_bit-in-Lh.ensures)
