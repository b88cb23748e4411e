-- The arrays keep their lengths.
use Rattle.std.proofs.Common.{◌≡◌, ℕ, ◌+◌, ◌-◌, ◌≤◌, List, length, Bool, arith, ◌∙◌}
use Rattle.std.proofs.Math.ListN.{length-set}
use Rattle.std.proofs.lemmas.Grind.{common_steps}
use Rattle.std.specs.List.{replace_range}
use Rattle.bit_field.specs.declared.shapes.Shape.{Shape}
use Rattle.wb_cache.specs.Contents.{Contents, IsSized}
use Rattle.wb_cache.specs.Access.{put_lane, put_word}
use Rattle.wb_cache.specs.Replacement.{used}

pub length-put_lane : (place mask value lane : ℕ) (bytes : List ℕ) → length (put_lane place mask value lane bytes) ≡ length bytes
length-put_lane place mask value lane bytes = grind (arith, length-set)

pub length-put_word : (place mask value : ℕ) (bytes : List ℕ) → length (put_word place mask value bytes) ≡ length bytes
unfolding put_word
length-put_word place mask value bytes =
    length-put_lane place mask value 3 _
    ∙ length-put_lane place mask value 2 _
    ∙ length-put_lane place mask value 1 _
    ∙ length-put_lane place mask value 0 bytes

pub length-used : (shape : Shape) (set way : ℕ) (nodes : List Bool) → length (used shape set way nodes) ≡ length nodes
unfolding used
length-used shape set way nodes = grind (arith, length-set)

pub length-replace : (xs ys : List ℕ) (i j : ℕ) → i + length ys ≡ j → j ≤ length xs → length (replace_range xs i j ys) ≡ length xs
length-replace xs ys i j e h = grind (arith, common_steps)

-- contents with arrays of the same lengths
pub sized-same : (c e : Contents) → IsSized c → e.shape ≡ c.shape → length e.bytes ≡ length c.bytes → length e.tags ≡ length c.tags
    → length e.valid ≡ length c.valid → length e.dirty ≡ length c.dirty → length e.nodes ≡ length c.nodes → IsSized e
sized-same c e h p q r s t u = record {
  shape = rw p h.shape;
  bytes = rw p (q ∙ h.bytes);
  tags = rw p (r ∙ h.tags);
  valid = rw p (s ∙ h.valid);
  dirty = rw p (t ∙ h.dirty);
  nodes = rw p (u ∙ h.nodes);
}

pub ruleset lengths = (length-put_word, length-used, length-replace, length-set)
