-- Bounds that the code keeps.
use Rattle.std.specs.Prelude.{◌≡◌, ℕ, ◌+◌, ◌*◌, ◌^◌, ◌<◌, ◌≤◌, min, true, Option, None, Some, IfSome}
use Rattle.class_map.specs.Lines.{follows, order_of}
use Rattle.class_map.specs.declared.map_line.MapLine.{MapLine}
use Rattle.class_map.specs.declared.progress.Progress.{Progress}
use Rattle.class_map.specs.declared.spelling.TheConstants.{NUMBER_BOUND}

-- A number counts up to the bound.
abbrev pub bounded : ℕ → ℕ
bounded n = min NUMBER_BOUND n

-- how far a line reaches in the order of lines: a later line reaches further, by its pairs at least
abbrev pub reach : Option MapLine → ℕ
reach None = 0
reach (Some line) = (order_of line.place.structure * 2 ^ 17 + line.place.bit) * 2 ^ 32 + line.to

abbrev pub furthest : ℕ
furthest = 2 ^ 53

-- Lines and pairs are at most as many as the last line reaches far, but for the first three lines.
pub record IsBounded (p : Progress) : Type 0 where
  pub seen : p.seen ≤ reach p.before + 3
  pub pairs : p.pairs ≤ reach p.before
  pub bit : IfSome p.before (λ line. line.place.bit < 2 ^ 17)
  pub to : IfSome p.before (λ line. line.to < 2 ^ 32)

-- a line that comes behind the line before
pub record IsFurther (before : Option MapLine) (line : MapLine) : Type 0 where
  pub follows : follows before line ≡ true
  pub some : line.from < line.to
  pub bit : line.place.bit < 2 ^ 17
  pub to : line.to < 2 ^ 32
