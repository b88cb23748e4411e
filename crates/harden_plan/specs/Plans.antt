-- Sets of structures to protect: what a set costs, what it covers, and the best one that fits.
use Rattle.std.specs.Prelude.{◌≡◌, ◌≤◌, ◌<◌, ◌==◌, ◌&&◌, ℕ, Bool, List, filter, sum_by, nat_le, nat_lt, if◌then◌else◌}
use Rattle.std.specs.Int.{bit_at}
use Rattle.bit_field.specs.declared.places.Structure.{Structure}
use Rattle.ace_class.specs.Counts.{Counted, ace_of, bits_of, place_of, structures}
use Rattle.harden_plan.specs.declared.plan.Plan.{Plan}
use Rattle.harden_plan.specs.declared.plan.TheConstants.{SETS}

-- A set is a number: bit k of it is 1 where the structure at place k of a report's order is a member.
unfoldable pub is_member : ℕ → Structure → Bool
is_member set s = bit_at set (place_of s) == 1

-- the members of a set, in the order of a report
abbrev pub members : ℕ → List Structure
members set = filter (is_member set) structures

-- what it takes to protect a set: the bits of its members
abbrev pub cost : Counted → ℕ → ℕ
cost counted set = sum_by (bits_of counted) (members set)

-- what protecting it covers: the ACE pairs of its members
abbrev pub worth : Counted → ℕ → ℕ
worth counted set = sum_by (ace_of counted) (members set)

-- a set with both
abbrev pub covered : Counted → ℕ → Plan
covered counted set = record { set = set; bits = cost counted set; ace = worth counted set }

-- Of the sets whose number is below n, it is the best that fits into so many bits: none that fits is worth more, and none of lesser
-- number is worth as much.
pub record IsBestBelow (counted : Counted) (bits n : ℕ) (plan : Plan) : Type 0 where
  pub below : plan.set < n
  pub is : plan ≡ covered counted plan.set
  pub fits : plan.bits ≤ bits
  pub greatest : (other : ℕ) → other < n → cost counted other ≤ bits → worth counted other ≤ plan.ace
  pub least : (other : ℕ) → other < n → cost counted other ≤ bits → worth counted other ≡ plan.ace → plan.set ≤ other

-- the best of all sets that fit
abbrev pub IsPlan : Counted → ℕ → Plan → Type 0
IsPlan counted bits = IsBestBelow counted bits SETS

-- the second plan, where it fits and is worth more than the first
abbrev pub better_of : ℕ → Plan → Plan → Plan
better_of bits best next = if nat_le next.bits bits && nat_lt best.ace next.ace then next else best
