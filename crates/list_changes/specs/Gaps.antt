-- What is left of a list where visits are taken out.
use Rattle.std.specs.Prelude.{◌≡◌, ℕ, ◌+◌, ◌-◌, ◌≤◌, List, length, slice_get}
use Rattle.problem_data.specs.declared.visit.Visit.{Visit}
use Rattle.trips.specs.declared.joint.Joint.{Joint}
use Rattle.trips.specs.declared.joint.Joint.TheVariants.{DropLeft, DropRight, Keep}
use Rattle.trips.specs.Joints.{joint_of}
use Rattle.route_cache.specs.Gaps.{visit_before}
use Rattle.list_changes.specs.declared.gap.Gap.{Gap}

-- the visits up to the first position and from the second one on, without the visit that a joint leaves out
abbrev pub gap_by : Joint → ℕ → ℕ → Gap
gap_by Keep first end = record { left = first; right = end }
gap_by DropLeft first end = record { left = first - 1; right = end }
gap_by DropRight first end = record { left = first; right = end + 1 }

-- what is left of a list without the visits from a position up to another one
pub record IsGap (visits : List Visit) (first end : ℕ) (gap : Gap) : Type 0 where
  pub is : gap ≡ gap_by (joint_of (visit_before visits first) (slice_get visits end)) first end
  pub left : gap.left ≤ first
  pub near_left : first ≤ gap.left + 1
  pub right : end ≤ gap.right
  pub near_right : gap.right ≤ end + 1
  pub in_list : gap.right ≤ length visits
