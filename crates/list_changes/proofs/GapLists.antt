-- What is left of a list with a gap.
use Rattle.std.proofs.Common.{◌≡◌, ℕ, ◌≤◌, List, ◌++◌, length, refl, sym, ◌∙◌, ap, ap₂, slice_get, slice_range}
use Rattle.problem_data.specs.declared.visit.Visit.{Visit}
use Rattle.routing_model.proofs.TidyJoints.{joined}
use Rattle.trips.specs.declared.joint.Joint.{Joint}
use Rattle.trips.specs.declared.joint.Joint.TheVariants.{DropLeft, DropRight, Keep}
use Rattle.trips.specs.Joints.{joint_of}
use Rattle.route_cache.specs.Gaps.{visit_before}
use Rattle.route_cache.proofs.Gaps.{joined-gap, left_by, right_by}
use Rattle.list_changes.specs.declared.gap.Gap.{Gap}
use Rattle.list_changes.specs.Gaps.{IsGap, gap_by}

-- the gap's positions
pub gap-left : (j : Joint) (k m : ℕ) → (gap_by j k m).left ≡ left_by j k
gap-left Keep k m = refl
gap-left DropLeft k m = refl
gap-left DropRight k m = refl

pub gap-right : (j : Joint) (k m : ℕ) → (gap_by j k m).right ≡ right_by j m
gap-right Keep k m = refl
gap-right DropLeft k m = refl
gap-right DropRight k m = refl

-- the visits before it and behind it are the joined ones
pub gap-list : (visits : List Visit) (k m : ℕ) (gap : Gap) → IsGap visits k m gap → k ≤ length visits → m ≤ length visits →
    joined (slice_range visits 0 k) (slice_range visits m (length visits)) ≡ slice_range visits 0 gap.left ++ slice_range visits gap.right (length visits)
gap-list visits k m gap gone inside inside' =
    let j : Joint = joint_of (visit_before visits k) (slice_get visits m) in
    joined-gap visits k m inside inside'
    ∙ ap₂ (λ (l r : ℕ). slice_range visits 0 l ++ slice_range visits r (length visits)) (sym (ap (λ (g : Gap). g.left) gone.is ∙ gap-left j k m)) (sym (ap (λ (g : Gap). g.right) gone.is ∙ gap-right j k m))
