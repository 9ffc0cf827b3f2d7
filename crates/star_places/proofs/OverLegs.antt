-- The legs of marks: past a visit.
use Rattle.std.proofs.Common.{◌≡◌, ℕ, ◌+◌, ◌<◌, nat_lt, Bool, true, cond, List, length, get_or, ◌∙◌, ap, arith, add-one}
use Rattle.std.proofs.lemmas.Bool.Decides.{nat_tests}
use Rattle.problem_data.specs.declared.problem.Problem.{Problem}
use Rattle.problem_data.specs.declared.problem.VehicleType.{VehicleType}
use Rattle.problem_data.specs.declared.visit.Visit.{Visit}
use Rattle.problem_data.specs.Places.{leg_distance}
use Rattle.route_cache.specs.declared.mark.Mark.{Mark}
use Rattle.route_cache.specs.Marks.{AreMarks, leg_over, place_along}

pub mark-over : (p : Problem) (t : VehicleType) (visits : List Visit) (marks : List Mark) → AreMarks p t visits marks → (none : Mark) (i : ℕ) → i < length visits →
    (get_or marks (i + 1) none).over ≡ leg_distance p t.profile (place_along t visits i) (place_along t visits (i + 2))
mark-over p t visits marks are none i here =
    (are.each (i + 1) none (omega arith)).over
    ∙ (ap (leg_over p t visits) (add-one i)
    ∙ ap (λ (b : Bool). cond b (leg_distance p t.profile (place_along t visits i) (place_along t visits (i + 2))) 0) (before i (length visits) here))
  where
    before : (m n : ℕ) → m < n → nat_lt m n ≡ true
    before m n h = grind (arith, nat_tests)
