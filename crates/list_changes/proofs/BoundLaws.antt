-- Why bounds on new lists hold: what the distance of a new list changes, and what a list costs at least.
use Rattle.std.proofs.Common.{◌≡◌, ℕ, ◌+◌, ◌-◌, ◌*◌, ◌<◌, ◌≤◌, ◌^◌, Bool, true, false, List, [], length, refl, sym, ◌∙◌, ap, arith}
use Rattle.std.specs.Prelude.{min, nat_le}
use Rattle.std.proofs.lemmas.Bool.Decides.{nat_tests}
use Rattle.problem_data.specs.declared.problem.Problem.{Problem}
use Rattle.problem_data.specs.declared.problem.VehicleType.{VehicleType}
use Rattle.problem_data.specs.declared.visit.Visit.{Visit}
use Rattle.problem_data.specs.Places.{leg_distance}
use Rattle.routing_model.specs.declared.weights.Weights.{Weights}
use Rattle.routing_model.specs.Cost.{distance, route_cost}
use Rattle.routing_model.specs.Load.{excess_load}
use Rattle.routing_model.specs.Routes.{is_used}
use Rattle.routing_model.specs.Tidy.{is_tidy}
use Rattle.routing_model.proofs.LeastCosts.{cost-used, used-least}
use Rattle.routing_model.proofs.Paths.{distance-through, through}
use Rattle.routing_model.proofs.TidyJoints.{tidy-somewhere, unused-last}
use Rattle.route_cache.specs.Marks.{place_along}
use Rattle.route_cache.proofs.Alongs.{along-end}
use Rattle.route_cache.proofs.MarkPaths.{distance-with}
use Rattle.move_core.specs.Searches.{SearchState, largest_rest}
use Rattle.list_changes.specs.declared.bound.Bound.{Bound}
use Rattle.list_changes.specs.declared.change.Change.TheVariants.{Two}
use Rattle.list_changes.specs.declared.layout.Layout.{Layout}
use Rattle.list_changes.specs.Bounds.{IsBound, overloaded}
use Rattle.list_changes.specs.Changes.{CostsNoLess, new_list}
use Rattle.list_changes.specs.Layouts.{IsLayout, has_no_visit, laid_out, runs_of}
use Rattle.list_changes.specs.Ways.{own_run, way_by}
use Rattle.list_changes.proofs.LaidLists.{none-is, none-left, runs-together, some-left}

-- a list that is tidy and not used is empty
empty-unused : (xs : List Visit) → is_tidy xs ≡ true → is_used xs ≡ false → xs ≡ []
empty-unused xs tidy unused = unused-last xs (tidy-somewhere false xs tidy) unused

-- a unit cost times equal sums
times-sum : (u a b c d : ℕ) → a + b ≡ c + d → u * a + u * b ≡ u * c + u * d
times-sum u a b c d e = let m = ap (λ (n : ℕ). u * n) e in omega arith

-- a way in the place of all visits is a whole list's distance
module _ (p : Problem) (t : VehicleType) (own : List Visit) (layout : Layout) (first : layout.left ≡ 0) (last : layout.right ≡ length own) where
  whole-way : (run : List Visit) → way_by p t own layout run ≡ distance p t run
  whole-way run =
      ap (λ (i : ℕ). through (leg_distance p t.profile) (place_along t own i) run (place_along t own (layout.right + 1))) first
      ∙ (ap (λ (i : ℕ). through (leg_distance p t.profile) t.start run (place_along t own (i + 1))) last
      ∙ (ap (λ (place : ℕ). through (leg_distance p t.profile) t.start run place) (along-end t own)
      ∙ sym (distance-through p t run)))

module _ (own lender : List Visit) (layout : Layout) (laid : IsLayout own lender layout) (p : Problem) (t : VehicleType) where
  abbrev new : List Visit
  new = laid_out own lender layout

  -- what the distance changes by costs
  pub driven-change : t.unit_distance * distance p t new + t.unit_distance * way_by p t own layout (own_run own layout) ≡ t.unit_distance * distance p t own + t.unit_distance * way_by p t own layout (runs_of lender layout)
  driven-change =
      times-sum t.unit_distance (distance p t new) (way_by p t own layout (own_run own layout)) (distance p t own) (way_by p t own layout (runs_of lender layout))
      (ap (λ (xs : List Visit). distance p t xs + way_by p t own layout (own_run own layout)) (runs-together own lender layout laid)
      ∙ distance-with p t own layout.left layout.right (runs_of lender layout) laid.in_order laid.right)

  module _ (w : Weights) where
    -- an empty new list costs nothing, and the way in its place is its distance
    pub least-empty : has_no_visit layout (length own) ≡ true →
        w.load * excess_load p t new + t.unit_distance * distance p t new ≤ route_cost p w t new + t.unit_distance * way_by p t own layout (runs_of lender layout)
    least-empty none =
        let left = none-left own lender layout laid none in
        let same : way_by p t own layout (runs_of lender layout) ≡ distance p t new =
        whole-way p t own layout left.0 left.1 (runs_of lender layout) ∙ ap (distance p t) (none-is (runs_of lender layout) left.2 ∙ sym (none-is new left.3)) in
        let cost : t.unit_distance * way_by p t own layout (runs_of lender layout) ≡ t.unit_distance * distance p t new = ap (λ (n : ℕ). t.unit_distance * n) same in
        let nothing : excess_load p t [] ≡ 0 = omega arith in
        let load : w.load * excess_load p t new ≡ w.load * 0 = ap (λ (n : ℕ). w.load * n) (ap (excess_load p t) (none-is new left.3) ∙ nothing) in
        omega (arith, cost, load)

    -- a new list with visits costs its fixed cost, its distance and its excess load, or more
    pub least-used : is_tidy new ≡ true → has_no_visit layout (length own) ≡ false → t.fixed + t.unit_distance * distance p t new + w.load * excess_load p t new ≤ route_cost p w t new
    least-used tidy some = by (is_used new) refl
      where
        by : (b : Bool) → is_used new ≡ b → t.fixed + t.unit_distance * distance p t new + w.load * excess_load p t new ≤ route_cost p w t new
        by true used =
            let cost = cost-used p w t new used in
            let least = used-least p w t new in
            omega arith
        by false unused = absurd (some-left own lender layout laid some (ap (λ (xs : List Visit). length xs) (empty-unused new tidy unused)))

-- what goes of a list's cost, where it isn't cut
pub paid-uncut : (cost driven gone fixed rest far sum paid : ℕ) → rest ≡ min largest_rest (cost - fixed - driven) → far ≡ min gone (2 ^ 64 - 1) → sum ≡ min (far + (fixed + rest)) (2 ^ 64 - 1) →
    paid ≡ min sum largest_rest → (paid ≤ largest_rest) × (paid < largest_rest → cost + gone ≤ paid + driven)
paid-uncut cost driven gone fixed rest far sum paid is_rest is_far is_sum is_paid = (omega arith, λ uncut. omega arith)

-- a unit cost times no more
pub times-most : (unit least far most : ℕ) → least ≤ unit * far → far ≤ most → least ≤ unit * most
times-most unit least far most low near =
    let all : far + (most - far) ≡ most = omega arith in
    let product : unit * (far + (most - far)) ≡ unit * most = ap (λ (n : ℕ). unit * n) all in
    omega (arith, product)

-- what comes less what goes is at most the change
pub bound-holds : (cost cost' driven driven' gone come least load paid : ℕ) → driven' + gone ≡ driven + come → least + load + driven' ≤ cost' + come → cost + gone ≤ paid + driven → cost + (least + load) ≤ cost' + paid
bound-holds cost cost' driven driven' gone come least load paid change comes goes = omega arith

-- two vehicles cost no less, where what comes with their excess loads is no less than what goes
pub two-no_less : (s : SearchState) (first second : ℕ) (one two : Layout) (bound other : Bound) (load load' : ℕ) → IsBound s first second one bound → IsBound s second first two other →
    load ≤ overloaded s first (new_list s.routes first second one) → load' ≤ overloaded s second (new_list s.routes second first two) → load ≤ 2 ^ 58 → load' ≤ 2 ^ 58 →
    nat_le (bound.paid + other.paid) (bound.least + other.least + load + load') ≡ true → CostsNoLess s (Two first second one two)
two-no_less s first second one two bound other load load' is is' carried carried' small small' enough =
    let dear = less (bound.paid + other.paid) (bound.least + other.least + load + load') enough in
    let low = is.small in
    let low' = is'.small in
    let change = is.holds (omega arith) in
    let change' = is'.holds (omega arith) in
    omega (arith, change, change', carried, carried', dear)
  where
    less : (m n : ℕ) → nat_le m n ≡ true → m ≤ n
    less m n h = grind (arith, nat_tests)
