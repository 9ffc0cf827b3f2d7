-- Views of one visit.
use Rattle.std.proofs.Common.{◌≡◌, ℕ, ◌*◌, ◌<◌, ◌≤◌, [], ◌∷◌, length, get_or, ◌∙◌, ap, sym, subst, arith, slice_range, Option, Some, None}
use Rattle.problem_data.specs.declared.problem.VehicleType.{VehicleType}
use Rattle.problem_data.specs.declared.visit.Visit.TheVariants.{Client}
use Rattle.problem_data.specs.Limits.{largest}
use Rattle.problem_data.specs.Places.{client_at}
use Rattle.segments.specs.Totals.{largest_total}
use Rattle.trips.specs.declared.run_segment.RunSegment.{RunSegment}
use Rattle.trips.specs.RunSegments.{HoldsRun, HoldsVisit, alone, prizes_of}
use Rattle.trips.proofs.Quantities.{valid_client_at}
use Rattle.route_cache.specs.inside.Lookups.{IsAlone, IsLone, IsView}
use Rattle.route_cache.specs.Routes.{IsTypeFor, RouteState, ViewState, lent, run_of}
use Rattle.route_cache.proofs.Counting.{amounts-bound}
use Rattle.route_cache.proofs.Slices.{slice-one}
use Rattle.route_cache.proofs.Types.{some-type}

-- no route lends it
pub lone-is : (view : ViewState) (lender : Option RouteState) → IsView view lender → view.vehicle ≡ None → IsLone view
lone-is view None is h = is.lent
lone-is view (Some route) is h = absurd (not_both view.vehicle is.lent.whose h)
  where
    not_both : (v : Option ℕ) {n : ℕ} → v ≡ Some n → v ≡ None → ⊥
    not_both v e f = cc

pub lone-here : (view : ViewState) (lender : Option RouteState) → IsView view lender → view.vehicle ≡ None → view.first < length view.list
lone-here view lender is h =
    let lone = lone-is view lender is h in
    let one = lone.one in
    let in_list = is.in_list in
    omega arith

-- it tells its visit's numbers
pub lone-alone : (view : ViewState) (lender : Option RouteState) (segment : RunSegment) → IsView view lender → view.vehicle ≡ None → HoldsVisit view.problem (get_or view.list view.first (Client 0)) segment → IsAlone view segment
lone-alone view lender segment is h held =
    let p = view.problem in
    let visit = get_or view.list view.first (Client 0) in
    let lone = lone-is view lender is h in
    let here = lone-here view lender is h in
    let visits : lent view ≡ visit ∷ [] = ap (slice_range view.list view.first) lone.one ∙ slice-one view.list view.first (Client 0) here in
    let run : run_of view ≡ alone visit = λ i. record { starts = lone.not_begun i; visits = visits i; ends = lone.goes_on i } in
    let holds : (t : VehicleType) → IsTypeFor p view.vehicle t → HoldsRun p t segment (run_of view) =
    λ t k. subst (HoldsRun p t segment) (sym run) (held t (subst (λ (v : Option ℕ). IsTypeFor p v t) h k)) in
    let some = some-type p view.vehicle is.valid in
    let one = holds some.0 some.1 in
    let bound = amounts-bound (λ place. (client_at p place).prize) (λ place. (valid_client_at p place is.valid).prize) (visit ∷ []) in
    let prizes : segment.prizes ≡ prizes_of p (visit ∷ []) = one.prizes ∙ ap (prizes_of p) visits in
    record {
      sound = one.sound;
      stands = λ t k. (holds t k).stands;
      sound_distance = one.sound_distance.distance;
      distance = λ t k. (holds t k).distance.distance;
      prizes = one.prizes;
      small = small _ _ prizes bound;
    }
  where
    small : (a b : ℕ) → a ≡ b → b ≤ 1 * largest → a ≤ largest_total
    small a b e f = omega arith
