-- What the segment of a whole route tells, and what a route takes and exceeds at most.
use Rattle.std.proofs.Common.{◌≡◌, ◌≤◌, List, [], ◌∷◌, ◌++◌, length, refl, subst, arith, length-append, sum_by}
use Rattle.std.specs.Prelude.{All}
use Rattle.problem_data.specs.declared.problem.Problem.{Problem}
use Rattle.problem_data.specs.declared.problem.VehicleType.{VehicleType}
use Rattle.problem_data.specs.declared.visit.Visit.{Visit}
use Rattle.problem_data.specs.declared.visit.Visit.TheVariants.{Client, Reload}
use Rattle.problem_data.specs.Limits.{largest}
use Rattle.problem_data.specs.Places.{depot_at, leg_distance, leg_duration}
use Rattle.problem_data.specs.Valid.{IsValid, IsValidType}
use Rattle.routing_model.specs.Load.{excess_load}
use Rattle.routing_model.specs.Stops.{met, stop_at, stops, trip_release, visit_stops}
use Rattle.segments.specs.Duration.{IsInReach}
use Rattle.segments.proofs.Standing.{least_duration-is, least_warp-is}
use Rattle.trips.specs.declared.trip_segment.RouteSegment.{RouteSegment}
use Rattle.trips.specs.Conditions.{IsSoundRoute}
use Rattle.trips.specs.Laws.{IsBoundedByStops, TellsDrive}
use Rattle.trips.specs.Runs.{IsRunOf, end_stop, stretches, trip_excess, whole}
use Rattle.trips.specs.Standing.{StandsForRoute}
use Rattle.trips.proofs.Drives.{IsTame, best_drive-slow}
use Rattle.trips.proofs.Gates.{excess-run, stops-whole}
use Rattle.trips.proofs.Quantities.{distance-short, duration-short, valid_client_at}
use Rattle.trips.proofs.RunPlaces.{length-bound}
use Rattle.trips.proofs.Sizes.{clients-run, modest-run, trips-tame}
use Rattle.trips.proofs.Within.{excess-bound}

-- no trip's release is above the largest
trip_release-tame : (p : Problem) (visits : List Visit) → IsValid p → trip_release p visits ≤ largest
trip_release-tame p [] valid = omega arith
trip_release-tame p (Client place ∷ visits) valid = let c = valid_client_at p place valid in let rest = trip_release-tame p visits valid in omega (arith, c.release)
trip_release-tame p (Reload depot ∷ visits) valid = omega arith

-- the segment of a whole route tells its drive from the best start
pub tells-drive : (p : Problem) (t : VehicleType) (route : RouteSegment) (visits : List Visit) → IsValid p → IsValidType p t → IsSoundRoute route → StandsForRoute p t route visits →
    TellsDrive p t route visits
tells-drive p t route visits valid allowed sound stands =
    let start = stop_at t.start (trip_release p visits) (met (depot_at p t.start).window t.shift) (depot_at p t.start).service in
    let rest = visit_stops p visits ++ end_stop p t ∷ [] in
    let reach : IsInReach start = (let shift = allowed.shift.late in let release = trip_release-tame p visits valid in record { gate = omega arith; late = omega arith }) in
    record {
      duration = least_duration-is route.duration route.duration.duration sound.duration refl (leg_duration p t.profile) start rest stands.duration reach;
      warp = least_warp-is route.duration route.duration.warp sound.duration refl (leg_duration p t.profile) start rest stands.duration reach;
    }

-- each visit has a stop
visits-stop : (p : Problem) (visits : List Visit) → length visits ≤ length (visit_stops p visits)
visits-stop p [] = omega arith
visits-stop p (Client place ∷ visits) = let rest = visits-stop p visits in omega arith
visits-stop p (Reload depot ∷ visits) = let rest = visits-stop p visits in omega arith

-- what a list takes and exceeds is at most so much for each stop
pub bounded-by_stops : (p : Problem) (t : VehicleType) (visits : List Visit) → IsRunOf p t (whole visits) → IsBoundedByStops p t visits
bounded-by_stops p t visits run =
    let modest = modest-run p t (whole visits) run in
    let tame : All IsTame (stops p t visits) = subst (All IsTame) (stops-whole p t visits) (trips-tame p (stretches p t (whole visits)) run.valid modest) in
    let slow = best_drive-slow (leg_duration p t.profile) (stops p t visits) (λ from to. duration-short p t from to run.valid run.allowed) tame in
    let far = length-bound (leg_distance p t.profile) (stops p t visits) (λ from to. distance-short p t from to run.valid run.allowed) in
    let loads : sum_by (trip_excess p t) (stretches p t (whole visits)) ≡ excess_load p t visits = excess-run p t (whole visits) in
    let most = excess-bound p t (stretches p t (whole visits)) run.valid in
    let clients = clients-run p t (whole visits) in
    let each = visits-stop p visits in
    let all = length-append (visit_stops p visits) (end_stop p t ∷ []) in
    record {
      distance = omega arith;
      duration = slow.duration;
      warp = slow.warp;
      excess_load = omega arith;
    }
