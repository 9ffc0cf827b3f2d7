-- Views of the list `1 |0 2` of a small problem, merged again.
use Rattle.std.proofs.Common.{◌≡◌, ℕ, Bool, true, false, List, [], ◌∷◌, length, refl, subst, lit≤}
use Rattle.std.specs.Prelude.{Some, pos, slice_range}
use Rattle.problem_data.specs.declared.visit.Visit.{Visit}
use Rattle.problem_data.specs.declared.visit.Visit.TheVariants.{Client, Reload}
use Rattle.trips.specs.declared.trip_segment.TripSegment.{TripSegment}
use Rattle.trips.specs.Conditions.{CanClose, CanMerge, IsSoundTrips}
use Rattle.trips.specs.Runs.{Run, whole}
use Rattle.trips.specs.Standing.{JoinsRuns, StandsForRun}
use Rattle.trips.proofs.InRange.{whole-can}
use Rattle.sample_problem.specs.TwoTrips.{one_vehicle, two_trips}
use Rattle.trips_tests.proofs.TwoTrips.{is_run, lone, merges, named-2, named-3, run}
use Rattle.route_cache.specs.Routes.{RouteState, ViewState}
use Rattle.route_cache.specs.Views.{StandsForView}

-- the list, and the route that has it
abbrev pub listed : List Visit
listed = Client 1 ∷ Reload 0 ∷ Client 2 ∷ []

abbrev pub the_route : RouteState
the_route = record { problem = two_trips; vehicle = 0; visits = listed }

-- the second client and the end
abbrev pub rest : Run
rest = record { starts = false; visits = Client 2 ∷ []; ends = true }

-- a view that a route lends
abbrev pub view_of : RouteState → ℕ → ℕ → Bool → Bool → ViewState
view_of route first end starts ends =
    record { problem = route.problem; vehicle = Some route.vehicle; list = route.visits; first = first; end = end; starts = starts; ends = ends }

-- the segment of a view of this route stands for the run that it lends
stands-lent : (route : RouteState) (view : ViewState) (segment : TripSegment) (first : ℕ) (end : RouteState → ℕ) (starts ends : Bool) →
    route ≡ the_route → view ≡ view_of route first (end route) starts ends → StandsForView view segment →
    StandsForRun two_trips one_vehicle segment (record { starts = starts; visits = slice_range listed first (end the_route); ends = ends })
stands-lent route view segment first end starts ends is_route is_view stands =
    subst (λ (r : RouteState). StandsForView (view_of r first (end r) starts ends) segment) is_route
    (subst (λ (v : ViewState). StandsForView v segment) is_view stands) one_vehicle refl

pub stands-front : (route : RouteState) (view : ViewState) (segment : TripSegment) → route ≡ the_route → view ≡ view_of route 0 1 true false → StandsForView view segment →
    StandsForRun two_trips one_vehicle segment (run (Client 1 ∷ []))
stands-front route view segment is_route is_view stands = stands-lent route view segment 0 (λ _. 1) true false is_route is_view stands

pub stands-reload : (route : RouteState) (view : ViewState) (segment : TripSegment) → route ≡ the_route → view ≡ view_of route 1 2 false false → StandsForView view segment →
    StandsForRun two_trips one_vehicle segment (lone (Reload 0))
stands-reload route view segment is_route is_view stands = stands-lent route view segment 1 (λ _. 2) false false is_route is_view stands

pub stands-rest : (route : RouteState) (view : ViewState) (segment : TripSegment) → route ≡ the_route → view ≡ view_of route 2 (length route.visits) false true → StandsForView view segment →
    StandsForRun two_trips one_vehicle segment rest
stands-rest route view segment is_route is_view stands = stands-lent route view segment 2 (λ r. length r.visits) false true is_route is_view stands

-- the first two can be merged
pub front-can : (front reload : TripSegment) → IsSoundTrips front → IsSoundTrips reload →
    StandsForRun two_trips one_vehicle front (run (Client 1 ∷ [])) → StandsForRun two_trips one_vehicle reload (lone (Reload 0)) → CanMerge front reload (pos 5) 10
front-can front reload sound_front sound_reload stands_front stands_reload =
    merges (run (Client 1 ∷ [])) (lone (Reload 0)) front reload (record { goes_on = refl; begun = refl }) named-2 (lit≤ tt) refl sound_front sound_reload stands_front stands_reload

pub front-stands : (front reload both : TripSegment) → JoinsRuns front reload (pos 5) 10 both →
    StandsForRun two_trips one_vehicle front (run (Client 1 ∷ [])) → StandsForRun two_trips one_vehicle reload (lone (Reload 0)) →
    StandsForRun two_trips one_vehicle both (run (Client 1 ∷ Reload 0 ∷ []))
front-stands front reload both joins stands_front stands_reload =
    joins two_trips one_vehicle (run (Client 1 ∷ [])) (lone (Reload 0)) refl (record { goes_on = refl; begun = refl }) (is_run (run (Client 1 ∷ Reload 0 ∷ [])) named-2) refl stands_front stands_reload

-- they and the third can be merged
pub all-can : (front second : TripSegment) → IsSoundTrips front → IsSoundTrips second →
    StandsForRun two_trips one_vehicle front (run (Client 1 ∷ Reload 0 ∷ [])) → StandsForRun two_trips one_vehicle second rest → CanMerge front second (pos 5) 10
all-can front second sound_front sound_second stands_front stands_second =
    merges (run (Client 1 ∷ Reload 0 ∷ [])) rest front second (record { goes_on = refl; begun = refl }) named-3 (lit≤ tt) refl sound_front sound_second stands_front stands_second

-- what they make can be closed
pub whole-closes : (front second all : TripSegment) → IsSoundTrips all → JoinsRuns front second (pos 5) 10 all →
    StandsForRun two_trips one_vehicle front (run (Client 1 ∷ Reload 0 ∷ [])) → StandsForRun two_trips one_vehicle second rest → CanClose all 10
whole-closes front second all sound joins stands_front stands_second =
    whole-can two_trips one_vehicle listed all sound (record { is_run = is_run (whole listed) named-3; few = lit≤ tt })
    (joins two_trips one_vehicle (run (Client 1 ∷ Reload 0 ∷ [])) rest refl (record { goes_on = refl; begun = refl }) (is_run (whole listed) named-3) refl stands_front stands_second)
