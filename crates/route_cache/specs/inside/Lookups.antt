-- Parts of a route's list, as they are looked up, and what views have inside.
use Rattle.std.specs.Prelude.{◌≡◌, ℕ, ◌+◌, ◌-◌, ◌<◌, ◌≤◌, ℤ, pos, Bool, true, false, Option, Some, None, List, length, IsTrue, nat_lt, slice_range}
use Rattle.std.specs.List.{list_all}
use Rattle.problem_data.specs.declared.visit.Visit.{Visit}
use Rattle.problem_data.specs.Places.{leg_distance, vehicle_count}
use Rattle.problem_data.specs.Valid.{IsValid}
use Rattle.routing_model.specs.Cost.{length_of}
use Rattle.routing_model.specs.Lawful.{names_place}
use Rattle.routing_model.specs.Listed.{type_of_vehicle}
use Rattle.trips.specs.Runs.{Run, run_stops}
use Rattle.segments.specs.Totals.{IsTotal, largest_total}
use Rattle.trips.specs.declared.run_segment.RunSegment.{RunSegment}
use Rattle.trips.specs.Conditions.{IsSoundTrips}
use Rattle.trips.specs.RunSegments.{prizes_of}
use Rattle.route_cache.specs.Routes.{RouteState, ViewState, lent}
use Rattle.route_cache.specs.Views.{IsDistanceOfView, StandsForView}

-- a part that is looked up: with the start, with the end, or some visits
pub record IsPart (count first end : ℕ) (starts ends : Bool) : Type 0 where
  pub in_order : first ≤ end
  pub in_list : end ≤ count
  pub at_start : starts ≡ true → first ≡ 0
  pub goes_on : starts ≡ true → ends ≡ false
  pub at_end : ends ≡ true → end ≡ count
  pub some : starts ≡ false → ends ≡ false → first < end

-- the stops from a position to another one; position 0 is left out
abbrev pub run_along : List Visit → ℕ → ℕ → Run
run_along visits from to = record { starts = false; visits = slice_range visits (from - 1) to; ends = nat_lt (length visits) to }

-- how far it is along a run of a route
abbrev pub IsPartLength : RouteState → ℤ → Run → Type 0
IsPartLength route driven run = let t = type_of_vehicle route.problem route.vehicle in
    driven ≡ pos (length_of (leg_distance route.problem t.profile) (run_stops route.problem t run))

-- a view that no route lends is one visit
pub record IsLone (view : ViewState) : Type 0 where
  pub one : view.end ≡ view.first + 1
  pub none : view.vehicle ≡ None
  pub not_begun : view.starts ≡ false
  pub goes_on : view.ends ≡ false

-- the view is a part of this route
pub record IsLentBy (view : ViewState) (route : RouteState) : Type 0 where
  pub problem : route.problem ≡ view.problem
  pub visits : route.visits ≡ view.list
  pub whose : view.vehicle ≡ Some route.vehicle
  pub in_range : route.vehicle < vehicle_count view.problem
  pub part : IsPart (length view.list) view.first view.end view.starts view.ends

-- what tells a view's numbers
abbrev pub IsLent : ViewState → Option RouteState → Type 0
IsLent view None = IsLone view
IsLent view (Some route) = IsLentBy view route

-- a view of a valid problem
pub record IsView (view : ViewState) (lender : Option RouteState) : Type 0 where
  pub valid : IsValid view.problem
  pub named : IsTrue (list_all (names_place view.problem) view.list)
  pub in_order : view.first ≤ view.end
  pub in_list : view.end ≤ length view.list
  pub lent : IsLent view lender

-- what a view of one visit tells
pub record IsAlone (view : ViewState) (segment : RunSegment) : Type 0 where
  pub sound : IsSoundTrips segment.trips
  pub stands : StandsForView view segment.trips
  pub sound_distance : IsTotal segment.distance.distance
  pub distance : IsDistanceOfView view segment.distance.distance
  pub prizes : segment.prizes ≡ prizes_of view.problem (lent view)
  pub small : segment.prizes ≤ largest_total
