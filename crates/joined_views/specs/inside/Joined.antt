-- The beginning of a new list, put together from its first views, and the legs read for it.
use Rattle.std.specs.Prelude.{◌≡◌, ℕ, ◌-◌, ◌<◌, Bool, true, false, List, [], ◌∷◌, length, drop, sum_by, take, if◌then◌else◌}
use Rattle.problem_data.specs.declared.problem.Problem.{Problem}
use Rattle.problem_data.specs.declared.problem.VehicleType.{VehicleType}
use Rattle.problem_data.specs.declared.visit.Visit.{Visit}
use Rattle.problem_data.specs.Places.{place_count}
use Rattle.problem_data.specs.Visits.{place_of}
use Rattle.trips.specs.RunSegments.{HoldsRun, Leaves}
use Rattle.trips.specs.Runs.{Run}
use Rattle.route_cache.specs.Routes.{ViewState}
use Rattle.joined_views.specs.declared.open_run.OpenRun.{OpenRun}
use Rattle.joined_views.specs.Views.{anew_in, lent_by}

-- how many of the first views have the start
abbrev pub begun_count : List ViewState → ℕ
begun_count [] = 0
begun_count (view ∷ rest) = if view.starts then 1 else 0

-- whether the last view has the end
abbrev pub is_ended : List ViewState → Bool
is_ended [] = false
is_ended (view ∷ []) = view.ends
is_ended (view ∷ next ∷ rest) = is_ended (next ∷ rest)

-- how many views there are before one with the end
abbrev pub open_count : List ViewState → ℕ
open_count views = if is_ended views then length views - 1 else length views

-- the place of the first visit, or the given place where there is none
abbrev pub place_ahead : List Visit → ℕ → ℕ
place_ahead [] place = place
place_ahead (visit ∷ rest) place = place_of visit

-- a run that isn't ended, what it adds up to and where it is left
pub record IsOpen (p : Problem) (t : VehicleType) (front : OpenRun) (run : Run) : Type 0 where
  pub holds : HoldsRun p t front.so_far run
  pub goes_on : run.ends ≡ false
  pub leaves : Leaves p t run front.last
  pub there : front.last < place_count p

-- the start with what the first so many views lend
abbrev pub begun_run : List ViewState → ℕ → Run
begun_run views k = record { starts = true; visits = lent_by (take k views); ends = false }

-- inside of the first so many views, of one of them, and of the others
abbrev pub anew_before : Problem → VehicleType → List ViewState → ℕ → ℕ
anew_before p t views k = sum_by (anew_in p t) (take k views)

abbrev pub anew_behind : Problem → VehicleType → List ViewState → ℕ → ℕ
anew_behind p t views k = sum_by (anew_in p t) (drop k views)

abbrev pub anew_at : Problem → VehicleType → List ViewState → ℕ → ℕ
anew_at p t views k = sum_by (anew_in p t) (take 1 (drop k views))
