-- Views of a vehicle's new list: where they may stand, and what they lend.
use Rattle.std.specs.Prelude.{◌≡◌, ℕ, ◌+◌, ◌<◌, All, Bool, true, false, Some, List, [], ◌∷◌, length, flat_map, option_map, map, slice_index_or}
use Rattle.problem_data.specs.declared.problem.Problem.{Problem}
use Rattle.problem_data.specs.declared.problem.VehicleType.{VehicleType}
use Rattle.problem_data.specs.declared.visit.Visit.{Visit}
use Rattle.problem_data.specs.Valid.{IsValidType}
use Rattle.routing_model.specs.Listed.{IsListed, type_of_vehicle}
use Rattle.gain_model.specs.GainReads.{SeenView, anew_reads, side_reads}
use Rattle.gain_model.specs.MoveReads.{profile_of}
use Rattle.route_cache.specs.Lending.{IsLendable}
use Rattle.route_cache.specs.Routes.{IsTypeFor, ViewState, lent}

-- a view with the start, or with the end, is lent by a route of this type
pub record IsOwn (p : Problem) (t : VehicleType) (view : ViewState) : Type 0 where
  pub own_start : view.starts ≡ true → IsTypeFor p view.vehicle t
  pub own_end : view.ends ≡ true → IsTypeFor p view.vehicle t

-- the views of a vehicle's new list: of one problem, one with the start only as the first, one with the end only as the last, and both of
-- the vehicle's own route
pub record ArePlaced (p : Problem) (vehicle : ℕ) (views : List ViewState) : Type 0 where
  pub lendable : All IsLendable views
  pub same : All (λ (v : ViewState). v.problem ≡ p) views
  pub begins : (i : ℕ) (none : ViewState) → i < length views → (slice_index_or views i none).starts ≡ true → i ≡ 0
  pub own_start : (i : ℕ) (none : ViewState) → i < length views → (slice_index_or views i none).starts ≡ true → (slice_index_or views i none).vehicle ≡ Some vehicle
  pub ends : (i : ℕ) (none : ViewState) → i < length views → (slice_index_or views i none).ends ≡ true → i + 1 ≡ length views
  pub own_end : (i : ℕ) (none : ViewState) → i < length views → (slice_index_or views i none).ends ≡ true → (slice_index_or views i none).vehicle ≡ Some vehicle

-- what some views lend, in order
abbrev pub lent_by : List ViewState → List Visit
lent_by views = flat_map lent views

-- whether a list isn't empty
abbrev pub is_some_list : List Visit → Bool
is_some_list [] = false
is_some_list (visit ∷ rest) = true

-- the views are placed for a vehicle of this type, which can have the list that they lend
pub record IsNewList (p : Problem) (t : VehicleType) (views : List ViewState) : Type 0 where
  pub vehicle : ℕ
  pub is_type : t ≡ type_of_vehicle p vehicle
  pub allowed : IsValidType p t
  pub placed : ArePlaced p vehicle views
  pub listed : IsListed p (lent_by views)

-- what the legs that are read of a view depend on
abbrev pub seen_view : Problem → ViewState → SeenView
seen_view p view = record { visits = length (lent view); starts = view.starts; ends = view.ends; profile = option_map (profile_of p) view.vehicle }

-- the legs read inside of a view
abbrev pub anew_in : Problem → VehicleType → ViewState → ℕ
anew_in p t view = anew_reads t.profile (seen_view p view)

-- the legs read of a side's views
abbrev pub views_reads : Problem → VehicleType → List ViewState → ℕ
views_reads p t views = side_reads (record { profile = t.profile; views = map (seen_view p) views })
