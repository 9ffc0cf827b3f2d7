-- Which count of a kit's operators rises, and the lists that they are told of.
use Rattle.std.specs.Prelude.{◌≡◌, ℕ, List, slice_index, slice_set, Option, Some, None}
use Rattle.problem_data.specs.Reads.{OneMore}
use Rattle.routing_model.specs.Routes.{Routes, list_at}

-- one of some counts rose by one, and the others stay
pub record OneApplied (at : ℕ) (before now : List ℕ) : Type 0 where
  pub count : ℕ
  pub rose : OneMore (slice_index before at) count
  pub others : now ≡ slice_set before at count

-- a plan with a vehicle's present list in its place, and with a second one's, if there is one
abbrev pub with_present_list : Routes → ℕ → Routes → Routes
with_present_list now vehicle routes = slice_set routes vehicle (list_at now vehicle)

abbrev pub with_second_list : Routes → Option ℕ → Routes → Routes
with_second_list now None routes = routes
with_second_list now (Some vehicle) routes = with_present_list now vehicle routes

abbrev pub with_present_lists : Routes → ℕ → Option ℕ → Routes → Routes
with_present_lists now first second routes = with_second_list now second (with_present_list now first routes)
