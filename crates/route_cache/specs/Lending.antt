-- What holds of each view.
use Rattle.std.specs.Prelude.{◌≡◌, ◌+◌, ◌<◌, ◌≤◌, true, false, None, IsTrue, length}
use Rattle.std.specs.List.{list_all}
use Rattle.std.specs.Option.{ForSome}
use Rattle.problem_data.specs.Places.{vehicle_count}
use Rattle.problem_data.specs.Valid.{IsValid}
use Rattle.routing_model.specs.Lawful.{names_place}
use Rattle.route_cache.specs.Routes.{ViewState}

-- A view of a valid problem: it lends a run of a list of places that are there, not both the start and the end, and some visit where it
-- has neither; where no route lends it, it is one visit.
pub record IsLendable (view : ViewState) : Type 0 where
  pub valid : IsValid view.problem
  pub named : IsTrue (list_all (names_place view.problem) view.list)
  pub in_order : view.first ≤ view.end
  pub in_list : view.end ≤ length view.list
  pub in_range : ForSome view.vehicle (λ vehicle. vehicle < vehicle_count view.problem)
  pub not_both : view.starts ≡ true → view.ends ≡ false
  pub some : view.starts ≡ false → view.ends ≡ false → view.first < view.end
  pub one : view.vehicle ≡ None → view.end ≡ view.first + 1
  pub not_begun : view.vehicle ≡ None → view.starts ≡ false
  pub goes_on : view.vehicle ≡ None → view.ends ≡ false
