-- What visits have to carry.
use Rattle.std.specs.Prelude.{◌≡◌, List}
use Rattle.problem_data.specs.declared.problem.Problem.{Problem}
use Rattle.problem_data.specs.declared.visit.Visit.{Visit}
use Rattle.route_cache.specs.Marks.{deliveries_of, pickups_of, reloads_in}
use Rattle.list_changes.specs.declared.load.Load.{Load}

-- the load of some visits
pub record IsLoad (p : Problem) (visits : List Visit) (load : Load) : Type 0 where
  pub delivery : load.delivery ≡ deliveries_of p visits
  pub pickup : load.pickup ≡ pickups_of p visits
  pub reloads : load.reloads ≡ reloads_in visits
