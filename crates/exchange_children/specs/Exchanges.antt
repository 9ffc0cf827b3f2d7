-- Exchanges of routes between two plans.
use Rattle.std.specs.Prelude.{◌≡◌, ◌<◌, All, length}
use Rattle.problem_data.specs.declared.problem.Problem.{Problem}
use Rattle.problem_data.specs.Places.{vehicle_count}
use Rattle.routing_model.specs.Listed.{IsListed}
use Rattle.genetic_model.specs.RouteChildren.{Exchange}
use Rattle.exchange_children.specs.declared.exchanged.Exchanged.{Exchanged}

-- which vehicles get whose lists
abbrev pub exchange_of : Exchanged → Exchange
exchange_of e = record { into = e.into.now; from = e.from.now }

-- the first plan has one list for each vehicle, the lists of both are ones that vehicles can have, and as many lists of the second plan are put in as go out
pub record IsExchanged (p : Problem) (e : Exchanged) : Type 0 where
  pub one_list_each : length e.parent.now ≡ vehicle_count p
  pub parent : All (IsListed p) e.parent.now
  pub other : All (IsListed p) e.other.now
  pub as_many : length e.into.now ≡ length e.from.now
  pub from : All (λ vehicle. vehicle < length e.other.now) e.from.now
