-- Clients that leave the places where they stand, and enter new ones.
use Rattle.std.specs.Prelude.{◌≡◌, List, Option, Some, None}
use Rattle.routing_model.specs.Routes.{Routes, list_at}
use Rattle.route_cache.specs.Routes.{RouteState}
use Rattle.plan_tables.specs.declared.spots.Spot.{Spot}
use Rattle.plan_tables.specs.inside.Marks.{FreesList, MarksList}

-- the clients that the vehicle of a new route visits are taken out, if there is one
abbrev pub Leaves : Routes → Option RouteState → List Spot → List Spot → Type 0
Leaves routes None before now = now ≡ before
Leaves routes (Some state) before now = FreesList (list_at routes state.vehicle) before now

-- the clients of a new route are marked, if there is one
abbrev pub Enters : Option RouteState → List Spot → List Spot → Type 0
Enters None before now = now ≡ before
Enters (Some state) before now = MarksList state.vehicle 0 state.visits before now
