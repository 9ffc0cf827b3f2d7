use Rattle.std.proofs.Common.{◌≡◌, ◌++◌, ◌∙◌, List, [], ap₂, sym}
use Rattle.std.proofs.lemmas.List.{get_or_default}
use Rattle.std.proofs.lemmas.Option.{unwrap_or-slice_get}
use Rattle.problem_data.specs.declared.visit.Visit.{Visit}
use Rattle.routing_model.specs.Routes.{list_at}
use Rattle.route_rings.specs.declared.direction.Direction.{Direction}
use Rattle.route_rings.specs.inside.Directions.{used_direction}
use Rattle.route_rings.proofs.OrderedDirections.{one-more}
use Rattle.route_rings.proofs.ordering.used_directions.Goals as goal

pub loop-vehicle-preserved : goal.loop-vehicle-preserved
loop-vehicle-preserved c =
    let p = c.args.given.now in
    let routes = c.args.routes.now in
    let v = c.loop-vehicle.vehicle in
    let list : c.items.result.now ≡ list_at routes v =
    c.items.ensures ∙ (c.index-routes-vehicle.is ∙ (get_or_default routes v c.index-routes-vehicle.result [] c.loop-vehicle-test.true ∙ sym (unwrap_or-slice_get routes v []))) in
    c.in_ok-push_used.ensures ∙ (ap₂ (λ (ds : List Direction) (xs : List Visit). ds ++ used_direction p v xs) c.loop-vehicle.invariant list ∙ one-more p routes v)
