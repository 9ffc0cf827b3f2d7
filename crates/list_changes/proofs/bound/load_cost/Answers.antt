use Rattle.std.proofs.Common.{ℕ, ◌*◌, ◌≤◌, subst}
use Rattle.routing_model.specs.declared.weights.Weights.{Weights}
use Rattle.routing_model.specs.Listed.{type_of_vehicle}
use Rattle.routing_model.specs.Load.{excess_load}
use Rattle.list_changes.specs.Changes.{new_list}
use Rattle.list_changes.specs.Layouts.{laid_out}
use Rattle.list_changes.proofs.BoundLaws.{times-most}
use Rattle.list_changes.proofs.bound.load_cost.Goals as goal

pub returns-clause-least : goal.returns-clause-least
returns-clause-least c =
    let s = c.args.search.now in
    let v = c.args.vehicle in
    let layout = c.args.layout in
    let route = c.route.ensures in
    let lender = c.route-2.ensures in
    let excess : c.least_excess-excess.result ≤ excess_load s.problem (type_of_vehicle s.problem v) (new_list s.routes v c.args.lender layout) =
    subst (λ (n : ℕ). c.least_excess-excess.result ≤ n) (λ i. excess_load (route.problem i) (type_of_vehicle (route.problem i) (route.vehicle i)) (laid_out (route.visits i) (lender.visits i) layout)) c.least_excess-excess.ensures in
    let capped : c.capped.result ≤ s.weights.load * c.least_excess-excess.result = subst (λ (w : Weights). c.capped.result ≤ w.load * c.least_excess-excess.result) c.weights.ensures.weights c.capped.ensures.least in
    times-most s.weights.load c.capped.result c.least_excess-excess.result (excess_load s.problem (type_of_vehicle s.problem v) (new_list s.routes v c.args.lender layout)) capped excess
