use Rattle.std.proofs.Common.{◌≡◌, ℕ, ◌+◌, ◌≤◌, ◌∙◌, sym, subst}
use Rattle.problem_data.specs.Places.{leg_distance}
use Rattle.routing_model.specs.Listed.{type_of_vehicle}
use Rattle.routing_model.specs.Routes.{list_at}
use Rattle.route_cache.specs.Marks.{place_along}
use Rattle.list_changes.specs.Layouts.{runs_of}
use Rattle.exchange_screens.specs.inside.Lents.{layout_of}
use Rattle.list_changes.specs.Ways.{way_by}
use Rattle.exchange_screens.proofs.LookLaws.{least-lent}
use Rattle.exchange_screens.proofs.lent.far.Goals as goal

pub returns-clause-least : goal.returns-clause-least
returns-clause-least c =
    let s = c.args.search.now in
    let lent = c.args.lent.now in
    let is = c.requires in
    let layout = layout_of lent in
    let route = c.route-route.ensures in
    let lender = c.route.ensures in
    let at : leg_distance c.route-route.result.now.problem lent.seat.profile (place_along (type_of_vehicle c.route-route.result.now.problem c.route-route.result.now.vehicle) c.route-route.result.now.visits lent.left)
    (place_along (type_of_vehicle c.route.result.now.problem c.route.result.now.vehicle) c.route.result.now.visits (lent.first + 1))
    ≡ leg_distance s.problem lent.seat.profile (place_along (type_of_vehicle s.problem lent.seat.vehicle) (list_at s.routes lent.seat.vehicle) lent.left)
    (place_along (type_of_vehicle s.problem c.args.lender) (list_at s.routes c.args.lender) (lent.first + 1)) =
    (λ i. leg_distance (route.problem i) lent.seat.profile (place_along (type_of_vehicle (route.problem i) (route.vehicle i)) (route.visits i) lent.left)
    (place_along (type_of_vehicle (lender.problem i) (lender.vehicle i)) (lender.visits i) (lent.first + 1))) in
    let way : c.way_lent-way.result ≤ way_by s.problem (type_of_vehicle s.problem lent.seat.vehicle) (list_at s.routes lent.seat.vehicle) layout (runs_of (list_at s.routes c.args.lender) layout) =
    subst (λ (n : ℕ). c.way_lent-way.result ≤ n) (λ i. way_by (route.problem i) (type_of_vehicle (route.problem i) (route.vehicle i)) (route.visits i) layout (runs_of (lender.visits i) layout))
    (c.way_lent-way.ensures.least lent.left (is.come ∙ sym at)) in
    least-lent s lent.seat is.seat c.args.lender lent.left lent.right lent.first lent.end is.side is.some c.way_lent-way.result c.coming.result way c.coming.ensures.least c.coming.ensures.small
