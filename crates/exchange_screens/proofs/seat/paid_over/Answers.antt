use Rattle.std.proofs.Common.{◌≡◌, ◌+◌, ◌-◌, ◌*◌, ◌^◌, ℕ, ◌∙◌, ap, ap₂}
use Rattle.std.specs.Prelude.{min}
use Rattle.problem_data.specs.declared.problem.VehicleType.{VehicleType}
use Rattle.routing_model.specs.Cost.{distance, route_cost}
use Rattle.routing_model.specs.Listed.{type_of_vehicle}
use Rattle.routing_model.specs.Routes.{list_at}
use Rattle.list_changes.specs.Layouts.{left_layout}
use Rattle.list_changes.specs.Ways.{own_run, way_by}
use Rattle.list_changes.proofs.BoundLaws.{paid-uncut}
use Rattle.exchange_screens.proofs.seat.paid_over.Goals as goal

pub returns : goal.returns
returns c =
    let s = c.args.search.now in
    let seat = c.args.seat in
    let is = c.requires.seat in
    let layout = left_layout c.args.left c.args.right in
    let t : VehicleType = type_of_vehicle s.problem seat.vehicle in
    let own = list_at s.routes seat.vehicle in
    let route = c.route.ensures in
    let gone : c.way_gone-gone.result ≡ way_by s.problem t own layout (own_run own layout) =
    c.way_gone-gone.ensures ∙ (λ i. way_by (route.problem i) (type_of_vehicle (route.problem i) (route.vehicle i)) (route.visits i) layout (own_run (route.visits i) layout)) in
    let paid = paid-uncut (route_cost s.problem s.weights t own) (t.unit_distance * distance s.problem t own) (t.unit_distance * way_by s.problem t own layout (own_run own layout)) t.fixed
    seat.rest c.saturating_mul.result c.saturating_add.result c.min.result is.rest
    (c.saturating_mul.ensures ∙ ap₂ (λ (u n : ℕ). min (u * n) (2 ^ 64 - 1)) is.unit gone)
    (c.saturating_add.ensures ∙ ap (λ (n : ℕ). min (c.saturating_mul.result + (n + seat.rest)) (2 ^ 64 - 1)) is.fixed)
    c.min.ensures in
    record { cut = paid.0; holds = paid.1 }
