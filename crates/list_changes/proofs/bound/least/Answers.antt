use Rattle.std.proofs.Common.{◌≡◌, ℕ, ◌*◌, ◌≤◌, true, false, length, ◌∙◌, sym, ap, arith, subst}
use Rattle.problem_data.specs.declared.problem.Problem.{Problem}
use Rattle.problem_data.specs.declared.problem.VehicleType.{VehicleType}
use Rattle.routing_model.specs.Listed.{type_of_vehicle}
use Rattle.routing_model.specs.Routes.{list_at}
use Rattle.list_changes.specs.Layouts.{has_no_visit, runs_of}
use Rattle.list_changes.specs.Ways.{way_by}
use Rattle.list_changes.proofs.BoundLaws.{least-empty, least-used, times-most}
use Rattle.list_changes.proofs.bound.least.Goals as goal

pub returns-then-is_empty-clause-least : goal.returns-then-is_empty-clause-least
returns-then-is_empty-clause-least c =
    let s = c.args.search.now in
    let own = list_at s.routes c.args.vehicle in
    let none : has_no_visit c.args.layout (length own) ≡ true = ap (has_no_visit c.args.layout) (sym c.size.ensures.size) ∙ (sym c.is_empty.ensures ∙ c.if-is_empty.true) in
    let empty = least-empty own (list_at s.routes c.args.lender) c.args.layout c.requires.laid s.problem (type_of_vehicle s.problem c.args.vehicle) s.weights none in
    record { small = omega arith; holds = omega (arith, empty) }

pub returns-clause-least : goal.returns-clause-least
returns-clause-least c =
    let s = c.args.search.now in
    let v = c.args.vehicle in
    let layout = c.args.layout in
    let t : VehicleType = type_of_vehicle s.problem v in
    let own = list_at s.routes v in
    let lent = list_at s.routes c.args.lender in
    let route = c.route-route.ensures in
    let lender = c.route.ensures in
    let same : c.vehicle_type-vehicle_type.result.now ≡ t = c.vehicle_type-vehicle_type.ensures.vehicle_type ∙ ap (λ (p : Problem). type_of_vehicle p v) (c.data.ensures ∙ route.problem) in
    let some : has_no_visit layout (length own) ≡ false = ap (has_no_visit layout) (sym c.size.ensures.size) ∙ (sym c.is_empty.ensures ∙ c.if-is_empty.false) in
    let used = least-used own lent layout c.requires.laid s.problem t s.weights c.requires.listed.tidy some in
    let way : c.way_over-far.result ≤ way_by s.problem t own layout (runs_of lent layout) =
    subst (λ (n : ℕ). c.way_over-far.result ≤ n) (λ i. way_by (route.problem i) (type_of_vehicle (route.problem i) (route.vehicle i)) (route.visits i) layout (runs_of (lender.visits i) layout))
    c.way_over-far.ensures.least in
    let capped : c.capped.result ≤ t.unit_distance * c.way_over-far.result = subst (λ (x : VehicleType). c.capped.result ≤ x.unit_distance * c.way_over-far.result) same c.capped.ensures.least in
    let fixed : c.vehicle_type-vehicle_type.result.now.fixed ≡ t.fixed = ap (λ (x : VehicleType). x.fixed) same in
    let sum = times-most t.unit_distance c.capped.result c.way_over-far.result (way_by s.problem t own layout (runs_of lent layout)) capped way in
    record { small = omega (arith, c.vehicle_type-vehicle_type.ensures.valid.fixed, c.capped.ensures.small); holds = omega (arith, sum, used, fixed) }
