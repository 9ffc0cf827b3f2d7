use Rattle.std.proofs.Common.{◌≡◌, ◌+◌, ◌*◌, refl, ap, arith}
use Rattle.problem_data.specs.declared.problem.VehicleType.{VehicleType}
use Rattle.routing_model.specs.Listed.{type_of_vehicle}
use Rattle.list_changes.specs.Layouts.{laid_out}
use Rattle.list_changes.proofs.LoadLaws.{least-over}
use Rattle.list_changes.proofs.load.least_excess.Goals as goal

pub returns : goal.returns
returns c =
    let route = c.args.route.now in
    let t : VehicleType = type_of_vehicle route.problem route.vehicle in
    let same : c.vehicle_type.result.now ≡ t = rw (← c.data.ensures, ← c.vehicle.ensures.number, ← c.vehicle_type.ensures.vehicle_type) refl in
    let room : (c.laid_load-load.result.reloads + 1) * c.vehicle_type.result.now.capacity ≡ (c.laid_load-load.result.reloads + 1) * t.capacity =
    ap (λ (x : VehicleType). (c.laid_load-load.result.reloads + 1) * x.capacity) same in
    let over = least-over route.problem t (laid_out route.visits c.args.lender.now.visits c.args.layout) c.laid_load-load.result c.laid_load-load.ensures.load in
    omega (arith, over, room, c.saturating_sub.ensures, c.max.ensures)
