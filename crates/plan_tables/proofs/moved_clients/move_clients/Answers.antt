use Rattle.std.proofs.Common.{length}
use Rattle.routing_model.specs.Routes.{list_at}
use Rattle.plan_tables.specs.Routes.{lists_of}
use Rattle.plan_tables.specs.inside.Marks.{FreesList, MarksList}
use Rattle.plan_tables.proofs.MovedClients.{list-read, moved}
use Rattle.plan_tables.proofs.moved_clients.move_clients.Goals as goal

pub returns : goal.returns
returns c =
    let states = c.args.routes.now in
    let route = c.args.route.now in
    let frees : FreesList (list_at (lists_of states) route.vehicle) c.args.spots.now c.free_list.new.spots =
    rw (← list-read states route.vehicle c.vehicle.result c.index-routes-vehicle.result c.visits.result.now c.vehicle.ensures.number c.requires.inside c.index-routes-vehicle.is c.visits.ensures.visits) c.free_list.ensures in
    let marks : MarksList route.vehicle 0 route.visits c.leave.new.spots c.mark_list.new.spots = rw (← c.vehicle-2.ensures.number, ← c.visits-2.ensures.visits) c.mark_list.ensures in
    moved (length c.args.spots.now) states route c.args.other.now c.args.spots.now c.free_list.new.spots c.leave.new.spots c.mark_list.new.spots c.enter.new.spots
    c.requires.inside c.requires.other_inside c.requires.apart c.requires.once c.requires.once_after c.requires.spots frees c.leave.ensures marks c.enter.ensures
