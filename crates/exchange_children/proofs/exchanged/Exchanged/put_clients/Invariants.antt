use Rattle.std.proofs.Common.{take}
use Rattle.routing_model.specs.Routes.{clients_of_vehicles}
use Rattle.exchange_children.specs.inside.Clashing.{AreClashes, HasMarks}
use Rattle.exchange_children.proofs.exchanged.Exchanged.put_clients.Given as goal

abbrev pub invariant-loop-vehicle : goal.invariant-loop-vehicle
invariant-loop-vehicle l = record {
  marks : HasMarks l.given l.clients;
  clients : AreClashes l.given l.clients (clients_of_vehicles l.self.other.now (take l.vehicle-index l.self.from.now));
}
