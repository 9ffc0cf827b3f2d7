use Rattle.std.proofs.Common.{not, filter}
use Rattle.std.specs.List.{range_with_len}
use Rattle.list_words.specs.Lists.{is_in}
use Rattle.routing_model.specs.Routes.{clients_of_vehicles}
use Rattle.exchange_children.specs.inside.Clashing.{AreClashes, HasMarks}
use Rattle.exchange_children.proofs.exchanged.Exchanged.kept_clients.Given as goal

abbrev pub invariant-loop-vehicle : goal.invariant-loop-vehicle
invariant-loop-vehicle l = record {
  marks : HasMarks l.given l.clients;
  clients : AreClashes l.given l.clients (clients_of_vehicles l.self.parent.now (filter (λ v. not (is_in l.self.into.now v)) (range_with_len 0 l.vehicle)));
}
