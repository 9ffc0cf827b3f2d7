use Rattle.std.specs.Prelude.{◌≡◌, ◌+◌, ◌%◌, ◌<◌, length}
use Rattle.problem_data.specs.Places.{place_count}
use Rattle.routing_model.specs.Routes.{clients_of_vehicles}
use Rattle.genetic_model.specs.RouteSelection.{around}
use Rattle.route_rings.specs.Marks.{AreMarks}
use Rattle.route_rings.proofs.ring.Ring.select.Given as goal

abbrev pub invariant-loop-step : goal.invariant-loop-step
invariant-loop-step l = record {
  long : length l.marks ≡ place_count l.given;
  marks : AreMarks l.marks (clients_of_vehicles l.self.routes.now (around l.self.order.now l.start l._step));
  at : l.at ≡ (l.start + l._step) % length l.self.order.now;
  there : l.at < length l.self.order.now;
}
