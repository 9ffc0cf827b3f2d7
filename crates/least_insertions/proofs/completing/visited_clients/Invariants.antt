use Rattle.std.specs.Prelude.{◌≡◌, length, take}
use Rattle.problem_data.specs.Places.{place_count}
use Rattle.genetic_model.proofs.RouteTotals.{all_clients}
use Rattle.route_rings.specs.Marks.{AreMarks}
use Rattle.least_insertions.proofs.completing.visited_clients.Given as goal

abbrev pub invariant-loop-visits : goal.invariant-loop-visits
invariant-loop-visits l = record {
  long : length l.visited.items ≡ place_count l.given;
  marks : AreMarks l.visited.items (all_clients (take l.visits-index l.routes));
}
