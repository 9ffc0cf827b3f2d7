use Rattle.std.specs.Prelude.{◌≡◌, ◌-◌, ◌≤◌, fold, length}
use Rattle.std.specs.List.{range_with_len}
use Rattle.problem_data.specs.Places.{depot_count, place_count}
use Rattle.genetic_model.specs.Insertion.{completed_with}
use Rattle.genetic_model.proofs.SoundChildren.{IsSound}
use Rattle.least_insertions.specs.inside.Visited.{AreVisited}
use Rattle.least_insertions.proofs.completing.completed.Given as goal

abbrev pub invariant-loop-client : goal.invariant-loop-client
invariant-loop-client l = record {
  begun : depot_count l.given ≤ l.client;
  long : length l.visited ≡ place_count l.given;
  marks : AreVisited l.visited l.lists.items;
  sound : IsSound l.given l.lists.items;
  so_far : l.lists.items ≡ fold (completed_with l.given l.weights) l.fn.routes.items (range_with_len (depot_count l.given) (l.client - depot_count l.given));
}
