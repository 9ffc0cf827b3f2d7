use Rattle.std.specs.Prelude.{◌≡◌, ◌++◌, List, map}
use Rattle.std.specs.List.{range_with_len}
use Rattle.routing_model.specs.Routes.{Routes, list_at}
use Rattle.least_insertions.specs.inside.Places.{IsBestOf, with_client}
use Rattle.least_insertions.proofs.positions.best_position.Given as goal

abbrev pub invariant-loop-position : goal.invariant-loop-position
invariant-loop-position l = record {
  list : l.list.items ≡ list_at l.routes l.vehicle;
  best : (plans : List Routes) → IsBestOf l.given l.weights l.routes l.client l.fn.before plans →
      IsBestOf l.given l.weights l.routes l.client l.best (plans ++ map (with_client l.routes l.client l.vehicle) (range_with_len 0 l.position));
}
