use Rattle.std.proofs.Common.{◌≡◌, map}
use Rattle.std.specs.List.{range_with_len}
use Rattle.search_model.specs.Edits.{unused_vehicle}
use Rattle.local_search.proofs.descent.unused_vehicles.Given as goal

-- those of the first types
abbrev pub invariant-loop-vehicle_type : goal.invariant-loop-vehicle_type
invariant-loop-vehicle_type l = l.unused.items ≡ map (unused_vehicle l.search.problem l.search.routes) (range_with_len 0 l.vehicle_type)
