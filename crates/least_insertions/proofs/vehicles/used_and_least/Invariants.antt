use Rattle.std.specs.Prelude.{◌≡◌, filter, length}
use Rattle.std.specs.List.{range_with_len}
use Rattle.search_model.specs.RouteMoves.{is_used_or_least}
use Rattle.least_insertions.specs.inside.Types.{AreMet}
use Rattle.least_insertions.proofs.vehicles.used_and_least.Given as goal

abbrev pub invariant-loop-vehicle : goal.invariant-loop-vehicle
invariant-loop-vehicle l = record {
  marks : length l.met ≡ length l.given.types;
  met : AreMet l.given l.routes l.vehicle l.met;
  vehicles : l.vehicles.items ≡ filter (is_used_or_least l.given l.routes) (range_with_len 0 l.vehicle);
}
