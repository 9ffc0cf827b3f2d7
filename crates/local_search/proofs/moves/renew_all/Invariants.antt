use Rattle.std.proofs.Common.{◌≡◌, length}
use Rattle.descent_memory.specs.Touching.{renewed_all}
use Rattle.local_search.proofs.moves.renew_all.Given as goal

-- the first types are renewed
abbrev pub invariant-loop-vehicle_type : goal.invariant-loop-vehicle_type
invariant-loop-vehicle_type l = record {
  memory : l.memory ≡ renewed_all l.search.problem l.search.routes l.vehicle_type l.fn.memory;
  unused : length l.memory.unused ≡ length l.search.problem.types;
  types : length l.memory.touches.types ≡ length l.search.problem.types;
}
