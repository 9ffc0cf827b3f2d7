use Rattle.std.proofs.Common.{length}
use Rattle.descent_memory.proofs.AfterMoves.{renew_more, renew_types, renew_unused}
use Rattle.local_search.proofs.moves.renew_all.Goals as goal

pub loop-vehicle_type-preserved : goal.loop-vehicle_type-preserved
loop-vehicle_type-preserved c = record {
  memory = renew_more c.args.search.now.problem c.args.search.now.routes c.loop-vehicle_type.vehicle_type c.args.memory.now c.loop-vehicle_type.memory c.renew.new.self c.unused.result c.renew.ensures c.unused.ensures.unused c.loop-vehicle_type.invariant.memory;
  unused = renew_unused c.loop-vehicle_type.vehicle_type (length c.args.search.now.problem.types) c.unused.result c.loop-vehicle_type.memory c.renew.new.self c.renew.ensures c.loop-vehicle_type.invariant.unused;
  types = renew_types c.loop-vehicle_type.vehicle_type (length c.args.search.now.problem.types) c.unused.result c.loop-vehicle_type.memory c.renew.new.self c.renew.ensures c.loop-vehicle_type.invariant.types;
}
