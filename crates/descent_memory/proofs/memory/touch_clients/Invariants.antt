use Rattle.std.proofs.Common.{◌≡◌, drop}
use Rattle.descent_memory.specs.Touching.{touched_clients}
use Rattle.descent_memory.proofs.memory.touch_clients.Given as goal

-- the visits that are left make of the touches what all make of the first ones
abbrev pub invariant-loop-visit : goal.invariant-loop-visit
invariant-loop-visit l = touched_clients l.clock (drop l.visit-index l.visits) l.clients ≡ touched_clients l.clock l.visits l.fn.clients
