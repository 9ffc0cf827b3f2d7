use Rattle.std.proofs.Common.{◌≡◌, take}
use Rattle.problem_data.proofs.problem.Solution.copy.Given as goal

-- the lists copied so far are the first ones
abbrev pub invariant-loop-route : goal.invariant-loop-route
invariant-loop-route l = l.routes.items ≡ take l.route-index l.route-items
