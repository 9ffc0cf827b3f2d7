use Rattle.std.proofs.Common.{◌≡◌, map, take}
use Rattle.problem_data.specs.declared.visit.Visit.TheVariants.{Client}
use Rattle.random_plans.proofs.dealing.visits_of.Given as goal

-- the visits so far are those of the first clients
abbrev pub invariant-loop-place : goal.invariant-loop-place
invariant-loop-place l = l.visits.items ≡ map Client (take l.place-index l.clients)
