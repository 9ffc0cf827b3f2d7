use Rattle.std.proofs.Common.{◌≡◌, map}
use Rattle.std.specs.List.{range_with_len}
use Rattle.problem_data.specs.declared.visit.Visit.TheVariants.{Client}
use Rattle.random_model.proofs.Dealing.{part}
use Rattle.random_plans.proofs.dealing.dealt.Given as goal

-- the routes so far are the first vehicles' parts
abbrev pub invariant-loop-vehicle : goal.invariant-loop-vehicle
invariant-loop-vehicle l = l.routes.items ≡ map (λ v. map Client (part l.share l.clients v)) (range_with_len 0 l.vehicle)
