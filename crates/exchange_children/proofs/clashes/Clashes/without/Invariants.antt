use Rattle.std.proofs.Common.{◌≡◌, ℕ, List, take}
use Rattle.genetic_model.specs.RouteChildren.{without_clashes}
use Rattle.exchange_children.specs.inside.Clashing.{AreClashes}
use Rattle.exchange_children.proofs.clashes.Clashes.without.Given as goal

abbrev pub invariant-loop-visit : goal.invariant-loop-visit
invariant-loop-visit l = (clients : List ℕ) → AreClashes l.given l.self clients → l.list.items ≡ without_clashes l.given clients (take l.visit-index l.visits)
