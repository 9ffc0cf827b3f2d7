use Rattle.std.proofs.Common.{◌≡◌, ◌∙◌, ap₂, pos, ◌≤ℤ◌, ℤ, ℕ, List, Option, arith, to_z, of_z}
use Rattle.std.specs.Int.{w128}
use Rattle.std.proofs.lemmas.Int.{ints}
use Rattle.routing_model.specs.Best.{Best}
use Rattle.routing_model.specs.Cost.{solution_cost}
use Rattle.routing_model.specs.Routes.{Routes}
use Rattle.subpopulation.specs.Kept.{plans_of}
use Rattle.population.proofs.AddedPlans.{replaced-best}
use Rattle.population.proofs.plans.Population.add_feasible.Goals as goal

not-below : (z : ℤ) (n : ℕ) → z ≡ pos n → pos 0 ≤ℤ z
not-below z n e = omega (arith, ints)

pub better_than-requires : goal.better_than-requires
better_than-requires c =
    let p = c.args.given.now in
    let routes = c.args.plan.routes in
    let same : to_z w128 (of_z w128 c.unweighed.result) ≡ c.unweighed.result = omega (arith, ints) in
    not-below _ (solution_cost p c.args.weights routes) (same ∙ c.unweighed.ensures p routes c.args.weights c.requires.cost c.requires.feasible)

pub returns-clause-best : goal.returns-clause-best
returns-clause-best c =
    let p = c.args.given.now in
    let routes = c.args.plan.routes in
    let w = c.args.weights in
    let same : to_z w128 (of_z w128 c.unweighed.result) ≡ c.unweighed.result = omega (arith, ints) in
    let cost = same ∙ c.unweighed.ensures p routes w c.requires.cost c.requires.feasible in
    let new = c.in_ok-better.ensures (solution_cost p w routes) cost in
    let best = replaced-best p w routes c.args.self.now.best c.in_ok-better.better c.requires.feasible new in
    c.replace.ensures.replaced ∙ best.1

pub returns-clause-ok : goal.returns-clause-ok
returns-clause-ok c =
    let p = c.args.given.now in
    let routes = c.args.plan.routes in
    let w = c.args.weights in
    let same : to_z w128 (of_z w128 c.unweighed.result) ≡ c.unweighed.result = omega (arith, ints) in
    let cost = same ∙ c.unweighed.ensures p routes w c.requires.cost c.requires.feasible in
    let new = c.in_ok-better.ensures (solution_cost p w routes) cost in
    let best = replaced-best p w routes c.args.self.now.best c.in_ok-better.better c.requires.feasible new in
    ap₂ (λ (l : List Routes) (b : Option Best). record { params = c.args.self.now.params; feasible = l; infeasible = plans_of c.args.self.now.infeasible; best = b })
    c.in_ok-append.ensures.ok (c.replace.ensures.best ∙ best.0)
