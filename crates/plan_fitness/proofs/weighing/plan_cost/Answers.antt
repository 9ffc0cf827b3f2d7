use Rattle.std.proofs.Common.{◌≡◌, ◌∙◌, sym, ap, ℕ, ◌+◌, ℤ, pos, ◌≤ℤ◌, arith}
use Rattle.std.proofs.lemmas.Int.{ints}
use Rattle.routing_model.specs.declared.weights.Assessment.{Assessment}
use Rattle.routing_model.specs.Feasible.{total_excess_distance, total_excess_load, total_excess_time}
use Rattle.plan_fitness.specs.PlanCosts.{weighed_excess}
use Rattle.plan_fitness.proofs.WeighedSums.{cost-weighed}
use Rattle.plan_fitness.proofs.weighing.plan_cost.Goals as goal

-- a natural number isn't below 0
not-below : (z : ℤ) (n : ℕ) → z ≡ pos n → pos 0 ≤ℤ z
not-below z n e = omega (arith, ints)

pub returns-clause-cost : goal.returns-clause-cost
returns-clause-cost c =
    let p = c.args.given.now in
    let routes = c.args.solution.now.routes in
    record {
      weighed = λ w. cost-weighed p w routes ∙ ap (λ (n : ℕ). n + weighed_excess p w routes) (sym c.plain_cost.ensures.cost);
      excess = c.assess.ensures.assessment;
      in_range = record {
        cost = c.plain_cost.ensures.range;
        load = not-below _ (total_excess_load p routes) (ap (λ (a : Assessment). a.load) c.assess.ensures.assessment);
        warp = not-below _ (total_excess_time p routes) (ap (λ (a : Assessment). a.warp) c.assess.ensures.assessment);
        distance = not-below _ (total_excess_distance p routes) (ap (λ (a : Assessment). a.distance) c.assess.ensures.assessment);
      };
    }
