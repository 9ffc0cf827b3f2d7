use Rattle.std.proofs.Common.{◌≡◌, ◌∙◌, arith, ◌+ℤ◌, of_z, to_z}
use Rattle.std.proofs.lemmas.Int.{ints}
use Rattle.std.specs.Int.{w128}
use Rattle.gain_model.specs.Gains.{HasAmount}
use Rattle.plan_tables.specs.Routes.{lists_of}
use Rattle.move_core.proofs.SoundSearches.{cost-after}
use Rattle.move_core.proofs.search.Search.apply.Goals as goal

pub invariant_of-self-2 : goal.invariant_of-self-2
invariant_of-self-2 c =
    let amount : HasAmount c.self.inside.given.now c.self.inside.weights (lists_of c.self.inside.routes.items) c.args.gain = rw (← c.self.view_is) at c.requires.amount in
    let exact : to_z w128 (of_z w128 (to_z w128 (of_z w128 c.self.inside.cost) +ℤ to_z w128 (of_z w128 c.amount.result))) ≡ (c.self.inside.cost +ℤ c.args.gain.amount) = omega (arith, ints) in
    record {
      plan = c.in_ok-change.ensures.plan;
      costs_total =
          exact
          ∙ cost-after c.self.inside.given.now c.self.inside.weights (lists_of c.self.inside.routes.items) (lists_of c.change.new.routes.items) c.self.inside.cost c.args.gain c.self.invariant.costs_total amount c.in_ok-change.ensures.lists;
      has_facts = c.self.invariant.has_facts;
      is_look = c.nothing-self-inside.ensures (record { problem = c.self.inside.given.now; weights = c.self.inside.weights; routes = lists_of c.change.new.routes.items });
    }
