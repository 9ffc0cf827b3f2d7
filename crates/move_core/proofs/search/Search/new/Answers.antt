use Rattle.std.proofs.Common.{rules}
use Rattle.plan_tables.specs.Routes.{lists_of}
use Rattle.move_core.proofs.search.Search.new.Goals as goal

pub invariant_of-result : goal.invariant_of-result
invariant_of-result c = record {
  plan = search rules;
  costs_total = search rules;
  has_facts = search rules;
  is_look = c.nothing.ensures (record { problem = c.args.given.now; weights = c.args.weights; routes = lists_of c.in_ok-routes.routes.items });
}
