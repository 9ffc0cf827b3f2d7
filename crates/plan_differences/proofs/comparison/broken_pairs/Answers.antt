use Rattle.std.proofs.Common.{subst}
use Rattle.routing_model.specs.Routes.{Routes}
use Rattle.plan_differences.specs.Beside.{AreFlanks}
use Rattle.plan_differences.proofs.comparison.broken_pairs.Goals as goal

pub returns : goal.returns
returns c =
    c.broken_between.ensures.pairs c.args.a.now.routes c.args.b.now.routes
    (subst (λ (routes : Routes). AreFlanks c.args.given.now routes c.fill.new.entries) c.items.ensures c.fill.ensures)
    (subst (λ (routes : Routes). AreFlanks c.args.given.now routes c.fill-2.new.entries) c.items-2.ensures c.fill-2.ensures)
