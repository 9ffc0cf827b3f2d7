use Rattle.routing_model.specs.Listed.{type_of_vehicle}
use Rattle.routing_model.specs.Routes.{list_at}
use Rattle.list_changes.proofs.BoundLaws.{bound-holds, driven-change}
use Rattle.list_changes.proofs.bound.bound_of.Goals as goal

pub returns-clause-bound : goal.returns-clause-bound
returns-clause-bound c =
    let s = c.args.search.now in
    let change = driven-change (list_at s.routes c.args.vehicle) (list_at s.routes c.args.lender) c.args.layout c.requires.laid s.problem (type_of_vehicle s.problem c.args.vehicle) in
    record {
      small = c.least-least.ensures.least.small;
      cut = c.paid-paid.ensures.cut;
      holds = λ uncut. bound-holds _ _ _ _ _ _ _ _ _ change c.least-least.ensures.least.holds (c.paid-paid.ensures.holds uncut);
    }
