use Rattle.std.proofs.Common.{List, subst, sym}
use Rattle.std.specs.List.{remove}
use Rattle.routing_model.specs.Routes.{Routes}
use Rattle.subpopulation.specs.Kept.{AreCosts, plans_of}
use Rattle.subpopulation.proofs.KeptCosts.{costs-remove}
use Rattle.subpopulation.proofs.list.Subpopulation.remove.Goals as goal

pub returns-clause-kept : goal.returns-clause-kept
returns-clause-kept c =
    let p = c.args.given.now in
    let list = c.args.self.now in
    record {
      compared = c.remove.ensures.compared;
      costs = subst (λ (plans : List Routes). AreCosts p plans c.remove-2.new.self.items) (sym c.remove.ensures.plans)
          (subst (AreCosts p (remove (plans_of list) c.args.place)) (sym c.remove-2.ensures.items) (costs-remove p (plans_of list) list.costs.items c.args.place c.requires.place c.requires.kept.costs));
    }
