use Rattle.std.proofs.Common.{◌≡◌, false, take}
use Rattle.std.specs.List.{list_any}
use Rattle.routing_model.specs.Routes.{is_same_plan}
use Rattle.genetic_model.specs.Fitness.{item_at}
use Rattle.compared_plans.specs.Compared.{plans_in}
use Rattle.compared_plans.proofs.duplicates.is_duplicate.Given as goal

abbrev pub invariant-loop-earlier : goal.invariant-loop-earlier
invariant-loop-earlier l = list_any (is_same_plan (item_at (plans_in l.items) l.place)) (take l.earlier (plans_in l.items)) ≡ false
