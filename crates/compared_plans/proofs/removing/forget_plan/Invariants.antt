use Rattle.std.proofs.Common.{◌≡◌, length}
use Rattle.compared_plans.specs.Compared.{AreComparedBy, plans_in}
use Rattle.compared_plans.specs.inside.Numbers.{near_while_removing}
use Rattle.compared_plans.proofs.removing.forget_plan.Given as goal

abbrev pub invariant-loop-at : goal.invariant-loop-at
invariant-loop-at l = record {
  long : length l.items ≡ length l.initial.items;
  plans : plans_in l.items ≡ plans_in l.initial.items;
  compared : AreComparedBy l.given (near_while_removing l.given (plans_in l.initial.items) l.gone.plan.routes l.place l.at) l.items;
}
