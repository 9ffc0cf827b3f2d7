use Rattle.std.proofs.Common.{◌≡◌, ◌+◌, length}
use Rattle.compared_plans.specs.Compared.{AreComparedBy, plans_in}
use Rattle.compared_plans.specs.inside.Numbers.{near_while_comparing}
use Rattle.compared_plans.proofs.comparing.compare_last.Given as goal

abbrev pub invariant-loop-at : goal.invariant-loop-at
invariant-loop-at l = record {
  long : length l.items ≡ l.last + 1;
  plans : plans_in l.items ≡ plans_in l.initial.items;
  compared : AreComparedBy l.given (near_while_comparing l.given (plans_in l.initial.items) l.last l.at) l.items;
}
