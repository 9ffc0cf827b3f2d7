use Rattle.std.proofs.Common.{◌≡◌, drop, length}
use Rattle.routing_model.specs.Routes.{is_same_plan}
use Rattle.compared_plans.proofs.duplicates.is_same_plan.Given as goal

abbrev pub invariant-loop-vehicle : goal.invariant-loop-vehicle
invariant-loop-vehicle l = record {
  as_long : length l.a ≡ length l.b;
  left : is_same_plan l.a l.b ≡ is_same_plan (drop l.vehicle l.a) (drop l.vehicle l.b);
}
