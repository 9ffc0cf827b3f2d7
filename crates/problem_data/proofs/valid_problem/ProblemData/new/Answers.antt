use Rattle.std.proofs.Common.{◌∙◌, ap}
use Rattle.problem_data.proofs.VehicleNumbers.{type_numbers}
use Rattle.problem_data.proofs.PlaceVisits.{visits_by_depots}
use Rattle.problem_data.proofs.valid_problem.ProblemData.new.Goals as goal

pub invariant_of-result : goal.invariant_of-result
invariant_of-result c = record {
  valid = c.requires;
  types = c.in_ok-types.ensures ∙ ap (λ ts. type_numbers 0 ts) c.items.ensures;
  visits = (rw (c.items-depots.ensures, c.items-2.ensures) at c.in_ok-visits.ensures) ∙ visits_by_depots c.args.problem;
}
