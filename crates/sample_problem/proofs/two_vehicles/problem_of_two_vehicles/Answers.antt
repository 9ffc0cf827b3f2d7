use Rattle.std.proofs.Common.{subst, sym}
use Rattle.problem_data.specs.Valid.{IsValid}
use Rattle.sample_problem.proofs.TwoVehiclesAreValid.{two_vehicles-valid}
use Rattle.sample_problem.proofs.two_vehicles.problem_of_two_vehicles.Goals as goal

pub new-requires : goal.new-requires
new-requires c = subst IsValid (sym c.in_ok-problem.ensures) two_vehicles-valid
