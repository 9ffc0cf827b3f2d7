use Rattle.std.proofs.Common.{subst, sym}
use Rattle.problem_data.specs.Valid.{IsValid}
use Rattle.sample_problem.proofs.TwoTripsAreValid.{two_trips-valid}
use Rattle.sample_problem.proofs.two_trips.problem_of_two_trips.Goals as goal

pub new-requires : goal.new-requires
new-requires c = subst IsValid (sym c.in_ok-problem.ensures) two_trips-valid
