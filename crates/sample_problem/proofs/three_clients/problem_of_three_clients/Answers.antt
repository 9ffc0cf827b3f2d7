use Rattle.std.proofs.Common.{subst, sym}
use Rattle.problem_data.specs.Valid.{IsValid}
use Rattle.sample_problem.proofs.ThreeClientsAreValid.{three_clients-valid}
use Rattle.sample_problem.proofs.three_clients.problem_of_three_clients.Goals as goal

pub new-requires : goal.new-requires
new-requires c = subst IsValid (sym c.in_ok-problem.ensures) three_clients-valid
