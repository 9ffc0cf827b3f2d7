use Rattle.std.proofs.Common.{subst, sym}
use Rattle.problem_data.specs.Valid.{IsValid}
use Rattle.sample_problem.proofs.ThreeTypesAreValid.{three_types-valid}
use Rattle.sample_problem.proofs.three_types.problem_of_three_types.Goals as goal

pub new-requires : goal.new-requires
new-requires c = subst IsValid (sym c.in_ok-problem.ensures) three_types-valid
