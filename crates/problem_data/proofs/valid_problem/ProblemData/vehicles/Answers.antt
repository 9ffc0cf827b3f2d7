use Rattle.std.proofs.Common.{◌≤◌, length, arith}
use Rattle.std.proofs.lemmas.Grind.{common_steps}
use Rattle.problem_data.specs.Limits.{most_vehicles}
use Rattle.problem_data.proofs.VehicleNumbers.{vehicle_count_limit}
use Rattle.problem_data.proofs.valid_problem.ProblemData.vehicles.Goals as goal

pub overflow_cast-result : goal.overflow_cast-result
overflow_cast-result c =
    let few : length c.self.inside.types.items ≤ most_vehicles = rw c.self.invariant.types (vehicle_count_limit c.self.inside.problem c.self.invariant.valid) in
    grind (arith, common_steps, few)

pub returns-clause-limit : goal.returns-clause-limit
returns-clause-limit c =
    let few : length c.self.inside.types.items ≤ most_vehicles = rw c.self.invariant.types (vehicle_count_limit c.self.inside.problem c.self.invariant.valid) in
    grind (arith, common_steps, few)
