use Rattle.std.proofs.Common.{◌<◌, length, subst, sym}
use Rattle.std.proofs.lemmas.List.{get_or_read}
use Rattle.problem_data.specs.Places.{vehicle_count}
use Rattle.problem_data.proofs.VehicleNumbers.{type_of_in_range}
use Rattle.problem_data.proofs.valid_problem.ProblemData.type_of.Goals as goal

pub returns-clause-in_range : goal.returns-clause-in_range
returns-clause-in_range c =
    let known : c.args.vehicle < vehicle_count c.self.inside.problem = subst (λ p. c.args.vehicle < vehicle_count p) (sym c.self.view_is) c.requires in
    let within : c.args.vehicle < length c.self.inside.types.items = rw c.self.invariant.types known in
    rw (get_or_read c.self.inside.types.items _ _ within c.index.ensures 0, c.self.invariant.types, ← c.self.view_is)
    (type_of_in_range c.self.inside.problem c.args.vehicle known)
