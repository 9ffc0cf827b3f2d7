use Rattle.problem_data.specs.Places.{vehicle_count}
use Rattle.random_model.specs.Draws.{client_order}
use Rattle.random_model.specs.RandomSolution.{walk}
use Rattle.random_model.proofs.Dealing.{dealt-clients}
use Rattle.random_model.proofs.laws.random_solutions_have_clients_alone.Goals as goal

pub returns : goal.returns
returns c = λ p s. dealt-clients (vehicle_count p) (walk p (client_order p s).value (client_order p s).state).picked
