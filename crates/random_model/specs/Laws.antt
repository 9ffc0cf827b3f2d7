-- What the definitions say of themselves.
use Rattle.std.specs.Prelude.{IsTrue}
use Rattle.std.specs.List.{list_all}
use Rattle.problem_data.specs.declared.problem.Problem.{Problem}
use Rattle.problem_data.specs.Valid.{IsValid}
use Rattle.vrp_num.specs.Words.{State}
use Rattle.routing_model.specs.Lawful.{is_lawful}
use Rattle.routing_model.specs.Routes.{is_client}
use Rattle.random_model.specs.RandomSolution.{random_solution}

-- each random solution of a valid problem is lawful
abbrev pub RandomIsLawful : Type 0
RandomIsLawful = (p : Problem) (s : State) → IsValid p → IsTrue (is_lawful p (random_solution p s).value)

-- and it visits clients alone
abbrev pub RandomHasClientsAlone : Type 0
RandomHasClientsAlone = (p : Problem) (s : State) → IsTrue (list_all (list_all is_client) (random_solution p s).value)
