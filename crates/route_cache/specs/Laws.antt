-- Laws: what a lawful plan's lists are.
use Rattle.std.specs.Prelude.{All, IsTrue}
use Rattle.problem_data.specs.declared.problem.Problem.{Problem}
use Rattle.problem_data.specs.Valid.{IsValid}
use Rattle.routing_model.specs.Lawful.{is_lawful}
use Rattle.routing_model.specs.Listed.{IsListed}
use Rattle.routing_model.specs.Routes.{Routes}

-- a route can be made of each list of a lawful plan
abbrev pub LawfulListsAreListed : Type 0
LawfulListsAreListed = (p : Problem) (routes : Routes) → IsValid p → IsTrue (is_lawful p routes) → All (IsListed p) routes
