-- A random plan is lawful.
use Rattle.std.proofs.Common.{◌≡◌, sym, subst}
use Rattle.std.specs.Prelude.{Err, IfOk, IsTrue, Ok, Result}
use Rattle.problem_data.specs.declared.problem.Problem.{Problem}
use Rattle.problem_data.specs.declared.problem.Solution.{Solution}
use Rattle.problem_data.specs.Valid.{IsValid}
use Rattle.vrp_num.specs.Words.{State}
use Rattle.routing_model.specs.Lawful.{is_lawful}
use Rattle.routing_model.specs.Routes.{Routes}
use Rattle.random_model.specs.RandomSolution.{random_solution}
use Rattle.random_model.proofs.LawfulDraws.{random-lawful}

-- so is the one that was drawn
pub drawn-lawful : {E : Type 0} (p : Problem) (s : State) (drawn : Result Solution E) → IsValid p → IfOk drawn (λ r. r.routes ≡ (random_solution p s).value) → IfOk drawn (λ r. IsTrue (is_lawful p r.routes))
drawn-lawful p s (Ok solution) valid is = subst (λ (routes : Routes). IsTrue (is_lawful p routes)) (sym is) (random-lawful p s valid)
drawn-lawful p s (Err error) valid is = is
