use Rattle.std.proofs.Common.{refl, subst}
use Rattle.vrp_num.specs.Words.{State}
use Rattle.routing_model.specs.Routes.{Routes}
use Rattle.random_model.specs.RandomSolution.{random_solution}
use Rattle.genetic_model.specs.Run.{admitted, with_random}
use Rattle.genetic.specs.inside.Runs.{Stands, reached}
use Rattle.genetic.proofs.RunSteps.{stands-by}
use Rattle.genetic.proofs.run.Run.add_random.Goals as goal

pub returns-clause-stands : goal.returns-clause-stands
returns-clause-stands c = λ first ts r.
    let s = c.args.self.now in
    let p = s.given.now in
    let plan = c.in_ok-plan.plan in
    stands-by first ts ts s c.admit.new.self (with_random p) r
    (λ starts rises.
    subst (λ (state : State). Stands first c.admit.new.self ts (admitted p (random_solution p s.generator).value (record (reached s starts) { state = state }))) c.in_ok-plan.ensures.state
    (subst (λ (routes : Routes). Stands first c.admit.new.self ts (admitted p routes (record (reached s starts) { state = c.random_solution.new.generator }))) c.in_ok-plan.ensures.solution
    (c.in_ok-admit.ensures.stands first ts (record (reached s starts) { state = c.random_solution.new.generator }) (record { same = refl; rises = rises }))))
