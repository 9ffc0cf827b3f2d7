-- The best of the plans that were found is feasible, with its cost.
use Rattle.std.proofs.Common.{◌≡◌, Bool, true, false, cond, refl}
use Rattle.std.specs.Prelude.{Some, ◌&&◌}
use Rattle.routing_model.specs.Best.{improves, is_below_best, IsFeasibleBest}
use Rattle.routing_model.specs.Cost.{solution_cost}
use Rattle.routing_model.specs.Feasible.{is_feasible}
use Rattle.routing_model.specs.Laws.{BestStaysFeasible}
use Rattle.routing_model.proofs.FeasibleCost.{feasible_cost-same}

-- what holds at both branches of a choice holds of the choice
pub of_choice : {X : Type 0} (P : X → Type 0) (b : Bool) (x y : X) → (b ≡ true → P x) → P y → P (cond b x y)
of_choice P true x y at_true at_false = at_true refl
of_choice P false x y at_true at_false = at_false

-- the first of two tests
first_test : (a b : Bool) → a && b ≡ true → a ≡ true
first_test true b both = refl
first_test false b both = both

pub best_after-feasible : BestStaysFeasible
best_after-feasible p w routes best now =
    of_choice (IsFeasibleBest p) (improves p w routes best) (Some (record { routes = routes; cost = solution_cost p w routes })) best
    (λ better. let feasible = first_test (is_feasible p routes) (is_below_best (solution_cost p w routes) best) better in (feasible, λ v. feasible_cost-same p routes feasible w v)) now
