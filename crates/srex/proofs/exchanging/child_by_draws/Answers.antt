use Rattle.std.proofs.Common.{◌≡◌, ◌∙◌, ◌+◌, ◌%◌, ℕ, ap, ap₂, arith, length, min, subst}
use Rattle.std.specs.Prelude.{IfOk}
use Rattle.routing_model.specs.Routes.{Routes}
use Rattle.vrp_num.specs.Words.{drawn, next_state}
use Rattle.genetic_model.specs.RouteExchange.{child_of_exchange, exchange_from}
use Rattle.srex.proofs.SelectedRoutes.{first-ring, second-ring}
use Rattle.srex.proofs.exchanging.child_by_draws.Goals as goal

pub overflow_cast-size : goal.overflow_cast-size
overflow_cast-size c = let few = (first-ring c.args.given.now c.args.first c.args.second c.requires.parents).few in omega arith

pub overflow_cast-other_size : goal.overflow_cast-other_size
overflow_cast-other_size c = let few = (second-ring c.args.given.now c.args.first c.args.second c.requires.parents).few in omega arith

pub returns-clause-child : goal.returns-clause-child
returns-clause-child c =
    let p = c.args.given.now in
    let a : Routes = c.args.first.routes.now in
    let b : Routes = c.args.second.routes.now in
    let m : ℕ = length c.args.first.order.now in
    let n : ℕ = length c.args.second.order.now in
    let child : ℕ → ℕ → Routes = λ (fewer start : ℕ). child_of_exchange p c.args.weights a b (exchange_from p a b (fewer + 1) (record { first = start; second = start % n })) in
    let fewer : c.below-count.result ≡ drawn (min m n) c.args.generator.now = c.below-count.ensures.drawn ∙ ap (λ (k : ℕ). drawn k c.args.generator.now) c.min.ensures in
    let start : c.below-start.result ≡ drawn m (next_state c.args.generator.now) = c.below-start.ensures.drawn ∙ ap (drawn m) c.below-count.ensures.state in
    subst (λ (r : Routes). IfOk c.child_from.result (λ made. made.items ≡ r)) (ap₂ child fewer start) c.child_from.ensures
