use Rattle.std.proofs.Common.{◌≡◌, ◌∙◌, sym, subst}
use Rattle.route_cache.specs.Routes.{RouteState}
use Rattle.new_lists.specs.Views.{route_at}
use Rattle.star_pairs.specs.BestPairs.{IsBestPair}
use Rattle.route_moves.proofs.star_lists.star_pair.Goals as goal

pub returns-clause-pair : goal.returns-clause-pair
returns-clause-pair c =
    let s = c.args.search.now in
    let a = c.route-a.ensures in
    let b = c.route.ensures in
    let first : c.route-a.result.now ≡ route_at s c.args.first = λ k. record { problem = a.problem k; vehicle = a.vehicle k; visits = a.visits k } in
    let second : c.route.result.now ≡ route_at s c.args.second = λ k. record { problem = b.problem k; vehicle = b.vehicle k; visits = b.visits k } in
    record {
      may = sym c.may_star.ensures ∙ c.if-not-may_star.false;
      best = subst (λ (x : RouteState). IsBestPair x (route_at s c.args.second) c.best_pair.result) first (subst (λ (y : RouteState). IsBestPair c.route-a.result.now y c.best_pair.result) second c.best_pair.ensures.best);
    }
