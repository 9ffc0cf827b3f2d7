use Rattle.std.proofs.Common.{◌∙◌, ℕ, List, ap, arith}
use Rattle.std.specs.Prelude.{nat_eq}
use Rattle.problem_data.specs.declared.visit.Visit.{Visit}
use Rattle.routing_model.specs.Routes.{list_at}
use Rattle.route_cache.specs.Marks.{reloads_in}
use Rattle.route_moves.proofs.ClientLists.{trip-test}
use Rattle.route_moves.proofs.star_lists.is_one_trip.Goals as goal

pub returns-then-size-gt0 : goal.returns-then-size-gt0
returns-then-size-gt0 c =
    let size = c.size.ensures.size in
    ap (λ (n : ℕ). nat_eq n 0) (c.reloads_of.ensures ∙ ap (λ (xs : List Visit). reloads_in xs) c.route.ensures.visits)
    ∙ trip-test (list_at c.args.search.now.routes c.args.vehicle) (omega (arith, size))
