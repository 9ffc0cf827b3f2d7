use Rattle.std.proofs.Common.{◌≡◌, ◌∙◌, ap, arith, length, sym, List, Some}
use Rattle.problem_data.specs.Places.{place_count}
use Rattle.route_cache.specs.Routes.{RouteState}
use Rattle.plan_tables.specs.Routes.{lists_of, placed}
use Rattle.plan_tables.proofs.MovedClients.{same-spots}
use Rattle.plan_tables.proofs.WrittenBack.{written-back}
use Rattle.plan_tables.proofs.installed.install.Goals as goal

pub returns-clause-tables : goal.returns-clause-tables
returns-clause-tables c =
    let count : c.args.kept.now.spots.len ≡ length c.move_clients.new.spots = omega (arith, c.move_clients.auto.spots, c.as_mut_slice.ensures.len) in
    let spots : c.put-2.new.kept.spots.items ≡ c.move_clients.new.spots =
    (λ i. ((c.put-2.ensures.spots ∙ c.put.ensures.spots) i).items) ∙ written-back c.args.kept.now.spots.len c.move_clients.new.spots c.args.kept.now.spots.items count in
    let after = λ (states : List RouteState). lists_of (placed c.args.other (placed (Some c.args.route) states)) in
    record {
      has_spots =
          same-spots (length c.as_mut_slice.result.now) (place_count c.args.given.now) (after c.as_slice.result.now) (lists_of c.put-2.new.routes.items) c.move_clients.new.spots c.put-2.new.kept.spots.items
          (ap length c.as_mut_slice.ensures.value ∙ c.requires.tables.has_spots.count)
          (ap after c.as_slice.ensures.value ∙ ap lists_of (sym (c.put-2.ensures.routes ∙ ap (placed c.args.other) c.put.ensures.routes)))
          spots c.move_clients.ensures;
      has_figures = c.put-2.ensures.figures;
      has_unused = c.put-2.ensures.least;
    }
