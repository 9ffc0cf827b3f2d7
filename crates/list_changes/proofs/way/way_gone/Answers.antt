use Rattle.std.proofs.Common.{◌∙◌, ℕ, ◌+◌, sym, ap₂}
use Rattle.routing_model.specs.Listed.{type_of_vehicle}
use Rattle.route_cache.proofs.MarkFacts.{no_mark}
use Rattle.route_cache.proofs.MarkPaths.{mark-leg}
use Rattle.list_changes.proofs.WayLaws.{through-own}
use Rattle.list_changes.proofs.way.way_gone.Goals as goal

pub returns : goal.returns
returns c =
    let route = c.args.route.now in
    let t = type_of_vehicle route.problem route.vehicle in
    let own = through-own route.problem t route.visits c.args.layout.left c.args.layout.right c.requires.in_order c.requires.in_list in
    let leg = mark-leg route.problem t route.visits c.marks-marks.result.now c.marks-marks.ensures no_mark c.args.layout.right c.requires.in_list in
    ap₂ (λ (m n : ℕ). m + n) c.along.ensures.distance (c.from.ensures ∙ leg) ∙ sym own
