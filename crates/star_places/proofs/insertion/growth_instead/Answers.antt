use Rattle.std.proofs.Common.{◌∙◌, sym, ap₂}
use Rattle.problem_data.specs.Places.{leg_distance}
use Rattle.routing_model.specs.Listed.{type_of_vehicle}
use Rattle.route_cache.proofs.MarkFacts.{no_mark}
use Rattle.star_places.proofs.OverLegs.{mark-over}
use Rattle.star_places.proofs.insertion.growth_instead.Goals as goal

pub detour-requires-clause-between : goal.detour-requires-clause-between
detour-requires-clause-between c =
    let route = c.args.route.now in
    let t = type_of_vehicle route.problem route.vehicle in
    mark-over route.problem t route.visits c.marks.result.now c.marks.ensures no_mark c.args.position c.requires.position
    ∙ sym (ap₂ (leg_distance route.problem t.profile) c.place_at-from.ensures.place c.place_at-to.ensures.place)
