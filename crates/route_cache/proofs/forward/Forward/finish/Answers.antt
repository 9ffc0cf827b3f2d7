use Rattle.std.proofs.Common.{◌≡◌, [], ◌∷◌, ◌++◌, ◌∙◌, rules, length}
use Rattle.route_cache.proofs.MarkFacts.{leg-next, marked-more}
use Rattle.route_cache.proofs.forward.Forward.finish.Goals as goal

pub at_end-end-requires-clause-leg : goal.at_end-end-requires-clause-leg
at_end-end-requires-clause-leg c = c.leg_along-to.ensures.distance ∙ leg-next c.args.given.now c.args.vehicle_type.now c.args.visits.now (length c.args.visits.now)

pub returns-clause-marked : goal.returns-clause-marked
returns-clause-marked c =
    let was = c.args.self.now in
    let marks : c.push.new.self.items ≡ c.args.self.now.marks.items ++ c.at_end-end.result ∷ [] = search rules in
    let durations : c.push-2.new.self.items ≡ c.args.self.now.durations.items ++ c.leg_along-to.result.duration ∷ [] = search rules in
    marked-more c.args.given.now c.args.vehicle_type.now c.args.visits.now (length c.args.visits.now) was.marks.items c.push.new.self.items was.durations.items c.push-2.new.self.items c.at_end-end.result c.leg_along-to.result.duration
    c.requires.forward.marked c.at_end-end.ensures c.leg_along-to.ensures.duration marks durations
