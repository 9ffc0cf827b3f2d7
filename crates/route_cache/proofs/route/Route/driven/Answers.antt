use Rattle.std.proofs.Common.{arith}
use Rattle.std.proofs.lemmas.Int.{ints}
use Rattle.routing_model.specs.Listed.{type_of_vehicle}
use Rattle.route_cache.proofs.Lengths.{length-along}
use Rattle.route_cache.proofs.MarkFacts.{no_mark}
use Rattle.route_cache.proofs.route.Route.driven.Goals as goal

pub returns-clause-in_range : goal.returns-clause-in_range
returns-clause-in_range c =
    let route = c.args.self.now in
    let t = type_of_vehicle route.problem route.vehicle in
    let cut = length-along route.problem t route.visits c.args.from c.args.to c.validity.ensures.valid c.validity.ensures.allowed c.validity.ensures.listed c.requires.some c.requires.in_order c.requires.in_list in
    let a = (c.marks-marks.ensures.each c.args.to no_mark c.requires.in_list).distance in
    let b = (c.marks-marks.ensures.each c.args.from no_mark (omega arith)).distance in
    let small = (c.marks-marks.ensures.each_small c.args.to no_mark c.requires.in_list).distance.to_largest in
    record { from_0 = omega (arith, ints); to_largest = omega (arith, ints) }

pub returns-clause-distance : goal.returns-clause-distance
returns-clause-distance c =
    let route = c.args.self.now in
    let t = type_of_vehicle route.problem route.vehicle in
    let cut = length-along route.problem t route.visits c.args.from c.args.to c.validity.ensures.valid c.validity.ensures.allowed c.validity.ensures.listed c.requires.some c.requires.in_order c.requires.in_list in
    let a = (c.marks-marks.ensures.each c.args.to no_mark c.requires.in_list).distance in
    let b = (c.marks-marks.ensures.each c.args.from no_mark (omega arith)).distance in
    let small = (c.marks-marks.ensures.each_small c.args.to no_mark c.requires.in_list).distance.to_largest in
    omega (arith, ints)
