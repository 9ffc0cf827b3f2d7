use Rattle.std.proofs.Common.{arith}
use Rattle.std.proofs.lemmas.Int.{ints}
use Rattle.routing_model.specs.Listed.{type_of_vehicle}
use Rattle.route_cache.proofs.MarkFacts.{no_mark}
use Rattle.route_cache.proofs.MarkPaths.{between-path}
use Rattle.list_changes.proofs.way.along.Goals as goal

pub overflow_cast-result-3 : goal.overflow_cast-result-3
overflow_cast-result-3 c =
    let route = c.args.route.now in
    let way = between-path route.problem (type_of_vehicle route.problem route.vehicle) route.visits c.marks-marks.result.now c.marks-marks.ensures no_mark c.args.from c.args.to c.requires.in_order c.requires.in_list in
    let last = (c.marks-marks.ensures.each_small c.args.to no_mark (omega arith)).distance in
    let first = (c.marks-marks.ensures.each_small c.args.from no_mark (omega arith)).distance in
    omega (arith, ints, way, last.to_largest, first.from_0)

pub returns-clause-distance : goal.returns-clause-distance
returns-clause-distance c =
    let route = c.args.route.now in
    let way = between-path route.problem (type_of_vehicle route.problem route.vehicle) route.visits c.marks-marks.result.now c.marks-marks.ensures no_mark c.args.from c.args.to c.requires.in_order c.requires.in_list in
    let last = (c.marks-marks.ensures.each_small c.args.to no_mark (omega arith)).distance in
    let first = (c.marks-marks.ensures.each_small c.args.from no_mark (omega arith)).distance in
    omega (arith, ints, way, last.to_largest, first.from_0)

pub returns-clause-small : goal.returns-clause-small
returns-clause-small c =
    let route = c.args.route.now in
    let way = between-path route.problem (type_of_vehicle route.problem route.vehicle) route.visits c.marks-marks.result.now c.marks-marks.ensures no_mark c.args.from c.args.to c.requires.in_order c.requires.in_list in
    let last = (c.marks-marks.ensures.each_small c.args.to no_mark (omega arith)).distance in
    let first = (c.marks-marks.ensures.each_small c.args.from no_mark (omega arith)).distance in
    omega (arith, ints, way, last.to_largest, first.from_0)
