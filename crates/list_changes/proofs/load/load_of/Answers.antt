use Rattle.std.proofs.Common.{arith}
use Rattle.std.proofs.lemmas.Int.{ints}
use Rattle.routing_model.specs.Listed.{type_of_vehicle}
use Rattle.route_cache.proofs.MarkFacts.{no_mark}
use Rattle.route_cache.proofs.MarkPaths.{between-delivery, between-pickup, between-reloads}
use Rattle.list_changes.proofs.load.load_of.Goals as goal

pub overflow_cast-result : goal.overflow_cast-result
overflow_cast-result c =
    let route = c.args.route.now in
    let sum = between-delivery route.problem (type_of_vehicle route.problem route.vehicle) route.visits c.marks-marks.result.now c.marks-marks.ensures no_mark c.args.span.first c.args.span.end c.requires.in_order c.requires.in_list in
    let last = (c.marks-marks.ensures.each_small c.args.span.end no_mark (omega arith)).delivery in
    let first = (c.marks-marks.ensures.each_small c.args.span.first no_mark (omega arith)).delivery in
    omega (arith, ints, sum, last.to_largest, first.from_0)

pub overflow_cast-result-2 : goal.overflow_cast-result-2
overflow_cast-result-2 c =
    let route = c.args.route.now in
    let sum = between-pickup route.problem (type_of_vehicle route.problem route.vehicle) route.visits c.marks-marks.result.now c.marks-marks.ensures no_mark c.args.span.first c.args.span.end c.requires.in_order c.requires.in_list in
    let last = (c.marks-marks.ensures.each_small c.args.span.end no_mark (omega arith)).pickup in
    let first = (c.marks-marks.ensures.each_small c.args.span.first no_mark (omega arith)).pickup in
    omega (arith, ints, sum, last.to_largest, first.from_0)

pub overflow_sub-to : goal.overflow_sub-to
overflow_sub-to c =
    let route = c.args.route.now in
    let sum = between-reloads route.problem (type_of_vehicle route.problem route.vehicle) route.visits c.marks-marks.result.now c.marks-marks.ensures no_mark c.args.span.first c.args.span.end c.requires.in_order c.requires.in_list in
    omega (arith, sum)

pub returns-clause-load : goal.returns-clause-load
returns-clause-load c =
    let route = c.args.route.now in
    let t = type_of_vehicle route.problem route.vehicle in
    let delivery = between-delivery route.problem t route.visits c.marks-marks.result.now c.marks-marks.ensures no_mark c.args.span.first c.args.span.end c.requires.in_order c.requires.in_list in
    let pickup = between-pickup route.problem t route.visits c.marks-marks.result.now c.marks-marks.ensures no_mark c.args.span.first c.args.span.end c.requires.in_order c.requires.in_list in
    let reloads = between-reloads route.problem t route.visits c.marks-marks.result.now c.marks-marks.ensures no_mark c.args.span.first c.args.span.end c.requires.in_order c.requires.in_list in
    let last = c.marks-marks.ensures.each_small c.args.span.end no_mark (omega arith) in
    let first = c.marks-marks.ensures.each_small c.args.span.first no_mark (omega arith) in
    record {
      delivery = omega (arith, ints, delivery, last.delivery.to_largest, first.delivery.from_0);
      pickup = omega (arith, ints, pickup, last.pickup.to_largest, first.pickup.from_0);
      reloads = omega (arith, reloads, c.from.ensures);
    }

pub returns-clause-small : goal.returns-clause-small
returns-clause-small c =
    let route = c.args.route.now in
    let t = type_of_vehicle route.problem route.vehicle in
    let delivery = between-delivery route.problem t route.visits c.marks-marks.result.now c.marks-marks.ensures no_mark c.args.span.first c.args.span.end c.requires.in_order c.requires.in_list in
    let pickup = between-pickup route.problem t route.visits c.marks-marks.result.now c.marks-marks.ensures no_mark c.args.span.first c.args.span.end c.requires.in_order c.requires.in_list in
    let last = c.marks-marks.ensures.each_small c.args.span.end no_mark (omega arith) in
    let first = c.marks-marks.ensures.each_small c.args.span.first no_mark (omega arith) in
    record {
      delivery = omega (arith, ints, delivery, last.delivery.to_largest, first.delivery.from_0);
      pickup = omega (arith, ints, pickup, last.pickup.to_largest, first.pickup.from_0);
      reloads = omega (arith, last.reloads, c.from.ensures);
    }
