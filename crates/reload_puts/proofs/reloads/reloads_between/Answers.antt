use Rattle.std.proofs.Common.{arith}
use Rattle.routing_model.specs.Listed.{type_of_vehicle}
use Rattle.route_cache.proofs.MarkFacts.{no_mark}
use Rattle.route_cache.proofs.MarkPaths.{between-reloads}
use Rattle.reload_puts.proofs.reloads.reloads_between.Goals as goal

pub overflow_sub-result : goal.overflow_sub-result
overflow_sub-result c =
    let route = c.args.route.now in
    let sum = between-reloads route.problem (type_of_vehicle route.problem route.vehicle) route.visits c.marks-marks.result.now c.marks-marks.ensures no_mark c.args.first c.args.end c.requires.in_order c.requires.in_list in
    omega (arith, sum)

pub returns-clause-reloads : goal.returns-clause-reloads
returns-clause-reloads c =
    let route = c.args.route.now in
    let sum = between-reloads route.problem (type_of_vehicle route.problem route.vehicle) route.visits c.marks-marks.result.now c.marks-marks.ensures no_mark c.args.first c.args.end c.requires.in_order c.requires.in_list in
    omega (arith, sum)

pub returns-clause-few : goal.returns-clause-few
returns-clause-few c =
    let last = (c.marks-marks.ensures.each_small c.args.end no_mark (omega arith)).reloads in
    omega (arith, last)
