use Rattle.std.proofs.Common.{arith}
use Rattle.std.proofs.lemmas.Int.{ints}
use Rattle.problem_data.specs.Places.{client_at}
use Rattle.route_cache.proofs.Counting.{amounts-split}
use Rattle.route_cache.proofs.MarkFacts.{no_mark, prizes-few}
use Rattle.route_cache.proofs.route.Route.prizes_of.Goals as goal

pub overflow_cast-result-3 : goal.overflow_cast-result-3
overflow_cast-result-3 c =
    let route = c.args.self.now in
    let cut = amounts-split (λ place. (client_at route.problem place).prize) route.visits 0 c.args.first c.args.end (omega arith) c.requires.in_order in
    let few = prizes-few route.problem route.visits c.args.end c.validity.ensures.valid c.validity.ensures.listed in
    let a = (c.marks-marks.ensures.each c.args.end no_mark (omega arith)).prize in
    let b = (c.marks-marks.ensures.each c.args.first no_mark (omega arith)).prize in
    omega (arith, ints)

pub returns-clause-prizes : goal.returns-clause-prizes
returns-clause-prizes c =
    let route = c.args.self.now in
    let cut = amounts-split (λ place. (client_at route.problem place).prize) route.visits 0 c.args.first c.args.end (omega arith) c.requires.in_order in
    let few = prizes-few route.problem route.visits c.args.end c.validity.ensures.valid c.validity.ensures.listed in
    let a = (c.marks-marks.ensures.each c.args.end no_mark (omega arith)).prize in
    let b = (c.marks-marks.ensures.each c.args.first no_mark (omega arith)).prize in
    omega (arith, ints)
