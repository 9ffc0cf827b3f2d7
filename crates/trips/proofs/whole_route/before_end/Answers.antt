use Rattle.std.proofs.Common.{◌<◌, get_or, length, true, rules, arith}
use Rattle.problem_data.specs.declared.visit.Visit.TheVariants.{Client}
use Rattle.trips.proofs.RunSteps.{fit-more, holds-more, leaves-more, named-at, place-named}
use Rattle.trips.proofs.whole_route.before_end.Goals as goal

pub visit-next-requires : goal.visit-next-requires
visit-next-requires c =
    let here : c.loop-k.k < length c.args.visits.now = omega arith in
    named-at c.args.given.now c.args.visits.now c.loop-k.k (Client 0) c.requires.listed here

pub join-so_far-requires-clause-first : goal.join-so_far-requires-clause-first
join-so_far-requires-clause-first c =
    let here : c.loop-k.k < length c.args.visits.now = omega arith in
    rw c.place.ensures
    (place-named c.args.given.now (get_or c.args.visits.now c.loop-k.k (Client 0)) (named-at c.args.given.now c.args.visits.now c.loop-k.k (Client 0) c.requires.listed here))

pub join-so_far-requires-clause-fit : goal.join-so_far-requires-clause-fit
join-so_far-requires-clause-fit c =
    let here : c.loop-k.k < length c.args.visits.now = omega arith in
    rw c.place.ensures
    (fit-more c.args.given.now c.args.vehicle_type.now c.args.visits.now c.requires.valid c.requires.vehicle_type c.requires.listed true 0 c.loop-k.k (Client 0)
    c.loop-k.so_far c.loop-k.last c.visit-next.result (omega arith) here c.loop-k.invariant.so_far c.loop-k.invariant.leaves c.visit-next.ensures)

pub loop-k-preserved : goal.loop-k-preserved
loop-k-preserved c =
    let here : c.loop-k.k < length c.args.visits.now = omega arith in
    record {
      so_far = holds-more c.args.given.now c.args.vehicle_type.now c.args.visits.now c.requires.valid c.requires.vehicle_type c.requires.listed true 0 c.loop-k.k (Client 0)
          c.loop-k.so_far c.loop-k.last c.visit-next.result c.join-so_far.result (omega arith) here c.loop-k.invariant.so_far c.loop-k.invariant.leaves c.visit-next.ensures
          (rw c.place.ensures at c.join-so_far.ensures.joins);
      leaves = rw c.place-last.ensures
          (leaves-more c.args.given.now c.args.vehicle_type.now c.args.visits.now c.requires.valid c.requires.vehicle_type c.requires.listed true 0 c.loop-k.k (Client 0) (omega arith) here);
      there = rw c.place-last.ensures
          (place-named c.args.given.now (get_or c.args.visits.now c.loop-k.k (Client 0)) (named-at c.args.given.now c.args.visits.now c.loop-k.k (Client 0) c.requires.listed here));
      reads = search rules;
    }
