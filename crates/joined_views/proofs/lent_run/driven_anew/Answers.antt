use Rattle.std.proofs.Common.{◌<◌, length, rules, arith}
use Rattle.problem_data.specs.declared.visit.Visit.TheVariants.{Client}
use Rattle.joined_views.proofs.Folding.{named-of, there-of, visit-begins, visit-follows, visit-goes}
use Rattle.joined_views.proofs.lent_run.driven_anew.Goals as goal

pub visit-requires : goal.visit-requires
visit-requires c = named-of c.args.given.now c.args.vehicle_type.now c.args.visits.now c.requires.in_range 0 (Client 0) c.requires.some

pub loop-k-init : goal.loop-k-init
loop-k-init c = record {
  run = rw c.place.ensures
      (visit-begins c.args.given.now c.args.vehicle_type.now c.args.visits.now c.requires.in_range (Client 0) c.visit.result c.requires.some c.visit.ensures);
  reads = search rules;
}

pub visit-next-requires : goal.visit-next-requires
visit-next-requires c =
    let here : c.loop-k.k < length c.args.visits.now = omega arith in
    named-of c.args.given.now c.args.vehicle_type.now c.args.visits.now c.requires.in_range c.loop-k.k (Client 0) here

pub follow-run-requires-clause-first : goal.follow-run-requires-clause-first
follow-run-requires-clause-first c =
    let here : c.loop-k.k < length c.args.visits.now = omega arith in
    rw c.place-place.ensures (there-of c.args.given.now c.args.vehicle_type.now c.args.visits.now c.requires.in_range c.loop-k.k (Client 0) here)

pub follow-run-requires-clause-last : goal.follow-run-requires-clause-last
follow-run-requires-clause-last c =
    let here : c.loop-k.k < length c.args.visits.now = omega arith in
    rw c.place-place.ensures (there-of c.args.given.now c.args.vehicle_type.now c.args.visits.now c.requires.in_range c.loop-k.k (Client 0) here)

pub follow-run-requires-clause-fit : goal.follow-run-requires-clause-fit
follow-run-requires-clause-fit c =
    let here : c.loop-k.k < length c.args.visits.now = omega arith in
    rw c.place-place.ensures
    (visit-follows c.args.given.now c.args.vehicle_type.now c.args.visits.now c.requires.in_range c.loop-k.k (Client 0) c.loop-k.run c.visit-next.result here c.loop-k.invariant.run c.visit-next.ensures)

pub loop-k-preserved : goal.loop-k-preserved
loop-k-preserved c =
    let here : c.loop-k.k < length c.args.visits.now = omega arith in
    record {
      run = visit-goes c.args.given.now c.args.vehicle_type.now c.args.visits.now c.requires.in_range c.loop-k.k (Client 0) c.loop-k.run c.follow-run.result c.visit-next.result here
          c.loop-k.invariant.run c.visit-next.ensures (rw c.place-place.ensures at c.follow-run.ensures.goes);
      reads = search rules;
    }
