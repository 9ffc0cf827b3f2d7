use Rattle.std.proofs.Common.{◌≡◌, ℕ, ◌<◌, ◌+◌, false, length, subst, sym, arith}
use Rattle.problem_data.specs.declared.visit.Visit.TheVariants.{Client}
use Rattle.trips.specs.RunSegments.{HoldsRun}
use Rattle.trips.proofs.RunSteps.{part-one}
use Rattle.route_cache.specs.inside.Tables.{run_up_to}
use Rattle.route_cache.proofs.Lookups.{begun-some}
use Rattle.route_cache.proofs.MarkFacts.{distance-to, no_mark}
use Rattle.route_cache.proofs.route.folded.Goals as goal

pub loop-k-init : goal.loop-k-init
loop-k-init c =
    let here : c.args.first < length c.args.visits.now = omega arith in
    record {
      some = omega arith;
      holds = subst (HoldsRun c.args.given.now c.args.vehicle_type.now c.visit-so_far.result) (sym (part-one c.args.visits.now c.args.first (Client 0) here)) (c.visit-so_far.ensures c.args.vehicle_type.now c.requires.vehicle_type);
    }

pub grown_behind-so_far-requires-clause-goes_on : goal.grown_behind-so_far-requires-clause-goes_on
grown_behind-so_far-requires-clause-goes_on c =
    record { starts = false; first = c.args.first; begun = begun-some c.args.first c.loop-k.k c.loop-k.invariant.some; holds = c.loop-k.invariant.holds }

pub loop-k-preserved : goal.loop-k-preserved
loop-k-preserved c = record {
  some = let some = c.loop-k.invariant.some in omega arith;
  holds = c.grown_behind-so_far.ensures.holds false c.args.first (begun-some c.args.first c.loop-k.k c.loop-k.invariant.some) c.loop-k.invariant.holds;
}

pub grown_behind-so_far-requires-clause-distance : goal.grown_behind-so_far-requires-clause-distance
grown_behind-so_far-requires-clause-distance c =
    distance-to c.args.given.now c.args.vehicle_type.now c.args.visits.now c.args.marks.now c.args.durations.now (length c.args.visits.now + 1) c.loop-k.k no_mark c.requires.marked (omega arith)

pub returns : goal.returns
returns c =
    let at_end : c.loop-k.k ≡ c.args.end = omega arith in
    let holds = subst (λ (k : ℕ). HoldsRun c.args.given.now c.args.vehicle_type.now c.loop-k.so_far (run_up_to false c.args.visits.now c.args.first k)) at_end c.loop-k.invariant.holds in
    record { sound = holds.sound; stands = holds.stands }
