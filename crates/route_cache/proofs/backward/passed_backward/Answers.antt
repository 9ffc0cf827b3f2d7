use Rattle.std.proofs.Common.{◌≡◌, ℕ, ◌+◌, ◌-◌, ◌<◌, length, subst, arith}
use Rattle.route_cache.specs.inside.Passes.{IsBackward}
use Rattle.route_cache.proofs.MarkFacts.{distance-ahead, duration-ahead, no_mark}
use Rattle.route_cache.proofs.backward.passed_backward.Goals as goal

pub step-requires-clause-backward : goal.step-requires-clause-backward
step-requires-clause-backward c =
    let here : c.loop-k.k < length c.args.visits.now = omega arith in
    let e : c.loop-k.k ≡ length c.args.visits.now - 1 - (length c.args.visits.now - 1 - c.loop-k.k) = omega arith in
    subst (λ (k : ℕ). IsBackward c.args.given.now c.args.vehicle_type.now c.args.visits.now k c.loop-k.backward) e c.loop-k.invariant.backward

pub step-requires-clause-distance : goal.step-requires-clause-distance
step-requires-clause-distance c =
    distance-ahead c.args.given.now c.args.vehicle_type.now c.args.visits.now c.args.marks.now c.args.durations.now (length c.args.visits.now + 1) (length c.args.visits.now - 1 - c.loop-k.k) no_mark
    c.requires.marked (omega arith)

pub step-requires-clause-duration : goal.step-requires-clause-duration
step-requires-clause-duration c =
    duration-ahead c.args.given.now c.args.vehicle_type.now c.args.visits.now c.args.marks.now c.args.durations.now (length c.args.visits.now + 1) (length c.args.visits.now - 1 - c.loop-k.k) 0
    c.requires.marked (omega arith)

pub loop-k-preserved : goal.loop-k-preserved
loop-k-preserved c =
    let here : c.loop-k.k < length c.args.visits.now = omega arith in
    let e : length c.args.visits.now - (length c.args.visits.now - 1 - c.loop-k.k) ≡ c.loop-k.k + 1 = omega arith in
    record { backward = subst (λ (k : ℕ). IsBackward c.args.given.now c.args.vehicle_type.now c.args.visits.now k c.step.new.self) e c.in_ok-step.ensures }

pub returns : goal.returns
returns c =
    let at_end : c.loop-k.k ≡ length c.args.visits.now = omega arith in
    subst (λ (k : ℕ). IsBackward c.args.given.now c.args.vehicle_type.now c.args.visits.now k c.loop-k.backward) at_end c.loop-k.invariant.backward
