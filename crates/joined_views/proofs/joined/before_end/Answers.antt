use Rattle.std.proofs.Common.{◌≡◌, ◌<◌, arith, subst}
use Rattle.joined_views.specs.inside.Joined.{IsOpen, begun_run, open_count}
use Rattle.joined_views.proofs.SideReads.{anew-next, begun-within}
use Rattle.joined_views.proofs.SideRuns.{open-most}
use Rattle.joined_views.proofs.joined.before_end.Goals as goal

pub loop-k-init : goal.loop-k-init
loop-k-init c =
    let order = begun-within c.args.given.now c.args.vehicle_type.now c.args.views.now c.requires.side in
    let reads = c.begun-front.ensures.reads in
    rw c.begun_count-k.ensures
    (record {
      begun = omega arith;
      within = order;
      front = c.begun-front.ensures.front;
      reads = record { kept = reads.kept; most = omega (arith, reads.most) };
    })

pub loop-k-preserved : goal.loop-k-preserved
loop-k-preserved c =
    let most = open-most c.args.views.now in
    let inside : c.loop-k.k < open_count c.args.views.now = omega (arith, c.open_count-k-end.ensures) in
    let next = anew-next c.args.given.now c.args.vehicle_type.now c.args.views.now c.loop-k.k (omega arith) in
    let before = c.loop-k.invariant.reads in
    let after = c.followed-front.ensures.reads in
    let begun = c.loop-k.invariant.begun in
    record {
      begun = omega arith;
      within = omega arith;
      front = c.followed-front.ensures.front;
      reads = record { kept = omega (arith, before.kept, after.kept); most = omega (arith, before.most, after.most) };
    }

pub returns-clause-front : goal.returns-clause-front
returns-clause-front c =
    let within = c.loop-k.invariant.within in
    let all : c.loop-k.k ≡ open_count c.args.views.now = omega (arith, c.open_count-k-end.ensures) in
    subst (λ k. IsOpen c.args.given.now c.args.vehicle_type.now c.loop-k.front (begun_run c.args.views.now k)) all c.loop-k.invariant.front

pub returns-clause-reads : goal.returns-clause-reads
returns-clause-reads c =
    let within = c.loop-k.invariant.within in
    let all : c.loop-k.k ≡ open_count c.args.views.now = omega (arith, c.open_count-k-end.ensures) in
    rw (← all) c.loop-k.invariant.reads
