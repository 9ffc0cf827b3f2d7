use Rattle.std.proofs.Common.{subst, sym}
use Rattle.joined_views.specs.inside.Recounts.{IsKeptRun, KeepsUnder, visits_alone}
use Rattle.trips.specs.RunSegments.{HoldsRun}
use Rattle.joined_views.proofs.ViewRuns.{holds-alike, holds-alone, holds-recounted, kept-run, other-capacity, other-profile}
use Rattle.joined_views.proofs.lent_run.lent_run.Goals as goal

pub recounted-requires-clause-kept : goal.recounted-requires-clause-kept
recounted-requires-clause-kept c =
    subst (λ xs. IsKeptRun c.args.given.now xs c.looked_up-kept.result) (sym c.visits-then-lending-vehicle_type-2.ensures.visits)
    (kept-run c.args.given.now c.args.vehicle_type.now c.args.view.now c.requires.problem c.in-Some.lender c.vehicle_type-lending.result.now (sym c.in-Some.ensures.vehicle)
    c.vehicle_type-lending.ensures.vehicle_type c.requires.own
    (other-capacity c.args.vehicle_type.now c.vehicle_type-lending.result.now c.if-lending-vehicle_type-2.true)
    c.looked_up-kept.result c.looked_up-kept.ensures c.vehicle_type-lending.ensures.valid c.requires.in_range)

pub returns-then-lending-vehicle_type-clause-holds : goal.returns-then-lending-vehicle_type-clause-holds
returns-then-lending-vehicle_type-clause-holds c =
    holds-alone c.args.given.now c.args.vehicle_type.now c.args.view.now c.requires.problem c.in-Some.lender c.vehicle_type-lending.result.now (sym c.in-Some.ensures.vehicle)
    c.vehicle_type-lending.ensures.vehicle_type c.requires.own
    (other-profile c.args.vehicle_type.now c.vehicle_type-lending.result.now c.if-lending-vehicle_type.true) c.driven_anew.result
    (subst (λ xs. HoldsRun c.args.given.now c.args.vehicle_type.now c.driven_anew.result (visits_alone xs)) c.visits.ensures.visits c.driven_anew.ensures.holds)

pub returns-then-lending-vehicle_type-2-clause-holds : goal.returns-then-lending-vehicle_type-2-clause-holds
returns-then-lending-vehicle_type-2-clause-holds c =
    holds-recounted c.args.given.now c.args.vehicle_type.now c.args.view.now c.requires.problem c.in-Some.lender c.vehicle_type-lending.result.now (sym c.in-Some.ensures.vehicle)
    c.vehicle_type-lending.ensures.vehicle_type c.requires.own
    (other-capacity c.args.vehicle_type.now c.vehicle_type-lending.result.now c.if-lending-vehicle_type-2.true)
    c.looked_up-kept.result c.recounted.result c.looked_up-kept.ensures c.if-lending-vehicle_type.false
    (subst (λ xs. KeepsUnder c.args.given.now xs c.args.vehicle_type.now.capacity c.looked_up-kept.result c.recounted.result) c.visits-then-lending-vehicle_type-2.ensures.visits c.recounted.ensures)

pub returns-else-lending-vehicle_type-2-clause-holds : goal.returns-else-lending-vehicle_type-2-clause-holds
returns-else-lending-vehicle_type-2-clause-holds c =
    holds-alike c.args.given.now c.args.vehicle_type.now c.args.view.now c.requires.problem c.in-Some.lender c.vehicle_type-lending.result.now (sym c.in-Some.ensures.vehicle)
    c.vehicle_type-lending.ensures.vehicle_type c.requires.own c.looked_up-kept.result c.looked_up-kept.ensures c.if-lending-vehicle_type.false c.if-lending-vehicle_type-2.false
