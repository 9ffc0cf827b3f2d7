use Rattle.std.proofs.Common.{ap, subst, sym, ◌∙◌, arith}
use Rattle.trips.specs.inside.LastPlaces.{place_behind}
use Rattle.trips.specs.Laws.{IsInRange}
use Rattle.trips.specs.RunSegments.{HoldsRun}
use Rattle.route_cache.specs.Routes.{lent, run_of}
use Rattle.joined_views.proofs.SideRuns.{first-inside, first-open, view-range}
use Rattle.joined_views.proofs.joined.begun.Goals as goal

pub lent_run-requires-clause-in_range : goal.lent_run-requires-clause-in_range
lent_run-requires-clause-in_range c =
    subst (λ v. IsInRange c.args.given.now c.args.vehicle_type.now (run_of v)) (sym c.index-views-0.is)
    (view-range c.args.given.now c.args.vehicle_type.now c.args.views.now c.validity.ensures c.requires.side 0 c.index-views-0.result
    (first-inside c.args.views.now c.index-views-0.result (λ e. c.if-begun_count-eq0.false (c.begun_count.ensures ∙ e))))

pub returns-clause-front : goal.returns-clause-front
returns-clause-front c =
    first-open c.args.given.now c.args.vehicle_type.now c.args.views.now c.validity.ensures c.requires.side c.lent_run.result c.last_place.result c.index-views-0.result
    (λ e. c.if-begun_count-eq0.false (c.begun_count.ensures ∙ e))
    (subst (λ v. HoldsRun c.args.given.now c.args.vehicle_type.now c.lent_run.result (run_of v)) c.index-views-0.is c.lent_run.ensures.holds)
    (c.last_place.ensures ∙ (ap (place_behind c.args.vehicle_type.now.start) c.visits.ensures.visits ∙ ap (λ v. place_behind c.args.vehicle_type.now.start (lent v)) c.index-views-0.is))
    (let start = c.requires.side.allowed.start in omega arith)
