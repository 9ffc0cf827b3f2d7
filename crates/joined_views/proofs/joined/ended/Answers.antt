use Rattle.std.proofs.Common.{ap, subst, sym, ◌∙◌, arith}
use Rattle.trips.specs.Laws.{IsInRange}
use Rattle.trips.specs.RunSegments.{HoldsRun}
use Rattle.route_cache.specs.Routes.{lent, run_of}
use Rattle.joined_views.specs.inside.Joined.{open_count, place_ahead}
use Rattle.joined_views.proofs.SideReads.{anew-last}
use Rattle.joined_views.proofs.SideRuns.{end-fits, end-holds, last-ended, last-first, last-fits, last-holds, last-inside, last-view, view-range}
use Rattle.joined_views.proofs.joined.ended.Goals as goal

pub join-requires-clause-fit : goal.join-requires-clause-fit
join-requires-clause-fit c =
    end-fits c.args.given.now c.args.vehicle_type.now c.args.views.now c.validity.ensures c.requires.side (sym c.open_count-count.ensures ∙ c.if-count-views.true)
    c.args.front c.end-end.result c.requires.front c.end-end.ensures

pub returns-then-count-views-clause-holds : goal.returns-then-count-views-clause-holds
returns-then-count-views-clause-holds c =
    end-holds c.args.given.now c.args.vehicle_type.now c.args.views.now c.validity.ensures c.requires.side (sym c.open_count-count.ensures ∙ c.if-count-views.true)
    c.args.front c.end-end.result c.join.result c.requires.front c.end-end.ensures c.join.ensures.joins

pub lent_run-end-requires-clause-in_range : goal.lent_run-end-requires-clause-in_range
lent_run-end-requires-clause-in_range c =
    subst (λ v. IsInRange c.args.given.now c.args.vehicle_type.now (run_of v)) (sym (last-view c.open_count-count.result c.args.views.now c.index-views-count.result c.open_count-count.ensures c.index-views-count.is))
    (view-range c.args.given.now c.args.vehicle_type.now c.args.views.now c.validity.ensures c.requires.side (open_count c.args.views.now) c.index-views-count.result (last-inside c.args.given.now c.args.vehicle_type.now c.args.views.now c.validity.ensures c.requires.side c.index-views-count.result (λ e. c.if-count-views.false (c.open_count-count.ensures ∙ e))))

pub join-requires-2-clause-first : goal.join-requires-2-clause-first
join-requires-2-clause-first c =
    last-first c.args.given.now c.args.vehicle_type.now c.args.views.now c.validity.ensures c.requires.side c.index-views-count.result (λ e. c.if-count-views.false (c.open_count-count.ensures ∙ e)) c.first_place-first.result
    (c.first_place-first.ensures ∙ (ap (λ xs. place_ahead xs c.args.vehicle_type.now.end) c.visits.ensures.visits
    ∙ ap (λ v. place_ahead (lent v) c.args.vehicle_type.now.end) (last-view c.open_count-count.result c.args.views.now c.index-views-count.result c.open_count-count.ensures c.index-views-count.is)))
    (let end = c.requires.side.allowed.end in omega arith)

pub join-requires-2-clause-fit : goal.join-requires-2-clause-fit
join-requires-2-clause-fit c =
    last-fits c.args.given.now c.args.vehicle_type.now c.args.views.now c.validity.ensures c.requires.side c.index-views-count.result (λ e. c.if-count-views.false (c.open_count-count.ensures ∙ e)) c.args.front c.lent_run-end.result c.first_place-first.result c.requires.front
    (subst (λ v. HoldsRun c.args.given.now c.args.vehicle_type.now c.lent_run-end.result (run_of v))
    (last-view c.open_count-count.result c.args.views.now c.index-views-count.result c.open_count-count.ensures c.index-views-count.is) c.lent_run-end.ensures.holds)
    (c.first_place-first.ensures ∙ (ap (λ xs. place_ahead xs c.args.vehicle_type.now.end) c.visits.ensures.visits
    ∙ ap (λ v. place_ahead (lent v) c.args.vehicle_type.now.end) (last-view c.open_count-count.result c.args.views.now c.index-views-count.result c.open_count-count.ensures c.index-views-count.is)))

pub returns-clause-holds : goal.returns-clause-holds
returns-clause-holds c =
    last-holds c.args.given.now c.args.vehicle_type.now c.args.views.now c.validity.ensures c.requires.side c.index-views-count.result (λ e. c.if-count-views.false (c.open_count-count.ensures ∙ e)) c.args.front c.lent_run-end.result c.join-2.result c.first_place-first.result c.requires.front
    (subst (λ v. HoldsRun c.args.given.now c.args.vehicle_type.now c.lent_run-end.result (run_of v))
    (last-view c.open_count-count.result c.args.views.now c.index-views-count.result c.open_count-count.ensures c.index-views-count.is) c.lent_run-end.ensures.holds)
    (c.first_place-first.ensures ∙ (ap (λ xs. place_ahead xs c.args.vehicle_type.now.end) c.visits.ensures.visits
    ∙ ap (λ v. place_ahead (lent v) c.args.vehicle_type.now.end) (last-view c.open_count-count.result c.args.views.now c.index-views-count.result c.open_count-count.ensures c.index-views-count.is)))
    c.join-2.ensures.joins

pub returns-clause-reads : goal.returns-clause-reads
returns-clause-reads c =
    let last = last-ended c.args.views.now c.index-views-count.result (λ e. c.if-count-views.false (c.open_count-count.ensures ∙ e)) in
    let anew = anew-last c.args.given.now c.args.vehicle_type.now c.args.views.now (open_count c.args.views.now) c.index-views-count.result last.0
    (last-view c.open_count-count.result c.args.views.now c.index-views-count.result c.open_count-count.ensures c.index-views-count.is) in
    let first = c.lent_run-end.ensures.reads in
    let second = c.join-2.ensures.reads in
    record { kept = omega (arith, first.kept, second.kept); most = omega (arith, first.most, second.most) }
