use Rattle.std.proofs.Common.{◌∙◌, ◌<◌, ap, arith, length, subst, sym}
use Rattle.trips.specs.inside.LastPlaces.{place_behind}
use Rattle.trips.specs.Laws.{IsInRange}
use Rattle.trips.specs.RunSegments.{HoldsRun}
use Rattle.route_cache.specs.Routes.{lent, run_of}
use Rattle.joined_views.specs.Views.{IsOwn}
use Rattle.joined_views.specs.inside.Joined.{place_ahead}
use Rattle.joined_views.proofs.SideReads.{anew-here}
use Rattle.joined_views.proofs.SideRuns.{first-there, last-there, open-most, view-follows, view-goes, view-own, view-problem, view-range}
use Rattle.joined_views.proofs.joined.followed.Goals as goal

pub lent_run-next-requires-clause-problem : goal.lent_run-next-requires-clause-problem
lent_run-next-requires-clause-problem c =
    let most = open-most c.args.views.now in
    let here : c.args.k < length c.args.views.now = omega (arith, c.requires.in_list) in
    ap (λ v. v.problem) c.index-views-k.is ∙ view-problem c.args.given.now c.args.vehicle_type.now c.args.views.now c.validity.ensures c.requires.side c.args.k c.index-views-k.result here

pub lent_run-next-requires-clause-own : goal.lent_run-next-requires-clause-own
lent_run-next-requires-clause-own c =
    let most = open-most c.args.views.now in
    let here : c.args.k < length c.args.views.now = omega (arith, c.requires.in_list) in
    subst (IsOwn c.args.given.now c.args.vehicle_type.now) (sym c.index-views-k.is) (view-own c.args.given.now c.args.vehicle_type.now c.args.views.now c.validity.ensures c.requires.side c.args.k c.index-views-k.result here)

pub lent_run-next-requires-clause-in_range : goal.lent_run-next-requires-clause-in_range
lent_run-next-requires-clause-in_range c =
    let most = open-most c.args.views.now in
    let here : c.args.k < length c.args.views.now = omega (arith, c.requires.in_list) in
    subst (λ v. IsInRange c.args.given.now c.args.vehicle_type.now (run_of v)) (sym c.index-views-k.is) (view-range c.args.given.now c.args.vehicle_type.now c.args.views.now c.validity.ensures c.requires.side c.args.k c.index-views-k.result here)

pub follow-requires-clause-first : goal.follow-requires-clause-first
follow-requires-clause-first c =
    first-there c.args.given.now c.args.vehicle_type.now c.args.views.now c.validity.ensures c.requires.side c.args.k c.index-views-k.result c.requires.begun c.requires.in_list c.first_place-first.result
    (c.first_place-first.ensures ∙ (ap (λ xs. place_ahead xs c.args.vehicle_type.now.end) c.visits-visits.ensures.visits ∙ ap (λ v. place_ahead (lent v) c.args.vehicle_type.now.end) c.index-views-k.is)) (let end = c.requires.side.allowed.end in omega arith)

pub follow-requires-clause-last : goal.follow-requires-clause-last
follow-requires-clause-last c =
    last-there c.args.given.now c.args.vehicle_type.now c.args.views.now c.validity.ensures c.requires.side c.args.k c.index-views-k.result c.requires.begun c.requires.in_list c.last_place-last.result
    (c.last_place-last.ensures ∙ (ap (place_behind c.args.vehicle_type.now.start) c.visits-visits.ensures.visits ∙ ap (λ v. place_behind c.args.vehicle_type.now.start (lent v)) c.index-views-k.is)) (let start = c.requires.side.allowed.start in omega arith)

pub follow-requires-clause-fit : goal.follow-requires-clause-fit
follow-requires-clause-fit c =
    view-follows c.args.given.now c.args.vehicle_type.now c.args.views.now c.validity.ensures c.requires.side c.args.k c.index-views-k.result c.requires.begun c.requires.in_list c.args.front c.lent_run-next.result c.first_place-first.result c.last_place-last.result c.requires.front
    (subst (λ v. HoldsRun c.args.given.now c.args.vehicle_type.now c.lent_run-next.result (run_of v)) c.index-views-k.is c.lent_run-next.ensures.holds)
    (c.first_place-first.ensures ∙ (ap (λ xs. place_ahead xs c.args.vehicle_type.now.end) c.visits-visits.ensures.visits ∙ ap (λ v. place_ahead (lent v) c.args.vehicle_type.now.end) c.index-views-k.is))
    (c.last_place-last.ensures ∙ (ap (place_behind c.args.vehicle_type.now.start) c.visits-visits.ensures.visits ∙ ap (λ v. place_behind c.args.vehicle_type.now.start (lent v)) c.index-views-k.is))

pub returns-clause-front : goal.returns-clause-front
returns-clause-front c =
    view-goes c.args.given.now c.args.vehicle_type.now c.args.views.now c.validity.ensures c.requires.side c.args.k c.index-views-k.result c.requires.begun c.requires.in_list c.args.front c.follow.result c.lent_run-next.result c.first_place-first.result c.last_place-last.result c.requires.front
    (subst (λ v. HoldsRun c.args.given.now c.args.vehicle_type.now c.lent_run-next.result (run_of v)) c.index-views-k.is c.lent_run-next.ensures.holds)
    (c.first_place-first.ensures ∙ (ap (λ xs. place_ahead xs c.args.vehicle_type.now.end) c.visits-visits.ensures.visits ∙ ap (λ v. place_ahead (lent v) c.args.vehicle_type.now.end) c.index-views-k.is))
    (c.last_place-last.ensures ∙ (ap (place_behind c.args.vehicle_type.now.start) c.visits-visits.ensures.visits ∙ ap (λ v. place_behind c.args.vehicle_type.now.start (lent v)) c.index-views-k.is)) c.follow.ensures.goes

pub returns-clause-reads : goal.returns-clause-reads
returns-clause-reads c =
    let most = open-most c.args.views.now in
    let here : c.args.k < length c.args.views.now = omega (arith, c.requires.in_list) in
    let anew = anew-here c.args.given.now c.args.vehicle_type.now c.args.views.now c.args.k c.index-views-k.result here c.index-views-k.is in
    let first = c.lent_run-next.ensures.reads in
    let second = c.follow.ensures.reads in
    record { kept = omega (arith, first.kept, second.kept); most = omega (arith, first.most, second.most) }
