use Rattle.std.proofs.Common.{◌≡◌, ◌≤◌, ◌+◌, ◌-◌, ap, length, subst, ℕ, get_or, arith, rules}
use Rattle.routing_model.specs.Listed.{type_of_vehicle}
use Rattle.trips.specs.declared.piece.Piece.{Piece}
use Rattle.trips.specs.RunSegments.{run_from}
use Rattle.route_cache.specs.inside.Shapes.{back, shaped}
use Rattle.route_cache.specs.inside.Tables.{TripsHold}
use Rattle.route_cache.specs.Routes.{RouteState}
use Rattle.route_cache.proofs.Counting.{reloads-fewer}
use Rattle.route_cache.proofs.Lookups.{after-held, reloads-behind}
use Rattle.route_cache.proofs.route.Route.segment_after.Goals as goal

pub returns : goal.returns
returns c =
    let i = c.self.inside in
    let t = type_of_vehicle i.given.now i.vehicle in
    let same : i.visits.items ≡ c.args.self.now.visits = ap (λ (r : RouteState). r.visits) c.self.view_is in
    let in_list : c.args.first ≤ length i.visits.items = rw same c.requires in
    let count : c.len-count.result ≡ length i.visits.items = search rules in
    let all : c.index.result.now ≡ get_or i.kept.marks.items (length i.visits.items) c.index.result.now =
    subst (λ (n : ℕ). c.index.result.now ≡ get_or i.kept.marks.items n c.index.result.now) count c.index.ensures in
    let behind = reloads-behind i.given.now t i.visits.items i.kept c.self.invariant.1 c.args.first c.index-2.result.now c.index.result.now in_list c.index-2.ensures all in
    let reloads = c.index.result.now.reloads - c.index-2.result.now.reloads in
    let added : c.index.result.now.reloads ≡ c.index-2.result.now.reloads + reloads = omega arith in
    subst (λ (r : RouteState). TripsHold r.problem (type_of_vehicle r.problem r.vehicle) c.from_back.result (run_from r.visits c.args.first)) c.self.view_is
    (after-held i.given.now t i.visits.items i.kept c.self.invariant.1 c.args.first reloads c.index-2.result.now c.index.result.now c.from_back.result in_list c.index-2.ensures all added
    (subst (λ (n : ℕ). (none : Piece) → c.from_back.result ≡ shaped back i.kept.after.outer i.kept.after.middles.items reloads (get_or i.kept.after.pieces.items (n - c.args.first) none)) count c.from_back.ensures))

pub from_back-requires-clause-trip : goal.from_back-requires-clause-trip
from_back-requires-clause-trip c =
    let i = c.self.inside in
    let t = type_of_vehicle i.given.now i.vehicle in
    let same : i.visits.items ≡ c.args.self.now.visits = ap (λ (r : RouteState). r.visits) c.self.view_is in
    let in_list : c.args.first ≤ length i.visits.items = rw same c.requires in
    let count : c.len-count.result ≡ length i.visits.items = search rules in
    let all : c.index.result.now ≡ get_or i.kept.marks.items (length i.visits.items) c.index.result.now =
    subst (λ (n : ℕ). c.index.result.now ≡ get_or i.kept.marks.items n c.index.result.now) count c.index.ensures in
    let behind = reloads-behind i.given.now t i.visits.items i.kept c.self.invariant.1 c.args.first c.index-2.result.now c.index.result.now in_list c.index-2.ensures all in
    let fewer = reloads-fewer back i.visits.items (length i.visits.items) (length i.visits.items - c.args.first) (omega arith) (omega arith) in
    let trips = c.self.invariant.1.after.each_trip in
    omega arith
