use Rattle.std.proofs.Common.{◌≡◌, ◌+◌, ◌-◌, ◌≤◌, List, length, ◌∙◌, sym, refl, ap, arith, slice_range}
use Rattle.std.specs.List.{list_all}
use Rattle.problem_data.specs.declared.visit.Visit.{Visit}
use Rattle.routing_model.specs.Listed.{type_of_vehicle}
use Rattle.routing_model.specs.Routes.{is_client, list_at}
use Rattle.route_cache.proofs.MarkPieces.{no-piece-here, piece-here}
use Rattle.exchange_screens.proofs.PieceFacts.{found, has-reload, no-position, too-long}
use Rattle.exchange_screens.proofs.piece.piece_from.Goals as goal

pub returns-in_err-vehicle : goal.returns-in_err-vehicle
returns-in_err-vehicle c =
    rw c.from_residual.ensures (no-position c.args.search.now c.position.ensures.sound c.args.client c.args.n (sym c.position.ensures.position ∙ c.in_err-vehicle.was))

pub returns-then-n-room : goal.returns-then-n-room
returns-then-n-room c =
    let size = c.size-size.ensures.size in
    let within : c.in_ok-vehicle.place ≤ length (list_at c.args.search.now.routes c.in_ok-vehicle.vehicle) = c.in_ok-vehicle.ensures.within in
    too-long c.args.search.now c.position.ensures.sound c.args.client c.args.n c.in_ok-vehicle.vehicle c.in_ok-vehicle.place (sym c.position.ensures.position ∙ c.in_ok-vehicle.was) (omega arith)

pub returns-then-behind-before : goal.returns-then-behind-before
returns-then-behind-before c =
    let size = c.size-size.ensures.size in
    let same = c.route-route.ensures.visits in
    let within : c.in_ok-vehicle.place ≤ length (list_at c.args.search.now.routes c.in_ok-vehicle.vehicle) = c.in_ok-vehicle.ensures.within in
    let long : length c.route-route.result.now.visits ≡ length (list_at c.args.search.now.routes c.in_ok-vehicle.vehicle) = ap (λ (xs : List Visit). length xs) same in
    has-reload c.args.search.now c.position.ensures.sound c.args.client c.args.n c.in_ok-vehicle.vehicle c.in_ok-vehicle.place (sym c.position.ensures.position ∙ c.in_ok-vehicle.was)
    (ap (λ (xs : List Visit). list_all is_client (slice_range xs (c.in_ok-vehicle.place - 1) (c.in_ok-vehicle.place - 1 + c.args.n))) (sym same)
    ∙ no-piece-here c.route-route.result.now.problem (type_of_vehicle c.route-route.result.now.problem c.route-route.result.now.vehicle) c.route-route.result.now.visits c.marks-marks.result.now c.marks-marks.ensures _
    (c.in_ok-vehicle.place - 1) (c.in_ok-vehicle.place - 1 + c.args.n) (omega arith) (omega arith) c.if-behind-before.true)

pub returns : goal.returns
returns c =
    let size = c.size-size.ensures.size in
    let same = c.route-route.ensures.visits in
    let within : c.in_ok-vehicle.place ≤ length (list_at c.args.search.now.routes c.in_ok-vehicle.vehicle) = c.in_ok-vehicle.ensures.within in
    let long : length c.route-route.result.now.visits ≡ length (list_at c.args.search.now.routes c.in_ok-vehicle.vehicle) = ap (λ (xs : List Visit). length xs) same in
    found c.args.search.now c.position.ensures.sound c.args.client c.args.n c.in_ok-vehicle.vehicle c.in_ok-vehicle.place (sym c.position.ensures.position ∙ c.in_ok-vehicle.was)
    (record { vehicle = c.in_ok-vehicle.vehicle; first = c.in_ok-vehicle.place - 1; end = c.in_ok-vehicle.place - 1 + c.args.n }) c.in_ok-vehicle.ensures.in_range refl refl refl (omega arith)
    (ap (λ (xs : List Visit). list_all is_client (slice_range xs (c.in_ok-vehicle.place - 1) (c.in_ok-vehicle.place - 1 + c.args.n))) (sym same)
    ∙ piece-here c.route-route.result.now.problem (type_of_vehicle c.route-route.result.now.problem c.route-route.result.now.vehicle) c.route-route.result.now.visits c.marks-marks.result.now c.marks-marks.ensures _
    (c.in_ok-vehicle.place - 1) (c.in_ok-vehicle.place - 1 + c.args.n) (omega arith) (omega arith) c.if-behind-before.false)
