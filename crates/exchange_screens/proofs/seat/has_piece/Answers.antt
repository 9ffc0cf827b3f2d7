use Rattle.std.proofs.Common.{◌≡◌, ◌+◌, ◌-◌, List, length, ◌∙◌, sym, refl, ap, arith, slice_range}
use Rattle.std.specs.List.{list_all}
use Rattle.problem_data.specs.declared.visit.Visit.{Visit}
use Rattle.routing_model.specs.Listed.{type_of_vehicle}
use Rattle.routing_model.specs.Routes.{is_client, list_at}
use Rattle.route_cache.proofs.MarkPieces.{no-piece-here, piece-here}
use Rattle.exchange_screens.specs.inside.Seats.{piece_at}
use Rattle.exchange_screens.proofs.PieceFacts.{found, has-reload, too-long}
use Rattle.exchange_screens.proofs.seat.has_piece.Goals as goal

pub returns-then-n-room-clause-none : goal.returns-then-n-room-clause-none
returns-then-n-room-clause-none c = λ _.
    let is = c.requires.seat in
    too-long c.args.search.now c.route.ensures.sound c.args.seat.client c.args.n c.args.seat.vehicle c.args.seat.place is.position (omega (arith, is.size, is.some, is.within))

pub returns-then-behind-before-clause-none : goal.returns-then-behind-before-clause-none
returns-then-behind-before-clause-none c = λ _.
    let is = c.requires.seat in
    let same = c.route.ensures.visits in
    let long : length c.route.result.now.visits ≡ length (list_at c.args.search.now.routes c.args.seat.vehicle) = ap (λ (xs : List Visit). length xs) same in
    has-reload c.args.search.now c.route.ensures.sound c.args.seat.client c.args.n c.args.seat.vehicle c.args.seat.place is.position
    (ap (λ (xs : List Visit). list_all is_client (slice_range xs (c.args.seat.place - 1) (c.args.seat.place - 1 + c.args.n))) (sym same)
    ∙ no-piece-here c.route.result.now.problem (type_of_vehicle c.route.result.now.problem c.route.result.now.vehicle) c.route.result.now.visits c.marks-marks.result.now c.marks-marks.ensures _
    (c.args.seat.place - 1) (c.args.seat.place - 1 + c.args.n) (omega arith) (omega (arith, is.size, is.some, is.within)) c.if-behind-before.true)

pub returns-clause-there : goal.returns-clause-there
returns-clause-there c = λ _.
    let is = c.requires.seat in
    let same = c.route.ensures.visits in
    let long : length c.route.result.now.visits ≡ length (list_at c.args.search.now.routes c.args.seat.vehicle) = ap (λ (xs : List Visit). length xs) same in
    found c.args.search.now c.route.ensures.sound c.args.seat.client c.args.n c.args.seat.vehicle c.args.seat.place is.position (piece_at c.args.seat c.args.n) is.in_range refl refl refl
    (omega (arith, is.size, is.some, is.within))
    (ap (λ (xs : List Visit). list_all is_client (slice_range xs (c.args.seat.place - 1) (c.args.seat.place - 1 + c.args.n))) (sym same)
    ∙ piece-here c.route.result.now.problem (type_of_vehicle c.route.result.now.problem c.route.result.now.vehicle) c.route.result.now.visits c.marks-marks.result.now c.marks-marks.ensures _
    (c.args.seat.place - 1) (c.args.seat.place - 1 + c.args.n) (omega arith) (omega (arith, is.size, is.some, is.within)) c.if-behind-before.false)
