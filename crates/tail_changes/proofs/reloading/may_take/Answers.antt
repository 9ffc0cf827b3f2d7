use Rattle.std.proofs.Common.{◌≡◌, List, ◌∙◌, sym, ap, ap₂, arith, slice_range}
use Rattle.std.specs.List.{list_all}
use Rattle.problem_data.specs.declared.problem.Problem.{Problem}
use Rattle.problem_data.specs.declared.problem.VehicleType.{VehicleType}
use Rattle.problem_data.specs.declared.visit.Visit.{Visit}
use Rattle.problem_data.specs.Places.{type_of}
use Rattle.routing_model.specs.Lawful.{is_allowed}
use Rattle.routing_model.specs.Listed.{type_of_vehicle}
use Rattle.routing_model.specs.Routes.{list_at}
use Rattle.route_cache.specs.Marks.{reloads_in}
use Rattle.gain_model.proofs.StandsOnce.{same_test}
use Rattle.tail_changes.proofs.TakenLists.{take-by-depots, take-none, take-same, take-too-many}
use Rattle.tail_changes.proofs.reloading.may_take.Goals as goal

pub returns-then-come-eq0 : goal.returns-then-come-eq0
returns-then-come-eq0 c =
    let come : c.reloads_in-come.result ≡ reloads_in (slice_range (list_at c.args.search.now.routes c.args.lender) c.args.span.first c.args.span.end) =
    c.reloads_in-come.ensures.reloads ∙ ap (λ (xs : List Visit). reloads_in (slice_range xs c.args.span.first c.args.span.end)) c.route-lending.ensures.visits in
    sym (take-none c.args.search.now c.route-lending.ensures.sound c.args.vehicle c.args.left c.args.lender c.args.span c.requires.vehicle c.requires.lender c.requires.left c.requires.span (omega (arith, come, c.if-come-eq0.true)))

pub overflow_add-stay : goal.overflow_add-stay
overflow_add-stay c = omega (arith, c.reloads_in-come.ensures.few, c.reloads_in-stay.ensures.few)

pub returns-then-stay-come : goal.returns-then-stay-come
returns-then-stay-come c =
    let come : c.reloads_in-come.result ≡ reloads_in (slice_range (list_at c.args.search.now.routes c.args.lender) c.args.span.first c.args.span.end) =
    c.reloads_in-come.ensures.reloads ∙ ap (λ (xs : List Visit). reloads_in (slice_range xs c.args.span.first c.args.span.end)) c.route-lending.ensures.visits in
    let stay : c.reloads_in-stay.result ≡ reloads_in (slice_range (list_at c.args.search.now.routes c.args.vehicle) 0 c.args.left) =
    c.reloads_in-stay.ensures.reloads ∙ ap (λ (xs : List Visit). reloads_in (slice_range xs 0 c.args.left)) c.route.ensures.visits in
    let is : c.vehicle_type-vehicle_type.result.now ≡ type_of_vehicle c.args.search.now.problem c.args.vehicle =
    c.vehicle_type-vehicle_type.ensures.vehicle_type ∙ ap (λ (p : Problem). type_of_vehicle p c.args.vehicle) c.data-given.ensures.problem in
    let most : c.vehicle_type-vehicle_type.result.now.reloads ≡ (type_of_vehicle c.args.search.now.problem c.args.vehicle).reloads = ap (λ (t : VehicleType). t.reloads) is in
    sym (take-too-many c.args.search.now c.route-lending.ensures.sound c.args.vehicle c.args.left c.args.lender c.args.span c.requires.vehicle c.requires.lender c.requires.left c.requires.span
    (omega (arith, come, stay, most, c.if-stay-come.true)))

pub returns-then-type_of : goal.returns-then-type_of
returns-then-type_of c =
    let come : c.reloads_in-come.result ≡ reloads_in (slice_range (list_at c.args.search.now.routes c.args.lender) c.args.span.first c.args.span.end) =
    c.reloads_in-come.ensures.reloads ∙ ap (λ (xs : List Visit). reloads_in (slice_range xs c.args.span.first c.args.span.end)) c.route-lending.ensures.visits in
    let stay : c.reloads_in-stay.result ≡ reloads_in (slice_range (list_at c.args.search.now.routes c.args.vehicle) 0 c.args.left) =
    c.reloads_in-stay.ensures.reloads ∙ ap (λ (xs : List Visit). reloads_in (slice_range xs 0 c.args.left)) c.route.ensures.visits in
    let is : c.vehicle_type-vehicle_type.result.now ≡ type_of_vehicle c.args.search.now.problem c.args.vehicle =
    c.vehicle_type-vehicle_type.ensures.vehicle_type ∙ ap (λ (p : Problem). type_of_vehicle p c.args.vehicle) c.data-given.ensures.problem in
    let most : c.vehicle_type-vehicle_type.result.now.reloads ≡ (type_of_vehicle c.args.search.now.problem c.args.vehicle).reloads = ap (λ (t : VehicleType). t.reloads) is in
    let same : type_of c.args.search.now.problem c.args.vehicle ≡ type_of c.args.search.now.problem c.args.lender =
    ap (λ (p : Problem). type_of p c.args.vehicle) (sym c.data-given.ensures.problem) ∙ sym c.type_of.ensures.number ∙ c.if-type_of.true ∙ c.type_of-2.ensures.number
    ∙ ap (λ (p : Problem). type_of p c.args.lender) c.data-given.ensures.problem in
    same_test c.type_of.result c.type_of-2.result c.if-type_of.true
    ∙ sym (take-same c.args.search.now c.route-lending.ensures.sound c.args.vehicle c.args.left c.args.lender c.args.span c.requires.vehicle c.requires.lender c.requires.left c.requires.span
    (omega (arith, come, stay, most, c.if-stay-come.false)) same)

pub returns-else-type_of : goal.returns-else-type_of
returns-else-type_of c =
    let come : c.reloads_in-come.result ≡ reloads_in (slice_range (list_at c.args.search.now.routes c.args.lender) c.args.span.first c.args.span.end) =
    c.reloads_in-come.ensures.reloads ∙ ap (λ (xs : List Visit). reloads_in (slice_range xs c.args.span.first c.args.span.end)) c.route-lending.ensures.visits in
    let stay : c.reloads_in-stay.result ≡ reloads_in (slice_range (list_at c.args.search.now.routes c.args.vehicle) 0 c.args.left) =
    c.reloads_in-stay.ensures.reloads ∙ ap (λ (xs : List Visit). reloads_in (slice_range xs 0 c.args.left)) c.route.ensures.visits in
    let is : c.vehicle_type-vehicle_type.result.now ≡ type_of_vehicle c.args.search.now.problem c.args.vehicle =
    c.vehicle_type-vehicle_type.ensures.vehicle_type ∙ ap (λ (p : Problem). type_of_vehicle p c.args.vehicle) c.data-given.ensures.problem in
    let most : c.vehicle_type-vehicle_type.result.now.reloads ≡ (type_of_vehicle c.args.search.now.problem c.args.vehicle).reloads = ap (λ (t : VehicleType). t.reloads) is in
    let run : slice_range c.visits.result.now c.args.span.first c.args.span.end ≡ slice_range (list_at c.args.search.now.routes c.args.lender) c.args.span.first c.args.span.end =
    ap (λ (xs : List Visit). slice_range xs c.args.span.first c.args.span.end) (c.visits.ensures.visits ∙ c.route-lending.ensures.visits) in
    c.are_allowed.ensures
    ∙ ap₂ (λ (t : VehicleType) (xs : List Visit). list_all (is_allowed t) xs) is run
    ∙ sym (take-by-depots c.args.search.now c.route-lending.ensures.sound c.args.vehicle c.args.left c.args.lender c.args.span c.requires.vehicle c.requires.lender c.requires.left c.requires.span
    (omega (arith, come, stay, most, c.if-stay-come.false)))
