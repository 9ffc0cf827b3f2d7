use Rattle.std.proofs.Common.{◌≡◌, ◌∙◌, refl, ap}
use Rattle.problem_data.specs.declared.problem.Problem.{Problem}
use Rattle.problem_data.specs.Places.{leg_distance}
use Rattle.routing_model.specs.Listed.{type_of_vehicle}
use Rattle.list_changes.specs.Layouts.{span_of}
use Rattle.list_changes.proofs.WayLaws.{way-total}
use Rattle.list_changes.proofs.way.way_over.Goals as goal

pub returns-clause-least : goal.returns-clause-least
returns-clause-least c =
    let route = c.args.route.now in
    let lender = c.args.lender.now in
    let t = type_of_vehicle route.problem route.vehicle in
    let layout = c.args.layout in
    let profile = c.vehicle_type.result.now.profile in
    let own : profile ≡ t.profile = rw (← c.data.ensures, ← c.vehicle.ensures.number, ← c.vehicle_type.ensures.vehicle_type) refl in
    let last : c.from.result ≡ leg_distance route.problem profile c.over-three.result.place c.place_at-behind.result =
    c.from.ensures ∙ (c.leg-to.ensures.distance ∙ ap (λ (p : Problem). leg_distance p profile c.over-three.result.place c.place_at-behind.result) c.data-2.ensures) in
    way-total route.problem lender.problem profile t route.visits layout (span_of lender.visits layout.one) (span_of lender.visits layout.two) (span_of lender.visits layout.three)
    (record { place = c.place_at.result; far = 0 }) c.over-one.result c.over-two.result c.over-three.result c.place_at-behind.result c.from.result
    c.requires.problem own c.place_at.ensures.place c.place_at-behind.ensures.place refl last c.over-one.ensures.on c.over-two.ensures.on c.over-three.ensures.on
