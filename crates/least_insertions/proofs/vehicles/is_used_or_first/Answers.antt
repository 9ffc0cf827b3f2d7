use Rattle.std.proofs.Common.{◌≡◌, ◌∙◌, ◌+◌, ◌<◌, ℕ, List, [], true, false, ap, arith, get_or, length, not, set, subst, sym}
use Rattle.std.proofs.lemmas.List.{get_or_default}
use Rattle.std.proofs.lemmas.Option.{unwrap_or-slice_get}
use Rattle.problem_data.specs.declared.visit.Visit.{Visit}
use Rattle.problem_data.specs.Places.{type_of}
use Rattle.routing_model.specs.Routes.{is_used, list_at}
use Rattle.least_insertions.specs.inside.Types.{AreMet}
use Rattle.least_insertions.proofs.UnusedVehicles.{least-is_first, met-unused, met-used, used-fits}
use Rattle.least_insertions.proofs.vehicles.is_used_or_first.Goals as goal

pub returns-then-is_used-clause-met : goal.returns-then-is_used-clause-met
returns-then-is_used-clause-met c =
    let routes = c.args.routes.now in
    let v : ℕ = c.args.vehicle in
    let inside : v < length routes = omega (arith, c.requires.one_list_each) in
    let there = get_or_default routes v c.index-routes-vehicle.result [] inside in
    let at = unwrap_or-slice_get routes v [] in
    let list : c.items.result.now ≡ list_at routes v = cc in
    met-used c.args.given.now routes v c.args.met.now (ap (λ (xs : List Visit). is_used xs) (sym list) ∙ (sym c.is_used.ensures ∙ c.if-is_used.true)) c.requires.met

pub returns-then-is_used-clause-fits : goal.returns-then-is_used-clause-fits
returns-then-is_used-clause-fits c =
    let routes = c.args.routes.now in
    let v : ℕ = c.args.vehicle in
    let inside : v < length routes = omega (arith, c.requires.one_list_each) in
    let there = get_or_default routes v c.index-routes-vehicle.result [] inside in
    let at = unwrap_or-slice_get routes v [] in
    let list : c.items.result.now ≡ list_at routes v = cc in
    sym (used-fits c.args.given.now routes v (ap (λ (xs : List Visit). is_used xs) (sym list) ∙ (sym c.is_used.ensures ∙ c.if-is_used.true)))

pub returns-clause-met : goal.returns-clause-met
returns-clause-met c =
    let routes = c.args.routes.now in
    let v : ℕ = c.args.vehicle in
    let inside : v < length routes = omega (arith, c.requires.one_list_each) in
    let there = get_or_default routes v c.index-routes-vehicle.result [] inside in
    let at = unwrap_or-slice_get routes v [] in
    let list : c.items.result.now ≡ list_at routes v = cc in
    let unused : is_used (list_at routes v) ≡ false = ap (λ (xs : List Visit). is_used xs) (sym list) ∙ (sym c.is_used.ensures ∙ c.if-is_used.false) in
    subst (λ (t : ℕ). AreMet c.args.given.now routes (v + 1) (set c.args.met.now t true)) (sym c.type_of-number.ensures.number)
    (met-unused c.args.given.now routes v c.args.met.now unused c.requires.met)

pub returns-clause-fits : goal.returns-clause-fits
returns-clause-fits c =
    let p = c.args.given.now in
    let routes = c.args.routes.now in
    let v : ℕ = c.args.vehicle in
    let inside : v < length routes = omega (arith, c.requires.one_list_each) in
    let there = get_or_default routes v c.index-routes-vehicle.result [] inside in
    let at = unwrap_or-slice_get routes v [] in
    let list : c.items.result.now ≡ list_at routes v = cc in
    let unused : is_used (list_at routes v) ≡ false = ap (λ (xs : List Visit). is_used xs) (sym list) ∙ (sym c.is_used.ensures ∙ c.if-is_used.false) in
    let number = c.type_of-number.ensures.number in
    let range = c.type_of-number.ensures.in_range in
    let marks = c.requires.marks in
    let below : type_of p v < length c.args.met.now = omega arith in
    ap not (ap (λ (t : ℕ). get_or c.args.met.now t false) number ∙ c.requires.met (type_of p v) below) ∙ sym (least-is_first p routes v inside unused)
