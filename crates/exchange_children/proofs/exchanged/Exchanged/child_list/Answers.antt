use Rattle.std.proofs.Common.{◌≡◌, ◌∙◌, ◌<◌, ℕ, IsTrue, List, [], ap, ap₂, get_or, length, subst, sym}
use Rattle.std.specs.List.{list_all}
use Rattle.std.proofs.lemmas.List.{get_or_default}
use Rattle.std.proofs.lemmas.Option.{unwrap_or-slice_get}
use Rattle.std.proofs.lemmas.Result.{IfOk-weaker}
use Rattle.problem_data.specs.declared.problem.VehicleType.{VehicleType}
use Rattle.problem_data.specs.declared.visit.Visit.{Visit}
use Rattle.routing_model.specs.Lawful.{names_place}
use Rattle.routing_model.specs.Routes.{list_at}
use Rattle.genetic_model.specs.RouteChildren.{fitted, giver_of, without_clashes}
use Rattle.exchange_children.specs.Exchanges.{exchange_of}
use Rattle.exchange_children.proofs.PutLists.{fitted-named, giver-among, put-list}
use Rattle.exchange_children.proofs.exchanged.Exchanged.child_list.Goals as goal

pub bounds-self-giver : goal.bounds-self-giver
bounds-self-giver c =
    giver-among (λ (u : ℕ). u < length c.args.self.other.now) c.args.self.into.now c.args.self.from.now c.args.vehicle c.in-Some.giver c.requires.exchanged.from (sym c.in-Some.ensures)

pub without-requires-2-clause-named : goal.without-requires-2-clause-named
without-requires-2-clause-named c =
    let p = c.args.given.now in
    let routes = c.args.self.other.now in
    let giver : ℕ = c.in-Some.giver in
    let inside : giver < length routes =
    giver-among (λ (u : ℕ). u < length routes) c.args.self.into.now c.args.self.from.now c.args.vehicle giver c.requires.exchanged.from (sym c.in-Some.ensures) in
    let there = get_or_default routes giver c.index-self-giver.result [] inside in
    let visits : c.items-visits.result.now ≡ get_or routes giver [] = cc in
    let listed = c.requires.exchanged.other giver [] inside in
    subst (λ (xs : List Visit). IsTrue (list_all (names_place p) xs)) (sym (c.as_slice.ensures.value ∙ c.in_ok-list.ensures))
    (fitted-named p c.vehicle_type.result.now c.items-visits.result.now (subst (λ (xs : List Visit). IsTrue (list_all (names_place p) xs)) (sym visits) listed.named))

pub returns : goal.returns
returns c =
    let p = c.args.given.now in
    let parent = c.args.self.parent.now in
    let routes = c.args.self.other.now in
    let giver : ℕ = c.in-Some.giver in
    let inside : giver < length routes =
    giver-among (λ (u : ℕ). u < length routes) c.args.self.into.now c.args.self.from.now c.args.vehicle giver c.requires.exchanged.from (sym c.in-Some.ensures) in
    let there = get_or_default routes giver c.index-self-giver.result [] inside in
    let at = unwrap_or-slice_get routes giver [] in
    let visits : c.items-visits.result.now ≡ list_at routes giver = cc in
    let list = c.as_slice.ensures.value ∙ (c.in_ok-list.ensures ∙ ap₂ (λ (t : VehicleType) (xs : List Visit). fitted t xs) c.vehicle_type.ensures.vehicle_type visits) in
    IfOk-weaker c.without-2.result _ _
    (λ r made kept put is_kept is_put. made put is_put
    ∙ (ap (without_clashes p put) list ∙ sym (put-list p parent routes kept put c.args.vehicle (giver_of (exchange_of c.args.self) c.args.vehicle) giver (sym c.in-Some.ensures))))
    c.without-2.ensures
