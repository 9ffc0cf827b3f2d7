use Rattle.std.proofs.Common.{◌≡◌, ◌∙◌, ◌<◌, ℕ, List, All, IsTrue, ap, ap₂, length, subst, sym}
use Rattle.routing_model.specs.Lawful.{is_lawful}
use Rattle.routing_model.specs.Listed.{IsListed}
use Rattle.routing_model.specs.Routes.{Routes}
use Rattle.route_cache.proofs.LawfulLists.{lawful-listed}
use Rattle.random_model.specs.Draws.{Draw}
use Rattle.genetic_model.specs.RouteExchange.{child_by_draws, exchange}
use Rattle.genetic_model.specs.RouteOrder.{route_order}
use Rattle.srex.proofs.DrawnExchanges.{exchange-drawn, some-of}
use Rattle.srex.proofs.exchanging.exchange.Goals as goal

pub route_order-requires-clause-listed : goal.route_order-requires-clause-listed
route_order-requires-clause-listed c =
    subst (All (IsListed c.args.given.now)) (sym c.items.ensures) (lawful-listed c.args.given.now c.args.first.now.routes c.validity.ensures c.requires.first)

pub route_order-requires-2-clause-listed : goal.route_order-requires-2-clause-listed
route_order-requires-2-clause-listed c =
    subst (All (IsListed c.args.given.now)) (sym c.items-2.ensures) (lawful-listed c.args.given.now c.args.second.now.routes c.validity.ensures c.requires.second)

-- the child is that of the definition
drawn : (c : goal.After-drop-order-2) → c.from_vec.result ≡ (exchange c.args.given.now c.args.weights c.args.first.now.routes c.args.second.now.routes c.args.generator.now).value
drawn c =
    let p = c.args.given.now in
    let a : Routes = c.args.first.now.routes in
    let b : Routes = c.args.second.now.routes in
    let xs : List ℕ = c.as_slice.result.now in
    let ys : List ℕ = c.as_slice-2.result.now in
    let order : xs ≡ route_order p a = c.as_slice.ensures.value ∙ c.in_ok-order.ensures ∙ ap (route_order p) c.items.ensures in
    let other_order : ys ≡ route_order p b = c.as_slice-2.ensures.value ∙ c.in_ok-other_order.ensures ∙ ap (route_order p) c.items-2.ensures in
    let some : 0 < length xs = some-of xs c.in_ok-order.order.len c.as_slice.ensures.len (sym c.is_empty.ensures ∙ c.if-is_empty.false) in
    let other_some : 0 < length ys = some-of ys c.in_ok-other_order.other_order.len c.as_slice-2.ensures.len (sym c.is_empty-else-is_empty.ensures ∙ c.if-is_empty-2.false) in
    let made : Routes → Routes → Draw Routes = λ (u v : Routes). child_by_draws p c.args.weights u v (length xs) (length ys) c.args.generator.now in
    c.from_vec.ensures ∙ c.in_ok-child.ensures.child
    ∙ ap (λ (d : Draw Routes). d.value) (ap₂ made c.items-3.ensures c.items-4.ensures ∙ exchange-drawn p c.args.weights a b c.args.generator.now xs ys order other_order some other_some)

pub returns-clause-child : goal.returns-clause-child
returns-clause-child c = drawn c

pub returns-clause-lawful : goal.returns-clause-lawful
returns-clause-lawful c =
    let p = c.args.given.now in
    let a : Routes = c.args.first.now.routes in
    let b : Routes = c.args.second.now.routes in
    subst (λ (r : Routes). IsTrue (is_lawful p r)) (sym (drawn c))
    (c.exchange_is_lawful.ensures p c.args.weights a b c.args.generator.now c.validity.ensures c.requires.first c.requires.second)
