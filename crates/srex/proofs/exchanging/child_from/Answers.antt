use Rattle.std.proofs.Common.{◌≡◌, ◌∙◌, ◌<◌, ℕ, All, ap, arith, length, subst, sym}
use Rattle.std.specs.Prelude.{IfOk}
use Rattle.routing_model.specs.Routes.{Routes}
use Rattle.routing_model.proofs.LawfulFacts.{lawful-facts}
use Rattle.route_cache.proofs.LawfulLists.{lawful-listed}
use Rattle.genetic_model.specs.RouteChildren.{Exchange}
use Rattle.genetic_model.specs.RouteExchange.{child_of_exchange}
use Rattle.genetic_model.specs.RouteSelection.{around}
use Rattle.genetic_model.proofs.LawfulExchange.{lawful-sound, selected-fair}
use Rattle.genetic_model.proofs.ListSums.{length-around}
use Rattle.genetic_model.proofs.SoundChildren.{IsExchange}
use Rattle.srex.proofs.Orders.{All-around}
use Rattle.srex.proofs.SelectedRoutes.{exchange-is, first-ring, second-ring}
use Rattle.srex.proofs.exchanging.child_from.Goals as goal

pub settled_starts-requires-clause-rings : goal.settled_starts-requires-clause-rings
settled_starts-requires-clause-rings c =
    let rings = c.args.rings in
    record {
      first = first-ring c.args.given.now rings.first rings.second c.requires.parents;
      second = second-ring c.args.given.now rings.first rings.second c.requires.parents;
    }

pub selected-requires-clause-some : goal.selected-requires-clause-some
selected-requires-clause-some c = let there = c.in_ok-starts.ensures.there.first in omega arith

pub selected-requires-clause-few : goal.selected-requires-clause-few
selected-requires-clause-few c =
    let rings = c.args.rings in
    let there = c.in_ok-starts.ensures.there.first in
    let few = (first-ring c.args.given.now rings.first rings.second c.requires.parents).few in
    let few' = (second-ring c.args.given.now rings.first rings.second c.requires.parents).few in
    let count = c.requires.count in
    omega arith

pub selected-requires-2-clause-some : goal.selected-requires-2-clause-some
selected-requires-2-clause-some c = let there = c.in_ok-starts.ensures.there.second in omega arith

pub selected-requires-2-clause-few : goal.selected-requires-2-clause-few
selected-requires-2-clause-few c =
    let rings = c.args.rings in
    let there = c.in_ok-starts.ensures.there.second in
    let few = (second-ring c.args.given.now rings.first rings.second c.requires.parents).few in
    let count = c.requires.count in
    omega arith

pub child_of-requires-clause-exchanged : goal.child_of-requires-clause-exchanged
child_of-requires-clause-exchanged c =
    let p = c.args.given.now in
    let rings = c.args.rings in
    let are = c.requires.parents in
    let order = rings.second.order.now in
    let start : ℕ = c.in_ok-starts.starts.second in
    let there = c.in_ok-starts.ensures.there.second in
    let into : c.as_slice.result.now ≡ around rings.first.order.now c.in_ok-starts.starts.first rings.count = c.as_slice.ensures.value ∙ c.in_ok-into.ensures in
    let from : c.as_slice-2.result.now ≡ around order start rings.count = c.as_slice-2.ensures.value ∙ c.in_ok-from.ensures in
    record {
      one_list_each = (lawful-facts p rings.first.routes.now are.first).one_list_each;
      parent = lawful-listed p rings.first.routes.now are.valid are.first;
      other = lawful-listed p rings.second.routes.now are.valid are.second;
      as_many = ap length into ∙ (length-around rings.first.order.now c.in_ok-starts.starts.first rings.count ∙ (sym (length-around order start rings.count) ∙ ap length (sym from)));
      from = subst (All (λ v. v < length rings.second.routes.now)) (sym from)
          (All-around (λ v. v < length rings.second.routes.now) order start rings.count (omega arith) (second-ring p rings.first rings.second are).order);
    }

pub child_of-requires-clause-parent : goal.child_of-requires-clause-parent
child_of-requires-clause-parent c =
    let p = c.args.given.now in
    let a : Routes = c.args.rings.first.routes.now in
    lawful-sound p a c.requires.parents.valid (lawful-facts p a c.requires.parents.first)

pub child_of-requires-clause-other : goal.child_of-requires-clause-other
child_of-requires-clause-other c =
    let p = c.args.given.now in
    let b : Routes = c.args.rings.second.routes.now in
    lawful-sound p b c.requires.parents.valid (lawful-facts p b c.requires.parents.second)

pub child_of-requires-clause-fair : goal.child_of-requires-clause-fair
child_of-requires-clause-fair c =
    let p = c.args.given.now in
    let rings = c.args.rings in
    let same = exchange-is p rings c.args.starts c.in_ok-starts.starts c.as_slice.result.now c.as_slice-2.result.now c.requires.parents c.in_ok-starts.ensures.settled
    (c.as_slice.ensures.value ∙ c.in_ok-into.ensures) (c.as_slice-2.ensures.value ∙ c.in_ok-from.ensures) in
    let order = ap length c.requires.parents.second_order in
    let count = c.requires.count in
    subst (IsExchange rings.second.routes.now) (sym same) (selected-fair p rings.first.routes.now rings.second.routes.now rings.count c.args.starts (omega arith))

pub returns : goal.returns
returns c =
    let p = c.args.given.now in
    let rings = c.args.rings in
    let same = exchange-is p rings c.args.starts c.in_ok-starts.starts c.as_slice.result.now c.as_slice-2.result.now c.requires.parents c.in_ok-starts.ensures.settled
    (c.as_slice.ensures.value ∙ c.in_ok-into.ensures) (c.as_slice-2.ensures.value ∙ c.in_ok-from.ensures) in
    subst (λ (e : Exchange). IfOk c.child_of.result (λ r. r.items ≡ child_of_exchange p c.args.weights rings.first.routes.now rings.second.routes.now e)) same c.child_of.ensures
