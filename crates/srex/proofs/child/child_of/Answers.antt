use Rattle.std.proofs.Common.{◌≡◌, ◌∙◌, Bool, ap, cond, false, rules, subst, sym, true}
use mir.Syntax.{w128}
use mir.Val.{SFits}
use Rattle.std.specs.Prelude.{pos, nat_lt}
use Rattle.routing_model.specs.Cost.{solution_cost}
use Rattle.routing_model.specs.Routes.{Routes}
use Rattle.genetic_model.specs.Insertion.{completed}
use Rattle.genetic_model.specs.RouteChildren.{first_child, second_child}
use Rattle.genetic_model.proofs.SoundChildren.{IsSound, first-sound, second-sound}
use Rattle.exchange_children.specs.Exchanges.{exchange_of}
use Rattle.srex.proofs.Children.{cheaper, completed-drivable, no-cheaper}
use Rattle.srex.proofs.child.child_of.Goals as goal

pub completed-requires-clause-sound : goal.completed-requires-clause-sound
completed-requires-clause-sound c =
    let e = c.args.exchanged in
    subst (IsSound c.args.given.now) (sym c.in_ok-child.ensures)
    (first-sound c.args.given.now e.parent.now e.other.now (exchange_of e) c.requires.parent c.requires.other c.requires.fair)

pub completed-requires-2-clause-sound : goal.completed-requires-2-clause-sound
completed-requires-2-clause-sound c =
    let e = c.args.exchanged in
    subst (IsSound c.args.given.now) (sym c.in_ok-other_child.ensures)
    (second-sound c.args.given.now e.parent.now e.other.now (exchange_of e) c.requires.parent c.requires.other c.requires.fair)

pub routes_cost-first_cost-requires-clause-plan : goal.routes_cost-first_cost-requires-clause-plan
routes_cost-first_cost-requires-clause-plan c =
    let p = c.args.given.now in
    let e = c.args.exchanged in
    completed-drivable p c.args.weights (first_child p e.parent.now e.other.now (exchange_of e)) c.as_slice.result.now c.validity.ensures
    (first-sound p e.parent.now e.other.now (exchange_of e) c.requires.parent c.requires.other c.requires.fair)
    (c.as_slice.ensures.value ∙ (c.in_ok-first.ensures ∙ ap (completed p c.args.weights) c.in_ok-child.ensures))

pub routes_cost-second_cost-requires-clause-plan : goal.routes_cost-second_cost-requires-clause-plan
routes_cost-second_cost-requires-clause-plan c =
    let p = c.args.given.now in
    let e = c.args.exchanged in
    completed-drivable p c.args.weights (second_child p e.parent.now e.other.now (exchange_of e)) c.as_slice-2.result.now c.validity.ensures
    (second-sound p e.parent.now e.other.now (exchange_of e) c.requires.parent c.requires.other c.requires.fair)
    (c.as_slice-2.ensures.value ∙ (c.in_ok-second.ensures ∙ ap (completed p c.args.weights) c.in_ok-other_child.ensures))

pub returns-then-second_cost-first_cost : goal.returns-then-second_cost-first_cost
returns-then-second_cost-first_cost c =
    let p = c.args.given.now in
    let w = c.args.weights in
    let e = c.args.exchanged in
    let f : Routes = completed p w (first_child p e.parent.now e.other.now (exchange_of e)) in
    let s : Routes = completed p w (second_child p e.parent.now e.other.now (exchange_of e)) in
    let first : c.in_ok-first.first.items ≡ f = c.in_ok-first.ensures ∙ ap (completed p w) c.in_ok-child.ensures in
    let second : c.in_ok-second.second.items ≡ s = c.in_ok-second.ensures ∙ ap (completed p w) c.in_ok-other_child.ensures in
    let new : SFits w128 c.routes_cost-second_cost.result = search rules in
    let old : SFits w128 c.routes_cost-first_cost.result = search rules in
    let less : nat_lt (solution_cost p w s) (solution_cost p w f) ≡ true =
    cheaper (solution_cost p w s) (solution_cost p w f) c.routes_cost-second_cost.result c.routes_cost-first_cost.result new old
    (c.routes_cost-second_cost.ensures.cost ∙ ap (λ (r : Routes). pos (solution_cost p w r)) (c.as_slice-2.ensures.value ∙ second))
    (c.routes_cost-first_cost.ensures.cost ∙ ap (λ (r : Routes). pos (solution_cost p w r)) (c.as_slice.ensures.value ∙ first)) c.if-second_cost-first_cost.true in
    second ∙ sym (ap (λ (b : Bool). cond b s f) less)

pub returns-else-second_cost-first_cost : goal.returns-else-second_cost-first_cost
returns-else-second_cost-first_cost c =
    let p = c.args.given.now in
    let w = c.args.weights in
    let e = c.args.exchanged in
    let f : Routes = completed p w (first_child p e.parent.now e.other.now (exchange_of e)) in
    let s : Routes = completed p w (second_child p e.parent.now e.other.now (exchange_of e)) in
    let first : c.in_ok-first.first.items ≡ f = c.in_ok-first.ensures ∙ ap (completed p w) c.in_ok-child.ensures in
    let second : c.in_ok-second.second.items ≡ s = c.in_ok-second.ensures ∙ ap (completed p w) c.in_ok-other_child.ensures in
    let new : SFits w128 c.routes_cost-second_cost.result = search rules in
    let old : SFits w128 c.routes_cost-first_cost.result = search rules in
    let more : nat_lt (solution_cost p w s) (solution_cost p w f) ≡ false =
    no-cheaper (solution_cost p w s) (solution_cost p w f) c.routes_cost-second_cost.result c.routes_cost-first_cost.result new old
    (c.routes_cost-second_cost.ensures.cost ∙ ap (λ (r : Routes). pos (solution_cost p w r)) (c.as_slice-2.ensures.value ∙ second))
    (c.routes_cost-first_cost.ensures.cost ∙ ap (λ (r : Routes). pos (solution_cost p w r)) (c.as_slice.ensures.value ∙ first)) c.if-second_cost-first_cost.false in
    first ∙ sym (ap (λ (b : Bool). cond b s f) more)
