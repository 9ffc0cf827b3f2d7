use Rattle.std.proofs.Common.{◌≡◌, ℕ, ◌+◌, ◌%◌, ◌<◌, ◌++◌, ◌∙◌, List, [], ap, get_or, length, subst, sym}
use Rattle.std.proofs.lemmas.List.{get_or_default}
use Rattle.std.proofs.lemmas.Option.{unwrap_or-slice_get}
use Rattle.problem_data.specs.declared.visit.Visit.{Visit}
use Rattle.routing_model.specs.Routes.{clients_of, clients_of_vehicles, list_at}
use Rattle.genetic_model.specs.RouteSelection.{around}
use Rattle.route_rings.specs.Marks.{AreMarks}
use Rattle.route_rings.proofs.SelectedClients.{chosen-more, place-behind}
use Rattle.route_rings.proofs.ring.Ring.select.Goals as goal

pub loop-step-preserved : goal.loop-step-preserved
loop-step-preserved c =
    let routes = c.args.self.routes.now in
    let order = c.args.self.order.now in
    let k = c.loop-step._step in
    let is = c.loop-step.invariant in
    let vehicle : ℕ = get_or order c.loop-step.at 0 in
    let list : c.items.result.now ≡ list_at routes vehicle =
    c.items.ensures ∙ (get_or_default routes vehicle c.index-self-vehicle.result [] (c.requires.ring.order c.loop-step.at 0 is.there) ∙ sym (unwrap_or-slice_get routes vehicle [])) in
    let chosen : List ℕ = clients_of_vehicles routes (around order c.args.start k) in
    let more = ap (λ (visits : List Visit). chosen ++ clients_of visits) list ∙ chosen-more routes order c.args.start k vehicle (ap (λ (i : ℕ). get_or order i 0) is.at) in
    record {
      long = c.mark_clients.ensures.length ∙ is.long;
      marks = subst (AreMarks c.mark_clients.new.marks) more (c.mark_clients.ensures.marks chosen is.marks);
      at = place-behind c.args.start k (length order) c.loop-step.at c.next-at.result is.at (c.next-at.ensures.next ∙ ap (λ (n : ℕ). (c.loop-step.at + 1) % n) c.size-size.ensures);
      there = subst (λ (n : ℕ). c.next-at.result < n) c.size-size.ensures c.next-at.ensures.there;
    }
