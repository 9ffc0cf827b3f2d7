use Rattle.std.proofs.Common.{◌≡◌, ◌∙◌, ◌++◌, ◌<◌, ℕ, List, [], ap, get_or, length, subst, take}
use Rattle.std.proofs.lemmas.List.{get_or_default}
use Rattle.std.proofs.lemmas.Option.{unwrap_or-slice_get}
use Rattle.problem_data.specs.declared.visit.Visit.{Visit}
use Rattle.routing_model.specs.Routes.{clients_of, clients_of_vehicles, list_at}
use Rattle.exchange_children.specs.inside.Clashing.{AreClashes}
use Rattle.exchange_children.proofs.SelectedClients.{taken-next}
use Rattle.exchange_children.proofs.exchanged.Exchanged.put_clients.Goals as goal

pub loop-vehicle-preserved : goal.loop-vehicle-preserved
loop-vehicle-preserved c =
    let routes = c.args.self.other.now in
    let from = c.args.self.from.now in
    let k : ℕ = c.loop-vehicle.vehicle-index in
    let vehicle : ℕ = get_or from k 0 in
    let inside : vehicle < length routes = c.requires.from k 0 c.loop-vehicle-test.true in
    let there = get_or_default routes vehicle c.index-self-vehicle.result [] inside in
    let at = unwrap_or-slice_get routes vehicle [] in
    let list : c.items.result.now ≡ list_at routes vehicle = cc in
    let chosen : List ℕ = clients_of_vehicles routes (take k from) in
    record {
      marks = c.add.ensures.marks;
      clients = subst (AreClashes c.args.given.now c.add.new.self)
          (ap (λ (visits : List Visit). chosen ++ clients_of visits) list ∙ taken-next routes from k c.loop-vehicle-test.true)
          (c.add.ensures.added chosen c.loop-vehicle.invariant.clients);
    }
