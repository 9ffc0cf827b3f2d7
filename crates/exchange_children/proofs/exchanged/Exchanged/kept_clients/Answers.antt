use Rattle.std.proofs.Common.{◌≡◌, ◌∙◌, ◌++◌, ◌+◌, ◌<◌, ℕ, Bool, List, [], ap, filter, length, not, subst, sym}
use Rattle.std.specs.List.{range_with_len}
use Rattle.std.proofs.lemmas.List.{get_or_default}
use Rattle.std.proofs.lemmas.Option.{unwrap_or-slice_get}
use Rattle.list_words.specs.Lists.{is_in}
use Rattle.problem_data.specs.declared.visit.Visit.{Visit}
use Rattle.routing_model.specs.Routes.{clients_of, clients_of_vehicles, list_at}
use Rattle.exchange_children.specs.declared.clashes.Clashes.{Clashes}
use Rattle.exchange_children.specs.inside.Clashing.{AreClashes, HasMarks}
use Rattle.exchange_children.proofs.SelectedClients.{passed-next, passed-same}
use Rattle.exchange_children.proofs.exchanged.Exchanged.kept_clients.Goals.{then-not-is_among, else-not-is_among}
use Rattle.exchange_children.proofs.exchanged.Exchanged.kept_clients.Goals as goal

pub loop-vehicle-preserved : goal.loop-vehicle-preserved
loop-vehicle-preserved c =
    let p = c.args.given.now in
    let routes = c.args.self.parent.now in
    let into = c.args.self.into.now in
    let k : ℕ = c.loop-vehicle.vehicle in
    let test : ℕ → Bool = λ (v : ℕ). not (is_in into v) in
    let inside : k < length routes = c.loop-vehicle-test.true in
    let there = get_or_default routes k c.visits-item.result [] inside in
    let at = unwrap_or-slice_get routes k [] in
    let chosen : List ℕ = clients_of_vehicles routes (filter test (range_with_len 0 k)) in
    let next : List ℕ = clients_of_vehicles routes (filter test (range_with_len 0 (k + 1))) in
    let is = c.loop-vehicle.invariant in
    elim c.if-not-is_among.branch [
      | then-not-is_among w ↦ let list : w.items.result.now ≡ list_at routes k = cc (w.items.ensures) in
          record {
            marks = subst (HasMarks p) (sym w.clients-is) w.add.ensures.marks;
            clients = subst (λ (s : Clashes). AreClashes p s next) (sym w.clients-is) (subst (AreClashes p w.add.new.self)
                (ap (λ (visits : List Visit). chosen ++ clients_of visits) list ∙ passed-next routes test k (ap not (sym c.is_among.ensures ∙ w.if-not-is_among.true)))
                (w.add.ensures.added chosen is.clients));
          }
      | else-not-is_among w ↦
          record {
            marks = subst (HasMarks p) (sym w.clients-is) is.marks;
            clients = subst (λ (s : Clashes). AreClashes p s next) (sym w.clients-is) (subst (AreClashes p c.loop-vehicle.clients)
                (passed-same routes test k (ap not (sym c.is_among.ensures ∙ w.if-not-is_among.false))) is.clients);
          }
    ]
