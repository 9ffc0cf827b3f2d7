use Rattle.std.proofs.Common.{◌≡◌, ◌∙◌, ◌-◌, ◌<◌, ℕ, Bool, List, Vec, Global, true, cond, ap, arith, fold, length, length-set, subst, sym}
use Rattle.std.specs.Prelude.{unwrap_or}
use Rattle.std.specs.List.{range_with_len}
use Rattle.list_words.specs.Order.{first_least}
use Rattle.problem_data.specs.declared.visit.Visit.{Visit}
use Rattle.problem_data.specs.Places.{depot_count, is_client_place, place_count}
use Rattle.routing_model.specs.Cost.{solution_cost}
use Rattle.routing_model.specs.Routes.{Routes}
use Rattle.random_model.proofs.Dealing.{vehicles_some}
use Rattle.genetic_model.specs.Insertion.{completed_with, insertions, is_missing}
use Rattle.genetic_model.proofs.SoundChildren.{IsSound}
use Rattle.genetic_model.proofs.SoundInsertion.{step-completion}
use Rattle.least_insertions.specs.inside.Visited.{AreVisited}
use Rattle.least_insertions.proofs.FoldedPlans.{client-place, fold-next}
use Rattle.least_insertions.proofs.VisitedClients.{marks-completed}
use Rattle.least_insertions.proofs.completing.completed.Goals.{then-is_missing+in_ok-insert_client, else-is_missing}
use Rattle.least_insertions.proofs.completing.completed.Goals as goal

pub loop-client-preserved : goal.loop-client-preserved
loop-client-preserved c =
    let p = c.args.given.now in
    let w = c.args.weights in
    let lists : Routes = c.loop-client.lists.items in
    let visited : List Bool = c.loop-client.visited in
    let client : ℕ = c.loop-client.client in
    let is = c.loop-client.invariant in
    let begun = is.begun in
    let below : client < place_count p = subst (λ (n : ℕ). client < n) c.client_places-clients.ensures.end c.loop-client-test.true in
    let place : is_client_place p client ≡ true = client-place p client begun below in
    let missing : c.is_missing.result ≡ is_missing p lists client = c.is_missing.ensures lists is.marks in
    let made : Routes = completed_with p w lists client in
    let stays : Bool → Routes = λ (b : Bool). cond b (unwrap_or (first_least (solution_cost p w) (insertions p lists client)) lists) lists in
    let items : c.if-is_missing.lists.items ≡ made = elim c.if-is_missing.branch [
      | then-is_missing+in_ok-insert_client w' ↦ ap (λ (l : Vec (List Visit) Global). l.items) w'.lists-is ∙ w'.in_ok-insert_client.ensures
      | else-is_missing w' ↦ ap (λ (l : Vec (List Visit) Global). l.items) w'.lists-is ∙ sym (ap stays (sym missing ∙ w'.if-is_missing.false))
    ] in
    let marks : AreVisited c.if-is_missing.visited made = elim c.if-is_missing.branch [
      | then-is_missing+in_ok-insert_client w' ↦ subst (λ (m : List Bool). AreVisited m made) (sym w'.visited-is)
          (marks-completed p w lists client (record { valid = c.validity.ensures; sound = is.sound; client = place; missing = sym missing ∙ w'.if-is_missing.true }) visited is.marks)
      | else-is_missing w' ↦ subst (λ (m : List Bool). AreVisited m made) (sym w'.visited-is)
          (subst (AreVisited visited) (sym (ap stays (sym missing ∙ w'.if-is_missing.false))) is.marks)
    ] in
    let long : length c.if-is_missing.visited ≡ place_count p = elim c.if-is_missing.branch [
      | then-is_missing+in_ok-insert_client w' ↦ ap length w'.visited-is ∙ (length-set visited client true ∙ is.long)
      | else-is_missing w' ↦ ap length w'.visited-is ∙ is.long
    ] in
    record {
      begun = omega arith;
      long = long;
      marks = subst (AreVisited c.if-is_missing.visited) (sym items) marks;
      sound = subst (IsSound p) (sym items) (step-completion p w c.validity.ensures (vehicles_some p c.validity.ensures) lists client is.sound place).sound;
      so_far = items ∙ (ap (λ (r : Routes). completed_with p w r client) is.so_far ∙ fold-next (completed_with p w) c.args.routes.items (depot_count p) client begun);
    }

pub returns : goal.returns
returns c =
    let p = c.args.given.now in
    let begun = c.loop-client.invariant.begun in
    let start = c.client_places-clients.ensures.start in
    let end = c.client_places-clients.ensures.end in
    let done : c.loop-client.client - depot_count p ≡ length p.clients = omega arith in
    c.loop-client.invariant.so_far ∙ ap (λ (n : ℕ). fold (completed_with p c.args.weights) c.args.routes.items (range_with_len (depot_count p) n)) done
