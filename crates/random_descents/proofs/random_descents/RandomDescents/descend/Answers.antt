use Rattle.std.proofs.Common.{◌≡◌, ◌∙◌, [], ◌∷◌, ap, map, subst, sym, IsTrue}
use Rattle.std.specs.Prelude.{IfOk, OnOk}
use Rattle.std.proofs.lemmas.Result.{IfOk-weaker}
use Rattle.problem_data.specs.declared.problem.Problem.{Problem}
use Rattle.routing_model.specs.Lawful.{is_lawful}
use Rattle.routing_model.specs.Routes.{Routes}
use Rattle.random_model.specs.Draws.{client_order}
use Rattle.genetic_model.specs.RandomDescent.{random_descent}
use Rattle.move_core.specs.Searches.{SearchState}
use Rattle.local_search.specs.Descents.{NamesClients, NamesPlaces}
use Rattle.local_search.proofs.NearPlaces.{neighbours-name_places}
use Rattle.random_descents.specs.contracts.random_descents.RandomDescents.descend.{dyn-1-ghosts}
use Rattle.random_descents.specs.Rises.{RoseOver}
use Rattle.random_descents.specs.Shared.{Shared}
use Rattle.random_descents.proofs.OneDescent.{ends, rises}
use Rattle.random_descents.proofs.OrderedPlaces.{order-there}
use Rattle.random_descents.proofs.random_descents.RandomDescents.descend.Goals as goal

pub new-requires-clause-lawful : goal.new-requires-clause-lawful
new-requires-clause-lawful g c = subst (λ (v : Shared). IsTrue (is_lawful v.problem c.args.plan.now.routes)) (sym c.self.view_is) c.requires.lawful

pub descend-requires-clause-order : goal.descend-requires-clause-order
descend-requires-clause-order g c =
    let p : Problem = c.self.inside.given.now in
    let drawn : c.as_slice.result.now ≡ (client_order p c.args.generator.now).value = c.as_slice.ensures.value ∙ c.in_ok-order.ensures.order in
    let problem : c.in_ok-search.search.problem ≡ p = ap (λ (s : SearchState). s.problem) c.in_ok-search.ensures in
    subst (λ (q : Problem). NamesClients q c.as_slice.result.now) (sym problem) (subst (NamesClients p) (sym drawn) (order-there p c.args.generator.now))

pub descend-requires-clause-neighbours : goal.descend-requires-clause-neighbours
descend-requires-clause-neighbours g c =
    let p : Problem = c.self.inside.given.now in
    let problem : c.in_ok-search.search.problem ≡ p = ap (λ (s : SearchState). s.problem) c.in_ok-search.ensures in
    subst (λ (q : Problem). NamesPlaces q c.self.inside.near) (sym problem)
    (subst (NamesPlaces p) (sym c.self.invariant) (neighbours-name_places p c.self.inside.params.nb_granular c.self.inside.params.weight_wait_time c.self.inside.params.weight_time_warp))

pub returns-clause-plan : goal.returns-clause-plan
returns-clause-plan g c =
    let p : Problem = c.self.inside.given.now in
    let drawn : c.as_slice.result.now ≡ (client_order p c.args.generator.now).value = c.as_slice.ensures.value ∙ c.in_ok-order.ensures.order in
    subst (λ (v : Shared). IfOk c.solution.result (λ r. r.routes ≡ (random_descent v.problem v.params c.args.weights c.args.plan.now.routes c.args.generator.now).routes)) c.self.view_is
    (IfOk-weaker c.solution.result _ _ (λ r e. e ∙ ends p c.self.inside.params c.args.weights c.args.plan.now.routes c.args.generator.now c.in_ok-search.search c.self.inside.near c.as_slice.result.now
    c.in_ok-search.ensures c.self.invariant drawn _ _ _ c.in_ok-descend.field-0 c.in_ok-descend.ensures.descends) c.solution.ensures)

pub returns-clause-rises : goal.returns-clause-rises
returns-clause-rises g c =
    let p : Problem = c.self.inside.given.now in
    let drawn : c.as_slice.result.now ≡ (client_order p c.args.generator.now).value = c.as_slice.ensures.value ∙ c.in_ok-order.ensures.order in
    subst (λ (v : Shared). OnOk c.solution.result (RoseOver v.problem v.params ((random_descent v.problem v.params c.args.weights c.args.plan.now.routes c.args.generator.now).start ∷ []) (map (λ b. ((dyn-1-ghosts g.dyn-1).0.entry b.vtable).1.tally_of b.value) c.args.kit.now.items) (map (λ b. ((dyn-1-ghosts g.dyn-1).0.entry b.vtable).1.tally_of b.value) c.descend.new.kit.items))) c.self.view_is
    (IfOk-weaker c.solution.result _ _ (λ r e. rises p c.self.inside.params c.args.weights c.args.plan.now.routes c.args.generator.now c.in_ok-search.search c.self.inside.near c.as_slice.result.now
    c.in_ok-search.ensures c.self.invariant drawn _ _ _ c.in_ok-descend.field-0 c.in_ok-descend.ensures.descends) c.solution.ensures)

pub returns-clause-lawful : goal.returns-clause-lawful
returns-clause-lawful g c =
    let problem : c.descend.new.search.problem ≡ c.self.inside.given.now = c.in_ok-descend.ensures.problem ∙ ap (λ (s : SearchState). s.problem) c.in_ok-search.ensures in
    let same : c.descend.new.search.problem ≡ c.args.self.now.problem = problem ∙ ap (λ (v : Shared). v.problem) c.self.view_is in
    let lawful : IsTrue (is_lawful c.args.self.now.problem c.descend.new.search.routes) = subst (λ (q : Problem). IsTrue (is_lawful q c.descend.new.search.routes)) same c.soundness.ensures.lawful in
    IfOk-weaker c.solution.result _ _ (λ r e. subst (λ (routes : Routes). IsTrue (is_lawful c.args.self.now.problem routes)) (sym e) lawful) c.solution.ensures
