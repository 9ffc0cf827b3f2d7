use Rattle.std.proofs.Common.{◌≡◌, ◌∙◌, ap, subst, sym}
use Rattle.std.specs.Prelude.{IsTrue}
use Rattle.problem_data.specs.declared.problem.Problem.{Problem}
use Rattle.routing_model.specs.Lawful.{is_lawful}
use Rattle.routing_model.specs.Routes.{Routes}
use Rattle.random_model.specs.Draws.{client_order}
use Rattle.move_core.specs.Searches.{SearchState}
use Rattle.local_search.specs.Descents.{NamesClients}
use Rattle.random_descents.proofs.OrderedPlaces.{order-there}
use Rattle.recording_operators.proofs.own_run.OwnRun.descended.Goals as goal

pub descend-requires-clause-order : goal.descend-requires-clause-order
descend-requires-clause-order g c =
    let s = c.args.self.now in
    let drawn : c.as_slice.result.now ≡ (client_order s.given.now s.generator).value = c.as_slice.ensures.value ∙ c.in_ok-order.ensures.order in
    let problem : c.in_ok-search.search.problem ≡ s.given.now = ap (λ (x : SearchState). x.problem) c.in_ok-search.ensures in
    subst (λ (q : Problem). NamesClients q c.as_slice.result.now) (sym problem) (subst (NamesClients s.given.now) (sym drawn) (order-there s.given.now s.generator))

pub returns-clause-lawful : goal.returns-clause-lawful
returns-clause-lawful g c =
    let p = c.args.self.now.given.now in
    let problem = c.in_ok-descend.ensures.problem ∙ ap (λ (x : SearchState). x.problem) c.in_ok-search.ensures in
    subst (λ (routes : Routes). IsTrue (is_lawful p routes)) (sym c.in_ok-descended.ensures) (subst (λ (q : Problem). IsTrue (is_lawful q c.descend.new.search.routes)) problem c.soundness.ensures.lawful)
