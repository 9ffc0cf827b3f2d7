use Rattle.std.proofs.Common.{◌≡◌, ◌∙◌, ap₂, sym, subst, ℕ, List, All, IsTrue}
use Rattle.std.specs.Prelude.{IfOk}
use Rattle.std.proofs.lemmas.Result.{IfOk-weaker}
use Rattle.vrp_num.specs.Words.{State}
use Rattle.random_model.specs.Draws.{client_order}
use Rattle.random_model.specs.RandomSolution.{dealt, random_solution, walk}
use Rattle.problem_data.specs.Places.{is_client_place}
use Rattle.random_model.proofs.RandomOrders.{client_order-clients}
use Rattle.random_plans.proofs.RandomPlans.{drawn-lawful}
use Rattle.random_plans.proofs.random_plan.random_solution.Goals as goal

pub chosen_clients-requires : goal.chosen_clients-requires
chosen_clients-requires c =
    subst (λ (l : List ℕ). All (λ place. IsTrue (is_client_place c.args.given.now place)) l) (sym (c.as_slice.ensures.value ∙ c.in_ok-order.ensures.order)) (client_order-clients c.args.given.now c.args.generator.now)

pub returns-clause-lawful : goal.returns-clause-lawful
returns-clause-lawful c =
    let p = c.args.given.now in
    let order : c.as_slice.result.now ≡ (client_order p c.args.generator.now).value = c.as_slice.ensures.value ∙ c.in_ok-order.ensures.order in
    let picked : c.as_slice-2.result.now ≡ (walk p (client_order p c.args.generator.now).value (client_order p c.args.generator.now).state).picked =
    c.as_slice-2.ensures.value ∙ c.in_ok-chosen.ensures.chosen ∙ ap₂ (λ (places : List ℕ) (s : State). (walk p places s).picked) order c.in_ok-order.ensures.state in
    let is : IfOk c.dealt.result (λ r. r.routes ≡ (random_solution p c.args.generator.now).value) =
    IfOk-weaker c.dealt.result _ _ (λ r e. e ∙ ap₂ dealt c.vehicles_of.ensures.count picked) c.dealt.ensures in
    drawn-lawful p c.args.generator.now c.dealt.result c.validity.ensures is
