use Rattle.std.proofs.Common.{◌≡◌, ◌∙◌, ap, ap₂, subst, ℕ, List, length, map, IfOk}
use Rattle.problem_data.specs.declared.problem.Problem.{Problem}
use Rattle.problem_data.specs.Places.{depot_count}
use Rattle.random_plans.proofs.DrawnKeys.{keys_from, order-from_sort}
use Rattle.random_plans.proofs.ordering.random_order.Goals as goal

pub returns-clause-order : goal.returns-clause-order
returns-clause-order c =
    let p : Problem = c.args.given.now in
    let depots : length c.items.result.now ≡ depot_count p = ap length c.items.ensures ∙ ap (λ (q : Problem). length q.depots) c.problem-problem.ensures.same in
    let clients : length c.items-2.result.now ≡ length p.clients = ap length c.items-2.ensures ∙ ap (λ (q : Problem). length q.clients) c.problem-problem.ensures.same in
    let keys = c.in_ok-keys.ensures.keys ∙ ap₂ (λ (d n : ℕ). keys_from n d c.args.generator.now) depots clients in
    let sorted = order-from_sort p c.args.generator.now c.in_ok-keys.keys.items c.sort.new.self.items keys c.in_ok-sort.ensures.permutation c.in_ok-sort.ensures.sorted in
    subst (λ (l : List ℕ). IfOk c.places_of_keys.result (λ r. r.items ≡ l)) (ap (map (λ (key : ℕ × ℕ). key.1)) c.as_slice.ensures.value ∙ sorted) c.places_of_keys.ensures
