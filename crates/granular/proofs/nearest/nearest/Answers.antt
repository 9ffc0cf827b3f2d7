use Rattle.std.proofs.Common.{◌≡◌, ◌∙◌, ap, subst, ℕ, ◌+◌, List, map, take, IfOk}
use Rattle.list_words.specs.Order.{pair_lt, sorted_by}
use Rattle.problem_data.specs.Places.{depot_count}
use Rattle.granular.proofs.NearestKeys.{keys-nearest}
use Rattle.granular.proofs.nearest.nearest.Goals as goal

pub returns : goal.returns
returns c =
    subst (λ (l : List ℕ). IfOk c.least_places.result (λ r. r.items ≡ l))
    (ap (λ (keys : List (ℕ × ℕ)). map (λ (key : ℕ × ℕ). key.1) (take c.args.count (sorted_by pair_lt keys))) (c.as_mut_slice.ensures.value ∙ c.in_ok-keys.ensures)
    ∙ keys-nearest c.args.given.now c.args.weights c.args.count (depot_count c.args.given.now + c.args.index))
    c.least_places.ensures
