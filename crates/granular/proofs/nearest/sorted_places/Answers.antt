use Rattle.std.proofs.Common.{◌≡◌, ap, subst, ℕ, List, map, IfOk}
use Rattle.list_words.proofs.Sorting.{pairs-from_sort}
use Rattle.granular.proofs.nearest.sorted_places.Goals as goal

pub returns : goal.returns
returns c =
    subst (λ (l : List (ℕ × ℕ)). IfOk c.places_of_keys.result (λ r. r.items ≡ map (λ key. key.1) l))
    (pairs-from_sort c.args.keys.now c.sort_unstable.new.self c.sort_unstable.ensures.permutation c.sort_unstable.ensures.sorted)
    c.places_of_keys.ensures
