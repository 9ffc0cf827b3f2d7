use Rattle.std.proofs.Common.{◌≡◌, ◌∙◌, sym, ap, subst, ℕ, ◌≤◌, List, length, map, take, IfOk, arith}
use Rattle.std.proofs.lemmas.List.{take_all}
use Rattle.list_words.specs.Order.{pair_lt, sorted_by}
use Rattle.list_words.proofs.Sorting.{length-sorted, pair_lt-total, pairs-front}
use Rattle.granular.proofs.nearest.least_places.Goals as goal

pub returns-then-count-keys : goal.returns-then-count-keys
returns-then-count-keys c =
    subst (λ (l : List (ℕ × ℕ)). IfOk c.sorted_places.result (λ r. r.items ≡ map (λ key. key.1) l))
    (pairs-front c.args.count c.args.keys.now _ _ _ c.select_nth_unstable-least.ensures.permutation c.select_nth_unstable-least.ensures.front_len c.select_nth_unstable-least.ensures.partitioned)
    c.sorted_places.ensures

pub returns-else-count-keys : goal.returns-else-count-keys
returns-else-count-keys c =
    let all : take c.args.count (sorted_by pair_lt c.args.keys.now) ≡ sorted_by pair_lt c.args.keys.now = take_all c.args.count (sorted_by pair_lt c.args.keys.now)
    (omega (arith, length-sorted pair_lt pair_lt-total c.args.keys.now, c.if-count-keys.false)) in
    subst (λ (l : List (ℕ × ℕ)). IfOk c.sorted_places-else-count-keys.result (λ r. r.items ≡ map (λ key. key.1) l)) (sym all) c.sorted_places-else-count-keys.ensures
