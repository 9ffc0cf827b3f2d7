-- The numbers of items while a plan is compared with the others, or forgotten.
use Rattle.std.specs.Prelude.{ℕ, ◌+◌, ◌==◌, if◌then◌else◌, insert, List, map, nat_lt, take}
use Rattle.list_words.specs.Order.{sorted_by}
use Rattle.problem_data.specs.declared.problem.Problem.{Problem}
use Rattle.routing_model.specs.Routes.{Routes}
use Rattle.genetic_model.specs.BrokenPairs.{broken_pairs}
use Rattle.genetic_model.specs.Fitness.{item_at, nearest}

-- with other numbers at one place
abbrev pub with_numbers : (ℕ → List ℕ) → ℕ → List ℕ → ℕ → List ℕ
with_numbers numbers at others k = if k == at then others else numbers k

-- the last plan was compared with the first `at` ones
abbrev pub near_while_comparing : Problem → List Routes → ℕ → ℕ → ℕ → List ℕ
near_while_comparing p plans last at k =
    if nat_lt k at then nearest p plans k
    else (if nat_lt k last then nearest p (take last plans) k else sorted_by nat_lt (map (broken_pairs p (item_at plans last)) (take at plans)))

-- a plan that stood at a place was forgotten by the first `at` ones
abbrev pub near_while_removing : Problem → List Routes → Routes → ℕ → ℕ → ℕ → List ℕ
near_while_removing p plans gone place at k =
    if nat_lt k at then nearest p plans k else nearest p (insert plans place gone) (if nat_lt k place then k else k + 1)
