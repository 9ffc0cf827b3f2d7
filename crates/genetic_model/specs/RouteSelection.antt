-- Which routes are exchanged: as many neighbouring routes of each parent, moved round until their clients differ least (after Nagata and Kobayashi 2010).
use Rattle.std.specs.Prelude.{ℕ, zero, suc, ◌+◌, ◌-◌, ◌%◌, nat_lt, not, if◌then◌else◌, Bool, List, [], ◌∷◌, length, map, slice_index, count_by, unwrap_or}
use Rattle.std.specs.List.{range_with_len}
use Rattle.list_words.specs.Order.{first_least}
use Rattle.list_words.specs.Lists.{is_in}
use Rattle.problem_data.specs.declared.problem.Problem.{Problem}
use Rattle.problem_data.specs.Places.{client_places}
use Rattle.genetic_model.specs.declared.starts.Starts.{Starts}

-- m items of a list from a place on, going round
abbrev pub around : List ℕ → ℕ → ℕ → List ℕ
around xs start m = map (λ i. slice_index xs (i % length xs)) (range_with_len start m)

-- whether a number is in just one of two sets
abbrev pub is_in_one : List ℕ → List ℕ → ℕ → Bool
is_in_one xs ys n = if is_in xs n then not (is_in ys n) else is_in ys n

-- how many clients are in just one of two sets
abbrev pub difference_count : Problem → List ℕ → List ℕ → ℕ
difference_count p xs ys = count_by (is_in_one xs ys) (client_places p)

-- the four shifts by one place, with the lengths of the two orders, in the order in which they are compared
abbrev pub shifts : ℕ → ℕ → Starts → List Starts
shifts m n s =
    record { first = (s.first + 1) % m; second = s.second }
    ∷ record { first = (s.first + m - 1) % m; second = s.second }
    ∷ record { first = s.first; second = (s.second + 1) % n }
    ∷ record { first = s.first; second = (s.second + n - 1) % n }
    ∷ []

-- the first of them with least f
abbrev pub best_shift : (Starts → ℕ) → ℕ → ℕ → Starts → Starts
best_shift f m n s = unwrap_or (first_least f (shifts m n s)) s

-- shifts by the best one, as long as f falls, and at most so many times
abbrev pub shifted : (Starts → ℕ) → ℕ → ℕ → ℕ → Starts → Starts
shifted f m n zero s = s
shifted f m n (suc more) s =
    let best = best_shift f m n s in
    let rest = shifted f m n more best in
    if nat_lt (f best) (f s) then rest else s

-- where no shift makes f less; each shift makes it less by 1 or more, so f times are enough
abbrev pub settled : (Starts → ℕ) → ℕ → ℕ → Starts → Starts
settled f m n s = shifted f m n (f s) s
