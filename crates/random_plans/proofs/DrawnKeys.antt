-- Words drawn one by one, each before a place.
use Rattle.std.proofs.Common.{◌≡◌, ◌∙◌, sym, ap, ℕ, suc, ◌+◌, List, [], ◌∷◌, ◌++◌, length, map, append_assoc}
use Rattle.std.specs.List.{range_with_len, zip}
use Rattle.std.specs.List.Sorted.{IsPermutation, IsSorted}
use Rattle.std.proofs.lemmas.List.{append-nil}
use Rattle.std.proofs.lemmas.List.FromFn.{length-range_with_len}
use Rattle.problem_data.specs.declared.problem.Problem.{Problem}
use Rattle.problem_data.specs.Places.{client_places, depot_count}
use Rattle.list_words.specs.Order.{sorted_by, pair_lt}
use Rattle.list_words.proofs.Sorting.{pair_cmp, pairs-from_sort}
use Rattle.vrp_num.specs.Orders.{random_order}
use Rattle.vrp_num.specs.Words.{State, words, next_word, next_state, state_after}

-- the keys that are still to be drawn
abbrev pub keys_from : ℕ → ℕ → State → List (ℕ × ℕ)
keys_from n place s = zip (words n s) (range_with_len place n)

pub keys-none : (n place : ℕ) (s : State) (keys all : List (ℕ × ℕ)) → n ≡ 0 → keys ++ keys_from n place s ≡ all → keys ≡ all
unfolding words
keys-none n place s keys all e h =
    let none : keys_from n place s ≡ [] = ap (λ k. keys_from k place s) e in
    sym (ap (λ (t : List (ℕ × ℕ)). keys ++ t) none ∙ append-nil keys) ∙ h

pub keys-more : (n left place : ℕ) (s : State) (keys all : List (ℕ × ℕ)) → left ≡ suc n → keys ++ keys_from left place s ≡ all →
    (keys ++ (next_word s, place) ∷ []) ++ keys_from n (place + 1) (next_state s) ≡ all
unfolding words
keys-more n left place s keys all e h =
    let first : keys_from left place s ≡ (next_word s, place) ∷ keys_from n (place + 1) (next_state s) = ap (λ k. keys_from k place s) e in
    append_assoc keys ((next_word s, place) ∷ []) (keys_from n (place + 1) (next_state s))
    ∙ ap (λ (t : List (ℕ × ℕ)). keys ++ t) (sym first) ∙ h

pub state-none : (n : ℕ) (s t : State) → n ≡ 0 → state_after n s ≡ t → s ≡ t
unfolding state_after
state-none n s t e h = sym (ap (λ k. state_after k s) e) ∙ h

pub state-more : (n left : ℕ) (s t : State) → left ≡ suc n → state_after left s ≡ t → state_after n (next_state s) ≡ t
unfolding state_after
state-more n left s t e h = sym (ap (λ k. state_after k s) e) ∙ h

-- the sorted keys' places are the random order
pub order-from_sort : (p : Problem) (s : State) (keys sorted : List (ℕ × ℕ)) → keys ≡ keys_from (length p.clients) (depot_count p) s →
    IsPermutation keys sorted → IsSorted pair_cmp sorted → map (λ key. key.1) sorted ≡ random_order (client_places p) s
order-from_sort p s keys sorted e moved up =
    let count : length (client_places p) ≡ length p.clients = length-range_with_len (depot_count p) (length p.clients) in
    ap (map (λ (key : ℕ × ℕ). key.1)) (pairs-from_sort keys sorted moved up ∙ ap (sorted_by pair_lt) (e ∙ ap (λ n. zip (words n s) (client_places p)) (sym count)))
