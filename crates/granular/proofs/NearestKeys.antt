-- The nearest of the keys of a client are its neighbours.
use Rattle.std.proofs.Common.{◌≡◌, ◌∙◌, refl, ap, ℕ, zero, suc, ◌==◌, Bool, true, false, cond, List, [], ◌∷◌, map, take}
use Rattle.std.specs.Prelude.{filter, not}
use Rattle.list_words.specs.Order.{put_in_order, sorted_by, pair_lt}
use Rattle.problem_data.specs.declared.problem.Problem.{Problem}
use Rattle.problem_data.specs.Places.{client_places}
use Rattle.search_model.specs.Neighbours.{is_nearer, neighbours_of, proximity}
use Rattle.granular.specs.declared.proximity.Proximity.{Proximity}
use Rattle.granular.specs.Pairs.{keys_of}

put-keyed : (key : ℕ → ℕ × ℕ) (x : ℕ) (ys : List ℕ) → put_in_order pair_lt (key x) (map key ys) ≡ map key (put_in_order (λ i j. pair_lt (key i) (key j)) x ys)
put-keyed key x [] = refl
put-keyed key x (y ∷ ys) = by (put-keyed key x ys) (pair_lt (key y) (key x))
  where
    by : put_in_order pair_lt (key x) (map key ys) ≡ map key (put_in_order (λ i j. pair_lt (key i) (key j)) x ys) → (b : Bool) →
        cond b (key y ∷ put_in_order pair_lt (key x) (map key ys)) (key x ∷ key y ∷ map key ys)
        ≡ map key (cond b (y ∷ put_in_order (λ i j. pair_lt (key i) (key j)) x ys) (x ∷ y ∷ ys))
    by rest true = ap (λ (t : List (ℕ × ℕ)). key y ∷ t) rest
    by rest false = refl

sorted-keyed : (key : ℕ → ℕ × ℕ) (xs : List ℕ) → sorted_by pair_lt (map key xs) ≡ map key (sorted_by (λ i j. pair_lt (key i) (key j)) xs)
sorted-keyed key [] = refl
sorted-keyed key (x ∷ xs) = ap (put_in_order pair_lt (key x)) (sorted-keyed key xs) ∙ put-keyed key x (sorted_by (λ i j. pair_lt (key i) (key j)) xs)

places-taken : (f : ℕ → ℕ) (n : ℕ) (xs : List ℕ) → map (λ (k : ℕ × ℕ). k.1) (take n (map (λ x. (f x, x)) xs)) ≡ take n xs
places-taken f zero [] = refl
places-taken f zero (x ∷ xs) = refl
places-taken f (suc n) [] = refl
places-taken f (suc n) (x ∷ xs) = ap (λ (t : List ℕ). x ∷ t) (places-taken f n xs)

pub keys-nearest : (p : Problem) (weights : Proximity) (count client : ℕ) →
    map (λ (key : ℕ × ℕ). key.1) (take count (sorted_by pair_lt (keys_of p weights client))) ≡ neighbours_of p count weights.wait weights.warp client
keys-nearest p weights count client =
    let near : ℕ → ℕ = proximity p weights.wait weights.warp client in
    let places : List ℕ = filter (λ o. not (o == client)) (client_places p) in
    ap (λ (keys : List (ℕ × ℕ)). map (λ (key : ℕ × ℕ). key.1) (take count keys)) (sorted-keyed (λ o. (near o, o)) places)
    ∙ places-taken near count (sorted_by (is_nearer p weights.wait weights.warp client) places)
