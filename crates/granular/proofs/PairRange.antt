-- The numbers of pairs, row after row.
use Rattle.std.proofs.Common.{◌≡◌, ◌<◌, ◌≤◌, ◌-◌, ◌+◌, ◌*◌, ◌∙◌, ℕ, length, get_or, map, ap₂, arith, mul-le-mul_right}
use Rattle.std.specs.List.{range_with_len}
use Rattle.std.proofs.lemmas.List.FromFn.{get_or-map-range_with_len, get_or-range_with_len, length-range_with_len}
use Rattle.std.proofs.lemmas.Nat.{div-mul-add, mod-mul-add}
use Rattle.problem_data.specs.declared.problem.Problem.{Problem}
use Rattle.problem_data.specs.Places.{depot_count}
use Rattle.search_model.specs.Neighbours.{near}
use Rattle.granular.specs.declared.proximity.Proximity.{Proximity}
use Rattle.granular.specs.Pairs.{all_nears, pair_near}

-- each number of a range from 0 is below its end
pub below-end : (n k d : ℕ) → k < length (range_with_len 0 (n - 0)) → get_or (range_with_len 0 (n - 0)) k d < n
below-end n k d h =
    let few : length (range_with_len 0 (n - 0)) ≡ n - 0 = length-range_with_len 0 (n - 0) in
    let inside : k < n - 0 = omega arith in
    let is : get_or (range_with_len 0 (n - 0)) k d ≡ 0 + k = get_or-range_with_len 0 (n - 0) k d inside in
    omega arith

-- the number of the pair of i and j
pub pair-below : (n i j : ℕ) → i < n → j < n → i * n + j < n * n
pair-below n i j h k = omega (arith, mul-le-mul_right n h)

-- a pair whose number is told
pub pair-is : (p : Problem) (weights : Proximity) (i j : ℕ) → j < length p.clients →
    pair_near p weights (i * length p.clients + j) ≡ near p weights.wait weights.warp (depot_count p + i) (depot_count p + j)
unfolding pair_near
pair-is p weights i j below =
    ap₂ (λ (a b : ℕ). near p weights.wait weights.warp (depot_count p + a) (depot_count p + b))
    (div-mul-add i (length p.clients) j below) (mod-mul-add i (length p.clients) j below)

-- the entry of i and j
pub entry-is : (p : Problem) (weights : Proximity) (i j d : ℕ) → i < length p.clients → j < length p.clients →
    get_or (all_nears p weights) (i * length p.clients + j) d ≡ near p weights.wait weights.warp (depot_count p + i) (depot_count p + j)
entry-is p weights i j d h k =
    let n : ℕ = length p.clients in
    get_or-map-range_with_len (pair_near p weights) 0 (n * n) (i * n + j) (i * n + j) d (pair-below n i j h k) (omega arith) ∙ pair-is p weights i j k
