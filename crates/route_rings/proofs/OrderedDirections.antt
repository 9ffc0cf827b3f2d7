-- The order of directions is that of the vehicles.
use Rattle.std.proofs.Common.{◌≡◌, ℕ, ◌+◌, ◌<◌, Bool, true, false, cond, ◌&&◌, ◌||◌, not, List, [], ◌∷◌, ◌++◌, length, map, get_or, refl, sym, ◌∙◌, ap, ap₂, subst, arith}
use Rattle.std.specs.Prelude.{All, filter, flat_map, nat_lt, pos}
use Rattle.std.specs.List.{range_with_len}
use Rattle.std.specs.Cmp.{IsStrictWeakOrder}
use Rattle.std.specs.List.Sorted.{IsPermutation, IsSortedBy}
use Rattle.std.proofs.lemmas.Grind.{flat_map-append}
use Rattle.std.proofs.lemmas.List.{append-nil, get_or-map, length-map, map-append, map-id}
use Rattle.std.proofs.lemmas.List.Elements.{All-append, All-cons, All-get_or, All-nil}
use Rattle.std.proofs.lemmas.List.FromFn.{map-range_with_len_more}
use Rattle.std.proofs.lemmas.List.Sorted.{All-permutation, IsPermutation-map}
use Rattle.problem_data.specs.declared.problem.Problem.{Problem}
use Rattle.routing_model.specs.Routes.{Routes, is_used, list_at, used_numbers}
use Rattle.genetic_model.specs.declared.vector.Vector.{Vector}
use Rattle.genetic_model.specs.Laws.{OrderIsUnique, TurnsInOrder, comes_before}
use Rattle.genetic_model.specs.RouteOrder.{route_order, route_vector, turns_before}
use Rattle.genetic_model.proofs.RoutesInOrder.{then_by-order}
use Rattle.route_rings.specs.declared.direction.Direction.{Direction}
use Rattle.route_rings.specs.inside.Directions.{IsDirection, comes_before_by, used_direction, used_directions}

abbrev vehicle_of : Direction → ℕ
vehicle_of d = d.vehicle

-- directions are in a strict order
pub directions-order : TurnsInOrder → IsStrictWeakOrder comes_before_by
directions-order turns =
    then_by-order (λ (u v : Direction). turns_before u.vector v.vector)
    (record { one_way = λ u v. turns.one_way u.vector v.vector; chain = λ u v w. turns.chain u.vector v.vector w.vector }) vehicle_of

module _ (p : Problem) (routes : Routes) where
  -- the test of directions is that of their vehicles
  same-test : (u v : Direction) → IsDirection p routes u → IsDirection p routes v → comes_before p routes u.vehicle v.vehicle ≡ comes_before_by u v
  same-test u v is is' = ap₂ (λ (a b : Vector). turns_before a b || (not (turns_before b a) && nat_lt u.vehicle v.vehicle)) (sym is) (sym is')

  ascends : (ds : List Direction) → All (IsDirection p routes) ds → IsSortedBy comes_before_by ds → IsSortedBy (comes_before p routes) (map vehicle_of ds)
  ascends ds all sorted k d low high =
      let long = length-map ds vehicle_of in
      let here : k < length ds = omega arith in
      let next : k + 1 < length ds = omega arith in
      ap₂ (comes_before p routes) (get_or-map vehicle_of ds (k + 1) none d next) (get_or-map vehicle_of ds k none d here)
      ∙ (same-test (get_or ds (k + 1) none) (get_or ds k none) (All-get_or (IsDirection p routes) ds (k + 1) none next all) (All-get_or (IsDirection p routes) ds k none here all)
      ∙ sorted k none low next)
    where
      none : Direction
      none = record { vehicle = d; vector = record { x = pos 0; y = pos 0 } }

  -- sorted directions of the used vehicles are these in order
  pub in-order : OrderIsUnique → (ds sorted : List Direction) → map vehicle_of ds ≡ used_numbers routes → All (IsDirection p routes) ds → IsPermutation ds sorted → IsSortedBy comes_before_by sorted →
      map vehicle_of sorted ≡ route_order p routes
  in-order unique ds sorted used all moves in_order = unique p routes (map vehicle_of sorted) (record {
    moves = subst (λ (xs : List ℕ). IsPermutation xs (map vehicle_of sorted)) used (IsPermutation-map vehicle_of ds sorted moves);
    ascends = ascends sorted (All-permutation (IsDirection p routes) ds sorted moves all) in_order;
  })

range-more : (n : ℕ) → range_with_len 0 (n + 1) ≡ range_with_len 0 n ++ n ∷ []
range-more n = sym (map-id (range_with_len 0 (n + 1))) ∙ (map-range_with_len_more (λ k. k) 0 n n (omega arith) ∙ ap (λ (ks : List ℕ). ks ++ n ∷ []) (map-id (range_with_len 0 n)))

-- the directions of the used vehicles, one vehicle after the other
pub one-more : (p : Problem) (routes : Routes) (n : ℕ) → used_directions p routes n ++ used_direction p n (list_at routes n) ≡ used_directions p routes (n + 1)
one-more p routes n =
    let one : flat_map (λ v. used_direction p v (list_at routes v)) (n ∷ []) ≡ used_direction p n (list_at routes n) = append-nil (used_direction p n (list_at routes n)) in
    ap (λ (ds : List Direction). used_directions p routes n ++ ds) (sym one)
    ∙ (sym (flat_map-append (λ v. used_direction p v (list_at routes v)) (range_with_len 0 n) (n ∷ [])) ∙ ap (flat_map (λ v. used_direction p v (list_at routes v))) (sym (range-more n)))

module _ (p : Problem) (routes : Routes) where
  pub used-vehicles : (n : ℕ) → map vehicle_of (used_directions p routes n) ≡ filter (λ v. is_used (list_at routes v)) (range_with_len 0 n)
  used-vehicles n = over (range_with_len 0 n)
    where
      one : (v : ℕ) (rest : List ℕ) (b : Bool) → map vehicle_of (cond b (record { vehicle = v; vector = route_vector p (list_at routes v) } ∷ []) []) ++ rest ≡ cond b (v ∷ rest) rest
      one v rest true = refl
      one v rest false = refl

      over : (vs : List ℕ) → map vehicle_of (flat_map (λ v. used_direction p v (list_at routes v)) vs) ≡ filter (λ v. is_used (list_at routes v)) vs
      over [] = refl
      over (v ∷ vs) =
          map-append vehicle_of (used_direction p v (list_at routes v)) (flat_map (λ v. used_direction p v (list_at routes v)) vs)
          ∙ (ap (λ (rest : List ℕ). map vehicle_of (used_direction p v (list_at routes v)) ++ rest) (over vs) ∙ one v (filter (λ v. is_used (list_at routes v)) vs) (is_used (list_at routes v)))

  pub used-are : (n : ℕ) → All (IsDirection p routes) (used_directions p routes n)
  used-are n = over (range_with_len 0 n)
    where
      one : (v : ℕ) (b : Bool) → All (IsDirection p routes) (cond b (record { vehicle = v; vector = route_vector p (list_at routes v) } ∷ []) [])
      one v true = All-cons (IsDirection p routes) (record { vehicle = v; vector = route_vector p (list_at routes v) }) [] refl (All-nil (IsDirection p routes))
      one v false = All-nil (IsDirection p routes)

      over : (vs : List ℕ) → All (IsDirection p routes) (flat_map (λ v. used_direction p v (list_at routes v)) vs)
      over [] = All-nil (IsDirection p routes)
      over (v ∷ vs) = All-append (IsDirection p routes) (used_direction p v (list_at routes v)) (flat_map (λ v. used_direction p v (list_at routes v)) vs) (one v (is_used (list_at routes v))) (over vs)
