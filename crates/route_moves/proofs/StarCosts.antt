-- Where what two vehicles drive farther costs as much as their rests, swapping clients doesn't lower the cost.
use Rattle.std.proofs.Common.{◌≡◌, ℕ, ◌+◌, ◌-◌, ◌*◌, ◌<◌, ◌≤◌, min, true, List, [], ◌∷◌, ◌++◌, take, drop, refl, sym, ◌∙◌, ap, arith, None, pos, ◌-ℤ◌}
use Rattle.std.specs.Prelude.{insert}
use Rattle.std.proofs.lemmas.Int.{ints}
use Rattle.problem_data.specs.declared.problem.Problem.{Problem}
use Rattle.problem_data.specs.declared.problem.VehicleType.{VehicleType}
use Rattle.problem_data.specs.declared.visit.Visit.{Visit}
use Rattle.routing_model.specs.Cost.{distance, route_cost}
use Rattle.routing_model.specs.Listed.{type_of_vehicle}
use Rattle.routing_model.specs.Load.{first_trip}
use Rattle.routing_model.specs.Routes.{is_used, list_at}
use Rattle.routing_model.specs.declared.weights.Weights.{Weights}
use Rattle.routing_model.proofs.LeastCosts.{cost-used, used-least}
use Rattle.search_model.specs.Edits.{visits_of}
use Rattle.search_model.specs.RouteMoves.{omitted}
use Rattle.gain_model.proofs.ProposedMoves.{dear-two}
use Rattle.move_core.specs.Searches.{IsSound, SearchState, largest_rest, rest_of}
use Rattle.new_lists.specs.Moves.{IsAnswerTo}
use Rattle.star_pairs.specs.declared.pair.Pair.{Pair}
use Rattle.route_moves.specs.declared.star_screen.Swing.{Swing}
use Rattle.route_moves.specs.inside.Stars.{IsStarPair, star_candidate}
use Rattle.route_moves.specs.inside.Swings.{IsSwing}
use Rattle.route_moves.proofs.StarMoves.{best, star-moves, whole-A, whole-B}

-- a list with a client put in is used
used-put : (us : List ℕ) (place client : ℕ) → is_used (visits_of (insert us place client)) ≡ true
used-put us place client = by (take place us)
  where
    by : (before : List ℕ) → is_used (visits_of (before ++ client ∷ drop place us)) ≡ true
    by [] = refl
    by (x ∷ before) = refl

-- what a vehicle's new list costs at least, by its old one: where the rest isn't cut
module _ (p : Problem) (w : Weights) (t : VehicleType) (old new : List Visit) (used : is_used new ≡ true) (farther less rest : ℕ)
    (change : pos (distance p t new) -ℤ pos (distance p t old) ≡ pos farther -ℤ pos less) (rest_is : rest ≡ rest_of p w t old) (uncut : rest < largest_rest) where
  even : distance p t new + less ≡ distance p t old + farther
  even = by (distance p t new) (distance p t old) farther less change
    where
      by : (m n k l : ℕ) → pos m -ℤ pos n ≡ pos k -ℤ pos l → m + l ≡ n + k
      by m n k l e = omega (arith, ints)

  driven : t.unit_distance * distance p t new + t.unit_distance * less ≡ t.unit_distance * distance p t old + t.unit_distance * farther
  driven = let both = ap (λ (n : ℕ). t.unit_distance * n) even in omega (arith, both)

  pub new-least : route_cost p w t old + t.unit_distance * farther ≤ route_cost p w t new + (t.unit_distance * less + rest)
  new-least =
      let cost = cost-used p w t new used in
      let least = used-least p w t new in
      let way = driven in
      let kept = rest-covers (route_cost p w t old) t.fixed (t.unit_distance * distance p t old) rest rest_is uncut in
      omega (arith, cost, least, way, kept)
    where
      rest-covers : (cost fixed far rest : ℕ) → rest ≡ min largest_rest (cost - fixed - far) → rest < largest_rest → cost ≤ fixed + far + rest
      rest-covers cost fixed far rest e low = omega arith

module _ (s : SearchState) (sound : IsSound s) (i j : ℕ) (pair : Pair) (is : IsStarPair s i j pair) where
  abbrev a : VehicleType
  a = type_of_vehicle s.problem i

  abbrev b : VehicleType
  b = type_of_vehicle s.problem j

  pub star-dear : (one two : Swing) (rest other : ℕ) → IsSwing s i pair.first.change one → IsSwing s j pair.second.change two →
      rest ≡ rest_of s.problem s.weights a (list_at s.routes i) → other ≡ rest_of s.problem s.weights b (list_at s.routes j) → rest < largest_rest → other < largest_rest →
      one.fall + two.fall + (rest + other) ≤ one.rise + two.rise → IsAnswerTo s (star_candidate i j) None
  star-dear one two rest other swing swing' rest_is other_is uncut uncut' dear =
      let swap = best s sound i j is.may pair is in
      let A : List Visit = list_at s.routes i in
      let B : List Visit = list_at s.routes j in
      let us : List ℕ = first_trip A in
      let vs : List ℕ = first_trip B in
      let far-A : pos (distance s.problem a (visits_of (insert (omitted pair.u us) pair.first.place pair.v))) -ℤ pos (distance s.problem a A) ≡ pos swing.farther -ℤ pos swing.less =
      ap (λ (xs : List Visit). pos (distance s.problem a (visits_of (insert (omitted pair.u us) pair.first.place pair.v))) -ℤ pos (distance s.problem a xs)) (whole-A s sound i j is.may)
      ∙ (sym swap.first.change ∙ swing.is) in
      let far-B : pos (distance s.problem b (visits_of (insert (omitted pair.v vs) pair.second.place pair.u))) -ℤ pos (distance s.problem b B) ≡ pos swing'.farther -ℤ pos swing'.less =
      ap (λ (xs : List Visit). pos (distance s.problem b (visits_of (insert (omitted pair.v vs) pair.second.place pair.u))) -ℤ pos (distance s.problem b xs)) (whole-B s sound i j is.may)
      ∙ (sym swap.second.change ∙ swing'.is) in
      let m = new-least s.problem s.weights a A (visits_of (insert (omitted pair.u us) pair.first.place pair.v)) (used-put (omitted pair.u us) pair.first.place pair.v) swing.farther swing.less rest far-A rest_is uncut in
      let n = new-least s.problem s.weights b B (visits_of (insert (omitted pair.v vs) pair.second.place pair.u)) (used-put (omitted pair.v vs) pair.second.place pair.u) swing'.farther swing'.less other far-B other_is uncut' in
      let x = swing.rise in
      let y = swing.fall in
      let z = swing'.rise in
      let v = swing'.fall in
      dear-two s.problem s.weights s.routes (star_candidate i j) i j (visits_of (insert (omitted pair.u us) pair.first.place pair.v)) (visits_of (insert (omitted pair.v vs) pair.second.place pair.u))
      (star-moves s sound i j is.may pair is) (omega (arith, m, n, x, y, z, v, dear))
