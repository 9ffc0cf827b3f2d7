-- Sums over the vehicles with their lists, one more vehicle at a time.
use Rattle.std.proofs.Common.{◌≡◌, ℕ, ◌+◌, ◌<◌, ◌≤◌, Bool, true, false, cond, List, [], ◌∷◌, get_or, length, take, refl, sym, ◌∙◌, ap, ap₂, arith}
use Rattle.std.specs.Prelude.{filter, sum_by, zip}
use Rattle.std.proofs.lemmas.List.{get_or-map, take_all}
use Rattle.std.proofs.lemmas.List.Sums.{sum_by-cons, sum_by_more}
use Rattle.std.proofs.lemmas.Slice.Zip.{get_or-zip, length-zip}
use Rattle.std.proofs.Math.ListN.{length-map}
use Rattle.problem_data.specs.declared.problem.Problem.{Problem}
use Rattle.problem_data.specs.declared.problem.VehicleType.{VehicleType}
use Rattle.problem_data.specs.declared.visit.Visit.{Visit}
use Rattle.problem_data.specs.Places.{fleet, type_at, type_of, types_of_vehicles, vehicle_count}
use Rattle.routing_model.specs.Routes.{Routes}

-- the vehicles with their lists
abbrev pub vehicles : Problem → Routes → List (VehicleType × List Visit)
vehicles p routes = zip (fleet p) routes

-- there are as many as lists
pub vehicles-counted : (p : Problem) (routes : Routes) → length routes ≡ vehicle_count p → length (vehicles p routes) ≡ length routes
vehicles-counted p routes each =
    let fleet_count : length (fleet p) ≡ vehicle_count p = length-map (types_of_vehicles p) (type_at p) in
    let whole = length-zip (fleet p) routes in
    omega arith

-- the vehicle at a number
pub vehicle-at : (p : Problem) (routes : Routes) (i : ℕ) (visits : List Visit) → length routes ≡ vehicle_count p → i < length routes → visits ≡ get_or routes i visits →
    get_or (vehicles p routes) i (type_at p 0, visits) ≡ (type_at p (type_of p i), visits)
vehicle-at p routes i visits each in_range is =
    let fleet_count : length (fleet p) ≡ vehicle_count p = length-map (types_of_vehicles p) (type_at p) in
    let below : i < length (types_of_vehicles p) = omega arith in
    let in_fleet : i < length (fleet p) = omega arith in
    get_or-zip (fleet p) routes i (type_at p 0, visits) in_fleet in_range
    ∙ ap₂ (λ (t : VehicleType) (list : List Visit). (t, list)) (get_or-map (type_at p) (types_of_vehicles p) i 0 (type_at p 0) below) (sym is)

-- the sum with one vehicle more
pub vehicles-more : (p : Problem) (routes : Routes) (f : VehicleType × List Visit → ℕ) (i : ℕ) (visits : List Visit) → length routes ≡ vehicle_count p → i < length routes →
    visits ≡ get_or routes i visits → sum_by f (take (i + 1) (vehicles p routes)) ≡ sum_by f (take i (vehicles p routes)) + f (type_at p (type_of p i), visits)
vehicles-more p routes f i visits each in_range is =
    let counted = vehicles-counted p routes each in
    let below : i < length (vehicles p routes) = omega arith in
    sum_by_more f (vehicles p routes) i (type_at p 0, visits) below ∙ ap (λ (v : VehicleType × List Visit). sum_by f (take i (vehicles p routes)) + f v) (vehicle-at p routes i visits each in_range is)

-- the sum of all
pub vehicles-all : (p : Problem) (routes : Routes) (f : VehicleType × List Visit → ℕ) (i : ℕ) → length routes ≡ vehicle_count p → length routes ≤ i →
    sum_by f (take i (vehicles p routes)) ≡ sum_by f (vehicles p routes)
vehicles-all p routes f i each past =
    let counted = vehicles-counted p routes each in
    let over : length (vehicles p routes) ≤ i = omega arith in
    ap (sum_by f) (take_all i (vehicles p routes) over)

-- the sum over those that pass
pub sum_by-filter : {X : Type 0} (test : X → Bool) (f : X → ℕ) (xs : List X) → sum_by f (filter test xs) ≡ sum_by (λ x. cond (test x) (f x) 0) xs
sum_by-filter test f [] = refl
sum_by-filter test f (x ∷ xs) = one (test x) ∙ ap (λ (n : ℕ). cond (test x) (f x) 0 + n) (sum_by-filter test f xs) ∙ sym (sum_by-cons (λ y. cond (test y) (f y) 0) x xs)
  where
    one : (b : Bool) → sum_by f (cond b (x ∷ filter test xs) (filter test xs)) ≡ cond b (f x) 0 + sum_by f (filter test xs)
    one true = sum_by-cons f x (filter test xs)
    one false = omega arith

-- a sum over the lists with one list more
pub lists-more : (routes : Routes) (f : List Visit → ℕ) (i : ℕ) (visits list : List Visit) → i < length routes → visits ≡ get_or routes i visits → list ≡ visits →
    sum_by f (take (i + 1) routes) ≡ sum_by f (take i routes) + f list
lists-more routes f i visits list in_range is same = sum_by_more f routes i visits in_range ∙ ap (λ (xs : List Visit). sum_by f (take i routes) + f xs) (sym is ∙ sym same)
