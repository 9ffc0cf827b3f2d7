-- Where clients stand: within their lists, and nowhere else.
use Rattle.std.proofs.Common.{◌≡◌, ℕ, suc, cond, take, drop, slice_index_or, ◌-◌, ◌<◌, ◌≤◌, Bool, true, false, List, length, refl, sym, ◌∙◌, ap, arith, Option, Some, None}
use Rattle.std.specs.Prelude.{◌==◌}
use Rattle.std.proofs.lemmas.Bool.Decides.{nat_tests}
use Rattle.problem_data.specs.declared.problem.Problem.{Problem}
use Rattle.problem_data.specs.Places.{is_client_place, place_count}
use Rattle.routing_model.specs.Lawful.{is_lawful}
use Rattle.routing_model.specs.Routes.{Routes, has_client, list_at}
use Rattle.routing_model.proofs.LawfulFacts.{lawful-facts}
use Rattle.search_model.specs.Edits.{position_of}
use Rattle.search_model.proofs.ClientPlaces.{cut-about, has-cut, place-there, stands-at, vehicle-there}
use Rattle.gain_model.proofs.ListsOfPlans.{named_list}
use Rattle.plan_tables.specs.declared.spots.Spot.{Spot}
use Rattle.plan_tables.specs.Spots.{AreSpots, position_at}

-- a position is within a list
pub record IsWithinPlan (routes : Routes) (vehicle place : ℕ) : Type 0 where
  pub vehicle_there : vehicle < length routes
  pub some : 1 ≤ place
  pub in_list : place ≤ length (list_at routes vehicle)

pub position-within : (routes : Routes) (client vehicle place : ℕ) → position_of routes client ≡ Some (vehicle, place) → IsWithinPlan routes vehicle place
position-within routes client vehicle place h =
    let at = stands-at routes client vehicle place h in
    let there : vehicle < length routes = vehicle-there routes client vehicle (place - 1) at.1 in
    let inside : place - 1 < length (list_at routes vehicle) = place-there routes client vehicle (place - 1) at.1 in
    record { vehicle_there = there; some = at.0; in_list = omega (arith, at.0, inside) }

-- what stands in a lawful plan is a client's place
in_range : (p : Problem) (client : ℕ) → is_client_place p client ≡ true → client < place_count p
in_range p client h = grind (arith, nat_tests)

none_by : (o : Option (ℕ × ℕ)) → ((vehicle place : ℕ) → o ≡ Some (vehicle, place) → ⊥) → o ≡ None
none_by None h = refl
none_by (Some at) h = absurd (h at.0 at.1 refl)

pub position-none : (p : Problem) (routes : Routes) (client : ℕ) → is_lawful p routes ≡ true → place_count p ≤ client → position_of routes client ≡ None
position-none p routes client lawful far =
    none_by (position_of routes client) (λ vehicle place h.
    let at = stands-at routes client vehicle place h in
    let has : has_client client (list_at routes vehicle) ≡ true =
    ap (has_client client) (cut-about (list_at routes vehicle) client (place - 1) at.1) ∙ has-cut client (take (place - 1) (list_at routes vehicle)) (drop (suc (place - 1)) (list_at routes vehicle)) in
    let near : client < place_count p = in_range p client (named_list p client routes vehicle (lawful-facts p routes lawful).names_places has) in
    omega (arith, near))

-- a spot with a place tells it
pub named : (vehicle place : ℕ) → (place ≡ 0 → ⊥) → position_at (record { vehicle = vehicle; place = place }) ≡ Some (vehicle, place)
named vehicle place some = ap (λ (b : Bool). cond {A = Option (ℕ × ℕ)} b None (Some (vehicle, place))) (not_zero place some)
  where
    not_zero : (n : ℕ) → (n ≡ 0 → ⊥) → (n == 0) ≡ false
    not_zero n h = grind (arith, nat_tests)

-- it is within a list
pub spot-within : (places : ℕ) (routes : Routes) (spots : List Spot) (client : ℕ) (none : Spot) → AreSpots places routes spots → client < length spots → ((slice_index_or spots client none).place ≡ 0 → ⊥) →
    IsWithinPlan routes (slice_index_or spots client none).vehicle (slice_index_or spots client none).place
spot-within places routes spots client none are near some =
    let spot : Spot = slice_index_or spots client none in
    position-within routes client spot.vehicle spot.place (sym (are.each client none (omega (arith, are.count, near))) ∙ named spot.vehicle spot.place some)
