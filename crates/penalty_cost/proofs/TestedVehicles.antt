-- Tests of all vehicles, one vehicle at a time.
use Rattle.std.proofs.Common.{◌≡◌, ℕ, ◌+◌, ◌<◌, ◌≤◌, Bool, true, false, List, get_or, length, take, sym, ◌∙◌, ap, arith}
use Rattle.std.specs.List.{list_all}
use Rattle.std.proofs.lemmas.List.{take_all}
use Rattle.std.proofs.lemmas.List.Elements.{All-more}
use Rattle.std.proofs.lemmas.List.Folds.{list_all_at}
use Rattle.std.proofs.lemmas.List.Sums.{AllPass-from_list_all, list_all-from_AllPass}
use Rattle.problem_data.specs.declared.problem.Problem.{Problem}
use Rattle.problem_data.specs.declared.problem.VehicleType.{VehicleType}
use Rattle.problem_data.specs.declared.visit.Visit.{Visit}
use Rattle.problem_data.specs.Places.{type_at, type_of, vehicle_count}
use Rattle.routing_model.specs.Routes.{Routes}
use Rattle.penalty_cost.proofs.FleetSums.{vehicle-at, vehicles, vehicles-counted}

module _ (p : Problem) (routes : Routes) (test : VehicleType × List Visit → Bool) (i : ℕ) where
  -- what the test says of the vehicle at a number
  tested-at : (visits list : List Visit) (t : VehicleType) (b : Bool) → length routes ≡ vehicle_count p → i < length routes → visits ≡ get_or routes i visits → list ≡ visits →
      t ≡ type_at p (type_of p i) → test (t, list) ≡ b → test (get_or (vehicles p routes) i (type_at p 0, visits)) ≡ b
  tested-at visits list t b each in_range is same same_type says =
      ap test (vehicle-at p routes i visits each in_range is) ∙ (λ j. test (sym same_type j, sym same j)) ∙ says

  -- one vehicle fails
  pub vehicle-fails : (visits list : List Visit) (t : VehicleType) → length routes ≡ vehicle_count p → i < length routes → visits ≡ get_or routes i visits → list ≡ visits →
      t ≡ type_at p (type_of p i) → test (t, list) ≡ false → list_all test (vehicles p routes) ≡ false
  vehicle-fails visits list t each in_range is same same_type says =
      let counted = vehicles-counted p routes each in
      let below : i < length (vehicles p routes) = omega arith in
      list_all_at test (vehicles p routes) i (type_at p 0, visits) below (tested-at visits list t false each in_range is same same_type says)

  -- one vehicle more passes
  pub vehicle-passes : (visits list : List Visit) (t : VehicleType) → length routes ≡ vehicle_count p → i < length routes → visits ≡ get_or routes i visits → list ≡ visits →
      t ≡ type_at p (type_of p i) → test (t, list) ≡ true → list_all test (take i (vehicles p routes)) ≡ true → list_all test (take (i + 1) (vehicles p routes)) ≡ true
  vehicle-passes visits list t each in_range is same same_type says before =
      let counted = vehicles-counted p routes each in
      let below : i < length (vehicles p routes) = omega arith in
      list_all-from_AllPass test (take (i + 1) (vehicles p routes))
      (All-more (λ (v : VehicleType × List Visit). test v ≡ true) (vehicles p routes) i (type_at p 0, visits) below
      (AllPass-from_list_all test (take i (vehicles p routes)) before) (tested-at visits list t true each in_range is same same_type says))

  -- all pass
  pub vehicles-pass : length routes ≡ vehicle_count p → length routes ≤ i → list_all test (take i (vehicles p routes)) ≡ true → list_all test (vehicles p routes) ≡ true
  vehicles-pass each past before =
      let counted = vehicles-counted p routes each in
      let over : length (vehicles p routes) ≤ i = omega arith in
      sym (ap (list_all test) (take_all i (vehicles p routes) over)) ∙ before
