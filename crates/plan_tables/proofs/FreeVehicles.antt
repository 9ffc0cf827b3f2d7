-- The least unused vehicle of a type is there, and is of that type.
use Rattle.std.proofs.Common.{◌≡◌, ℕ, ◌+◌, ◌<◌, ◌≤◌, Bool, true, false, cond, List, [], ◌∷◌, length, refl, sym, IfSome, slice_index_or, arith, Option, Some, None, ◌&&◌}
use Rattle.std.specs.Prelude.{◌==◌, find, not, option_map}
use Rattle.std.specs.List.{enumerate_from}
use Rattle.std.proofs.lemmas.Bool.Decides.{nat_tests}
use Rattle.problem_data.specs.declared.problem.Problem.{Problem}
use Rattle.problem_data.specs.declared.visit.Visit.{Visit}
use Rattle.problem_data.specs.Places.{type_of, vehicle_count}
use Rattle.problem_data.proofs.VehicleNumbers.{type_of_in_range}
use Rattle.routing_model.specs.Routes.{Routes, is_used}
use Rattle.search_model.specs.Edits.{unused_vehicle}
use Rattle.gain_model.proofs.TakenNodes.{is_free}
use Rattle.plan_tables.specs.Unused.{AreUnused}

-- it is in range
pub unused-within : (p : Problem) (routes : Routes) (type v : ℕ) → length routes ≡ vehicle_count p → unused_vehicle p routes type ≡ Some v → v < vehicle_count p
unused-within p routes type v count h = omega (arith, count, (is_free p routes type v h).inside)

-- none is found where no vehicle is of the type
none_from : (p : Problem) (type start : ℕ) (routes : Routes) → ((k : ℕ) → k < start + length routes → (type_of p k == type) ≡ false) →
    option_map (λ (e : ℕ × List Visit). e.0) (find (λ (e : ℕ × List Visit). (type_of p e.0 == type) && not (is_used e.1)) (enumerate_from start routes)) ≡ None
none_from p type start [] other = refl
none_from p type start (xs ∷ routes) other = by (type_of p start == type) (other start (omega arith)) (none_from p type (start + 1) routes (λ k h. other k (omega (arith, h))))
  where
    by : (b : Bool) → b ≡ false → option_map (λ (e : ℕ × List Visit). e.0) (find (λ (e : ℕ × List Visit). (type_of p e.0 == type) && not (is_used e.1)) (enumerate_from (start + 1) routes)) ≡ None →
        option_map (λ (e : ℕ × List Visit). e.0) (cond (b && not (is_used xs)) (Some (start, xs)) (find (λ (e : ℕ × List Visit). (type_of p e.0 == type) && not (is_used e.1)) (enumerate_from (start + 1) routes))) ≡ None
    by true n rest = cc
    by false n rest = rest

apart : (m n : ℕ) → m < n → (m == n) ≡ false
apart m n h = grind (arith, nat_tests)

pub unused-none : (p : Problem) (routes : Routes) (type : ℕ) → length routes ≡ vehicle_count p → length p.types ≤ type → unused_vehicle p routes type ≡ None
unused-none p routes type count far =
    none_from p type 0 routes (λ k h. let low : type_of p k < length p.types = type_of_in_range p k (omega (arith, count, h)) in apart (type_of p k) type (omega (arith, low)))

-- what is kept of a type is in range
pub found-within : (p : Problem) (routes : Routes) (unused : List (Option ℕ)) (type : ℕ) (none : Option ℕ) → length routes ≡ vehicle_count p → AreUnused p routes unused → type < length unused →
    IfSome (slice_index_or unused type none) (λ v. v < vehicle_count p)
found-within p routes unused type none count are near = by (slice_index_or unused type none) (are.each type none (omega (arith, are.count, near)))
  where
    by : (o : Option ℕ) → o ≡ unused_vehicle p routes type → IfSome o (λ v. v < vehicle_count p)
    by None h = tt
    by (Some v) h = unused-within p routes type v count (sym h)
