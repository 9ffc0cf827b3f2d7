-- Growths are small, since legs are short.
use Rattle.std.proofs.Common.{ℕ, ◌+◌, ◌≤◌, nat_lt, Bool, true, false, cond, arith, pos, ◌+ℤ◌, ◌-ℤ◌}
use Rattle.std.specs.Prelude.{◌==◌}
use Rattle.std.proofs.lemmas.Int.{ints}
use Rattle.problem_data.specs.declared.problem.Problem.{Problem}
use Rattle.problem_data.specs.declared.problem.VehicleType.{VehicleType}
use Rattle.problem_data.specs.Limits.{largest_leg}
use Rattle.problem_data.specs.Places.{leg_distance}
use Rattle.problem_data.specs.Valid.{IsValid, IsValidType}
use Rattle.gain_model.specs.Growths.{detour}
use Rattle.trips.proofs.Quantities.{distance-short}
use Rattle.route_cache.specs.Routes.{RouteState}
use Rattle.star_places.specs.Growths.{IsSmall, farther, growth_without}

small_sum : (a b c : ℕ) → a ≤ largest_leg → b ≤ largest_leg → c ≤ largest_leg → IsSmall (pos a +ℤ pos b -ℤ pos c)
small_sum a b c h k l = record { low = omega (arith, ints); high = omega (arith, ints) }

pub small-detour : (p : Problem) (t : VehicleType) → IsValid p → IsValidType p t → (from client to : ℕ) → IsSmall (detour p t from client to)
small-detour p t valid allowed from client to =
    small_sum (leg_distance p t.profile from client) (leg_distance p t.profile client to) (leg_distance p t.profile from to)
    (distance-short p t from client valid allowed) (distance-short p t client to valid allowed) (distance-short p t from to valid allowed)

pub small-without : (route : RouteState) → ((from client to : ℕ) → IsSmall (farther route from client to)) → (position client place : ℕ) → IsSmall (growth_without route position client place)
small-without route small position client place = by (nat_lt place position) (place == position)
  where
    by : (a b : Bool) → IsSmall (cond a (farther route place client (place + 1)) (cond b (farther route position client (position + 2)) (farther route (place + 1) client (place + 1 + 1))))
    by true b = small place client (place + 1)
    by false true = small position client (position + 2)
    by false false = small (place + 1) client (place + 1 + 1)
