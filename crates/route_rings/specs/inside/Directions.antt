-- Directions of vehicles, and how far they reach.
use Rattle.std.specs.Prelude.{◌≡◌, ℕ, ◌*◌, ◌≤◌, ◌&&◌, ◌||◌, not, nat_abs, nat_lt, pos, Bool, List, [], ◌∷◌, flat_map, if◌then◌else◌}
use Rattle.std.specs.List.{range_with_len}
use Rattle.problem_data.specs.declared.problem.Problem.{Problem}
use Rattle.problem_data.specs.declared.visit.Visit.{Visit}
use Rattle.problem_data.specs.declared.visit.Visit.TheVariants.{Client, Reload}
use Rattle.problem_data.specs.Limits.{largest}
use Rattle.routing_model.specs.Routes.{Routes, is_used, list_at}
use Rattle.genetic_model.specs.declared.vector.Vector.{Vector}
use Rattle.genetic_model.specs.RouteOrder.{offset, route_vector, turns_before}
use Rattle.route_rings.specs.declared.direction.Direction.{Direction}

-- where a visit's client lies as seen from the first place
abbrev pub offset_of : Problem → Visit → Vector
offset_of p (Client place) = offset p place
offset_of p (Reload depot) = record { x = pos 0; y = pos 0 }

-- a vector is no longer than the sum of so many offsets
pub record IsShort (visits : ℕ) (v : Vector) : Type 0 where
  pub x : nat_abs v.x ≤ visits * (2 * largest)
  pub y : nat_abs v.y ≤ visits * (2 * largest)

-- a vehicle's direction
abbrev pub IsDirection : Problem → Routes → Direction → Type 0
IsDirection p routes d = d.vector ≡ route_vector p (list_at routes d.vehicle)

-- the direction of a vehicle with this list, if it is used
abbrev pub used_direction : Problem → ℕ → List Visit → List Direction
used_direction p vehicle visits = if is_used visits then record { vehicle = vehicle; vector = route_vector p visits } ∷ [] else []

-- those of the first n vehicles
abbrev pub used_directions : Problem → Routes → ℕ → List Direction
used_directions p routes n = flat_map (λ v. used_direction p v (list_at routes v)) (range_with_len 0 n)

-- whether a vehicle comes before another one: by their directions, and on a tie by number
abbrev pub comes_before_by : Direction → Direction → Bool
comes_before_by u v = turns_before u.vector v.vector || (not (turns_before v.vector u.vector) && nat_lt u.vehicle v.vehicle)
