-- The order of a plan's routes by the direction in which their clients lie.
use Rattle.std.specs.Prelude.{ℕ, ◌==◌, nat_lt, ◌&&◌, ◌||◌, if◌then◌else◌, Bool, List, fold, ℤ, pos, ◌+ℤ◌, ◌-ℤ◌, ◌*ℤ◌, int_lt}
use Rattle.std.specs.Ordering.{int_eq}
use Rattle.list_words.specs.Order.{sorted_by}
use Rattle.problem_data.specs.declared.problem.Problem.{Problem}
use Rattle.problem_data.specs.declared.visit.Visit.{Visit}
use Rattle.problem_data.specs.Places.{place_at}
use Rattle.routing_model.specs.Routes.{Routes, list_at, used_numbers, clients_of}
use Rattle.genetic_model.specs.declared.vector.Vector.{Vector}

-- a client as seen from the first place
abbrev pub offset : Problem → ℕ → Vector
offset p c = record { x = (place_at p c).x -ℤ (place_at p 0).x; y = (place_at p c).y -ℤ (place_at p 0).y }

-- the sum of two vectors
abbrev pub vector_sum : Vector → Vector → Vector
vector_sum u v = record { x = u.x +ℤ v.x; y = u.y +ℤ v.y }

-- the sum over the clients of a list
abbrev pub route_vector : Problem → List Visit → Vector
route_vector p visits = fold (λ v c. vector_sum v (offset p c)) (record { x = pos 0; y = pos 0 }) (clients_of visits)

-- 0 for the zero vector, 1 for the directions from the first axis on through the upper half plane, 2 for the rest
abbrev pub half_plane : Vector → ℕ
half_plane v =
    if int_eq v.x (pos 0) && int_eq v.y (pos 0) then 0
    else (if int_lt (pos 0) v.y || (int_eq v.y (pos 0) && int_lt (pos 0) v.x) then 1 else 2)

-- above 0 where v lies to the left of u
abbrev pub cross_product : Vector → Vector → ℤ
cross_product u v = (u.x *ℤ v.y) -ℤ (u.y *ℤ v.x)

-- whether u comes before v, going round from the first axis
abbrev pub turns_before : Vector → Vector → Bool
turns_before u v = nat_lt (half_plane u) (half_plane v) || (half_plane u == half_plane v && int_lt (pos 0) (cross_product u v))

-- the used vehicles by the direction of their lists, ties by number
abbrev pub route_order : Problem → Routes → List ℕ
route_order p routes = sorted_by (λ u v. turns_before (route_vector p (list_at routes u)) (route_vector p (list_at routes v))) (used_numbers routes)
