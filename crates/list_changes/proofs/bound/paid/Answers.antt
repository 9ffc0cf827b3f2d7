use Rattle.std.proofs.Common.{◌≡◌, ◌≤◌, ◌+◌, ◌-◌, ◌*◌, ◌^◌, ℕ, ◌∙◌, ap, ap₂, arith, of_z, to_z, w64}
use Rattle.std.specs.Prelude.{ℤ, min, nat_abs, pos}
use Rattle.std.proofs.lemmas.Int.{ints}
use Rattle.problem_data.specs.declared.problem.Problem.{Problem}
use Rattle.problem_data.specs.declared.problem.VehicleType.{VehicleType}
use Rattle.routing_model.specs.Cost.{distance, route_cost}
use Rattle.routing_model.specs.Listed.{type_of_vehicle}
use Rattle.routing_model.specs.Routes.{list_at}
use Rattle.move_core.specs.Searches.{largest_rest, rest_of}
use Rattle.list_changes.specs.Ways.{own_run, way_by}
use Rattle.list_changes.proofs.BoundLaws.{paid-uncut}
use Rattle.list_changes.proofs.bound.paid.Goals as goal

-- a rest, as the code hands it on
kept : (z : ℤ) (n : ℕ) → z ≡ pos n → n ≤ largest_rest → nat_abs (to_z w64 (of_z w64 z)) ≡ n
kept z n is small = ap nat_abs (same z n is small)
  where
    same : (z : ℤ) (n : ℕ) → z ≡ pos n → n ≤ largest_rest → to_z w64 (of_z w64 z) ≡ pos n
    same z n is small = omega (arith, ints)

cut : (n : ℕ) → min largest_rest n ≤ largest_rest
cut n = omega arith

pub returns : goal.returns
returns c =
    let s = c.args.search.now in
    let v = c.args.vehicle in
    let layout = c.args.layout in
    let t : VehicleType = type_of_vehicle s.problem v in
    let own = list_at s.routes v in
    let route = c.route-route.ensures in
    let same : c.vehicle_type-vehicle_type.result.now ≡ t = c.vehicle_type-vehicle_type.ensures.vehicle_type ∙ ap (λ (p : Problem). type_of_vehicle p v) (c.data.ensures ∙ route.problem) in
    let gone : c.way_gone.result ≡ way_by s.problem t own layout (own_run own layout) =
    c.way_gone.ensures ∙ (λ i. way_by (route.problem i) (type_of_vehicle (route.problem i) (route.vehicle i)) (route.visits i) layout (own_run (route.visits i) layout)) in
    let rest : ℕ = rest_of s.problem s.weights t own in
    let is_rest : nat_abs (to_z w64 (of_z w64 c.rest-rest.result)) ≡ rest = kept c.rest-rest.result rest c.rest-rest.ensures.rest (cut _) in
    let paid = paid-uncut (route_cost s.problem s.weights t own) (t.unit_distance * distance s.problem t own) (t.unit_distance * way_by s.problem t own layout (own_run own layout)) t.fixed
    (nat_abs (to_z w64 (of_z w64 c.rest-rest.result))) c.saturating_mul-driven.result c.saturating_add.result c.min.result is_rest
    (c.saturating_mul-driven.ensures ∙ ap₂ (λ (u n : ℕ). min (u * n) (2 ^ 64 - 1)) (ap (λ (x : VehicleType). x.unit_distance) same) gone)
    (c.saturating_add.ensures ∙ ap (λ (x : VehicleType). min (c.saturating_mul-driven.result + (x.fixed + nat_abs (to_z w64 (of_z w64 c.rest-rest.result)))) (2 ^ 64 - 1)) same)
    c.min.ensures in
    record { cut = paid.0; holds = paid.1 }
