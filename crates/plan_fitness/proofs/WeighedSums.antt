-- What a plan costs by some weights is what it costs without weights, and its weighted excesses.
use Rattle.std.proofs.Common.{◌≡◌, ℕ, ◌+◌, ◌*◌, Bool, true, false, cond, List, [], ◌∷◌, sym, ◌∙◌, ap, ap₂, arith}
use Rattle.std.specs.Prelude.{sum_by, filter, zip}
use Rattle.std.proofs.lemmas.List.Sums.{sum_by-cons}
use Rattle.problem_data.specs.declared.problem.Problem.{Problem}
use Rattle.problem_data.specs.declared.problem.VehicleType.{VehicleType}
use Rattle.problem_data.specs.declared.visit.Visit.{Visit}
use Rattle.problem_data.specs.Places.{fleet}
use Rattle.routing_model.specs.declared.weights.Weights.{Weights}
use Rattle.routing_model.specs.Cost.{distance, excess_distance, excess_time, route_drive, route_cost, missed_prizes, solution_cost}
use Rattle.routing_model.specs.Load.{excess_load}
use Rattle.routing_model.specs.Routes.{Routes, is_used}
use Rattle.plan_fitness.specs.PlanCosts.{weighed_excess, weightless}

-- a vehicle's part of a sum over the used ones, and the rest of the sum
used-first : {X : Type 0} (f : X → ℕ) (b : Bool) (x : X) (rest : List X) → sum_by f (cond b (x ∷ rest) rest) ≡ cond b (f x) 0 + sum_by f rest
used-first f true x rest = sum_by-cons f x rest
used-first f false x rest = omega arith

-- what a vehicle costs: nothing, or a base and the weighted excesses
cost_by : Bool → ℕ → ℕ → ℕ → ℕ → Weights → ℕ
cost_by b base load time far w = cond b (base + w.load * load + w.warp * time + w.distance * far) 0

distributes : (w l m : ℕ) → w * (l + m) ≡ w * l + w * m
distributes w l m = omega arith

-- the sums with one vehicle more
one-more : (b : Bool) (base load time far : ℕ) (w : Weights) (rest plain loads times fars : ℕ) →
    rest ≡ plain + (w.load * loads + w.warp * times + w.distance * fars) →
    cost_by b base load time far w + rest
    ≡ (cost_by b base load time far weightless + plain) + (w.load * (cond b load 0 + loads) + w.warp * (cond b time 0 + times) + w.distance * (cond b far 0 + fars))
unfolding cost_by
one-more true base load time far w rest plain loads times fars h =
    rw (distributes w.load load loads, distributes w.warp time times, distributes w.distance far fars) (omega arith)
one-more false base load time far w rest plain loads times fars h = omega arith

module _ (p : Problem) (w : Weights) where
  -- the sums of some vehicles
  sums-weighed : (xs : List (VehicleType × List Visit)) →
      sum_by (λ (x : VehicleType × List Visit). route_cost p w x.0 x.1) xs
      ≡ sum_by (λ (x : VehicleType × List Visit). route_cost p weightless x.0 x.1) xs
      + (w.load * sum_by (λ (x : VehicleType × List Visit). excess_load p x.0 x.1) (filter (λ (x : VehicleType × List Visit). is_used x.1) xs)
      + w.warp * sum_by (λ (x : VehicleType × List Visit). excess_time x.0 (route_drive p x.0 x.1)) (filter (λ (x : VehicleType × List Visit). is_used x.1) xs)
      + w.distance * sum_by (λ (x : VehicleType × List Visit). excess_distance p x.0 x.1) (filter (λ (x : VehicleType × List Visit). is_used x.1) xs))
  unfolding cost_by
  sums-weighed [] = omega arith
  sums-weighed (x ∷ xs) =
      let used : List (VehicleType × List Visit) = filter (λ (x : VehicleType × List Visit). is_used x.1) xs in
      let load_of : VehicleType × List Visit → ℕ = λ (x : VehicleType × List Visit). excess_load p x.0 x.1 in
      let time_of : VehicleType × List Visit → ℕ = λ (x : VehicleType × List Visit). excess_time x.0 (route_drive p x.0 x.1) in
      let far_of : VehicleType × List Visit → ℕ = λ (x : VehicleType × List Visit). excess_distance p x.0 x.1 in
      let cost_of : Weights → VehicleType × List Visit → ℕ = λ (v : Weights) (x : VehicleType × List Visit). route_cost p v x.0 x.1 in
      let b : Bool = is_used x.1 in
      let base : ℕ = x.0.fixed + x.0.unit_distance * distance p x.0 x.1 + x.0.unit_duration * (route_drive p x.0 x.1).duration in
      let step = one-more b base (load_of x) (time_of x) (far_of x) w (sum_by (cost_of w) xs) (sum_by (cost_of weightless) xs) (sum_by load_of used) (sum_by time_of used) (sum_by far_of used)
      (sums-weighed xs) in
      sum_by-cons (cost_of w) x xs
      ∙ (step
      ∙ (ap (λ n. n + (w.load * (cond b (load_of x) 0 + sum_by load_of used) + w.warp * (cond b (time_of x) 0 + sum_by time_of used) + w.distance * (cond b (far_of x) 0 + sum_by far_of used)))
      (sym (sum_by-cons (cost_of weightless) x xs))
      ∙ ap (λ n. sum_by (cost_of weightless) (x ∷ xs) + n)
      (ap₂ (λ (m n : ℕ). m + n) (ap₂ (λ (m n : ℕ). w.load * m + w.warp * n) (sym (used-first load_of b x used)) (sym (used-first time_of b x used)))
      (ap (λ n. w.distance * n) (sym (used-first far_of b x used))))))

swap-last : (m n k : ℕ) → m + n + k ≡ m + k + n
swap-last m n k = omega arith

-- what a plan costs
pub cost-weighed : (p : Problem) (w : Weights) (routes : Routes) → solution_cost p w routes ≡ solution_cost p weightless routes + weighed_excess p w routes
cost-weighed p w routes =
    ap (λ n. n + missed_prizes p routes) (sums-weighed p w (zip (fleet p) routes))
    ∙ swap-last (sum_by (λ (x : VehicleType × List Visit). route_cost p weightless x.0 x.1) (zip (fleet p) routes)) (weighed_excess p w routes) (missed_prizes p routes)
