-- A feasible plan costs the same by all weights.
use Rattle.std.proofs.Common.{◌≡◌, ℕ, ◌+◌, ◌*◌, Bool, true, false, cond, ◌&&◌, List, [], ◌∷◌, refl, sym, ◌∙◌, ap, arith}
use Rattle.std.specs.Prelude.{◌==◌, sum_by, filter, zip}
use Rattle.std.proofs.lemmas.Bool.Decides.{nat_tests}
use Rattle.std.proofs.lemmas.List.Sums.{sum_by-cons}
use Rattle.problem_data.specs.declared.problem.Problem.{Problem}
use Rattle.problem_data.specs.declared.problem.VehicleType.{VehicleType}
use Rattle.problem_data.specs.declared.visit.Visit.{Visit}
use Rattle.problem_data.specs.Places.{fleet}
use Rattle.routing_model.specs.declared.weights.Weights.{Weights}
use Rattle.routing_model.specs.Cost.{distance, excess_distance, excess_time, route_drive, route_cost, missed_prizes}
use Rattle.routing_model.specs.Feasible.{total_excess_load, total_excess_time, total_excess_distance}
use Rattle.routing_model.specs.Lawful.{is_lawful}
use Rattle.routing_model.specs.Load.{excess_load}
use Rattle.routing_model.specs.Routes.{is_used}
use Rattle.routing_model.specs.Laws.{FeasibleCostsTheSame}

and-first : (a b : Bool) → (a && b) ≡ true → a ≡ true
and-first true b h = refl
and-first false b h = h

and-second : (a b : Bool) → (a && b) ≡ true → b ≡ true
and-second true b h = h
and-second false b h = cc

is_equal : (m n : ℕ) → (m == n) ≡ true → m ≡ n
is_equal m n h = grind (arith, nat_tests)

-- a used vehicle's part of a sum that is 0, and the rest of the sum
zero-first : {X : Type 0} (f : X → ℕ) (b : Bool) (x : X) (rest : List X) → sum_by f (cond b (x ∷ rest) rest) ≡ 0 → (b ≡ true → f x ≡ 0) × (sum_by f rest ≡ 0)
zero-first f true x rest e = let total : f x + sum_by f rest ≡ 0 = sym (sum_by-cons f x rest) ∙ e in ((λ used. omega arith), omega arith)
zero-first f false x rest e = ((λ used. cc), e)

-- what a vehicle costs: nothing, or a base and the weighted excesses
cost_by : Bool → ℕ → ℕ → ℕ → ℕ → Weights → ℕ
cost_by b base load time far w = cond b (base + w.load * load + w.warp * time + w.distance * far) 0

cost_by-same : (b : Bool) (base load time far : ℕ) (v w : Weights) → (b ≡ true → load ≡ 0) → (b ≡ true → time ≡ 0) → (b ≡ true → far ≡ 0) →
    cost_by b base load time far v ≡ cost_by b base load time far w
unfolding cost_by
cost_by-same true base load time far v w no_load no_time no_far = rw (no_load refl, no_time refl, no_far refl) (omega arith)
cost_by-same false base load time far v w no_load no_time no_far = refl

module _ (p : Problem) (v w : Weights) where
  -- the sums of some vehicles
  sums-same : (xs : List (VehicleType × List Visit)) →
      sum_by (λ (x : VehicleType × List Visit). excess_load p x.0 x.1) (filter (λ (x : VehicleType × List Visit). is_used x.1) xs) ≡ 0 →
      sum_by (λ (x : VehicleType × List Visit). excess_time x.0 (route_drive p x.0 x.1)) (filter (λ (x : VehicleType × List Visit). is_used x.1) xs) ≡ 0 →
      sum_by (λ (x : VehicleType × List Visit). excess_distance p x.0 x.1) (filter (λ (x : VehicleType × List Visit). is_used x.1) xs) ≡ 0 →
      sum_by (λ (x : VehicleType × List Visit). route_cost p v x.0 x.1) xs ≡ sum_by (λ (x : VehicleType × List Visit). route_cost p w x.0 x.1) xs
  unfolding cost_by
  sums-same [] no_load no_time no_far = refl
  sums-same (x ∷ xs) no_load no_time no_far =
      let used : List (VehicleType × List Visit) = filter (λ (x : VehicleType × List Visit). is_used x.1) xs in
      let load = zero-first (λ (x : VehicleType × List Visit). excess_load p x.0 x.1) (is_used x.1) x used no_load in
      let time = zero-first (λ (x : VehicleType × List Visit). excess_time x.0 (route_drive p x.0 x.1)) (is_used x.1) x used no_time in
      let far = zero-first (λ (x : VehicleType × List Visit). excess_distance p x.0 x.1) (is_used x.1) x used no_far in
      let first : route_cost p v x.0 x.1 ≡ route_cost p w x.0 x.1 =
      cost_by-same (is_used x.1) (x.0.fixed + x.0.unit_distance * distance p x.0 x.1 + x.0.unit_duration * (route_drive p x.0 x.1).duration)
      (excess_load p x.0 x.1) (excess_time x.0 (route_drive p x.0 x.1)) (excess_distance p x.0 x.1) v w load.0 time.0 far.0 in
      let rest = sums-same xs load.1 time.1 far.1 in
      sum_by-cons (λ (x : VehicleType × List Visit). route_cost p v x.0 x.1) x xs
      ∙ (ap (λ n. n + sum_by (λ (x : VehicleType × List Visit). route_cost p v x.0 x.1) xs) first
      ∙ (ap (λ n. route_cost p w x.0 x.1 + n) rest ∙ sym (sum_by-cons (λ (x : VehicleType × List Visit). route_cost p w x.0 x.1) x xs)))

pub feasible_cost-same : FeasibleCostsTheSame
feasible_cost-same p routes feasible v w =
    let far = and-second (is_lawful p routes && (total_excess_load p routes == 0) && (total_excess_time p routes == 0)) (total_excess_distance p routes == 0) feasible in
    let three = and-first (is_lawful p routes && (total_excess_load p routes == 0) && (total_excess_time p routes == 0)) (total_excess_distance p routes == 0) feasible in
    let time = and-second (is_lawful p routes && (total_excess_load p routes == 0)) (total_excess_time p routes == 0) three in
    let two = and-first (is_lawful p routes && (total_excess_load p routes == 0)) (total_excess_time p routes == 0) three in
    let load = and-second (is_lawful p routes) (total_excess_load p routes == 0) two in
    ap (λ n. n + missed_prizes p routes)
    (sums-same p v w (zip (fleet p) routes) (is_equal (total_excess_load p routes) 0 load) (is_equal (total_excess_time p routes) 0 time) (is_equal (total_excess_distance p routes) 0 far))
