-- What vehicles exceed, each and together.
use Rattle.std.proofs.Common.{◌≡◌, ℕ, zero, suc, ◌+◌, ◌-◌, ◌*◌, ◌<◌, ◌≤◌, Bool, true, cond, List, get_or, length, take, refl, sym, ◌∙◌, ap, subst, arith}
use Rattle.std.specs.Prelude.{sum_by}
use Rattle.std.specs.List.{range_with_len}
use Rattle.std.proofs.lemmas.List.Sums.{sum_by-take-le}
use Rattle.problem_data.specs.declared.problem.Problem.{Problem}
use Rattle.problem_data.specs.declared.problem.VehicleType.{VehicleType}
use Rattle.problem_data.specs.declared.visit.Visit.{Visit}
use Rattle.problem_data.specs.Limits.{most_places}
use Rattle.problem_data.specs.Places.{depot_count, type_at, type_of, vehicle_count}
use Rattle.problem_data.specs.Valid.{IsValid}
use Rattle.routing_model.specs.Cost.{excess_distance, excess_time, route_drive}
use Rattle.routing_model.specs.Feasible.{used_vehicles}
use Rattle.routing_model.specs.Load.{excess_load}
use Rattle.routing_model.specs.Routes.{Routes, is_used}
use Rattle.routing_model.specs.Stops.{stops}
use Rattle.routing_model.specs.Tidy.{is_tidy}
use Rattle.penalty_cost.specs.declared.excess.Excess.{Excess}
use Rattle.penalty_cost.specs.declared.totals.Totals.{Totals}
use Rattle.penalty_cost.specs.inside.Excess.{IsExcessOf, IsExcessWithin, clients_in, stops_within}
use Rattle.penalty_cost.specs.Plans.{IsDrivablePlan}
use Rattle.penalty_cost.specs.inside.Totals.{AreShared, AreTotals, drive_of}
use Rattle.penalty_cost.specs.inside.VisitSums.{at_plan, at_visits}
use Rattle.penalty_cost.proofs.FleetSums.{sum_by-filter, vehicles, vehicles-all, vehicles-more}
use Rattle.penalty_cost.proofs.MissedPrizes.{plan-named}
use Rattle.penalty_cost.proofs.TidyStops.{stops-few}
use Rattle.penalty_cost.proofs.UsedCosts.{tidy-used}
use Rattle.penalty_cost.proofs.VisitSums.{missed-and_visited, range-more}

-- a used vehicle's excess, by its totals
pub excess-is : (p : Problem) (t : VehicleType) (visits : List Visit) (totals : Totals) (excess : Excess) → 0 < length visits → is_tidy visits ≡ true → AreTotals p t visits totals →
    excess.load ≡ totals.excess_load → excess.time ≡ excess_time t (drive_of totals) → excess.distance ≡ totals.distance - t.max_distance → IsExcessOf p t visits excess
excess-is p t visits totals excess some tidy are load time far =
    let used = sym (tidy-used visits some tidy) in
    record {
      load = load ∙ are.excess_load ∙ ap (λ (b : Bool). cond b (excess_load p t visits) 0) used;
      time = time ∙ (λ i. excess_time t (record { duration = are.duration i; warp = are.warp i })) ∙ ap (λ (b : Bool). cond b (excess_time t (route_drive p t visits)) 0) used;
      distance = far ∙ ap (λ (n : ℕ). n - t.max_distance) are.distance ∙ ap (λ (b : Bool). cond b (excess_distance p t visits) 0) used;
    }

-- it is within what its stops make
pub excess-within : (p : Problem) (t : VehicleType) (visits : List Visit) (totals : Totals) (excess : Excess) → is_tidy visits ≡ true → AreShared (length (stops p t visits)) totals →
    excess.load ≡ totals.excess_load → excess.time ≡ excess_time t (drive_of totals) → excess.distance ≡ totals.distance - t.max_distance → IsExcessWithin (stops_within visits) excess
excess-within p t visits totals excess tidy shared load time far =
    within_most excess totals (length (stops p t visits)) (stops_within visits) t.max_duration t.max_distance (stops-few p t visits tidy) shared load time far
  where
    within_most : (excess : Excess) (totals : Totals) (stops within longest farthest : ℕ) → stops ≤ within → AreShared stops totals →
        excess.load ≡ totals.excess_load → excess.time ≡ totals.warp + (totals.duration - totals.warp - longest) → excess.distance ≡ totals.distance - farthest → IsExcessWithin within excess
    within_most excess totals stops within longest farthest few shared load time far =
        let distance = shared.distance in
        let duration = shared.duration in
        let warp = shared.warp in
        let loaded = shared.excess_load in
        record { load = omega arith; time = omega arith; distance = omega arith }

one-each : (a n : ℕ) → sum_by (λ place. 1) (range_with_len a n) ≡ n
one-each a zero = refl
one-each a (suc n) = let s = range-more (λ place. 1) a n in let h = one-each a n in omega arith

-- all lists together have no more clients than there are
pub few-clients : (p : Problem) (routes : Routes) → IsValid p → IsDrivablePlan p routes → at_plan (λ place. 1) routes ≤ most_places
few-clients p routes valid plan =
    let split = missed-and_visited p (λ place. 1) routes (plan-named p routes plan.listed) plan.at_most_once in
    let all = one-each (depot_count p) (length p.clients) in
    let places = valid.place_limit in
    let depots = valid.some_depot in
    omega arith

pub some_clients-few : (p : Problem) (routes : Routes) (i : ℕ) → IsValid p → IsDrivablePlan p routes → at_plan (λ place. 1) (take i routes) ≤ most_places
some_clients-few p routes i valid plan =
    let part = sum_by-take-le (at_visits (λ place. 1)) routes i in
    let whole = few-clients p routes valid plan in
    omega arith

-- the same of an equal type
pub excess-at : (p : Problem) (t type : VehicleType) (visits : List Visit) (excess : Excess) → t ≡ type → IsExcessOf p t visits excess → IsExcessOf p type visits excess
excess-at p t type visits excess same h = subst (λ (u : VehicleType). IsExcessOf p u visits excess) same h

-- the sum with one vehicle more
pub sum-more : (p : Problem) (routes : Routes) (f : VehicleType × List Visit → ℕ) (i total more both : ℕ) (visits list : List Visit) → length routes ≡ vehicle_count p → i < length routes →
    visits ≡ get_or routes i visits → list ≡ visits → total ≡ sum_by f (take i (vehicles p routes)) → more ≡ f (type_at p (type_of p i), list) → both ≡ total + more →
    both ≡ sum_by f (take (i + 1) (vehicles p routes))
sum-more p routes f i total more both visits list each in_range is same h k e =
    let next = vehicles-more p routes f i visits each in_range is in
    let own : more ≡ f (type_at p (type_of p i), visits) = k ∙ ap (λ (xs : List Visit). f (type_at p (type_of p i), xs)) same in
    omega arith

-- both are within what the stops of both make
pub both-within : (excess more both : Excess) (i clients within : ℕ) (visits : List Visit) → IsExcessWithin (2 * i + 3 * clients) excess → IsExcessWithin (stops_within visits) more →
    both.load ≡ excess.load + more.load → both.time ≡ excess.time + more.time → both.distance ≡ excess.distance + more.distance → within ≡ clients + clients_in visits →
    IsExcessWithin (2 * (i + 1) + 3 * within) both
both-within excess more both i clients within visits h k load time far e =
    let load1 = h.load in
    let time1 = h.time in
    let distance1 = h.distance in
    let load2 = k.load in
    let time2 = k.time in
    let distance2 = k.distance in
    record { load = omega arith; time = omega arith; distance = omega arith }

-- the sum of all is that of the used ones
pub sum-all : (p : Problem) (routes : Routes) (f : VehicleType × List Visit → ℕ) (i total : ℕ) → length routes ≡ vehicle_count p → length routes ≤ i →
    total ≡ sum_by (λ (v : VehicleType × List Visit). cond (is_used v.1) (f v) 0) (take i (vehicles p routes)) → total ≡ sum_by f (used_vehicles p routes)
sum-all p routes f i total each past h =
    h ∙ vehicles-all p routes (λ (v : VehicleType × List Visit). cond (is_used v.1) (f v) 0) i each past
    ∙ sym (sum_by-filter (λ (v : VehicleType × List Visit). is_used v.1) f (vehicles p routes))

-- fewer stops make less
pub within-more : (few many : ℕ) (excess : Excess) → few ≤ many → IsExcessWithin few excess → IsExcessWithin many excess
within-more few many excess h k =
    let load = k.load in
    let time = k.time in
    let far = k.distance in
    record { load = omega arith; time = omega arith; distance = omega arith }
