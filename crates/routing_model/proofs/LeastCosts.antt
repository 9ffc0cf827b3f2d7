-- The least that a used list costs: its fixed cost, its distance, and what its clients' deliveries, or their pickups, exceed the
-- capacity of its trips by, however they are carried. And when a list costs no less than another one.
use Rattle.std.proofs.Common.{◌≡◌, ℕ, ◌+◌, ◌-◌, ◌*◌, ◌<◌, ◌≤◌, Bool, true, false, cond, List, [], ◌∷◌, length, refl, ◌∙◌, ap, arith}
use Rattle.std.specs.Prelude.{max, min, not, count_by, sum_by}
use Rattle.std.proofs.lemmas.List.Sums.{sum_by-cons}
use Rattle.problem_data.specs.declared.problem.Problem.{Problem}
use Rattle.problem_data.specs.declared.problem.VehicleType.{VehicleType}
use Rattle.problem_data.specs.declared.visit.Visit.{Visit}
use Rattle.problem_data.specs.declared.visit.Visit.TheVariants.{Client, Reload}
use Rattle.problem_data.specs.Places.{client_at}
use Rattle.routing_model.specs.declared.weights.Weights.{Weights}
use Rattle.routing_model.specs.Cost.{distance, excess_distance, excess_time, route_cost, route_drive, used_cost}
use Rattle.routing_model.specs.Load.{excess_load, first_trip, largest_load, later_trips, trip_load, trips}
use Rattle.routing_model.specs.Routes.{clients_of, is_client, is_used}

-- the deliveries and the pickups of some clients, added up
abbrev pub deliveries : Problem → List ℕ → ℕ
deliveries p clients = sum_by (λ place. (client_at p place).delivery) clients

abbrev pub pickups : Problem → List ℕ → ℕ
pickups p clients = sum_by (λ place. (client_at p place).pickup) clients

-- how many trips a list has
abbrev pub trip_count : List Visit → ℕ
trip_count visits = count_by (λ visit. not (is_client visit)) visits + 1

-- what the deliveries, or the pickups, exceed the capacity of so many trips by
abbrev pub over_capacity : ℕ → ℕ → ℕ → ℕ → ℕ
over_capacity delivery pickup trips capacity = max delivery pickup - trips * capacity

-- the largest load is what is on board first, or more
load-first : (p : Problem) (clients : List ℕ) (on_board : ℕ) → on_board ≤ largest_load p clients on_board
load-first p [] on_board = omega arith
load-first p (place ∷ rest) on_board = omega arith

-- and at last all pickups are on board
load-last : (p : Problem) (clients : List ℕ) (on_board : ℕ) → deliveries p clients ≤ on_board → pickups p clients + on_board ≤ largest_load p clients on_board + deliveries p clients
load-last p [] on_board h = omega arith
load-last p (place ∷ rest) on_board h =
    let d = sum_by-cons (λ place. (client_at p place).delivery) place rest in
    let k = sum_by-cons (λ place. (client_at p place).pickup) place rest in
    let later = load-last p rest (on_board - (client_at p place).delivery + (client_at p place).pickup) (omega arith) in
    omega arith

-- a trip's load is at least its deliveries, and at least its pickups
pub trip-deliveries : (p : Problem) (clients : List ℕ) → deliveries p clients ≤ trip_load p clients
trip-deliveries p clients = load-first p clients (deliveries p clients)

pub trip-pickups : (p : Problem) (clients : List ℕ) → pickups p clients ≤ trip_load p clients
trip-pickups p clients = let last = load-last p clients (deliveries p clients) (omega arith) in omega arith

-- a sum over a list's clients is one over its trips
trips-later : (f : ℕ → ℕ) (visits : List Visit) → sum_by f (first_trip visits) + sum_by (λ (clients : List ℕ). sum_by f clients) (later_trips visits) ≡ sum_by f (clients_of visits)
trips-later f [] = refl
trips-later f (Client place ∷ rest) =
    let a = sum_by-cons f place (first_trip rest) in
    let b = sum_by-cons f place (clients_of rest) in
    let later = trips-later f rest in
    omega arith
trips-later f (Reload depot ∷ rest) =
    let a = sum_by-cons (λ (clients : List ℕ). sum_by f clients) (first_trip rest) (later_trips rest) in
    let none : sum_by f [] ≡ 0 = refl in
    let later = trips-later f rest in
    omega arith

pub trips-sum : (f : ℕ → ℕ) (visits : List Visit) → sum_by (λ (clients : List ℕ). sum_by f clients) (trips visits) ≡ sum_by f (clients_of visits)
trips-sum f visits = sum_by-cons (λ (clients : List ℕ). sum_by f clients) (first_trip visits) (later_trips visits) ∙ trips-later f visits

-- one for a reload
one_for : Visit → ℕ
one_for visit = cond (not (is_client visit)) 1 0

trips-reloads : (visits : List Visit) → length (later_trips visits) ≡ count_by (λ visit. not (is_client visit)) visits
unfolding one_for
trips-reloads [] = refl
trips-reloads (Client place ∷ rest) = let a = sum_by-cons one_for (Client place) rest in let later = trips-reloads rest in omega arith
trips-reloads (Reload depot ∷ rest) = let a = sum_by-cons one_for (Reload depot) rest in let later = trips-reloads rest in omega arith

pub trips-count : (visits : List Visit) → length (trips visits) ≡ trip_count visits
trips-count visits = let later = trips-reloads visits in omega arith

-- what each number exceeds a limit by, added up, is at least what all exceed as many limits by
sum-above : (f g : List ℕ → ℕ) (limit : ℕ) → ((clients : List ℕ) → f clients ≤ g clients) → (xs : List (List ℕ)) → sum_by f xs ≤ sum_by (λ (clients : List ℕ). g clients - limit) xs + length xs * limit
sum-above f g limit less [] = omega arith
sum-above f g limit less (clients ∷ rest) =
    let a = sum_by-cons f clients rest in
    let b = sum_by-cons (λ (clients : List ℕ). g clients - limit) clients rest in
    let here = less clients in
    let later = sum-above f g limit less rest in
    omega arith

-- the excess load of a list is at least what its deliveries, and what its pickups, exceed the capacity of its trips by
pub excess-deliveries : (p : Problem) (t : VehicleType) (visits : List Visit) → deliveries p (clients_of visits) ≤ excess_load p t visits + trip_count visits * t.capacity
excess-deliveries p t visits =
    let sum = trips-sum (λ place. (client_at p place).delivery) visits in
    let above = sum-above (λ (clients : List ℕ). deliveries p clients) (λ (clients : List ℕ). trip_load p clients) t.capacity (trip-deliveries p) (trips visits) in
    let many : length (trips visits) * t.capacity ≡ trip_count visits * t.capacity = ap (λ (n : ℕ). n * t.capacity) (trips-count visits) in
    omega (arith, sum, above, many)

pub excess-pickups : (p : Problem) (t : VehicleType) (visits : List Visit) → pickups p (clients_of visits) ≤ excess_load p t visits + trip_count visits * t.capacity
excess-pickups p t visits =
    let sum = trips-sum (λ place. (client_at p place).pickup) visits in
    let above = sum-above (λ (clients : List ℕ). pickups p clients) (λ (clients : List ℕ). trip_load p clients) t.capacity (trip-pickups p) (trips visits) in
    let many : length (trips visits) * t.capacity ≡ trip_count visits * t.capacity = ap (λ (n : ℕ). n * t.capacity) (trips-count visits) in
    omega (arith, sum, above, many)

pub excess-over : (p : Problem) (t : VehicleType) (visits : List Visit) →
    over_capacity (deliveries p (clients_of visits)) (pickups p (clients_of visits)) (trip_count visits) t.capacity ≤ excess_load p t visits
excess-over p t visits = by (deliveries p (clients_of visits)) (pickups p (clients_of visits)) (excess_load p t visits) (trip_count visits * t.capacity) (excess-deliveries p t visits) (excess-pickups p t visits)
  where
    by : (d k e c : ℕ) → d ≤ e + c → k ≤ e + c → max d k - c ≤ e
    by d k e c g h = omega arith

-- a used list costs at least its fixed cost, its distance and its excess load
parts-least : (fixed far time load warp further : ℕ) → fixed + far + load ≤ fixed + far + time + load + warp + further
parts-least fixed far time load warp further = omega arith

pub used-least : (p : Problem) (w : Weights) (t : VehicleType) (visits : List Visit) → t.fixed + t.unit_distance * distance p t visits + w.load * excess_load p t visits ≤ used_cost p w t visits
used-least p w t visits =
    parts-least t.fixed (t.unit_distance * distance p t visits) (t.unit_duration * (route_drive p t visits).duration) (w.load * excess_load p t visits)
    (w.warp * excess_time t (route_drive p t visits)) (w.distance * excess_distance p t visits)

pub cost-used : (p : Problem) (w : Weights) (t : VehicleType) (visits : List Visit) → is_used visits ≡ true → route_cost p w t visits ≡ used_cost p w t visits
cost-used p w t visits used = ap (λ (b : Bool). cond b (used_cost p w t visits) 0) used

pub cost-unused : (p : Problem) (w : Weights) (t : VehicleType) (visits : List Visit) → is_used visits ≡ false → route_cost p w t visits ≡ 0
cost-unused p w t visits unused = ap (λ (b : Bool). cond b (used_cost p w t visits) 0) unused

-- the cost of a vehicle's fixed cost and distance
abbrev pub driven_cost : Problem → VehicleType → List Visit → ℕ
driven_cost p t visits = t.fixed + t.unit_distance * distance p t visits

-- a list is used, and this much of its cost is neither its fixed cost nor that of its distance, no more than a limit
pub record HasRest (p : Problem) (w : Weights) (t : VehicleType) (visits : List Visit) (limit rest : ℕ) : Type 0 where
  pub used : is_used visits ≡ true
  pub is : rest ≡ min limit (route_cost p w t visits - t.fixed - t.unit_distance * distance p t visits)

-- a list is used, its distance is another list's with these legs come and those gone, and it costs at least this much for its load
pub record HasLeast (p : Problem) (w : Weights) (t : VehicleType) (old new : List Visit) (come gone load : ℕ) : Type 0 where
  pub used : is_used new ≡ true
  pub far : distance p t new + gone ≡ distance p t old + come
  pub carried : load ≤ w.load * excess_load p t new

module _ (p : Problem) (w : Weights) where
  far-cost : (t : VehicleType) (old new : List Visit) (come gone load : ℕ) → HasLeast p w t old new come gone load →
      t.unit_distance * distance p t new + t.unit_distance * gone ≡ t.unit_distance * distance p t old + t.unit_distance * come
  far-cost t old new come gone load least = by t.unit_distance (distance p t new) gone (distance p t old) come least.far
    where
      by : (u a b c d : ℕ) → a + b ≡ c + d → u * a + u * b ≡ u * c + u * d
      by u a b c d e = let m = ap (λ (n : ℕ). u * n) e in omega arith

  -- what a changed list costs at least, over what the list cost, where its rest isn't cut
  change-least : (t : VehicleType) (old new : List Visit) (come gone load limit rest : ℕ) → HasLeast p w t old new come gone load → HasRest p w t old limit rest → rest < limit →
      route_cost p w t old + (t.unit_distance * come + load) ≤ route_cost p w t new + (t.unit_distance * gone + rest)
  change-least t old new come gone load limit rest least has short =
      let cost = cost-used p w t new least.used in
      let paid = used-least p w t new in
      let far = far-cost t old new come gone load least in
      let carried = least.carried in
      let left = has.is in
      omega arith

  -- a list replaced, the cost doesn't fall: what comes, with the load, is at least what goes, with the rest; and it is below the limit
  pub one-dear : (t : VehicleType) (old new : List Visit) (come gone load limit rest : ℕ) → HasLeast p w t old new come gone load → HasRest p w t old limit rest →
      t.unit_distance * gone + rest ≤ t.unit_distance * come + load → t.unit_distance * come + load < limit + t.unit_distance * gone →
      route_cost p w t old ≤ route_cost p w t new
  one-dear t old new come gone load limit rest least has dear small =
      let change = change-least t old new come gone load limit rest least has (omega arith) in
      omega arith

  -- two lists replaced
  pub two-dear : (t t' : VehicleType) (old new old' new' : List Visit) (come gone load come' gone' load' limit rest rest' : ℕ) →
      HasLeast p w t old new come gone load → HasRest p w t old limit rest → HasLeast p w t' old' new' come' gone' load' → HasRest p w t' old' limit rest' →
      (t.unit_distance * gone + rest) + (t'.unit_distance * gone' + rest') ≤ (t.unit_distance * come + load) + (t'.unit_distance * come' + load') →
      (t.unit_distance * come + load) + (t'.unit_distance * come' + load') < limit + (t.unit_distance * gone + t'.unit_distance * gone') →
      route_cost p w t old + route_cost p w t' old' ≤ route_cost p w t new + route_cost p w t' new'
  two-dear t t' old new old' new' come gone load come' gone' load' limit rest rest' least has least' has' dear small =
      let change = change-least t old new come gone load limit rest least has (omega arith) in
      let change' = change-least t' old' new' come' gone' load' limit rest' least' has' (omega arith) in
      omega arith

  -- a list replaced, and an unused vehicle's filled
  pub filled-dear : (t t' : VehicleType) (old new filled : List Visit) (come gone load load' limit rest : ℕ) →
      HasLeast p w t old new come gone load → HasRest p w t old limit rest → is_used filled ≡ true → load' ≤ w.load * excess_load p t' filled →
      t.unit_distance * gone + rest ≤ (t.unit_distance * come + load) + (driven_cost p t' filled + load') →
      (t.unit_distance * come + load) + (driven_cost p t' filled + load') < limit + t.unit_distance * gone →
      route_cost p w t old ≤ route_cost p w t new + route_cost p w t' filled
  filled-dear t t' old new filled come gone load load' limit rest least has used carried dear small =
      let change = change-least t old new come gone load limit rest least has (omega arith) in
      let cost = cost-used p w t' filled used in
      let paid = used-least p w t' filled in
      omega arith
