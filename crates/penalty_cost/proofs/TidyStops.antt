-- A tidy list has at most three stops for each client, besides its start and its end.
use Rattle.std.proofs.Common.{◌≡◌, ℕ, ◌+◌, ◌*◌, ◌≤◌, Bool, true, false, ◌&&◌, cond, List, [], ◌∷◌, ◌++◌, length, refl, ap, arith}
use Rattle.std.proofs.lemmas.List.Sums.{sum_by-cons}
use Rattle.problem_data.specs.declared.visit.Visit.{Visit}
use Rattle.problem_data.specs.declared.visit.Visit.TheVariants.{Client, Reload}
use Rattle.problem_data.specs.declared.problem.Problem.{Problem}
use Rattle.problem_data.specs.declared.problem.VehicleType.{VehicleType}
use Rattle.routing_model.specs.Clock.{Stop}
use Rattle.routing_model.specs.Stops.{stops, visit_stops}
use Rattle.routing_model.specs.Routes.{is_used}
use Rattle.routing_model.specs.Tidy.{is_tidy, is_tidy_behind}
use Rattle.penalty_cost.specs.inside.Excess.{clients_in, stops_within}
use Rattle.trips.specs.Runs.{end_stop}
use Rattle.penalty_cost.specs.inside.VisitSums.{at_visit}

client_count : List Visit → ℕ
client_count [] = 0
client_count (Client place ∷ rest) = 1 + client_count rest
client_count (Reload depot ∷ rest) = client_count rest

reload_count : List Visit → ℕ
reload_count [] = 0
reload_count (Client place ∷ rest) = reload_count rest
reload_count (Reload depot ∷ rest) = 1 + reload_count rest

and-first : (a b : Bool) → (a && b) ≡ true → a ≡ true
and-first true b h = refl
and-first false b h = h

and-second : (a b : Bool) → (a && b) ≡ true → b ≡ true
and-second true b h = h
and-second false b h = cc

allowance : Bool → ℕ
allowance behind = cond behind 1 0

-- each reload stands behind a client
reloads-few : (behind : Bool) (visits : List Visit) → is_tidy_behind behind visits ≡ true → reload_count visits ≤ client_count visits + allowance behind
unfolding client_count reload_count allowance
reloads-few behind [] h = omega arith
reloads-few behind (Client place ∷ rest) h = let k = reloads-few true rest h in let one : allowance true ≡ 1 = refl in omega arith
reloads-few behind (Reload depot ∷ rest) h =
    let is_behind : behind ≡ true = and-first behind (is_used rest) (and-first (behind && is_used rest) (is_tidy_behind false rest) h) in
    let one : allowance behind ≡ 1 = ap allowance is_behind in
    let k = reloads-few false rest (and-second (behind && is_used rest) (is_tidy_behind false rest) h) in
    let none : allowance false ≡ 0 = refl in
    omega arith

-- clients are counted by a sum over the visits
client_count-sum : (visits : List Visit) → clients_in visits ≡ client_count visits
unfolding client_count
client_count-sum [] = refl
client_count-sum (Client place ∷ rest) = let s = sum_by-cons (at_visit (λ place. 1)) (Client place) rest in let h = client_count-sum rest in omega arith
client_count-sum (Reload depot ∷ rest) = let s = sum_by-cons (at_visit (λ place. 1)) (Reload depot) rest in let h = client_count-sum rest in omega arith

-- a reload has two stops
visit_stops-counted : (p : Problem) (visits : List Visit) (end : Stop) → length (visit_stops p visits ++ end ∷ []) ≡ client_count visits + 2 * reload_count visits + 1
unfolding client_count reload_count
visit_stops-counted p [] end = refl
visit_stops-counted p (Client place ∷ rest) end = let h = visit_stops-counted p rest end in omega arith
visit_stops-counted p (Reload depot ∷ rest) end = let h = visit_stops-counted p rest end in omega arith

-- a tidy list has at most three stops for each client, besides its start and its end
pub stops-few : (p : Problem) (t : VehicleType) (visits : List Visit) → is_tidy visits ≡ true → length (stops p t visits) ≤ stops_within visits
unfolding allowance
stops-few p t visits tidy =
    let none : allowance false ≡ 0 = refl in
    let few = reloads-few false visits tidy in
    let clients = client_count-sum visits in
    let list = visit_stops-counted p visits (end_stop p t) in
    omega arith
