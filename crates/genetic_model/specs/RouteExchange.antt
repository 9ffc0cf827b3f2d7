-- The exchange of routes between two plans (after Nagata and Kobayashi 2010).
use Rattle.std.specs.Prelude.{ℕ, ◌+◌, ◌%◌, ◌==◌, ◌||◌, nat_lt, min, if◌then◌else◌, length}
use Rattle.problem_data.specs.declared.problem.Problem.{Problem}
use Rattle.vrp_num.specs.Words.{State}
use Rattle.routing_model.specs.declared.weights.Weights.{Weights}
use Rattle.routing_model.specs.Cost.{solution_cost}
use Rattle.routing_model.specs.Routes.{Routes, clients_of_vehicles}
use Rattle.random_model.specs.Draws.{Draw, below}
use Rattle.genetic_model.specs.RouteOrder.{route_order}
use Rattle.genetic_model.specs.declared.starts.Starts.{Starts}
use Rattle.genetic_model.specs.RouteSelection.{around, difference_count, settled}
use Rattle.genetic_model.specs.RouteChildren.{Exchange, first_child, second_child}
use Rattle.genetic_model.specs.Insertion.{completed}

-- how many clients are in just one of the two selections of m routes that begin at s
abbrev pub selection_difference : Problem → Routes → Routes → ℕ → Starts → ℕ
selection_difference p a b m s =
    difference_count p (clients_of_vehicles a (around (route_order p a) s.first m)) (clients_of_vehicles b (around (route_order p b) s.second m))

-- the exchange of m routes that the first starts lead to
abbrev pub exchange_from : Problem → Routes → Routes → ℕ → Starts → Exchange
exchange_from p a b m s =
    let ra = route_order p a in
    let rb = route_order p b in
    let t = settled (selection_difference p a b m) (length ra) (length rb) s in
    record { into = around ra t.first m; from = around rb t.second m }

-- the child of lower cost, the first on a tie
abbrev pub better_child : Problem → Weights → Routes → Routes → Routes
better_child p w first second = if nat_lt (solution_cost p w second) (solution_cost p w first) then second else first

-- the better of the two children of an exchange, each with its missing clients inserted
abbrev pub child_of_exchange : Problem → Weights → Routes → Routes → Exchange → Routes
child_of_exchange p w a b e = better_child p w (completed p w (first_child p a b e)) (completed p w (second_child p a b e))

-- two draws give the number of routes and the first start, and so the second start
abbrev pub child_by_draws : Problem → Weights → Routes → Routes → ℕ → ℕ → State → Draw Routes
child_by_draws p w a b m n s =
    let count = below (min m n) s in
    let start = below m count.state in
    let e = exchange_from p a b (count.value + 1) (record { first = start.value; second = start.value % n }) in
    record { value = child_of_exchange p w a b e; state = start.state }

-- the child of two plans; the first plan itself, with nothing drawn, where one of them uses no vehicle
abbrev pub exchange : Problem → Weights → Routes → Routes → State → Draw Routes
exchange p w a b s =
    let m = length (route_order p a) in
    let n = length (route_order p b) in
    let same : Draw Routes = record { value = a; state = s } in
    let made = child_by_draws p w a b m n s in
    if (m == 0) || (n == 0) then same else made
