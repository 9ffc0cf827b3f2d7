-- A random plan: a walk over the clients in a random order chooses some of them and deals them out to the vehicles.
use Rattle.std.specs.Prelude.{ℕ, ◌+◌, ◌-◌, ◌*◌, ◌/◌, ◌==◌, if◌then◌else◌, Option, Some, None, List, [], ◌∷◌, ◌++◌, length, map, fold, take, drop}
use Rattle.std.specs.List.{list_any, range_with_len}
use Rattle.problem_data.specs.declared.problem.Problem.{Problem}
use Rattle.problem_data.specs.declared.visit.Visit.TheVariants.{Client}
use Rattle.problem_data.specs.Places.{client_at, group_at, vehicle_count}
use Rattle.vrp_num.specs.Words.{State}
use Rattle.routing_model.specs.Lawful.{is_required, is_required_group}
use Rattle.routing_model.specs.Routes.{Routes}
use Rattle.random_model.specs.Draws.{Draw, below, client_order}
use Rattle.random_model.specs.Groups.{shares_group}

-- how it is decided whether a client is chosen
pub data Choice : Type 0 where
  chosen : Choice
  passed_over : Choice
  by_draw : Choice

-- a client without a group is chosen where it has no prize; of a group only the first member that is met counts,
-- and it is chosen where the group is required; a draw decides all other cases
abbrev pub choice_in : Problem → List ℕ → ℕ → Option ℕ → Choice
choice_in p met c None = if is_required p c then chosen else by_draw
choice_in p met c (Some group) = if list_any (shares_group p c) met then passed_over else (if is_required_group p (group_at p group) then chosen else by_draw)

-- how it is decided for a client, after those met
abbrev pub choice_of : Problem → List ℕ → ℕ → Choice
choice_of p met c = choice_in p met c (client_at p c).group

-- how far the walk has come: the clients met, those chosen, and the state of the generator
pub record Walk : Type 0 where
  pub met : List ℕ
  pub picked : List ℕ
  pub state : State

-- the walk meets a client; a draw below 2 that is 1 chooses it
abbrev pub walked_by : Choice → Walk → ℕ → Walk
walked_by chosen w c = record { met = w.met ++ c ∷ []; picked = w.picked ++ c ∷ []; state = w.state }
walked_by passed_over w c = record { met = w.met ++ c ∷ []; picked = w.picked; state = w.state }
walked_by by_draw w c =
    let coin = below 2 w.state in
    record { met = w.met ++ c ∷ []; picked = (if coin.value == 1 then w.picked ++ c ∷ [] else w.picked); state = coin.state }

-- the walk meets one more client
abbrev pub walk_step : Problem → Walk → ℕ → Walk
walk_step p w c = walked_by (choice_of p w.met c) w c

-- the walk over a whole order
abbrev pub walk : Problem → List ℕ → State → Walk
walk p order s = fold (walk_step p) (record { met = []; picked = []; state = s }) order

-- how many clients a vehicle gets at most: c divided by v, rounded up
abbrev pub share : ℕ → ℕ → ℕ
share c v = (c + v - 1) / v

-- the chosen clients dealt out in order, so many to each of the vehicles
abbrev pub dealt : ℕ → List ℕ → Routes
dealt vehicles clients =
    let per = share (length clients) vehicles in
    map (λ v. map Client (take per (drop (v * per) clients))) (range_with_len 0 vehicles)

-- the random plan that the generator's words give
abbrev pub random_solution : Problem → State → Draw Routes
random_solution p s =
    let order = client_order p s in
    let end = walk p order.value order.state in
    record { value = dealt (vehicle_count p) end.picked; state = end.state }
