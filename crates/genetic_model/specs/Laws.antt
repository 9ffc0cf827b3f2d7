-- What the definitions say of themselves.
use Rattle.std.specs.Prelude.{◌≡◌, ℕ, ◌-◌, ◌≤◌, ◌<◌, ◌⊎◌, if◌then◌else◌, nat_lt, not, ◌&&◌, ◌||◌, Bool, false, IsTrue, List, All, [], ◌∷◌, ◌++◌, length, filter}
use Rattle.std.specs.Cmp.{IsStrictWeakOrder}
use Rattle.std.specs.List.Sorted.{IsPermutation, IsSortedBy}
use Rattle.list_words.specs.Lists.{places_of, times}
use Rattle.problem_data.specs.declared.problem.Problem.{Problem}
use Rattle.problem_data.specs.Valid.{IsValid}
use Rattle.vrp_num.specs.Words.{State}
use Rattle.routing_model.specs.declared.weights.Weights.{Weights}
use Rattle.routing_model.specs.Best.{IsFeasibleBest}
use Rattle.routing_model.specs.Lawful.{is_lawful}
use Rattle.problem_data.specs.declared.visit.Visit.{Visit}
use Rattle.problem_data.specs.declared.visit.Visit.TheVariants.{Client}
use Rattle.routing_model.specs.Routes.{Routes, has_client, is_visited, list_at, used_numbers}
use Rattle.genetic_model.specs.declared.params.NeighbourhoodParams.{NeighbourhoodParams}
use Rattle.genetic_model.specs.declared.params.Params.{Params}
use Rattle.genetic_model.specs.declared.params.PopulationParams.{PopulationParams}
use Rattle.genetic_model.specs.BrokenPairs.{Side, left, right, depot, none, back_of, front_of, neighbour_of, triples}
use Rattle.genetic_model.specs.Population.{Population, is_duplicate, items_of, without_last_duplicate, without_worst}
use Rattle.genetic_model.specs.RandomDescent.{random_descent}
use Rattle.genetic_model.specs.RouteExchange.{exchange}
use Rattle.genetic_model.specs.RouteOrder.{route_order, route_vector, turns_before}
use Rattle.genetic_model.specs.declared.starts.Starts.{Starts}
use Rattle.genetic_model.specs.RouteSelection.{best_shift, settled}
use Rattle.genetic_model.specs.Run.{run}
use Rattle.genetic_model.specs.Selection.{selected}

-- the best that a run finds is feasible, with its cost
abbrev pub RunFindsFeasible : Type 0
RunFindsFeasible = (p : Problem) (params : Params) (seed : ℕ) → IsFeasibleBest p (run p params seed).population.best

-- the shifts go on as long as f falls, whatever the bound on their number
abbrev pub ShiftsSettle : Type 0
ShiftsSettle = (f : Starts → ℕ) (m n : ℕ) (s : Starts) →
    settled f m n s ≡ (if nat_lt (f (best_shift f m n s)) (f s) then settled f m n (best_shift f m n s) else s)

-- after the duplicates went, a list is no longer than its least size, or no item equals an earlier one
abbrev pub DuplicatesGo : Type 0
DuplicatesGo = (least : ℕ) (items : List Routes) →
    let single = times (length items - least) without_last_duplicate items in
    (length single ≤ least) ⊎ (filter (is_duplicate single) (places_of single) ≡ [])

-- after the worst items went, it is no longer than its least size
abbrev pub WorstGo : Type 0
WorstGo = (p : Problem) (params : PopulationParams) (w : Weights) (least : ℕ) (items : List Routes) →
    length (times (length items - least) (without_worst p params w) items) ≤ least

-- the set of a plan's triples tells what stands beside the first visit of a client, on its left and on its right
abbrev pub SetTellsNeighbours : Type 0
SetTellsNeighbours = (before after : Routes) (xs ys : List Visit) (c : ℕ) → is_visited before c ≡ false → has_client c xs ≡ false →
    let ts = triples (before ++ (xs ++ Client c ∷ ys) ∷ after) in
    (neighbour_of ts left c ≡ back_of depot xs) × (neighbour_of ts right c ≡ front_of ys)

-- and that nothing stands beside a client that isn't visited
abbrev pub SetTellsUnvisited : Type 0
SetTellsUnvisited = (routes : Routes) (side : Side) (c : ℕ) → is_visited routes c ≡ false → neighbour_of (triples routes) side c ≡ none

-- going round from the first axis is an order: one way only, and what doesn't come before in two steps doesn't in one
abbrev pub TurnsInOrder : Type 0
TurnsInOrder = IsStrictWeakOrder turns_before

-- whether a vehicle comes before another: by the direction of their lists, and on a tie by number
abbrev pub comes_before : Problem → Routes → ℕ → ℕ → Bool
comes_before p routes u v =
    let here = route_vector p (list_at routes u) in
    let there = route_vector p (list_at routes v) in
    turns_before here there || (not (turns_before there here) && nat_lt u v)

-- an order of the used vehicles: each of them, and none that comes before the one in front of it
pub record IsInOrder (p : Problem) (routes : Routes) (order : List ℕ) : Type 0 where
  pub moves : IsPermutation (used_numbers routes) order
  pub ascends : IsSortedBy (comes_before p routes) order

-- the order of routes is that
abbrev pub RoutesAreInOrder : Type 0
RoutesAreInOrder = (p : Problem) (routes : Routes) → IsInOrder p routes (route_order p routes)

-- nothing else is
abbrev pub OrderIsUnique : Type 0
OrderIsUnique = (p : Problem) (routes : Routes) (order : List ℕ) → IsInOrder p routes order → order ≡ route_order p routes

-- the exchange of two lawful plans of a valid problem is lawful, whatever is drawn
abbrev pub ExchangeIsLawful : Type 0
ExchangeIsLawful = (p : Problem) (w : Weights) (a b : Routes) (s : State) →
    IsValid p → IsTrue (is_lawful p a) → IsTrue (is_lawful p b) → IsTrue (is_lawful p (exchange p w a b s).value)

-- a descent of a lawful plan ends with a lawful one
abbrev pub DescentStaysLawful : Type 0
DescentStaysLawful = (p : Problem) (near : NeighbourhoodParams) (w : Weights) (routes : Routes) (s : State) →
    IsTrue (is_lawful p routes) → IsTrue (is_lawful p (random_descent p near w routes s).routes)

-- the parents that are selected are items, where there is an item
abbrev pub ParentsAreItems : Type 0
ParentsAreItems = (p : Problem) (w : Weights) (population : Population) (s : State) → 1 ≤ length (items_of population) →
    let parents = (selected p w population s).value in
    (parents.0 < length (items_of population)) × (parents.1 < length (items_of population))

-- each plan in the population that a run ends with is lawful
abbrev pub RunStaysLawful : Type 0
RunStaysLawful = (p : Problem) (params : Params) (seed : ℕ) → IsValid p → 1 ≤ params.population.min_pop_size →
    All (λ routes. IsTrue (is_lawful p routes)) (items_of (run p params seed).population)
