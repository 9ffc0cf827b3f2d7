-- Worked values, each closed by computation.
use Rattle.std.specs.Prelude.{◌≡◌, ℕ, List, [], ◌∷◌, refl, replicate, pos, negsuc, map}
use Rattle.list_words.specs.Order.{sorted_by}
use Rattle.vrp_num.specs.Words.{seeded}
use Rattle.routing_model.specs.declared.weights.Weights.{Weights}
use Rattle.routing_model.specs.Routes.{Routes}
use Rattle.routing_model.proofs.Examples.{weights}
use Rattle.genetic_model.specs.BrokenPairs.{broken_pairs}
use Rattle.genetic_model.specs.Defaults.{default_penalty, default_population}
use Rattle.genetic_model.specs.Penalties.{penalties_after}
use Rattle.genetic_model.specs.Population.{empty_population, nearest_numbers}
use Rattle.genetic_model.specs.RouteExchange.{exchange}
use Rattle.genetic_model.specs.declared.vector.Vector.{Vector}
use Rattle.genetic_model.specs.RouteOrder.{route_order, turns_before}
use Rattle.genetic_model.proofs.Examples.{three_at, visits}

-- a plan of three vehicles that uses the first one alone
abbrev pub alone : List ℕ → Routes
alone places = visits places ∷ [] ∷ [] ∷ []

pub two_orders_broken : broken_pairs three_at (alone (1 ∷ 2 ∷ 3 ∷ [])) (alone (1 ∷ 3 ∷ 2 ∷ [])) ≡ 5
two_orders_broken = refl

-- fifty plans with excess load and excess distance, and without time warp
abbrev pub weights_after_fifty : Weights
weights_after_fifty = (penalties_after default_penalty (replicate 50 (record { load = pos 3; warp = pos 0; distance = pos 2 }))).weights

pub fifty : weights_after_fifty ≡ record { load = 26; warp = 1; distance = 8 }
fifty = refl

-- a plan that uses each of three vehicles
abbrev pub spread : Routes
spread = visits (2 ∷ []) ∷ visits (1 ∷ []) ∷ visits (3 ∷ []) ∷ []

-- with a plan that uses no vehicle
pub with_unused : exchange three_at weights spread (alone []) (seeded 1) ≡ record { value = spread; state = seeded 1 }
with_unused = refl

abbrev pub five_vectors : List Vector
five_vectors =
    record { x = pos 0; y = negsuc 0 } ∷ record { x = negsuc 0; y = pos 0 } ∷ record { x = pos 0; y = pos 1 } ∷ record { x = pos 1; y = pos 0 } ∷ record { x = pos 0; y = pos 0 } ∷ []

pub five_in_order :
    sorted_by turns_before five_vectors
    ≡ record { x = pos 0; y = pos 0 } ∷ record { x = pos 1; y = pos 0 } ∷ record { x = pos 0; y = pos 1 } ∷ record { x = negsuc 0; y = pos 0 } ∷ record { x = pos 0; y = negsuc 0 } ∷ []
five_in_order = refl

-- the first two of the vehicles lie in one direction, and the third behind them
pub spread_in_order : route_order three_at spread ≡ 0 ∷ 1 ∷ 2 ∷ []
spread_in_order = refl

abbrev pub three_items : List Routes
three_items = alone (1 ∷ 2 ∷ 3 ∷ []) ∷ alone (1 ∷ 3 ∷ 2 ∷ []) ∷ alone (1 ∷ 2 ∷ 3 ∷ []) ∷ []

pub numbers_of_three : map (nearest_numbers three_at (record (empty_population default_population) { feasible = three_items })) (0 ∷ 1 ∷ 2 ∷ []) ≡ (0 ∷ 5 ∷ []) ∷ (5 ∷ 5 ∷ []) ∷ (0 ∷ 5 ∷ []) ∷ []
numbers_of_three = refl
