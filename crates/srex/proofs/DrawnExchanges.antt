-- The exchange of two plans that both use a vehicle is drawn.
use Rattle.std.proofs.Common.{◌≡◌, ◌∙◌, ◌<◌, ◌==◌, ◌||◌, ℕ, Bool, false, cond, List, length, ap, ap₂, arith, sym}
use Rattle.std.proofs.lemmas.Bool.Decides.{nat_tests}
use Rattle.problem_data.specs.declared.problem.Problem.{Problem}
use Rattle.vrp_num.specs.Words.{State}
use Rattle.random_model.specs.Draws.{Draw}
use Rattle.routing_model.specs.declared.weights.Weights.{Weights}
use Rattle.routing_model.specs.Routes.{Routes}
use Rattle.genetic_model.specs.RouteExchange.{child_by_draws, exchange}
use Rattle.genetic_model.specs.RouteOrder.{route_order}

not-zero : (n : ℕ) → (n == 0) ≡ false → 0 < n
not-zero n h = grind (arith, nat_tests)

-- a list whose length isn't 0
pub some-of : (xs : List ℕ) (n : ℕ) → length xs ≡ n → (n == 0) ≡ false → 0 < length xs
some-of xs n e h = let some = not-zero n h in omega arith

both-test : (m n : ℕ) → 0 < m → 0 < n → ((m == 0) || (n == 0)) ≡ false
both-test m n a b = grind (arith, nat_tests)

module _ (p : Problem) (w : Weights) (a b : Routes) (s : State) where
  -- the exchange, by whether one of the plans uses no vehicle
  abbrev exchange_by : Draw Routes → Bool → Draw Routes
  exchange_by made none = cond none (record { value = a; state = s }) made

  pub exchange-drawn : (xs ys : List ℕ) → xs ≡ route_order p a → ys ≡ route_order p b → 0 < length xs → 0 < length ys →
      child_by_draws p w a b (length xs) (length ys) s ≡ exchange p w a b s
  exchange-drawn xs ys e k some other_some =
      sym (ap (exchange_by (child_by_draws p w a b (length xs) (length ys) s)) (both-test (length xs) (length ys) some other_some))
      ∙ ap₂ (λ (us vs : List ℕ). exchange_by (child_by_draws p w a b (length us) (length vs) s) ((length us == 0) || (length vs == 0))) e k
