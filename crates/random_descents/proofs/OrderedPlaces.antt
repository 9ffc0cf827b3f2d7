-- The places that a random order of the clients names are there.
use Rattle.std.proofs.Common.{◌≡◌, ◌&&◌, ◌<◌, nat_lt, Bool, true, false, ℕ, IsTrue, arith}
use Rattle.std.specs.Prelude.{nat_le}
use Rattle.std.proofs.lemmas.Bool.Decides.{nat_tests}
use Rattle.std.proofs.lemmas.List.Elements.{All-weaker}
use Rattle.problem_data.specs.declared.problem.Problem.{Problem}
use Rattle.problem_data.specs.Places.{depot_count, is_client_place, place_count}
use Rattle.vrp_num.specs.Words.{State}
use Rattle.random_model.specs.Draws.{client_order}
use Rattle.random_model.proofs.RandomOrders.{client_order-clients}
use Rattle.local_search.specs.Descents.{NamesClients}

client-there : (p : Problem) (place : ℕ) → is_client_place p place ≡ true → place < place_count p
client-there p place h = by (nat_le (depot_count p) place) (nat_lt place (place_count p)) h within
  where
    by : (a b : Bool) → (a && b) ≡ true → (b ≡ true → place < place_count p) → place < place_count p
    by true true h there = there h
    by true false h there = absurd cc
    by false b h there = absurd cc

    within : nat_lt place (place_count p) ≡ true → place < place_count p
    within h = grind (arith, nat_tests)

pub order-there : (p : Problem) (s : State) → NamesClients p (client_order p s).value
order-there p s =
    All-weaker (λ place. IsTrue (is_client_place p place)) (λ place. place < place_count p) (client-there p) (client_order p s).value (client_order-clients p s)
