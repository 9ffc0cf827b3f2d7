-- Going over the clients, one place after the other.
use Rattle.std.proofs.Common.{◌≡◌, ◌∙◌, ℕ, ◌+◌, ◌-◌, ◌<◌, ◌≤◌, ◌&&◌, true, [], ◌∷◌, fold, ap, arith, sym}
use Rattle.std.specs.Prelude.{nat_le, nat_lt}
use Rattle.std.specs.List.{range_with_len}
use Rattle.std.proofs.lemmas.Bool.Decides.{nat_tests}
use Rattle.std.proofs.lemmas.List.Sums.{fold-append}
use Rattle.problem_data.specs.declared.problem.Problem.{Problem}
use Rattle.problem_data.specs.Places.{depot_count, is_client_place, place_count}
use Rattle.routing_model.specs.Routes.{Routes}
use Rattle.route_rings.proofs.Counting.{range-next}

pub fold-next : (f : Routes → ℕ → Routes) (routes : Routes) (a place : ℕ) → a ≤ place → f (fold f routes (range_with_len a (place - a))) place ≡ fold f routes (range_with_len a (place + 1 - a))
fold-next f routes a place h =
    let more : place - a + 1 ≡ place + 1 - a = omega arith in
    sym (ap (λ (n : ℕ). fold f routes (range_with_len a n)) (sym more)
    ∙ (ap (fold f routes) (range-next a (place - a) place (omega arith)) ∙ fold-append f routes (range_with_len a (place - a)) (place ∷ [])))

pub client-place : (p : Problem) (place : ℕ) → depot_count p ≤ place → place < place_count p → is_client_place p place ≡ true
client-place p place h k = both (depot_count p) place (place_count p) h k
  where
    both : (a b c : ℕ) → a ≤ b → b < c → (nat_le a b && nat_lt b c) ≡ true
    both a b c h k = grind (arith, nat_tests)
