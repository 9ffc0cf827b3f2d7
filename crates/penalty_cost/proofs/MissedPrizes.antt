-- The prizes that a plan misses.
use Rattle.std.proofs.Common.{◌≡◌, ℕ, suc, ◌+◌, true, add-one, ◌∙◌, ap, arith}
use Rattle.std.specs.Prelude.{All, sum_by}
use Rattle.std.specs.List.{range_with_len}
use Rattle.std.proofs.lemmas.List.Sums.{list_all-from_AllPass}
use Rattle.std.specs.List.{list_all}
use Rattle.problem_data.specs.declared.problem.Problem.{Problem}
use Rattle.problem_data.specs.declared.problem.Client.{Client}
use Rattle.problem_data.specs.Places.{client_at, client_places, depot_count}
use Rattle.routing_model.specs.Cost.{missed_prizes}
use Rattle.routing_model.specs.Lawful.{names_place, names_places}
use Rattle.routing_model.specs.Routes.{Routes}
use Rattle.routing_model.specs.Listed.{IsListed}
use Rattle.penalty_cost.specs.Plans.{IsDrivablePlan}
use Rattle.penalty_cost.specs.inside.VisitSums.{at_plan, prize_at}
use Rattle.penalty_cost.proofs.VisitSums.{missed-and_visited, range-more}

-- one client's prize more
pub prizes-more : (p : Problem) (count place prizes : ℕ) (client : Client) → place ≡ depot_count p + count → client ≡ client_at p place →
    prizes ≡ sum_by (prize_at p) (range_with_len (depot_count p) count) → prizes + client.prize ≡ sum_by (prize_at p) (range_with_len (depot_count p) (count + 1))
prizes-more p count place prizes client at is h =
    let more = range-more (prize_at p) (depot_count p) count in
    let prize : client.prize ≡ prize_at p (depot_count p + count) = ap (λ (c : Client). c.prize) is ∙ ap (prize_at p) at in
    let next : sum_by (prize_at p) (range_with_len (depot_count p) (count + 1)) ≡ sum_by (prize_at p) (range_with_len (depot_count p) (suc count))
    = ap (λ (n : ℕ). sum_by (prize_at p) (range_with_len (depot_count p) n)) (add-one count) in
    omega arith

pub plan-named : (p : Problem) (routes : Routes) → All (IsListed p) routes → names_places p routes ≡ true
plan-named p routes each = list_all-from_AllPass (list_all (names_place p)) routes (λ k d h. (each k d h).named)

pub prizes-split : (p : Problem) (routes : Routes) → IsDrivablePlan p routes → missed_prizes p routes + at_plan (prize_at p) routes ≡ sum_by (prize_at p) (client_places p)
prizes-split p routes plan = missed-and_visited p (prize_at p) routes (plan-named p routes plan.listed) plan.at_most_once
