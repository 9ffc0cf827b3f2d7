-- One descent in a random order, from what the descent of a search gives.
use Rattle.std.proofs.Common.{◌≡◌, ◌+◌, ℕ, List, [], ◌∷◌, arith, subst}
use Rattle.std.specs.Prelude.{slice_index, slice_index_or}
use Rattle.problem_data.specs.declared.problem.Problem.{Problem}
use Rattle.vrp_num.specs.Words.{State}
use Rattle.routing_model.specs.declared.weights.Weights.{Weights}
use Rattle.routing_model.specs.Routes.{Routes}
use Rattle.search_model.specs.Candidates.{candidates}
use Rattle.search_model.specs.Kinds.{all_kinds}
use Rattle.search_model.specs.Search.{moves_of_kind, route_moves}
use Rattle.random_model.specs.Draws.{client_order}
use Rattle.genetic_model.specs.declared.params.NeighbourhoodParams.{NeighbourhoodParams}
use Rattle.genetic_model.specs.RandomDescent.{Start, candidates_of, near_lists, random_descent}
use Rattle.move_core.specs.Searches.{SearchState}
use Rattle.move_core.specs.declared.tally.Tally.{Tally}
use Rattle.local_search.specs.Counts.{RoseBy, all_applied}
use Rattle.local_search.specs.Descents.{Descends}
use Rattle.random_descents.specs.Rises.{RoseOver}

module _ (p : Problem) (near : NeighbourhoodParams) (w : Weights) (plan : Routes) (s : State) where
  start : Start
  start = (random_descent p near w plan s).start

  -- the counts of a descent from its start
  rises-of : (after : Routes) (old new : List Tally) (tally : Tally) → Descends p w all_kinds (candidates_of p near start) plan after old new tally → RoseOver p near (start ∷ []) old new
  unfolding start
  rises-of after old new tally d = record {
    asked = d.asked;
    least = omega (arith, d.least);
    most = omega (arith, d.most);
    rose = d.rose;
    applied = λ k kind l. subst (λ n. RoseBy n (slice_index (all_applied old) k) (slice_index (all_applied new) k)) (one (moves_of_kind (slice_index_or all_kinds k kind) (route_moves p w (candidates_of p near start) plan))) (d.applied k kind l);
  }
    where
      one : (n : ℕ) → n ≡ 0 + n
      one n = omega arith

  module _ (before : SearchState) (lists : List (List ℕ)) (order : List ℕ) (begun : before ≡ record { problem = p; weights = w; routes = plan }) (found : lists ≡ near_lists p near) (drawn : order ≡ (client_order p s).value)
      (after : Routes) (old new : List Tally) (tally : Tally) where
    descends-from : Descends before.problem before.weights all_kinds (candidates before.problem lists order) before.routes after old new tally → Descends p w all_kinds (candidates_of p near start) plan after old new tally
    unfolding start
    descends-from d =
        subst (λ (xs : List ℕ). Descends p w all_kinds (candidates p (near_lists p near) xs) plan after old new tally) drawn
        (subst (λ (ls : List (List ℕ)). Descends p w all_kinds (candidates p ls order) plan after old new tally) found
        (subst (λ (b : SearchState). Descends b.problem b.weights all_kinds (candidates b.problem lists order) b.routes after old new tally) begun d))

    -- where it ends
    pub ends : Descends before.problem before.weights all_kinds (candidates before.problem lists order) before.routes after old new tally → after ≡ (random_descent p near w plan s).routes
    unfolding start
    ends d = (descends-from d).routes

    -- and what is counted
    pub rises : Descends before.problem before.weights all_kinds (candidates before.problem lists order) before.routes after old new tally → RoseOver p near ((random_descent p near w plan s).start ∷ []) old new
    unfolding start
    rises d = rises-of after old new tally (descends-from d)
