-- The new routes of a gain in their vehicles' places.
use Rattle.std.proofs.Common.{◌≡◌, ℕ, ◌<◌, List, length, get_or, set, refl, sym, ◌∙◌, ap, arith, subst, Option, Some, None, IfSome}
use Rattle.std.specs.Prelude.{option_map}
use Rattle.std.proofs.lemmas.Grind.{common_steps}
use Rattle.std.proofs.lemmas.List.{length-map, map-set}
use Rattle.std.proofs.Math.ListN.{length-set}
use Rattle.problem_data.specs.declared.problem.Problem.{Problem}
use Rattle.problem_data.specs.declared.visit.Visit.{Visit}
use Rattle.routing_model.specs.Routes.{Routes}
use Rattle.gain_model.specs.Gains.{GainSide, GainState, IsSideWithin, IsWithin, made, side_visits}
use Rattle.route_cache.specs.Routes.{RouteState}
use Rattle.move_core.specs.inside.Applying.{AreMadeRoutes, side_route}
use Rattle.plan_tables.specs.Routes.{AreRoutes, lists_of, placed}
use Rattle.move_core.proofs.MadeRoutes.{made-is, made_with, second-within}

abbrev visits_in : RouteState → List Visit
visits_in state = state.visits

module _ (p : Problem) (states : List RouteState) where
  abbrev lists : Routes
  lists = lists_of states

  placed_by : (first : GainSide) (second : Option GainSide) →
      lists_of (placed (option_map (side_route p lists) second) (placed (Some (side_route p lists first)) states)) ≡ made_with lists first second
  placed_by first None = map-set visits_in states first.vehicle (side_route p lists first)
  placed_by first (Some second) =
      map-set visits_in (set states first.vehicle (side_route p lists first)) second.vehicle (side_route p lists second)
      ∙ ap (λ (T : Routes). set T second.vehicle (side_visits lists second)) (map-set visits_in states first.vehicle (side_route p lists first))

  module _ (gain : GainState) (route : RouteState) (other : Option RouteState) (are : AreMadeRoutes p lists gain route other) where
    -- they have the lists that the gain makes
    pub placed-lists : lists_of (placed other (placed (Some route) states)) ≡ made gain lists
    placed-lists =
        ap (λ (o : Option RouteState). lists_of (placed o (placed (Some route) states))) are.is_other
        ∙ ap (λ (r : RouteState). lists_of (placed (option_map (side_route p lists) gain.second) (placed (Some r) states))) are.is_route
        ∙ placed_by gain.first gain.second
        ∙ sym (made-is lists gain)

    -- the second one's vehicle is there
    pub other-inside : IsWithin gain lists → IfSome other (λ state. state.vehicle < length states)
    other-inside within =
        subst (λ (o : Option RouteState). IfSome o (λ state. state.vehicle < length states)) (sym are.is_other) (by gain.second (second-within lists gain within))
      where
        by : (second : Option GainSide) → IfSome second (IsSideWithin lists) → IfSome (option_map (side_route p lists) second) (λ state. state.vehicle < length states)
        by None s = tt
        by (Some side) s = omega (arith, length-map states visits_in, s.vehicle_there)

    -- each is of the problem and of its vehicle
    pub made-routes : AreRoutes p states → AreRoutes p (placed other (placed (Some route) states))
    made-routes routes =
        still (placed (Some route) states) other (subst (λ (o : Option RouteState). IfSome o (λ state. state.problem ≡ p)) (sym are.is_other) (by gain.second))
        (still states (Some route) (ap (λ (state : RouteState). state.problem) are.is_route) routes)
      where
        by : (second : Option GainSide) → IfSome (option_map (side_route p lists) second) (λ state. state.problem ≡ p)
        by None = tt
        by (Some side) = refl

        still : (before : List RouteState) (new : Option RouteState) → IfSome new (λ state. state.problem ≡ p) → AreRoutes p before → AreRoutes p (placed new before)
        still before None is r = r
        still before (Some state) is r = record {
          problems = λ k none h. at_problem k none (omega (arith, length-set before state.vehicle state, h));
          vehicles = λ k none h. at_vehicle k none (omega (arith, length-set before state.vehicle state, h));
        }
          where
            at_problem : (k : ℕ) (none : RouteState) → k < length before → (get_or (set before state.vehicle state) k none).problem ≡ p
            at_problem k none h = grind (arith, common_steps, r.problems k none h)

            at_vehicle : (k : ℕ) (none : RouteState) → k < length before → (get_or (set before state.vehicle state) k none).vehicle ≡ k
            at_vehicle k none h = grind (arith, common_steps, r.vehicles k none h)
