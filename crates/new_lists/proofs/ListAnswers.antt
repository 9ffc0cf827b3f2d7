-- The answers to candidates, from what their new lists improve.
use Rattle.std.proofs.Common.{◌≡◌, ℕ, ◌≤◌, List, [], ◌∷◌, map, sym, ◌∙◌, ap, subst, arith, Option, Some, None, pos, ◌-ℤ◌, ◌≤ℤ◌}
use Rattle.std.specs.Prelude.{All}
use Rattle.std.proofs.lemmas.Int.{ints}
use Rattle.std.proofs.lemmas.List.Elements.{All-cons, All-head, All-nil, All-tail}
use Rattle.routing_model.specs.Cost.{solution_cost}
use Rattle.routing_model.specs.Routes.{Routes}
use Rattle.search_model.specs.declared.candidate.Candidate.{Candidate}
use Rattle.search_model.specs.Moves.{moved}
use Rattle.gain_model.specs.Gains.{GainSide, GainState, sides_of}
use Rattle.gain_model.proofs.OperatorAnswers.{answer-dear, answer-some}
use Rattle.move_core.specs.Searches.{SearchState}
use Rattle.new_lists.specs.declared.new_list.NewLists.{NewLists}
use Rattle.new_lists.specs.Improvements.{IsImprovement, IsImprovementTo}
use Rattle.new_lists.specs.Moves.{IsAnswerTo, IsVehicleOf, MakesLists}
use Rattle.new_lists.specs.NewLists.{plan_of, vehicles_in}

-- the sides of a gain are the candidate's vehicles
sides-own : (s : SearchState) (candidate : Candidate) (sides : List GainSide) → All (IsVehicleOf s candidate) (map (λ (side : GainSide). side.vehicle) sides) → All (λ (side : GainSide). IsVehicleOf s candidate side.vehicle) sides
sides-own s candidate [] all = All-nil (λ (side : GainSide). IsVehicleOf s candidate side.vehicle)
sides-own s candidate (side ∷ sides) all =
    All-cons (λ (side : GainSide). IsVehicleOf s candidate side.vehicle) side sides (All-head (IsVehicleOf s candidate) side.vehicle (map (λ (side : GainSide). side.vehicle) sides) all)
    (sides-own s candidate sides (All-tail (IsVehicleOf s candidate) side.vehicle (map (λ (side : GainSide). side.vehicle) sides) all))

-- what improving a candidate's plan finds
pub plan-answer : (s : SearchState) (candidate : Candidate) (plan : Routes) (vehicles : List ℕ) → moved s.problem s.weights s.routes candidate ≡ Some plan → All (IsVehicleOf s candidate) vehicles →
    (found : Option GainState) → IsImprovementTo s plan vehicles found → IsAnswerTo s candidate found
plan-answer s candidate plan vehicles makes own None dear =
    answer-dear s.problem s.weights s.routes candidate plan makes (no-fall (solution_cost s.problem s.weights plan) (solution_cost s.problem s.weights s.routes) dear)
  where
    no-fall : (m n : ℕ) → n ≤ m → pos 0 ≤ℤ (pos m -ℤ pos n)
    no-fall m n h = omega (arith, ints)
plan-answer s candidate plan vehicles makes own (Some gain) found =
    answer-some s.problem s.weights s.routes candidate gain found.within (makes ∙ ap (λ (routes : Routes). Some routes) (sym found.makes)) found.amount found.lowers
    (sides-own s candidate (sides_of gain) (subst (All (IsVehicleOf s candidate)) (sym found.sides) own))

-- and its new lists
pub lists-answer : (s : SearchState) (candidate : Candidate) (lists : NewLists) → MakesLists s candidate lists → (found : Option GainState) → IsImprovement s lists found → IsAnswerTo s candidate found
lists-answer s candidate lists is found improves = plan-answer s candidate (plan_of s.routes lists) (vehicles_in lists) is.makes is.own found improves
