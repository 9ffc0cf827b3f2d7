-- The answers to the candidates that put a client behind another one with a reload beside it, from the best of the plans with each depot.
use Rattle.std.proofs.Common.{◌≡◌, ◌≢◌, ℕ, ◌-◌, ◌≤◌, Bool, true, false, cond, List, [], refl, ◌∙◌, ap, Option, None, Some, arith}
use Rattle.std.specs.Prelude.{◌&&◌, length, nat_eq, not, option_and_then, option_map, unwrap_or}
use Rattle.std.proofs.lemmas.Bool.Decides.{nat_tests}
use Rattle.std.proofs.lemmas.List.Elements.{All-nil, filter_passes}
use Rattle.list_words.specs.Order.{first_least}
use Rattle.routing_model.specs.Lawful.{IsLawful, is_lawful}
use Rattle.routing_model.specs.Listed.{type_of_vehicle}
use Rattle.routing_model.specs.Routes.{Routes, is_visited}
use Rattle.routing_model.proofs.LawfulFacts.{lawful-facts}
use Rattle.search_model.specs.declared.candidate.Target.TheVariants as target
use Rattle.search_model.specs.Edits.{substituted, vehicle_of}
use Rattle.search_model.specs.Moves.{if_lawful, made, moved}
use Rattle.search_model.specs.Reloads.{cheapest, depots_of, with_behind}
use Rattle.search_model.proofs.ClientPlaces.{visited-at}
use Rattle.search_model.proofs.LawfulMoves.{tidy-stays}
use Rattle.search_model.proofs.RunMoves.{lawful-once}
use Rattle.search_model.proofs.TailMoves.{vehicle_of-at}
use Rattle.gain_model.specs.Gains.{GainState, made as made_by}
use Rattle.gain_model.specs.MoveReads.{depots_at}
use Rattle.gain_model.proofs.OperatorAnswers.{answer-none}
use Rattle.move_core.specs.Searches.{IsSound, SearchState}
use Rattle.new_lists.specs.Moves.{IsAnswerTo, IsVehicleOf}
use Rattle.new_lists.proofs.ListAnswers.{plan-answer}
use Rattle.reload_puts.specs.declared.beside.Beside.{Beside}
use Rattle.reload_puts.specs.declared.beside.Beside.TheVariants.{After, Before}
use Rattle.reload_puts.specs.declared.seats.Seats.{Seats}
use Rattle.reload_puts.specs.Puts.{put_candidate, put_visits}
use Rattle.reload_puts.specs.Seats.{AreSeats, has_seats}
use Rattle.depot_moves.specs.inside.Gains.{IsBest, lawful_of, plan_cost, put_plans}
use Rattle.depot_moves.proofs.LeastPlans.{least-all}

other-number : (m n : ℕ) → m ≢ n → nat_eq m n ≡ false
other-number m n h = grind (arith, nat_tests)

-- what is made before it is tidied, by both clients' being there
put-made : (s : SearchState) (beside : Beside) (u v : ℕ) → made s.problem s.weights s.routes (put_candidate beside u v)
    ≡ cond (has_seats s u v) (cheapest s.problem s.weights (λ depot. substituted (with_behind u v (put_visits beside u depot)) s.routes) (depots_of s.problem (vehicle_of s.routes v))) None
put-made s Before u v = refl
put-made s After u v = refl

-- one isn't visited, or both are one
pub unseated-none : (s : SearchState) (beside : Beside) (u v : ℕ) → has_seats s u v ≡ false → IsAnswerTo s (put_candidate beside u v) None
unseated-none s beside u v none =
    answer-none s.problem s.weights s.routes (put_candidate beside u v)
    (ap (option_and_then (if_lawful s.problem))
    (put-made s beside u v
    ∙ ap (λ (b : Bool). cond b (cheapest s.problem s.weights (λ depot. substituted (with_behind u v (put_visits beside u depot)) s.routes) (depots_of s.problem (vehicle_of s.routes v))) None) none))

module _ (s : SearchState) (sound : IsSound s) (beside : Beside) (seats : Seats) (are : AreSeats s seats) where
  seated : has_seats s seats.client seats.neighbour ≡ true
  seated =
      ap (λ (a : Bool). a && is_visited s.routes seats.neighbour && not (nat_eq seats.client seats.neighbour))
      (visited-at s.routes seats.client seats.vehicle seats.position (lawful-once s.problem s.routes sound.lawful seats.client) are.at_client)
      ∙ ap (λ (b : Bool). true && b && not (nat_eq seats.client seats.neighbour))
      (visited-at s.routes seats.neighbour seats.other (seats.behind - 1) (lawful-once s.problem s.routes sound.lawful seats.neighbour) are.at_neighbour)
      ∙ ap (λ (c : Bool). true && true && not c) (other-number seats.client seats.neighbour are.differ)

  of-neighbour : vehicle_of s.routes seats.neighbour ≡ Some seats.other
  of-neighbour = vehicle_of-at s.routes seats.neighbour seats.other (seats.behind - 1) (lawful-once s.problem s.routes sound.lawful seats.neighbour) are.at_neighbour

  -- how many depots there are
  pub depots-there : depots_at s.problem s.routes (target.After seats.neighbour) ≡ length (type_of_vehicle s.problem seats.other).reload_depots
  depots-there = ap (λ (o : Option ℕ). unwrap_or (option_map (λ v. length (type_of_vehicle s.problem v).reload_depots) o) 0) of-neighbour

  abbrev plans : List Routes
  plans = put_plans s beside seats (type_of_vehicle s.problem seats.other).reload_depots

  cheapest-made : made s.problem s.weights s.routes (put_candidate beside seats.client seats.neighbour) ≡ first_least (plan_cost s) (lawful_of s plans)
  cheapest-made =
      put-made s beside seats.client seats.neighbour
      ∙ ap (λ (b : Bool). cond b (cheapest s.problem s.weights (λ depot. substituted (with_behind seats.client seats.neighbour (put_visits beside seats.client depot)) s.routes) (depots_of s.problem (vehicle_of s.routes seats.neighbour))) None) seated
      ∙ ap (λ (o : Option ℕ). cheapest s.problem s.weights (λ depot. substituted (with_behind seats.client seats.neighbour (put_visits beside seats.client depot)) s.routes) (depots_of s.problem o))
      of-neighbour

  -- the candidate makes the first lawful plan of least cost
  least-moved : (plan : Routes) → first_least (plan_cost s) (lawful_of s plans) ≡ Some plan → is_lawful s.problem plan ≡ true → moved s.problem s.weights s.routes (put_candidate beside seats.client seats.neighbour) ≡ Some plan
  least-moved plan least lawful =
      let facts : IsLawful s.problem plan = lawful-facts s.problem plan lawful in
      ap (option_and_then (if_lawful s.problem)) (cheapest-made ∙ least)
      ∙ ap (λ (rs : Routes). cond (is_lawful s.problem rs) (Some rs) None) (tidy-stays plan facts.tidy)
      ∙ ap (λ (b : Bool). cond b (Some plan) None) lawful

  pub best-answer : (found : Option GainState) → IsBest s (put_candidate beside seats.client seats.neighbour) (put_plans s beside seats (type_of_vehicle s.problem seats.other).reload_depots) found →
      IsAnswerTo s (put_candidate beside seats.client seats.neighbour) found
  best-answer None dear = by (first_least (plan_cost s) (lawful_of s plans)) refl
    where
      by : (o : Option Routes) → first_least (plan_cost s) (lawful_of s plans) ≡ o → IsAnswerTo s (put_candidate beside seats.client seats.neighbour) None
      by None e = answer-none s.problem s.weights s.routes (put_candidate beside seats.client seats.neighbour) (ap (option_and_then (if_lawful s.problem)) (cheapest-made ∙ e))
      by (Some plan) e =
          let lawful : is_lawful s.problem plan ≡ true = least-all (plan_cost s) (λ rs. is_lawful s.problem rs ≡ true) (lawful_of s plans) plan e (filter_passes (is_lawful s.problem) plans) in
          plan-answer s (put_candidate beside seats.client seats.neighbour) plan [] (least-moved plan e lawful) (All-nil (IsVehicleOf s (put_candidate beside seats.client seats.neighbour))) None
          (least-all (plan_cost s) (λ rs. plan_cost s s.routes ≤ plan_cost s rs) (lawful_of s plans) plan e dear)
  best-answer (Some gain) best =
      plan-answer s (put_candidate beside seats.client seats.neighbour) (made_by gain s.routes) best.gains.vehicles (least-moved (made_by gain s.routes) best.least best.gains.lawful) best.gains.own (Some gain) best.gains.gains
