-- What a plan costs with a client at a place.
use Rattle.std.proofs.Common.{◌≡◌, ◌∙◌, ℕ, zero, suc, ◌+◌, ◌<◌, ◌≤◌, true, List, [], ◌∷◌, length, get_or, insert, set, ap, arith, refl, sym}
use Rattle.std.specs.Prelude.{pos, ◌+ℤ◌, ◌-ℤ◌, sum_by}
use Rattle.std.specs.List.{list_all}
use Rattle.std.proofs.lemmas.Int.{ints}
use Rattle.std.proofs.lemmas.List.Sums.{AllPass-from_list_all, sum_by-cons}
use Rattle.std.proofs.lemmas.List.{get_or-set_same}
use Rattle.std.proofs.lemmas.Option.{unwrap_or-slice_get}
use Rattle.problem_data.specs.declared.problem.Problem.{Problem}
use Rattle.problem_data.specs.declared.visit.Visit.{Visit}
use Rattle.problem_data.specs.declared.visit.Visit.TheVariants.{Client, Reload}
use Rattle.problem_data.specs.Places.{client_at, vehicle_count}
use Rattle.routing_model.specs.declared.weights.Weights.{Weights}
use Rattle.routing_model.specs.Cost.{missed_prizes, route_cost, solution_cost}
use Rattle.routing_model.specs.Lawful.{names_place}
use Rattle.routing_model.specs.Listed.{type_of_vehicle}
use Rattle.routing_model.specs.Routes.{Routes, clients_of, list_at, visit_count}
use Rattle.genetic_model.proofs.RouteTotals.{visit_count-total}
use Rattle.genetic_model.proofs.SoundChildren.{IsSound}
use Rattle.penalty_cost.specs.inside.Totals.{vehicles_cost}
use Rattle.penalty_cost.proofs.CostChanges.{costs-changed}
use Rattle.penalty_cost.proofs.PrizeChanges.{missed-one}
use Rattle.trips.specs.RunSegments.{prizes_of}
use Rattle.least_insertions.specs.inside.Places.{with_client}

module _ (p : Problem) where
  abbrev prize : ℕ → ℕ
  prize c = (client_at p c).prize

  prizes-cons : (v : Visit) (visits : List Visit) → prizes_of p (v ∷ visits) ≡ prizes_of p (v ∷ []) + prizes_of p visits
  prizes-cons (Client d) visits =
      let a = sum_by-cons prize d (clients_of visits) in let b = sum_by-cons prize d [] in omega arith
  prizes-cons (Reload d) visits = let z : prizes_of p (Reload d ∷ []) ≡ 0 = refl in omega arith

  prizes-insert : (visits : List Visit) (i c : ℕ) → prizes_of p (insert visits i (Client c)) ≡ prizes_of p visits + prize c
  prizes-insert [] zero c = let a = sum_by-cons prize c [] in let z : sum_by prize [] ≡ 0 = refl in omega arith
  prizes-insert [] (suc i) c = let a = sum_by-cons prize c [] in let z : sum_by prize [] ≡ 0 = refl in omega arith
  prizes-insert (v ∷ visits) zero c =
      let a = prizes-cons (Client c) (v ∷ visits) in let b = sum_by-cons prize c [] in let z : sum_by prize [] ≡ 0 = refl in omega arith
  prizes-insert (v ∷ visits) (suc i) c =
      let a = prizes-cons v (insert visits i (Client c)) in
      let b = prizes-cons v visits in
      let e = prizes-insert visits i c in
      omega arith

  sound-once : (routes : Routes) → IsSound p routes → (d : ℕ) → visit_count routes d ≤ 1
  sound-once routes s d = let e = visit_count-total d routes in let l = s.once d in omega arith

  grown : (x z s n o : ℕ) → x + o + z ≡ s + n → (pos x +ℤ pos z) ≡ (pos s +ℤ (pos n -ℤ pos o))
  grown x z s n o e = omega (arith, ints)

  module _ (w : Weights) (routes : Routes) (c v i : ℕ) (sound : IsSound p routes) (inside : v < length routes) (made : IsSound p (with_client routes c v i)) where
    abbrev old : List Visit
    old = list_at routes v

    abbrev new : List Visit
    new = insert old i (Client c)

    is-old : get_or routes v [] ≡ old
    is-old = sym (unwrap_or-slice_get routes v [])

    named-old : list_all (names_place p) old ≡ true
    named-old = ap (list_all (names_place p)) (sym is-old) ∙ AllPass-from_list_all (list_all (names_place p)) routes sound.named v [] inside

    named-new : list_all (names_place p) new ≡ true
    named-new =
        ap (list_all (names_place p)) (sym (get_or-set_same routes v new [] inside))
        ∙ AllPass-from_list_all (list_all (names_place p)) (set routes v new) made.named v [] (let e = made.one_list_each in let k = sound.one_list_each in omega arith)

    -- by how much more it costs
    pub with-client-costs : (pos (solution_cost p w (with_client routes c v i)) +ℤ pos (client_at p c).prize)
        ≡ (pos (solution_cost p w routes) +ℤ (pos (route_cost p w (type_of_vehicle p v) new) -ℤ pos (route_cost p w (type_of_vehicle p v) old)))
    with-client-costs =
        let in_fleet : v < vehicle_count p = let k = sound.one_list_each in omega arith in
        let cost : vehicles_cost p w (set routes v new) + route_cost p w (type_of_vehicle p v) old ≡ vehicles_cost p w routes + route_cost p w (type_of_vehicle p v) new =
        costs-changed p w routes v old new in_fleet inside is-old in
        let missed : missed_prizes p (set routes v new) + prizes_of p new ≡ missed_prizes p routes + prizes_of p old =
        missed-one p routes (sound-once routes sound) v old new inside is-old named-old named-new (sound-once (set routes v new) made) in
        let prizes : prizes_of p new ≡ prizes_of p old + prize c = prizes-insert old i c in
        let after : solution_cost p w (with_client routes c v i) ≡ vehicles_cost p w (set routes v new) + missed_prizes p (set routes v new) = refl in
        let before : solution_cost p w routes ≡ vehicles_cost p w routes + missed_prizes p routes = refl in
        grown (solution_cost p w (with_client routes c v i)) (prize c) (solution_cost p w routes) (route_cost p w (type_of_vehicle p v) new) (route_cost p w (type_of_vehicle p v) old)
        (added (solution_cost p w (with_client routes c v i)) (solution_cost p w routes) _ _ _ _ _ _ _ _ (prize c) after before cost missed prizes)
      where
        added : (x s vx vs mx ms n o pn po z : ℕ) → x ≡ vx + mx → s ≡ vs + ms → vx + o ≡ vs + n → mx + pn ≡ ms + po → pn ≡ po + z → x + o + z ≡ s + n
        added x s vx vs mx ms n o pn po z a b cost missed prizes = omega arith
