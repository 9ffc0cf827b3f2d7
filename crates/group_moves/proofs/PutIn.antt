-- Kind Insert, by the place that the target names.
use Rattle.std.proofs.Common.{◌≡◌, ℕ, ◌+◌, ◌-◌, ◌<◌, ◌≤◌, true, false, List, [], ◌∷◌, length, set, refl, sym, ◌∙◌, ap, subst, arith, Option, Some, None, take, drop, slice_range}
use Rattle.std.specs.Prelude.{option_and_then}
use Rattle.std.proofs.lemmas.Option.{slice_get_within}
use Rattle.problem_data.specs.declared.visit.Visit.{Visit}
use Rattle.problem_data.specs.declared.visit.Visit.TheVariants as visit
use Rattle.problem_data.specs.Places.{client_at, is_client_place}
use Rattle.routing_model.specs.Routes.{is_used, is_visited, list_at}
use Rattle.routing_model.specs.Tidy.{is_tidy}
use Rattle.routing_model.proofs.GroupChanges.{lets_in}
use Rattle.routing_model.proofs.TidyJoints.{tidy-somewhere, unused-last}
use Rattle.search_model.specs.declared.candidate.Candidate.{Candidate}
use Rattle.search_model.specs.declared.candidate.Candidate.TheVariants.{Node}
use Rattle.search_model.specs.declared.candidate.Target.{Target}
use Rattle.search_model.specs.declared.candidate.Target.TheVariants.{After, Empty, StartOf}
use Rattle.search_model.specs.declared.kind.Kind.TheVariants as kind
use Rattle.search_model.specs.Clients.{inserted}
use Rattle.search_model.specs.Edits.{vehicle_of}
use Rattle.search_model.specs.Moves.{if_lawful}
use Rattle.search_model.proofs.ClientEdits.{inserted-behind, inserted-front, inserted-front-none, inserted-unused, inserted-unused-none, inserted-unvisited, inserted-visited}
use Rattle.search_model.proofs.ClientMoves.{MovesIf, put-in-tested, tidy-a}
use Rattle.search_model.proofs.ClientPlaces.{list-read, times_in}
use Rattle.search_model.proofs.ExchangeMoves.{unused-found}
use Rattle.search_model.proofs.RunMoves.{lawful-once, with_run}
use Rattle.gain_model.specs.declared.part.Part.TheVariants.{Client}
use Rattle.gain_model.specs.CandidateVehicles.{both, listed}
use Rattle.gain_model.proofs.OperatorAnswers.{answer-none}
use Rattle.list_words.specs.Lists.{is_in}
use Rattle.move_core.specs.Searches.{IsSound, SearchState}
use Rattle.new_lists.specs.Moves.{IsAnswerTo, IsVehicleOf}
use Rattle.new_lists.specs.NewLists.{list_of, list_with_part}
use Rattle.list_changes.specs.declared.aim.Aim.{Aim}
use Rattle.list_changes.specs.Aims.{IsAim, IsNoAim}
use Rattle.list_changes.proofs.NodeVehicles.{aim-vehicle}
use Rattle.group_moves.specs.inside.Lists.{MakesList}
use Rattle.group_moves.proofs.TestedMoves.{in-both, tested-makes, tested-none, unnamed-none}

module _ (s : SearchState) (sound : IsSound s) (u : ℕ) where
  abbrev insertion : Target → Candidate
  insertion target = Node kind.Insert u target

  -- where it makes nothing
  nothing-made : (target : Target) → inserted s.problem s.routes u target ≡ None → IsAnswerTo s (Node kind.Insert u target) None
  nothing-made target none = answer-none s.problem s.weights s.routes (Node kind.Insert u target) (ap (option_and_then (if_lawful s.problem)) none)

  pub insert-visited : (target : Target) → is_visited s.routes u ≡ true → IsAnswerTo s (Node kind.Insert u target) None
  insert-visited target visited = nothing-made target (inserted-visited s.problem s.routes u target visited)

  module _ (absent : is_visited s.routes u ≡ false) where
    pub insert-nowhere : (target : Target) → IsNoAim s target → IsAnswerTo s (Node kind.Insert u target) None
    insert-nowhere (After v) none = nothing-made (After v) (inserted-unvisited s.problem s.routes u absent v none)
    insert-nowhere (StartOf v) none = nothing-made (StartOf v) (inserted-front-none s.problem s.routes u absent v none)
    insert-nowhere (Empty type) none = nothing-made (Empty type) (inserted-unused-none s.problem s.routes u absent type none)

    abbrev with_client : Aim → List Visit
    with_client aim = with_run (list_at s.routes aim.vehicle) aim.place aim.place (visit.Client u ∷ [])

    in_plan : (target : Target) (aim : Aim) → IsAim s target aim → aim.vehicle < length s.routes
    in_plan target aim at = let each = sound.one_list_each in let there = at.in_range in omega (arith, each, there)

    -- the plan with the client at the place
    inserted-at : (target : Target) (aim : Aim) → IsAim s target aim → inserted s.problem s.routes u target ≡ Some (set s.routes aim.vehicle (with_client aim))
    inserted-at (After v) aim at =
        let low = at.names.some in
        let next : aim.place - 1 + 1 ≡ aim.place = omega (arith, low) in
        subst (λ (x : ℕ). inserted s.problem s.routes u (After v) ≡ Some (set s.routes aim.vehicle (with_run (list_at s.routes aim.vehicle) x x (visit.Client u ∷ [])))) next
        (inserted-behind s.routes (lawful-once s.problem s.routes sound.lawful) aim.vehicle (aim.place - 1) v at.names.stands u absent s.problem)
    inserted-at (StartOf v) aim at =
        subst (λ (x : ℕ). inserted s.problem s.routes u (StartOf v) ≡ Some (set s.routes aim.vehicle (with_run (list_at s.routes aim.vehicle) x x (visit.Client u ∷ [])))) (sym at.names.front)
        (inserted-front s.routes (lawful-once s.problem s.routes sound.lawful) aim.vehicle 0 v at.names.stands u absent s.problem refl)
    inserted-at (Empty type) aim at =
        let free = unused-found s.problem s.routes type aim.vehicle at.names.found in
        let tidy : is_tidy (list_at s.routes aim.vehicle) ≡ true =
        tidy-a s.problem s.weights s.routes (Node kind.Insert u (Empty type)) sound.lawful aim.vehicle 0 0 u free.0 (omega arith) (omega arith) in
        let list : list_at s.routes aim.vehicle ≡ [] =
        unused-last (list_at s.routes aim.vehicle) (tidy-somewhere false (list_at s.routes aim.vehicle) tidy) (ap is_used (list-read s.routes aim.vehicle) ∙ free.1) in
        subst (λ (x : ℕ). inserted s.problem s.routes u (Empty type) ≡ Some (set s.routes aim.vehicle (with_run (list_at s.routes aim.vehicle) x x (visit.Client u ∷ [])))) (sym at.names.front)
        (inserted-unused s.problem s.routes u absent type aim.vehicle at.names.found
        ∙ ap (λ (xs : List Visit). Some (set s.routes aim.vehicle (with_run xs 0 0 (visit.Client u ∷ [])))) (sym list))

    place-inside : (target : Target) (aim : Aim) → IsAim s target aim → aim.place ≤ length (list_at s.routes aim.vehicle)
    place-inside (After v) aim at =
        let low = at.names.some in
        let here : aim.place - 1 < length (list_at s.routes aim.vehicle) = slice_get_within (list_at s.routes aim.vehicle) (aim.place - 1) (visit.Client v) at.names.stands in
        omega (arith, low, here)
    place-inside (StartOf v) aim at = let front = at.names.front in omega (arith, front)
    place-inside (Empty type) aim at = let front = at.names.front in omega (arith, front)

    no-times : (c : ℕ) (visits : List Visit) (x : ℕ) → times_in c (slice_range visits x x) ≡ 0
    no-times c visits x = let e : x - x ≡ 0 = omega arith in ap (λ (n : ℕ). times_in c (take n (drop x visits))) e

    -- no client's place
    pub insert-unnamed : (target : Target) (aim : Aim) → IsAim s target aim → is_client_place s.problem u ≡ false → IsAnswerTo s (Node kind.Insert u target) None
    insert-unnamed target aim at no_client =
        unnamed-none s sound (Node kind.Insert u target) aim.vehicle aim.place aim.place u (in_plan target aim at) (omega arith) (place-inside target aim at) no_client (inserted-at target aim at)

    module _ (there : is_client_place s.problem u ≡ true) (target : Target) (aim : Aim) (at : IsAim s target aim) where
      moves : MovesIf s.problem s.weights s.routes (Node kind.Insert u target) aim.vehicle (list_of s.routes (list_with_part aim.vehicle aim.place (Client u) aim.place))
          (lets_in s.problem s.routes (client_at s.problem u).group) 0 (client_at s.problem u).prize
      moves =
          put-in-tested s.problem s.weights s.routes (Node kind.Insert u target) sound.lawful aim.vehicle aim.place aim.place u (in_plan target aim at) (omega arith) (place-inside target aim at) there absent
          (λ c. no-times c (list_at s.routes aim.vehicle) aim.place) (inserted-at target aim at) sound.valid

      own : IsVehicleOf s (Node kind.Insert u target) aim.vehicle
      own =
          ap (λ (o : Option ℕ). is_in (both (listed (vehicle_of s.routes u)) (listed o)) aim.vehicle) (aim-vehicle s sound target aim at)
          ∙ in-both (vehicle_of s.routes u) aim.vehicle

      -- where no member of its group is visited, and where one is
      pub insert-makes : lets_in s.problem s.routes (client_at s.problem u).group ≡ true → MakesList s (Node kind.Insert u target) (list_with_part aim.vehicle aim.place (Client u) aim.place)
      insert-makes free =
          tested-makes s sound (Node kind.Insert u target) aim.vehicle aim.place (Client u) aim.place (lets_in s.problem s.routes (client_at s.problem u).group) 0 (client_at s.problem u).prize moves
          free at.in_range (place-inside target aim at) (place-inside target aim at) there refl own

      pub insert-barred : lets_in s.problem s.routes (client_at s.problem u).group ≡ false → IsAnswerTo s (Node kind.Insert u target) None
      insert-barred taken =
          tested-none s sound (Node kind.Insert u target) aim.vehicle aim.place (Client u) aim.place (lets_in s.problem s.routes (client_at s.problem u).group) 0 (client_at s.problem u).prize moves taken
