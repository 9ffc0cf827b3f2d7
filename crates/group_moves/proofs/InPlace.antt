-- Kind Replace, by the place of the other client.
use Rattle.std.proofs.Common.{◌≡◌, ◌≢◌, ℕ, ◌+◌, ◌-◌, ◌<◌, ◌≤◌, Bool, true, false, cond, List, [], ◌∷◌, length, get_or, set, refl, sym, ◌∙◌, ap, subst, arith, Option, Some, None, slice_range}
use Rattle.std.specs.Prelude.{nat_le, option_and_then}
use Rattle.std.proofs.lemmas.Bool.Decides.{nat_tests}
use Rattle.std.proofs.lemmas.List.Sums.{sum_by-cons, sum_by-set}
use Rattle.list_words.specs.Lists.{is_in}
use Rattle.problem_data.specs.declared.visit.Visit.{Visit}
use Rattle.problem_data.specs.declared.visit.Visit.TheVariants as visit
use Rattle.problem_data.specs.Places.{client_at, is_client_place, vehicle_count}
use Rattle.routing_model.specs.Routes.{Routes, is_visit_of, is_visited, list_at, visit_count}
use Rattle.routing_model.proofs.VisitCounts.{is_visited-count}
use Rattle.search_model.specs.declared.candidate.Candidate.TheVariants.{Node}
use Rattle.search_model.specs.declared.candidate.Target.TheVariants.{After}
use Rattle.search_model.specs.declared.kind.Kind.TheVariants as kind
use Rattle.search_model.specs.Clients.{replaced}
use Rattle.search_model.specs.Edits.{position_of, vehicle_of}
use Rattle.search_model.specs.Moves.{if_lawful}
use Rattle.search_model.proofs.ClientEdits.{apart-from, replace-moves, replaced-at, replaced-unvisited, replaced-visited}
use Rattle.search_model.proofs.ClientMoves.{MovesIf, client-named, serves_all}
use Rattle.search_model.proofs.ClientPlaces.{StandsAt, list-read, stands-at, times_in, vehicle-there}
use Rattle.search_model.proofs.Pieces.{slice-single}
use Rattle.search_model.proofs.RunMoves.{lawful-once, run-times, with_run}
use Rattle.search_model.proofs.TailMoves.{vehicle_of-at}
use Rattle.gain_model.specs.declared.part.Part.TheVariants.{Client}
use Rattle.gain_model.specs.CandidateVehicles.{both, listed}
use Rattle.gain_model.proofs.OperatorAnswers.{answer-none}
use Rattle.move_core.specs.Searches.{IsSound, SearchState}
use Rattle.new_lists.specs.Moves.{IsAnswerTo, IsVehicleOf}
use Rattle.new_lists.specs.NewLists.{list_of, list_with_part}
use Rattle.group_moves.specs.inside.Groups.{lets_stand_for}
use Rattle.group_moves.specs.inside.Lists.{MakesList}
use Rattle.group_moves.proofs.GroupSwaps.{serves-in-place}
use Rattle.group_moves.proofs.TestedMoves.{in-both, tested-makes, tested-none, unnamed-none}
use Rattle.group_moves.proofs.VisitedMembers.{position-some}

-- a client alone
own-once : (u : ℕ) → times_in u (visit.Client u ∷ []) ≡ 1
own-once u =
    sum_by-cons (λ x. cond (is_visit_of u x) 1 0) (visit.Client u) []
    ∙ (let e : is_visit_of u (visit.Client u) ≡ true = grind (arith, nat_tests) in ap (λ (b : Bool). cond b 1 0 + 0) e)

not-own : (c u : ℕ) → c ≢ u → times_in c (visit.Client u ∷ []) ≡ 0
not-own c u n =
    sum_by-cons (λ x. cond (is_visit_of c x) 1 0) (visit.Client u) []
    ∙ (let e : is_visit_of c (visit.Client u) ≡ false = grind (arith, nat_tests) in ap (λ (b : Bool). cond b 1 0 + 0) e)

is-some : (n : ℕ) → 1 ≤ n → nat_le 1 n ≡ true
is-some n h = grind (arith, nat_tests)

is-none : (n : ℕ) → n ≡ 0 → nat_le 1 n ≡ false
is-none n h = grind (arith, nat_tests)

none-counted : (n : ℕ) → nat_le 1 n ≡ false → n ≡ 0
none-counted n h = grind (arith, nat_tests)

some-counted : (n : ℕ) → nat_le 1 n ≡ true → 1 ≤ n
some-counted n h = grind (arith, nat_tests)

module _ (s : SearchState) (sound : IsSound s) (u : ℕ) where
  -- where it makes nothing
  nothing-made : (v : ℕ) → replaced s.routes u v ≡ None → IsAnswerTo s (Node kind.Replace u (After v)) None
  nothing-made v none = answer-none s.problem s.weights s.routes (Node kind.Replace u (After v)) (ap (option_and_then (if_lawful s.problem)) none)

  pub replace-visited : (v : ℕ) → is_visited s.routes u ≡ true → IsAnswerTo s (Node kind.Replace u (After v)) None
  replace-visited v visited = nothing-made v (replaced-visited s.routes u v visited)

  pub replace-unvisited : (v : ℕ) → is_visited s.routes v ≡ false → IsAnswerTo s (Node kind.Replace u (After v)) None
  replace-unvisited v none = nothing-made v (replaced-unvisited s.routes u v none)

  module _ (absent : is_visited s.routes u ≡ false) (v a place : ℕ) (in_a : a < vehicle_count s.problem) (at : position_of s.routes v ≡ Some (a, place)) (within : place ≤ length (list_at s.routes a)) where
    abbrev A : List Visit
    A = list_at s.routes a

    abbrev k : ℕ
    k = place - 1

    some : 1 ≤ place
    some = (stands-at s.routes v a place at).0

    stands : StandsAt s.routes v a (place - 1)
    stands = (stands-at s.routes v a place at).1

    next : place - 1 + 1 ≡ place
    next = let low = some in omega (arith, low)

    in_plan : a < length s.routes
    in_plan = vehicle-there s.routes v a (place - 1) stands

    pub other-client : is_client_place s.problem v ≡ true
    other-client = client-named s.problem s.routes sound.lawful v (position-some s sound v a place at)

    abbrev run_in : List Visit
    run_in = with_run (list_at s.routes a) (place - 1) (place - 1 + 1) (visit.Client u ∷ [])

    -- no client's place
    pub replace-unnamed : is_client_place s.problem u ≡ false → IsAnswerTo s (Node kind.Replace u (After v)) None
    replace-unnamed no_client =
        unnamed-none s sound (Node kind.Replace u (After v)) a (place - 1) (place - 1 + 1) u in_plan (omega arith) (let e = next in omega (arith, e, within)) no_client
        (replaced-at s.routes (lawful-once s.problem s.routes sound.lawful) a (place - 1) v stands u absent)

    -- who is visited then
    abbrev plan : Routes
    plan = set s.routes a run_in

    counts : (c : ℕ) → visit_count plan c + times_in c (visit.Client v ∷ []) ≡ visit_count s.routes c + times_in c (visit.Client u ∷ [])
    counts c =
        let sum = sum_by-set (times_in c) s.routes a run_in [] in_plan in
        let read : times_in c (list_at s.routes a) ≡ times_in c (get_or s.routes a []) = ap (times_in c) (list-read s.routes a) in
        let e = next in
        let part = run-times (list_at s.routes a) (place - 1) (place - 1 + 1) (visit.Client u ∷ []) (omega arith) (omega (arith, e, within)) c in
        let here : times_in c (slice_range (list_at s.routes a) (place - 1) (place - 1 + 1)) ≡ times_in c (visit.Client v ∷ []) = ap (times_in c) (slice-single (list_at s.routes a) (place - 1) (visit.Client v) stands) in
        omega (arith, sum, read, part, here)

    differ : u ≢ v
    differ = apart-from s.routes (lawful-once s.problem s.routes sound.lawful) a (place - 1) v stands u absent

    others : (c : ℕ) → c ≢ u → c ≢ v → is_visited plan c ≡ is_visited s.routes c
    others c n m =
        is_visited-count c plan
        ∙ ap (nat_le 1) (let e = counts c in let f = not-own c u n in let g = not-own c v m in let h : visit_count plan c ≡ visit_count s.routes c = omega (arith, e, f, g) in h)
        ∙ sym (is_visited-count c s.routes)

    u_in : is_visited plan u ≡ true
    u_in = is_visited-count u plan ∙ is-some (visit_count plan u) (let e = counts u in let f = own-once u in let g = not-own u v differ in omega (arith, e, f, g))

    v_in : is_visited plan v ≡ false
    v_in =
        is_visited-count v plan
        ∙ is-none (visit_count plan v)
        (let e = counts v in let f = own-once v in let g = not-own v u (λ h. differ (sym h)) in let once : visit_count s.routes v ≤ 1 = lawful-once s.problem s.routes sound.lawful v in omega (arith, e, f, g, once))

    module _ (there : is_client_place s.problem u ≡ true) where
      serves : serves_all s.problem plan ≡ lets_stand_for s.problem s.routes u v
      serves = serves-in-place s.problem sound.valid s.routes plan sound.lawful u v there other-client others u_in absent v_in (position-some s sound v a place at)

      moves : MovesIf s.problem s.weights s.routes (Node kind.Replace u (After v)) a (list_of s.routes (list_with_part a (place - 1) (Client u) place))
          (lets_stand_for s.problem s.routes u v) (client_at s.problem v).prize (client_at s.problem u).prize
      moves =
          subst (λ (m : ℕ). MovesIf s.problem s.weights s.routes (Node kind.Replace u (After v)) a (list_of s.routes (list_with_part a (place - 1) (Client u) m))
          (lets_stand_for s.problem s.routes u v) (client_at s.problem v).prize (client_at s.problem u).prize) next
          (subst (λ (t : Bool). MovesIf s.problem s.weights s.routes (Node kind.Replace u (After v)) a run_in t (client_at s.problem v).prize (client_at s.problem u).prize) serves
          (replace-moves s.problem s.weights s.routes (Node kind.Replace u (After v)) sound.lawful a (place - 1) v stands u there absent refl))

      own : IsVehicleOf s (Node kind.Replace u (After v)) a
      own =
          ap (λ (o : Option ℕ). is_in (both (listed (vehicle_of s.routes u)) (listed o)) a) (vehicle_of-at s.routes v a (place - 1) (lawful-once s.problem s.routes sound.lawful v) stands)
          ∙ in-both (vehicle_of s.routes u) a

      -- where it may stand for the other one, and where not
      pub replace-makes : lets_stand_for s.problem s.routes u v ≡ true → MakesList s (Node kind.Replace u (After v)) (list_with_part a (place - 1) (Client u) place)
      replace-makes free =
          tested-makes s sound (Node kind.Replace u (After v)) a (place - 1) (Client u) place (lets_stand_for s.problem s.routes u v) (client_at s.problem v).prize (client_at s.problem u).prize moves
          free in_a (omega (arith, within)) within there refl own

      pub replace-barred : lets_stand_for s.problem s.routes u v ≡ false → IsAnswerTo s (Node kind.Replace u (After v)) None
      replace-barred barred =
          tested-none s sound (Node kind.Replace u (After v)) a (place - 1) (Client u) place (lets_stand_for s.problem s.routes u v) (client_at s.problem v).prize (client_at s.problem u).prize moves barred
