-- The swap of the best pair of clients of two vehicles, by what the code looks up.
use Rattle.std.proofs.Common.{◌≡◌, ◌≢◌, ℕ, ◌+◌, ◌<◌, ◌≤◌, Bool, true, false, ◌&&◌, nat_lt, cond, not, List, [], ◌∷◌, length, set, refl, sym, ◌∙◌, ap, subst, arith, Some, None}
use Rattle.std.specs.Prelude.{All, filter, insert, option_and_then, option_map, slice_index}
use Rattle.std.proofs.lemmas.Bool.Decides.{nat_tests}
use Rattle.std.proofs.lemmas.List.{length-map}
use Rattle.std.proofs.lemmas.List.Elements.{All-cons, All-get_or, All-nil}
use Rattle.list_words.specs.Lists.{is_in}
use Rattle.problem_data.specs.declared.visit.Visit.{Visit}
use Rattle.problem_data.specs.declared.visit.Visit.TheVariants.{Client}
use Rattle.problem_data.specs.Limits.{most_visits}
use Rattle.problem_data.specs.Places.{is_client_place, vehicle_count}
use Rattle.routing_model.specs.Lawful.{IsLawful}
use Rattle.routing_model.specs.Listed.{IsListed, type_of_vehicle}
use Rattle.routing_model.specs.Load.{first_trip}
use Rattle.routing_model.specs.Routes.{list_at}
use Rattle.routing_model.specs.Tidy.{tidied}
use Rattle.routing_model.proofs.LawfulAgain.{HasNoMoreReloads}
use Rattle.routing_model.proofs.LawfulFacts.{lawful-facts}
use Rattle.search_model.specs.Edits.{visits_of}
use Rattle.search_model.specs.Moves.{if_lawful, made}
use Rattle.search_model.specs.RouteMoves.{are_two_vehicles, best_swap, is_one_trip, omitted, swapped_lists}
use Rattle.search_model.proofs.ClientPlaces.{list-read, times_in}
use Rattle.search_model.proofs.ExchangeMoves.{MovesTwo}
use Rattle.search_model.proofs.LawfulMoves.{amount-two, lawful-two, moved-two}
use Rattle.gain_model.specs.Growths.{StandAtMostOnce}
use Rattle.gain_model.proofs.KeptTable.{trip_stands_once}
use Rattle.gain_model.proofs.ListsOfPlans.{and-first, and-second, named_list}
use Rattle.gain_model.proofs.OperatorAnswers.{answer-none}
use Rattle.gain_model.proofs.TakenClients.{from_trip}
use Rattle.gain_model.proofs.TakenRoutes.{AreTwo, two_vehicles}
use Rattle.move_core.specs.Searches.{IsSound, SearchState}
use Rattle.new_lists.specs.Moves.{IsAnswerTo, IsVehicleOf, MakesLists}
use Rattle.new_lists.specs.NewLists.{list_of}
use Rattle.new_lists.proofs.MadeLists.{HasItsParts, makes-two}
use Rattle.list_changes.proofs.NodeVehicles.{in-first, in-second}
use Rattle.star_pairs.specs.declared.pair.Pair.{Pair}
use Rattle.star_pairs.specs.declared.pair.Turn.{Turn}
use Rattle.star_pairs.specs.BestPairs.{MakesBestSwap}
use Rattle.star_pairs.proofs.BestSwaps.{put-back-at}
use Rattle.star_pairs.proofs.SplitLists.{in-there}
use Rattle.route_moves.specs.inside.Stars.{IsStarPair, may_star, star_candidate, star_lists, turned_by, turned_list}
use Rattle.route_moves.proofs.ClientLists.{clients-reloads, clients-tidy, first-trip-whole, one-trip-clients, times-put}
use Rattle.route_moves.proofs.TurnedLists.{turned-list}

-- nothing where the vehicles may not swap clients
pub star-none : (s : SearchState) (i j : ℕ) → may_star s.problem s.routes i j ≡ false → IsAnswerTo s (star_candidate i j) None
star-none s i j refused =
    answer-none s.problem s.weights s.routes (star_candidate i j)
    (ap (λ (t : Bool). option_and_then (if_lawful s.problem) (cond t (option_map (swapped_lists s.routes i j)
    (best_swap s.problem (type_of_vehicle s.problem i) (first_trip (list_at s.routes i)) (type_of_vehicle s.problem j) (first_trip (list_at s.routes j)))) None)) refused)

-- the parts of a turn's new list are there
turned-there : (s : SearchState) (vehicle client : ℕ) (turn : Turn) → vehicle < vehicle_count s.problem → is_client_place s.problem client ≡ true →
    turn.goes < length (list_at s.routes vehicle) → turn.place < length (list_at s.routes vehicle) → HasItsParts s (turned_list vehicle client turn)
turned-there s vehicle client turn in_range there a b = by (nat_lt turn.place turn.goes) refl
  where
    by : (t : Bool) → nat_lt turn.place turn.goes ≡ t → HasItsParts s (turned_by t vehicle client turn)
    by true e =
        let low : turn.place < turn.goes = grind (arith, nat_tests) in
        record {
          in_range = in_range;
          left = omega (arith, b);
          right = omega (arith, a);
          one = there;
          two = record { in_range = in_range; in_order = omega (arith, low); in_list = omega (arith, a) };
          three = record { in_range = in_range; in_order = omega arith; in_list = omega arith };
        }
    by false e =
        let high : turn.goes ≤ turn.place = grind (arith, nat_tests) in
        record {
          in_range = in_range;
          left = omega (arith, a);
          right = omega (arith, b);
          one = record { in_range = in_range; in_order = omega (arith, high); in_list = omega (arith, b) };
          two = there;
          three = record { in_range = in_range; in_order = omega arith; in_list = omega arith };
        }

module _ (s : SearchState) (sound : IsSound s) (i j : ℕ) (may : may_star s.problem s.routes i j ≡ true) where
  abbrev A : List Visit
  A = list_at s.routes i

  abbrev B : List Visit
  B = list_at s.routes j

  two-trips : (are_two_vehicles s.problem i j && is_one_trip A) ≡ true
  two-trips = and-first (are_two_vehicles s.problem i j && is_one_trip A) (is_one_trip B) may

  pub first-trips : is_one_trip A ≡ true
  first-trips = and-second (are_two_vehicles s.problem i j) (is_one_trip A) two-trips

  pub second-trips : is_one_trip B ≡ true
  second-trips = and-second (are_two_vehicles s.problem i j && is_one_trip A) (is_one_trip B) may

  two : AreTwo s.routes i j
  two = two_vehicles s.problem s.routes i j sound.lawful (and-first (are_two_vehicles s.problem i j) (is_one_trip A) two-trips)

  pub first-in-range : i < vehicle_count s.problem
  first-in-range = let each = sound.one_list_each in let there = two.first in omega (arith, each, there)

  pub second-in-range : j < vehicle_count s.problem
  second-in-range = let each = sound.one_list_each in let there = two.second in omega (arith, each, there)

  pub apart : j ≢ i
  apart e = two.apart (sym e)

  abbrev us : List ℕ
  us = first_trip A

  abbrev vs : List ℕ
  vs = first_trip B

  pub whole-A : A ≡ visits_of us
  whole-A = sym (first-trip-whole A (one-trip-clients A first-trips))

  pub whole-B : B ≡ visits_of vs
  whole-B = sym (first-trip-whole B (one-trip-clients B second-trips))

  pub size-A : length A ≡ length us
  size-A = ap (λ (xs : List Visit). length xs) whole-A ∙ length-map us Client

  pub size-B : length B ≡ length vs
  size-B = ap (λ (xs : List Visit). length xs) whole-B ∙ length-map vs Client

  few : (v : ℕ) → v < length s.routes → length (list_at s.routes v) ≤ most_visits
  few v there =
      let most = (All-get_or (IsListed s.problem) s.routes v [] there sound.listed).few in
      let read = ap (λ (xs : List Visit). length xs) (list-read s.routes v) in
      omega (arith, most, read)

  once-A : StandAtMostOnce us
  once-A = trip_stands_once s.problem s.routes sound.lawful i first-trips

  once-B : StandAtMostOnce vs
  once-B = trip_stands_once s.problem s.routes sound.lawful j second-trips

  module _ (pair : Pair) (is : IsStarPair s i j pair) where
    pub best : MakesBestSwap s.problem i j us vs pair
    best = is.best us vs whole-A whole-B once-A once-B

    abbrev pub first : List ℕ
    first = insert (omitted pair.u us) pair.first.place pair.v

    abbrev pub second : List ℕ
    second = insert (omitted pair.v vs) pair.second.place pair.u

    -- its positions are those of lists
    pub first-few : (pair.first.goes < most_visits) × (pair.first.place < most_visits)
    first-few =
        let size = size-A in
        let most = few i two.first in
        let goes = best.first.there in
        let place = best.first.place in
        (omega (arith, size, most, goes), omega (arith, size, most, place))

    pub second-few : (pair.second.goes < most_visits) × (pair.second.place < most_visits)
    second-few =
        let size = size-B in
        let most = few j two.second in
        let goes = best.second.there in
        let place = best.second.place in
        (omega (arith, size, most, goes), omega (arith, size, most, place))

    makes : made s.problem s.weights s.routes (star_candidate i j) ≡ Some (set (set s.routes i (visits_of first)) j (visits_of second))
    makes =
        ap (λ (t : Bool). cond t (option_map (swapped_lists s.routes i j) (best_swap s.problem (type_of_vehicle s.problem i) us (type_of_vehicle s.problem j) vs)) None) may
        ∙ ap (option_map (swapped_lists s.routes i j)) best.swaps

    -- the clients stay
    put-back : (xs : List ℕ) → StandAtMostOnce xs → (k x : ℕ) → k < length xs → slice_index xs k ≡ x → insert (omitted x xs) k x ≡ xs
    put-back xs once k x there e = ap (λ (y : ℕ). insert (omitted y xs) k y) (sym e) ∙ put-back-at xs once k there

    clients : (c : ℕ) → times_in c (visits_of first) + times_in c (visits_of second) ≡ times_in c A + times_in c B
    clients c =
        let a = times-put c (omitted pair.u us) pair.first.place pair.v in
        let b = times-put c (omitted pair.v vs) pair.second.place pair.u in
        let d = times-put c (omitted pair.u us) pair.first.goes pair.u in
        let e = times-put c (omitted pair.v vs) pair.second.goes pair.v in
        let f : times_in c (visits_of (insert (omitted pair.u us) pair.first.goes pair.u)) ≡ times_in c A =
        ap (λ (xs : List ℕ). times_in c (visits_of xs)) (put-back us once-A pair.first.goes pair.u best.first.there best.first.client) ∙ ap (times_in c) (sym whole-A) in
        let g : times_in c (visits_of (insert (omitted pair.v vs) pair.second.goes pair.v)) ≡ times_in c B =
        ap (λ (xs : List ℕ). times_in c (visits_of xs)) (put-back vs once-B pair.second.goes pair.v best.second.there best.second.client) ∙ ap (times_in c) (sym whole-B) in
        omega (arith, a, b, d, e, f, g)

    fewer-first : HasNoMoreReloads (visits_of first) A
    fewer-first q = let none = clients-reloads q first in omega (arith, none)

    fewer-second : HasNoMoreReloads (visits_of second) B
    fewer-second q = let none = clients-reloads q second in omega (arith, none)

    pub star-moves : MovesTwo s.problem s.weights s.routes (star_candidate i j) i j (visits_of first) (visits_of second)
    star-moves =
        subst (λ (xs : List Visit). MovesTwo s.problem s.weights s.routes (star_candidate i j) i j xs (visits_of second)) (clients-tidy first)
        (subst (λ (ys : List Visit). MovesTwo s.problem s.weights s.routes (star_candidate i j) i j (tidied (visits_of first)) ys) (clients-tidy second) (record {
          makes = moved-two s.problem s.weights s.routes (star_candidate i j) sound.lawful i j (visits_of first) (visits_of second) two.first two.second apart makes clients fewer-first fewer-second;
          lawful = lawful-two s.problem s.weights s.routes (star_candidate i j) sound.lawful i j (visits_of first) (visits_of second) two.first two.second apart makes clients fewer-first fewer-second;
          amount = amount-two s.problem s.weights s.routes (star_candidate i j) sound.lawful i j (visits_of first) (visits_of second) two.first two.second apart makes clients fewer-first fewer-second;
        }))

    -- the new lists, by parts
    first-list : list_of s.routes (turned_list i pair.v pair.first) ≡ visits_of first
    first-list =
        turned-list s.routes i pair.v pair.first us whole-A once-A best.first.there best.first.place
        ∙ ap (λ (u : ℕ). visits_of (insert (omitted u us) pair.first.place pair.v)) best.first.client

    second-list : list_of s.routes (turned_list j pair.u pair.second) ≡ visits_of second
    second-list =
        turned-list s.routes j pair.u pair.second vs whole-B once-B best.second.there best.second.place
        ∙ ap (λ (v : ℕ). visits_of (insert (omitted v vs) pair.second.place pair.u)) best.second.client

    lists : MovesTwo s.problem s.weights s.routes (star_candidate i j) i j (list_of s.routes (turned_list i pair.v pair.first)) (list_of s.routes (turned_list j pair.u pair.second))
    lists =
        subst (λ (xs : List Visit). MovesTwo s.problem s.weights s.routes (star_candidate i j) i j xs (list_of s.routes (turned_list j pair.u pair.second))) (sym first-list)
        (subst (λ (ys : List Visit). MovesTwo s.problem s.weights s.routes (star_candidate i j) i j (visits_of first) ys) (sym second-list) star-moves)

    named : (vehicle client at : ℕ) → at < length (first_trip (list_at s.routes vehicle)) → slice_index (first_trip (list_at s.routes vehicle)) at ≡ client → is_client_place s.problem client ≡ true
    named vehicle client at there e =
        let facts : IsLawful s.problem s.routes = lawful-facts s.problem s.routes sound.lawful in
        named_list s.problem client s.routes vehicle facts.names_places
        (from_trip client (list_at s.routes vehicle) (subst (λ (c : ℕ). is_in (first_trip (list_at s.routes vehicle)) c ≡ true) e (in-there (first_trip (list_at s.routes vehicle)) at there)))

    first-there : HasItsParts s (turned_list i pair.v pair.first)
    first-there =
        let size = size-A in
        let goes = best.first.there in
        let place = best.first.place in
        turned-there s i pair.v pair.first first-in-range (named j pair.v pair.second.goes best.second.there best.second.client) (omega (arith, size, goes)) (omega (arith, size, place))

    second-there : HasItsParts s (turned_list j pair.u pair.second)
    second-there =
        let size = size-B in
        let goes = best.second.there in
        let place = best.second.place in
        turned-there s j pair.u pair.second second-in-range (named i pair.u pair.first.goes best.first.there best.first.client) (omega (arith, size, goes)) (omega (arith, size, place))

    own : All (IsVehicleOf s (star_candidate i j)) (i ∷ j ∷ [])
    own =
        All-cons (IsVehicleOf s (star_candidate i j)) i (j ∷ []) (in-first i (filter (λ v. not (is_in (i ∷ []) v)) (j ∷ [])))
        (All-cons (IsVehicleOf s (star_candidate i j)) j [] (in-second i j) (All-nil (IsVehicleOf s (star_candidate i j))))

    -- the candidate makes them
    pub star-makes : MakesLists s (star_candidate i j) (star_lists i j pair)
    star-makes =
        makes-two s sound (star_candidate i j) (turned_list i pair.v pair.first) (turned_list j pair.u pair.second) first-there second-there apart lists.makes lists.lawful own
