-- The exchange of two lawful plans of a valid problem is lawful.
use Rattle.std.proofs.Common.{◌≡◌, ◌∙◌, sym, refl, ap, ap₂, ℕ, zero, suc, ◌+◌, ◌%◌, ◌≤◌, ◌<◌, ◌==◌, ◌&&◌, ◌||◌, ⊎_elim, not, Bool, true, false, cond, List, [], ◌∷◌, length, get_or, map, min, count_by, zip, Contains, Option, Some, IsTrue, arith}
use Rattle.std.specs.List.{list_all, list_any}
use Rattle.std.specs.Prelude.{nat_le, nat_lt}
use Rattle.std.proofs.Math.Nat.{mod-lt}
use Rattle.std.proofs.lemmas.Bool.{and_parts, and_from, both_ways, eq-eqb, le-leb, leb-true, cases_lt}
use Rattle.std.proofs.lemmas.Bool.Decides.{nat_tests}
use Rattle.std.proofs.lemmas.List.Elements.{All-from_get_or, All-get_or}
use Rattle.std.proofs.lemmas.List.Sums.{AllPass-from_list_all, list_all-from_AllPass}
use Rattle.std.proofs.lemmas.Option.{unwrap_or-slice_get}
use Rattle.list_words.specs.Lists.{places_of}
use Rattle.problem_data.specs.declared.problem.Problem.{Problem}
use Rattle.problem_data.specs.declared.problem.VehicleType.{VehicleType}
use Rattle.problem_data.specs.declared.visit.Visit.{Visit}
use Rattle.problem_data.specs.Places.{client_at, client_places, fleet, group_at, is_client_place, type_at, type_of, types_of_vehicles, vehicle_count}
use Rattle.problem_data.specs.Valid.{IsValid, IsValidGroup}
use Rattle.vrp_num.specs.Words.{State, next_word}
use Rattle.routing_model.specs.declared.weights.Weights.{Weights}
use Rattle.routing_model.specs.Cost.{solution_cost}
use Rattle.routing_model.specs.Lawful.{is_lawful, is_required, is_required_group, reloads_as_allowed, serves_group, IsLawful}
use Rattle.routing_model.specs.Routes.{Routes, is_used, is_visited, list_at, used_numbers, visit_count}
use Rattle.routing_model.proofs.LawfulFacts.{facts-lawful, lawful-facts}
use Rattle.random_model.proofs.Dealing.{vehicles_some}
use Rattle.random_model.proofs.DrawnClients.{is_of_group}
use Rattle.random_model.proofs.GroupMembers.{count_same, count_some, member-client, member-of_group, members-few, valid_group}
use Rattle.random_model.proofs.RandomOrders.{client_places-clients}
use Rattle.genetic_model.specs.Insertion.{completed, is_missing, leads_unserved}
use Rattle.genetic_model.specs.RouteChildren.{Exchange, first_child, second_child}
use Rattle.genetic_model.specs.RouteExchange.{better_child, child_by_draws, child_of_exchange, exchange, exchange_from, selection_difference}
use Rattle.genetic_model.specs.RouteOrder.{route_order, route_vector, turns_before}
use Rattle.genetic_model.specs.declared.starts.Starts.{Starts}
use Rattle.genetic_model.specs.RouteSelection.{settled}
use Rattle.genetic_model.proofs.ListSums.{length-around, sum-around, sum-filter-le, sum-sorted}
use Rattle.genetic_model.proofs.RouteTotals.{all_clients, passes-client, total-count, total-group, total-once, visit_count-total, visited-any}
use Rattle.genetic_model.proofs.SoundChildren.{IsExchange, IsSound, first-sound, second-sound}
use Rattle.genetic_model.proofs.SoundInsertion.{fold-completion}

-- a test of each vehicle's type and list
module _ (test : VehicleType × List Visit → Bool) where
  zip-at : (types : List VehicleType) (routes : Routes) (v : ℕ) (t : VehicleType) → list_all test (zip types routes) ≡ true →
      v < length types → v < length routes → test (get_or types v t, get_or routes v []) ≡ true
  zip-at [] routes v t h l k = absurd (omega arith)
  zip-at (x ∷ types) [] v t h l k = absurd (omega arith)
  zip-at (x ∷ types) (r ∷ routes) zero t h l k = (and_parts (test (x, r)) (list_all test (zip types routes)) h).0
  zip-at (x ∷ types) (r ∷ routes) (suc v) t h l k = zip-at types routes v t (and_parts (test (x, r)) (list_all test (zip types routes)) h).1 (omega arith) (omega arith)

  zip-all : (types : List VehicleType) (routes : Routes) (t : VehicleType) →
      ((v : ℕ) → v < length types → v < length routes → test (get_or types v t, get_or routes v []) ≡ true) → list_all test (zip types routes) ≡ true
  zip-all [] routes t h = refl
  zip-all (x ∷ types) [] t h = refl
  zip-all (x ∷ types) (r ∷ routes) t h =
      and_from (test (x, r)) (list_all test (zip types routes)) (h 0 (omega arith) (omega arith)) (zip-all types routes t (λ v l k. h (suc v) (omega arith) (omega arith)))

mapped-at : (g : ℕ → VehicleType) (ns : List ℕ) (v : ℕ) → get_or (map g ns) v (g 0) ≡ g (get_or ns v 0)
mapped-at g [] v = refl
mapped-at g (n ∷ ns) zero = refl
mapped-at g (n ∷ ns) (suc v) = mapped-at g ns v

mapped-length : (g : ℕ → VehicleType) (ns : List ℕ) → length (map g ns) ≡ length ns
mapped-length g [] = refl
mapped-length g (n ∷ ns) = ap suc (mapped-length g ns)

fleet-at : (p : Problem) (v : ℕ) → get_or (fleet p) v (type_at p 0) ≡ type_at p (type_of p v)
fleet-at p v = mapped-at (type_at p) (types_of_vehicles p) v

fleet-length : (p : Problem) → length (fleet p) ≡ vehicle_count p
fleet-length p = mapped-length (type_at p) (types_of_vehicles p)

abbrev allowed_pair : VehicleType × List Visit → Bool
allowed_pair v = reloads_as_allowed v.0 v.1

-- a lawful plan
pub lawful-sound : (p : Problem) (routes : Routes) → IsValid p → IsLawful p routes → IsSound p routes
lawful-sound p routes valid lawful = record {
  one_list_each = lawful.one_list_each;
  named = lawful.names_places;
  once = total-once p routes lawful.names_places lawful.visits_at_most_once;
  one = λ group there. total-group p routes lawful.names_places lawful.visits_at_most_once valid group there
      (ap (serves_group p routes) (unwrap_or-slice_get p.groups group [])
      ∙ All-get_or (λ members. serves_group p routes members ≡ true) p.groups group [] there (AllPass-from_list_all (serves_group p routes) p.groups lawful.serves_groups));
  tidy = lawful.tidy;
  allowed = λ v below.
      let long = fleet-length p in
      let each = lawful.one_list_each in
      ap₂ reloads_as_allowed (sym (fleet-at p v)) (unwrap_or-slice_get routes v [])
      ∙ zip-at allowed_pair (fleet p) routes v (type_at p 0) lawful.reloads_as_allowed (omega arith) below;
}

-- some member of a group is the least
record HasLeast (members : List ℕ) : Type 0 where
  least : ℕ
  at : ℕ
  below : at < length members
  here : get_or members at least ≡ least
  all : list_all (nat_le least) members ≡ true

lower_bound : (c d : ℕ) (members : List ℕ) → c ≤ d → list_all (nat_le d) members ≡ true → list_all (nat_le c) members ≡ true
lower_bound c d [] l h = refl
lower_bound c d (x ∷ members) l h =
    let both = and_parts (nat_le d x) (list_all (nat_le d) members) h in
    let k = leb-true d x both.0 in and_from (nat_le c x) (list_all (nat_le c) members) (le-leb c x (omega arith)) (lower_bound c d members l both.1)

has-least : (members : List ℕ) → 1 ≤ length members → HasLeast members
has-least [] h = absurd (omega arith)
has-least (x ∷ []) h = record { least = x; at = 0; below = omega arith; here = refl; all = and_from (nat_le x x) true (le-leb x x (omega arith)) refl }
has-least (x ∷ y ∷ members) h = by (has-least (y ∷ members) (omega arith))
  where
    by : HasLeast (y ∷ members) → HasLeast (x ∷ y ∷ members)
    by rest = ⊎_elim
        (λ l. record {
          least = x;
          at = 0;
          below = omega arith;
          here = refl;
          all = and_from (nat_le x x) _ (le-leb x x (omega arith)) (lower_bound x rest.least (y ∷ members) (omega arith) rest.all);
        })
        (λ l. record {
          least = rest.least;
          at = suc rest.at;
          below = let b = rest.below in omega arith;
          here = rest.here;
          all = and_from (nat_le rest.least x) _ (le-leb rest.least x l) rest.all;
        })
        (cases_lt x rest.least)

all_each : (test : ℕ → Bool) (xs : List ℕ) → ((x : ℕ) → test x ≡ true) → list_all test xs ≡ true
all_each test [] h = refl
all_each test (x ∷ xs) h = and_from (test x) (list_all test xs) (h x) (all_each test xs h)

all_also : (f g : ℕ → Bool) (xs : List ℕ) → ((x : ℕ) → f x ≡ true → g x ≡ true) → list_all f xs ≡ true → list_all g xs ≡ true
all_also f g [] k h = refl
all_also f g (x ∷ xs) k h = let both = and_parts (f x) (list_all f xs) h in and_from (g x) (list_all g xs) (k x both.0) (all_also f g xs k both.1)

-- a plan in which nothing is missing
module _ (p : Problem) (routes : Routes) (valid : IsValid p) (sound : IsSound p routes) (whole : list_all (λ c. not (is_missing p routes c)) (client_places p) ≡ true) where
  required-visited : (r v l : Bool) → not ((r && not v) || l) ≡ true → cond r v true ≡ true
  required-visited true true l h = refl
  required-visited true false l h = absurd (both_ways false refl h)
  required-visited false v l h = refl

  least-served : (r m needed any : Bool) → not (r || ((needed && m) && not any)) ≡ true → m ≡ true → needed ≡ true → any ≡ true
  least-served r m needed true h k e = refl
  least-served true m needed false h k e = absurd (both_ways false refl h)
  least-served false true true false h k e = absurd (both_ways false refl h)
  least-served false false needed false h k e = absurd (both_ways false refl k)
  least-served false true false false h k e = absurd (both_ways false refl e)

  served_by : (needed : Bool) (n : ℕ) → n ≤ 1 → (needed ≡ true → 1 ≤ n) → cond needed (n == 1) (nat_le n 1) ≡ true
  served_by true n most least = let some : 1 ≤ n = least refl in let one : n ≡ 1 = omega arith in eq-eqb n 1 one
  served_by false n most least = le-leb n 1 most

  module _ (group : ℕ) (there : group < length p.groups) where
    group-valid : IsValidGroup p (group_at p group)
    group-valid = valid_group p group valid there

    most : count_by (is_visited routes) (group_at p group) ≤ 1
    most =
        let few = members-few (is_of_group p group) (group_at p group) (all_clients routes) group-valid.distinct (λ d inside. member-of_group p group valid d there inside) in
        let one = sound.one group there in
        let e = total-count (is_of_group p group) routes in
        let same = count_same (is_visited routes) (λ c. list_any (λ d. d == c) (all_clients routes)) (group_at p group) (λ c. visited-any c routes) in
        omega arith

    least : is_required_group p (group_at p group) ≡ true → 1 ≤ count_by (is_visited routes) (group_at p group)
    least needed = by (has-least (group_at p group) group-valid.some)
      where
        by : HasLeast (group_at p group) → 1 ≤ count_by (is_visited routes) (group_at p group)
        by first =
            let inside : Contains (group_at p group) first.least = (first.at, first.below, first.here) in
            let place = member-client p group valid first.least there inside in
            let own : (client_at p first.least).group ≡ Some group = (valid.grouped first.least group place).1 inside in
            let met : not (is_missing p routes first.least) ≡ true = passes-client p first.least (λ c. not (is_missing p routes c)) whole place in
            let led : not ((is_required p first.least && not (is_visited routes first.least)) || leads_unserved p routes first.least (Some group)) ≡ true =
            sym (ap (λ (o : Option ℕ). not ((is_required p first.least && not (is_visited routes first.least)) || leads_unserved p routes first.least o)) own) ∙ met in
            count_some (is_visited routes) (group_at p group)
            (least-served (is_required p first.least && not (is_visited routes first.least)) (list_all (nat_le first.least) (group_at p group))
            (is_required_group p (group_at p group)) (list_any (is_visited routes) (group_at p group)) led first.all needed)

    served : serves_group p routes (group_at p group) ≡ true
    served = served_by (is_required_group p (group_at p group)) (count_by (is_visited routes) (group_at p group)) most least

  pub whole-lawful : IsLawful p routes
  whole-lawful = record {
    one_list_each = sound.one_list_each;
    names_places = sound.named;
    visits_at_most_once = all_each (λ client. nat_le (visit_count routes client) 1) (client_places p)
        (λ c. le-leb (visit_count routes c) 1 (let e = visit_count-total c routes in let l = sound.once c in omega arith));
    serves_required = all_also (λ c. not (is_missing p routes c)) (λ client. cond (is_required p client) (is_visited routes client) true) (client_places p)
        (λ c h. required-visited (is_required p c) (is_visited routes c) (leads_unserved p routes c (client_at p c).group) h) whole;
    serves_groups = list_all-from_AllPass (serves_group p routes) p.groups
        (All-from_get_or (λ members. serves_group p routes members ≡ true) p.groups []
        (λ group there. ap (serves_group p routes) (sym (unwrap_or-slice_get p.groups group [])) ∙ served group there));
    tidy = sound.tidy;
    reloads_as_allowed = zip-all allowed_pair (fleet p) routes (type_at p 0)
        (λ v l k. ap₂ reloads_as_allowed (fleet-at p v) (sym (unwrap_or-slice_get routes v [])) ∙ sound.allowed v k);
  }

-- inserting what is missing makes a plan lawful
pub completed-lawful : (p : Problem) (w : Weights) (routes : Routes) → IsValid p → IsSound p routes → IsTrue (is_lawful p (completed p w routes))
completed-lawful p w routes valid sound =
    let done = fold-completion p w valid (vehicles_some p valid) (client_places p) routes sound
    (list_all-from_AllPass (is_client_place p) (client_places p) (client_places-clients p)) in
    facts-lawful p (completed p w routes) (whole-lawful p (completed p w routes) valid done.sound done.none_missing)

-- the routes that are selected are an exchange, where there are as many
pub selected-fair : (p : Problem) (a b : Routes) (m : ℕ) (s : Starts) → m ≤ length (route_order p b) → IsExchange b (exchange_from p a b m s)
selected-fair p a b m s few =
    let t : Starts = settled (selection_difference p a b m) (length (route_order p a)) (length (route_order p b)) s in
    record {
      long = length-around (route_order p a) t.first m ∙ sym (length-around (route_order p b) t.second m);
      few = λ h.
          let x = sum-around h (route_order p b) t.second m few in
          let y = sum-sorted h (λ u v. turns_before (route_vector p (list_at b u)) (route_vector p (list_at b v))) (used_numbers b) in
          let z = sum-filter-le h (λ v. is_used (list_at b v)) (places_of b) in omega arith;
    }

module _ (p : Problem) (w : Weights) (a b : Routes) (valid : IsValid p) (la : IsTrue (is_lawful p a)) (lb : IsTrue (is_lawful p b)) where
  sound_a : IsSound p a
  sound_a = lawful-sound p a valid (lawful-facts p a la)

  sound_b : IsSound p b
  sound_b = lawful-sound p b valid (lawful-facts p b lb)

  better-lawful : (first second : Routes) → is_lawful p first ≡ true → is_lawful p second ≡ true → is_lawful p (better_child p w first second) ≡ true
  better-lawful first second h k = by (nat_lt (solution_cost p w second) (solution_cost p w first))
    where
      by : (t : Bool) → is_lawful p (cond t second first) ≡ true
      by true = k
      by false = h

  child-lawful : (e : Exchange) → IsExchange b e → is_lawful p (child_of_exchange p w a b e) ≡ true
  child-lawful e fair =
      better-lawful (completed p w (first_child p a b e)) (completed p w (second_child p a b e))
      (completed-lawful p w (first_child p a b e) valid (first-sound p a b e sound_a sound_b fair))
      (completed-lawful p w (second_child p a b e) valid (second-sound p a b e sound_a sound_b fair))

  pub drawn-few : (m n word : ℕ) → ((m == 0) || (n == 0)) ≡ false → word % min m n + 1 ≤ n
  drawn-few m n word h =
      let some : 0 < min m n = grind (arith, nat_tests) in
      let less : word % min m n < min m n = mod-lt word some in omega arith

  drawn-lawful : (s : State) → ((length (route_order p a) == 0) || (length (route_order p b) == 0)) ≡ false →
      is_lawful p (child_by_draws p w a b (length (route_order p a)) (length (route_order p b)) s).value ≡ true
  drawn-lawful s h =
      child-lawful _ (selected-fair p a b _ _ (drawn-few (length (route_order p a)) (length (route_order p b)) (next_word s) h))

  -- the exchange of two lawful plans is lawful
  pub exchange-lawful : (s : State) → IsTrue (is_lawful p (exchange p w a b s).value)
  exchange-lawful s = by ((length (route_order p a) == 0) || (length (route_order p b) == 0)) refl
    where
      by : (t : Bool) → ((length (route_order p a) == 0) || (length (route_order p b) == 0)) ≡ t →
          is_lawful p (cond t (record { value = a; state = s }) (child_by_draws p w a b (length (route_order p a)) (length (route_order p b)) s)).value ≡ true
      by true e = la
      by false e = drawn-lawful s e
