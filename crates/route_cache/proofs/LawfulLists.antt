-- The lists of a lawful plan have no more visits than a vehicle can have.
use Rattle.std.proofs.Common.{◌≡◌, ℕ, zero, suc, ◌+◌, ◌*◌, ◌<◌, ◌≤◌, ◌&&◌, Bool, true, false, cond, List, [], ◌∷◌, length, get_or, refl, ap, subst, arith}
use Rattle.std.specs.Prelude.{◌==◌, All, IsTrue, count_by, nat_le, sum_by, zip}
use Rattle.std.specs.List.{list_all, range_with_len}
use Rattle.std.proofs.lemmas.Bool.Decides.{nat_tests}
use Rattle.std.proofs.lemmas.List.Elements.{All-weaker}
use Rattle.std.proofs.lemmas.List.FromFn.{length-range_with_len}
use Rattle.std.proofs.lemmas.List.Sums.{AllPass-from_list_all, get_or-le-sum_by, sum_by-cons, sum_by-le, sum_by-le-sum_by}
use Rattle.std.proofs.lemmas.Slice.Zip.{get_or-zip, length-zip}
use Rattle.problem_data.specs.declared.problem.Problem.{Problem}
use Rattle.problem_data.specs.declared.problem.VehicleType.{VehicleType}
use Rattle.problem_data.specs.declared.visit.Visit.{Visit}
use Rattle.problem_data.specs.declared.visit.Visit.TheVariants.{Client, Reload}
use Rattle.problem_data.specs.Limits.{most_places, most_reloads}
use Rattle.problem_data.specs.Places.{client_places, fleet, is_client_place, place_count, type_at, types_of_vehicles}
use Rattle.problem_data.specs.Valid.{IsValid, IsValidType}
use Rattle.routing_model.specs.Lawful.{IsLawful, is_allowed, is_lawful, names_place, reloads_as_allowed, visits_at_most_once}
use Rattle.routing_model.specs.Listed.{IsListed}
use Rattle.routing_model.specs.Routes.{Routes, is_visit_of, visit_count}
use Rattle.routing_model.specs.Tidy.{is_tidy}
use Rattle.routing_model.proofs.LawfulFacts.{lawful-facts}
use Rattle.trips.proofs.Quantities.{at_each}
use Rattle.route_cache.specs.Marks.{reloads_in}
use Rattle.route_cache.proofs.Counting.{reloads-cons}
use Rattle.std.proofs.lemmas.List.{get_or-map, length-map}
use Rattle.route_cache.proofs.Types.{no_type}

first-of : (a b : Bool) → (a && b) ≡ true → a ≡ true
first-of true b h = refl
first-of false b h = h

second-of : (a b : Bool) → (a && b) ≡ true → b ≡ true
second-of true b h = h
second-of false b h = cc

-- a sum of sums
sums-added : (f g : ℕ → ℕ) (ns : List ℕ) → sum_by (λ n. f n + g n) ns ≡ sum_by f ns + sum_by g ns
sums-added f g [] = refl
sums-added f g (n ∷ ns) =
    let k : sum_by (λ n. f n + g n) ns ≡ sum_by f ns + sum_by g ns = sums-added f g ns in
    let a : sum_by (λ n. f n + g n) (n ∷ ns) ≡ (f n + g n) + sum_by (λ n. f n + g n) ns = sum_by-cons (λ n. f n + g n) n ns in
    let b : sum_by f (n ∷ ns) ≡ f n + sum_by f ns = sum_by-cons f n ns in
    let c : sum_by g (n ∷ ns) ≡ g n + sum_by g ns = sum_by-cons g n ns in
    omega arith

-- a place of a range is met in it
met-once : (place first count : ℕ) → first ≤ place → place < first + count → 1 ≤ sum_by (λ n. cond (place == n) 1 0) (range_with_len first count)
met-once place first zero low high = absurd (omega arith)
met-once place first (suc count) low high =
    let a : sum_by (λ n. cond (place == n) 1 0) (range_with_len first (suc count)) ≡ cond (place == first) 1 0 + sum_by (λ n. cond (place == n) 1 0) (range_with_len (first + 1) count) =
    sum_by-cons (λ n. cond (place == n) 1 0) first (range_with_len (first + 1) count) in
    here_or_later place first (sum_by (λ n. cond (place == n) 1 0) (range_with_len first (suc count))) (sum_by (λ n. cond (place == n) 1 0) (range_with_len (first + 1) count)) low a
    (λ above. met-once place (first + 1) count above (omega arith))
  where
    here_or_later : (place first all later : ℕ) → first ≤ place → all ≡ cond (place == first) 1 0 + later → (first + 1 ≤ place → 1 ≤ later) → 1 ≤ all
    here_or_later place first all later low a after = grind (arith, nat_tests)

-- how often a list names a client
abbrev times_in : List Visit → ℕ → ℕ
times_in visits client = count_by (is_visit_of client) visits

-- a list is no longer than the clients together are named in it, and its reloads
length-named : (p : Problem) (visits : List Visit) → list_all (names_place p) visits ≡ true → length visits ≤ sum_by (times_in visits) (client_places p) + reloads_in visits
length-named p [] named = omega arith
length-named p (Client place ∷ rest) named =
    let at : is_client_place p place ≡ true = first-of (is_client_place p place) (list_all (names_place p) rest) named in
    let one : 1 ≤ sum_by (λ n. cond (place == n) 1 0) (client_places p) = met-once place (length p.depots) (length p.clients) (grind (arith, nat_tests)) (grind (arith, nat_tests)) in
    let others : length rest ≤ sum_by (times_in rest) (client_places p) + reloads_in rest = length-named p rest (second-of (is_client_place p place) (list_all (names_place p) rest) named) in
    let sum : sum_by (λ n. cond (place == n) 1 0 + times_in rest n) (client_places p) ≡ sum_by (λ n. cond (place == n) 1 0) (client_places p) + sum_by (times_in rest) (client_places p) =
    sums-added (λ n. cond (place == n) 1 0) (times_in rest) (client_places p) in
    let less : sum_by (λ n. cond (place == n) 1 0 + times_in rest n) (client_places p) ≤ sum_by (times_in (Client place ∷ rest)) (client_places p) =
    sum_by-le-sum_by (λ n. cond (place == n) 1 0 + times_in rest n) (times_in (Client place ∷ rest)) (client_places p)
    (λ n. let e : times_in (Client place ∷ rest) n ≡ cond (place == n) 1 0 + times_in rest n = sum_by-cons (λ visit. cond (is_visit_of n visit) 1 0) (Client place) rest in omega arith) in
    let reloads : reloads_in (Client place ∷ rest) ≡ 0 + reloads_in rest = reloads-cons (Client place) rest in
    longer (length rest) _ _ _ _ _ _ one others sum less reloads
  where
    longer : (n one others both all reloads later : ℕ) → 1 ≤ one → n ≤ others + later → both ≡ one + others → both ≤ all → reloads ≡ 0 + later → suc n ≤ all + reloads
    longer n one others both all reloads later a b c d e = omega arith
length-named p (Reload depot ∷ rest) named =
    let others : length rest ≤ sum_by (times_in rest) (client_places p) + reloads_in rest = length-named p rest (second-of (names_place p (Reload depot)) (list_all (names_place p) rest) named) in
    let less : sum_by (times_in rest) (client_places p) ≤ sum_by (times_in (Reload depot ∷ rest)) (client_places p) =
    sum_by-le-sum_by (times_in rest) (times_in (Reload depot ∷ rest)) (client_places p)
    (λ n. let e : times_in (Reload depot ∷ rest) n ≡ 0 + times_in rest n = sum_by-cons (λ visit. cond (is_visit_of n visit) 1 0) (Reload depot) rest in omega arith) in
    let reloads : reloads_in (Reload depot ∷ rest) ≡ 1 + reloads_in rest = reloads-cons (Reload depot) rest in
    longer (length rest) _ _ _ _ others less reloads
  where
    longer : (n others all reloads later : ℕ) → n ≤ others + later → others ≤ all → reloads ≡ 1 + later → suc n ≤ all + reloads
    longer n others all reloads later a b c = omega arith

is-at_most : (m n : ℕ) → nat_le m n ≡ true → m ≤ n
is-at_most m n h = grind (arith, nat_tests)

-- no list names a client twice
clients-few : (p : Problem) (routes : Routes) (i : ℕ) (d : List Visit) → visits_at_most_once p routes ≡ true → i < length routes → sum_by (times_in (get_or routes i d)) (client_places p) ≤ length p.clients
clients-few p routes i d once inside =
    let b : sum_by (times_in (get_or routes i d)) (client_places p) ≤ sum_by (visit_count routes) (client_places p) =
    sum_by-le-sum_by (times_in (get_or routes i d)) (visit_count routes) (client_places p) (λ client. get_or-le-sum_by (λ (list : List Visit). times_in list client) routes i d inside) in
    let c : sum_by (visit_count routes) (client_places p) ≤ length (client_places p) * 1 =
    sum_by-le (visit_count routes) 1 (client_places p)
    (All-weaker (λ client. nat_le (visit_count routes client) 1 ≡ true) (λ client. visit_count routes client ≤ 1) (λ client h. is-at_most (visit_count routes client) 1 h) (client_places p)
    (AllPass-from_list_all (λ client. nat_le (visit_count routes client) 1) (client_places p) once)) in
    let e : length (client_places p) ≡ length p.clients = length-range_with_len (length p.depots) (length p.clients) in
    omega arith

-- no type has more reloads than a vehicle may have
type-reloads : (p : Problem) (number : ℕ) → IsValid p → (type_at p number).reloads ≤ most_reloads
type-reloads p number valid =
    at_each (λ (t : VehicleType). t.reloads ≤ most_reloads) p.types number no_type (All-weaker (IsValidType p) (λ t. t.reloads ≤ most_reloads) (λ t h. h.reloads) p.types valid.each_type) (omega arith)

-- each list has as many reloads as its type allows
reloads-few : (p : Problem) (routes : Routes) (i : ℕ) (d : List Visit) → IsValid p → IsLawful p routes → i < length routes → reloads_in (get_or routes i d) ≤ most_reloads
reloads-few p routes i d valid facts inside =
    let here : i < length (fleet p) = omega (arith, facts.one_list_each, length-map (types_of_vehicles p) (type_at p)) in
    let none : VehicleType × List Visit = (no_type, d) in
    let pair = get_or-zip (fleet p) routes i none here inside in
    let both : reloads_as_allowed (get_or (zip (fleet p) routes) i none).0 (get_or (zip (fleet p) routes) i none).1 ≡ true =
    AllPass-from_list_all (λ (v : VehicleType × List Visit). reloads_as_allowed v.0 v.1) (zip (fleet p) routes) facts.reloads_as_allowed i none (omega (arith, length-zip (fleet p) routes)) in
    let allowed : reloads_as_allowed (get_or (fleet p) i no_type) (get_or routes i d) ≡ true = subst (λ (v : VehicleType × List Visit). reloads_as_allowed v.0 v.1 ≡ true) pair both in
    let t = get_or (fleet p) i no_type in
    let most : reloads_in (get_or routes i d) ≤ t.reloads =
    is-at_most (reloads_in (get_or routes i d)) t.reloads (second-of (list_all (is_allowed t) (get_or routes i d)) (nat_le (reloads_in (get_or routes i d)) t.reloads) allowed) in
    let is : t ≡ type_at p (get_or (types_of_vehicles p) i 0) = get_or-map (type_at p) (types_of_vehicles p) i 0 no_type (omega (arith, facts.one_list_each)) in
    let small = type-reloads p (get_or (types_of_vehicles p) i 0) valid in
    at_most (reloads_in (get_or routes i d)) t.reloads _ most (ap (λ (t : VehicleType). t.reloads) is) small
  where
    at_most : (a b c : ℕ) → a ≤ b → b ≡ c → c ≤ most_reloads → a ≤ most_reloads
    at_most a b c h e k = omega arith

pub lawful-listed : (p : Problem) (routes : Routes) → IsValid p → IsTrue (is_lawful p routes) → All (IsListed p) routes
lawful-listed p routes valid lawful i d inside =
    let facts : IsLawful p routes = lawful-facts p routes lawful in
    let named : list_all (names_place p) (get_or routes i d) ≡ true = AllPass-from_list_all (list_all (names_place p)) routes facts.names_places i d inside in
    let long = length-named p (get_or routes i d) named in
    let clients = clients-few p routes i d facts.visits_at_most_once inside in
    let reloads = reloads-few p routes i d valid facts inside in
    let places : place_count p ≤ most_places = valid.place_limit in
    let depot : 1 ≤ length p.depots = valid.some_depot in
    record {
      tidy = AllPass-from_list_all is_tidy routes facts.tidy i d inside;
      named = named;
      few = omega arith;
    }
