-- The random plan of a valid problem is lawful.
use Rattle.std.proofs.Common.{◌≡◌, ◌∙◌, sym, refl, ap, ℕ, ◌+◌, ◌≤◌, ◌<◌, ◌&&◌, ◌==◌, Bool, true, false, cond, List, [], length, get_or, count_by, Contains, IsTrue, arith}
use Rattle.std.specs.List.{range_with_len, list_all, list_any}
use Rattle.std.specs.Prelude.{nat_le, nat_lt}
use Rattle.std.proofs.lemmas.Bool.{and_parts, eq-eqb, eqb-true, le-leb, leb-true, ltb-true}
use Rattle.std.proofs.lemmas.List.Elements.{All-from_get_or, All-weaker, Contains-get_or}
use Rattle.std.proofs.lemmas.List.Folds.{Any-from_list_any, list_any_at}
use Rattle.std.proofs.lemmas.List.FromFn.{length-map-range_with_len}
use Rattle.std.proofs.lemmas.List.Sums.{AllPass-from_list_all, list_all-from_AllPass}
use Rattle.std.proofs.lemmas.Option.{unwrap_or-slice_get}
use Rattle.problem_data.specs.declared.problem.Problem.{Problem}
use Rattle.problem_data.specs.Places.{depot_count, fleet, group_at, is_client_place, vehicle_count}
use Rattle.problem_data.specs.Valid.{IsValid, IsValidGroup}
use Rattle.routing_model.specs.Lawful.{is_lawful, is_required, is_required_group, serves_group, IsLawful}
use Rattle.routing_model.specs.Routes.{Routes, is_visited, visit_count}
use Rattle.routing_model.proofs.LawfulFacts.{facts-lawful}
use Rattle.vrp_num.specs.Words.{State}
use Rattle.random_model.specs.Draws.{client_order}
use Rattle.random_model.specs.RandomSolution.{dealt, random_solution, walk}
use Rattle.random_model.proofs.Dealing.{visit_count-dealt, is_visited-dealt, names_places-dealt, dealt-tidy, dealt-allowed, vehicles_some}
use Rattle.random_model.proofs.DrawnClients.{IsDrawn, drawn-walk, is_of_group}
use Rattle.random_model.proofs.GroupMembers.{count_same, count_some, member-client, member-of_group, members-few, members-some, of_group-member, valid_group}
use Rattle.random_model.proofs.RandomOrders.{client_order-clients, order-once, order-whole, All-range}

all_of_range : (f : ℕ → Bool) (a n : ℕ) → ((k : ℕ) → a ≤ k → k < a + n → f k ≡ true) → list_all f (range_with_len a n) ≡ true
all_of_range f a n h = list_all-from_AllPass f (range_with_len a n) (All-range (λ k. f k ≡ true) a n h)

-- a client that is visited, where it must be
visited_if : (needed visited : Bool) → (needed ≡ true → visited ≡ true) → cond needed visited true ≡ true
visited_if true visited h = h refl
visited_if false visited h = refl

-- how many members of a group are visited, where one must be, or may be
served_by : (needed : Bool) (n : ℕ) → n ≤ 1 → (needed ≡ true → 1 ≤ n) → cond needed (n == 1) (nat_le n 1) ≡ true
served_by true n most least = let some : 1 ≤ n = least refl in let one : n ≡ 1 = omega arith in eq-eqb n 1 one
served_by false n most least = le-leb n 1 most

-- a client's place, as an order
record IsBetween (a n c : ℕ) : Type 0 where
  from : a ≤ c
  below : c < a + n

client_between : (a n c : ℕ) → (nat_le a c && nat_lt c (a + n)) ≡ true → IsBetween a n c
client_between a n c h = let both = and_parts (nat_le a c) (nat_lt c (a + n)) h in record { from = leb-true a c both.0; below = ltb-true c (a + n) both.1 }

any_where : (f g : ℕ → Bool) (xs : List ℕ) → ((x : ℕ) → f x ≡ true → g x ≡ true) → list_any f xs ≡ true → list_any g xs ≡ true
any_where f g xs h some =
    let found = Any-from_list_any f xs some in
    list_any_at g xs found.0 found.1 found.2 (h (get_or xs found.0 found.1) (ap f found.3 ∙ found.4))

module _ (p : Problem) (s : State) (valid : IsValid p) where
  abbrev order : List ℕ
  order = (client_order p s).value

  abbrev picked : List ℕ
  picked = (walk p (client_order p s).value (client_order p s).state).picked

  abbrev plan : Routes
  plan = dealt (vehicle_count p) picked

  drawn : IsDrawn p order picked
  drawn = drawn-walk p (client_order p s).value (client_order p s).state

  some_vehicle : 1 ≤ vehicle_count p
  some_vehicle = vehicles_some p valid

  places-picked : list_all (is_client_place p) picked ≡ true
  places-picked = drawn.within (is_client_place p) (list_all-from_AllPass (is_client_place p) order (client_order-clients p s))

  -- each client was met
  met : (c : ℕ) → IsTrue (is_client_place p c) → list_any (λ d. d == c) order ≡ true
  met c place = let inside = client_between (depot_count p) (length p.clients) c place in order-whole p s c inside.from inside.below

  visited : (c : ℕ) → is_visited plan c ≡ list_any (λ d. d == c) picked
  visited c = is_visited-dealt (vehicle_count p) picked c some_vehicle

  once : (c : ℕ) → nat_le (visit_count plan c) 1 ≡ true
  once c =
      let fewer = drawn.fewer (λ d. d == c) in
      let few = order-once p s c in
      ap (λ n. nat_le n 1) (visit_count-dealt (vehicle_count p) picked c some_vehicle) ∙ le-leb (count_by (λ d. d == c) picked) 1 (omega arith)

  module _ (group : ℕ) (there : group < length p.groups) where
    abbrev members : List ℕ
    members = group_at p group

    group-valid : IsValidGroup p members
    group-valid = valid_group p group valid there

    -- a member of each group was met
    group-met : list_any (is_of_group p group) order ≡ true
    group-met =
        let first : Contains members (get_or members 0 0) = Contains-get_or members 0 0 group-valid.some in
        any_where (λ d. d == get_or members 0 0) (is_of_group p group) order
        (λ d e. ap (is_of_group p group) (eqb-true d (get_or members 0 0) e) ∙ member-of_group p group valid (get_or members 0 0) there first)
        (met (get_or members 0 0) (member-client p group valid (get_or members 0 0) there first))

    counted : count_by (is_visited plan) members ≡ count_by (λ c. list_any (λ d. d == c) picked) members
    counted = count_same (is_visited plan) (λ c. list_any (λ d. d == c) picked) members visited

    most : count_by (is_visited plan) members ≤ 1
    most =
        let few = members-few (is_of_group p group) members picked group-valid.distinct (λ d inside. member-of_group p group valid d there inside) in
        let one = by (list_any (is_of_group p group) order) (drawn.one group) in
        rw counted (omega arith)
      where
        by : (any : Bool) → count_by (is_of_group p group) picked ≤ cond any 1 0 → count_by (is_of_group p group) picked ≤ 1
        by true h = h
        by false h = omega arith

    least : is_required_group p members ≡ true → 1 ≤ count_by (is_visited plan) members
    least needed =
        let own = All-weaker (λ d. IsTrue (is_client_place p d)) (λ d. is_of_group p group d ≡ true → Contains members d) (λ d. of_group-member p group valid d)
        picked (AllPass-from_list_all (is_client_place p) picked places-picked) in
        rw counted (count_some (λ c. list_any (λ d. d == c) picked) members (members-some (is_of_group p group) members picked own (drawn.some group needed group-met)))

    served : serves_group p plan members ≡ true
    served = served_by (is_required_group p members) (count_by (is_visited plan) members) most least

  facts : IsLawful p plan
  facts = record {
    one_list_each = length-map-range_with_len _ 0 (vehicle_count p);
    names_places = names_places-dealt p (vehicle_count p) picked some_vehicle ∙ places-picked;
    visits_at_most_once = all_of_range (λ client. nat_le (visit_count plan client) 1) (depot_count p) (length p.clients) (λ c l u. once c);
    serves_required = all_of_range (λ client. cond (is_required p client) (is_visited plan client) true) (depot_count p) (length p.clients)
        (λ c l u. visited_if (is_required p c) (is_visited plan c) (λ r. visited c ∙ drawn.required c r (order-whole p s c l u)));
    serves_groups = list_all-from_AllPass (serves_group p plan) p.groups
        (All-from_get_or (λ members. serves_group p plan members ≡ true) p.groups []
        (λ group there. ap (serves_group p plan) (sym (unwrap_or-slice_get p.groups group [])) ∙ served group there));
    tidy = dealt-tidy (vehicle_count p) picked;
    reloads_as_allowed = dealt-allowed (fleet p) (vehicle_count p) picked;
  }

  -- the random plan of a valid problem is lawful
  pub random-lawful : IsTrue (is_lawful p (random_solution p s).value)
  random-lawful = facts-lawful p plan facts
