-- The groups of an accepted text are valid, and each client's group is the one that names it.
use Rattle.std.proofs.Common.{◌≡◌, ℕ, zero, suc, ◌+◌, ◌-◌, ◌<◌, ◌≤◌, inl, inr, true, false, List, [], ◌∷◌, ◌++◌, length, get_or, drop, map, refl, sym, ◌∙◌, ap, subst, arith, ℤ, Some, None}
use Rattle.std.specs.Prelude.{◌==◌, nat_lt, nat_le, unwrap_or, slice_get, flat_map, position, IsTrue}
use Rattle.std.specs.List.{AllByRecursion, All, Contains, list_any, position_or_len}
use Rattle.std.proofs.lemmas.Bool.{true≢false, ltb-true, ltb-false, lt-ltb, le-leb, leb-true, eqb-true, eq-eqb, and_parts, and_from, or_left, or_right, false_from_ne_true, cond-true, cases_lt}
use Rattle.std.proofs.lemmas.List.{length-map, length-drop, map-append, get_or_past}
use Rattle.std.proofs.lemmas.List.Sums.{position_or_len_is}
use Rattle.std.proofs.lemmas.List.Folds.{list_any_at, Any-from_list_any}
use Rattle.std.proofs.lemmas.List.Quantifiers.{position-Some}
use Rattle.std.proofs.lemmas.List.Elements.{All-from_recursion, recursion_from_All}
use Rattle.std.proofs.lemmas.Option.{unwrap_or-slice_get}
use Rattle.problem_data.specs.declared.problem.Client.{Client}
use Rattle.problem_data.specs.Places.{place_count, is_client_place, client_at}
use Rattle.problem_data.specs.Valid.{IsValidGroup, IsGroupedAsListed}
use Rattle.vrp_num.specs.declared.rounding.Rounding.{Rounding}
use Rattle.vrplib_model.specs.LineKinds.{Line}
use Rattle.vrplib_model.specs.Sections.{group_section}
use Rattle.vrplib_model.specs.Values.{node_count}
use Rattle.vrplib_model.specs.Rows.{rows_of, nodes_of}
use Rattle.vrplib_model.specs.RowFaults.{nodes_named}
use Rattle.vrplib_model.specs.Checks.{contains, has_repeated}
use Rattle.vrplib_model.specs.Entries.{place_of, depot_nodes, depot_count, client_count, client_nodes}
use Rattle.vrplib_model.specs.Meaning.{groups, depot, client, problem_of}
use Rattle.vrplib_model.specs.WholeText.{is_depot_place}
use Rattle.vrplib_model.specs.inside.FaultlessRows.{IsBetween}
use Rattle.vrplib_model.proofs.Distinct.{contains-append, distinct-parts}
use Rattle.vrplib_model.proofs.NamedNodes.{IsNode, nodes-are, length-nodes, places-differ, distinct-is}
use Rattle.vrplib_model.proofs.SoundLines.{AreRead}
use Rattle.vrplib_model.proofs.WholeFacts.{PassesWhole, none-pass, length-counted, made-at}

-- membership by the test, and by place
contains-at : (place : ℕ) (xs : List ℕ) → Contains xs place → contains place xs ≡ true
contains-at place xs h = list_any_at (λ m. m == place) xs h.0 place h.1 (eq-eqb _ _ h.2)

at-contains : (place : ℕ) (xs : List ℕ) → contains place xs ≡ true → Contains xs place
at-contains place xs e =
    let found = Any-from_list_any (λ m. m == place) xs e in
    let same : found.1 ≡ place = eqb-true found.1 place found.4 in
    (found.0, found.2, subst (λ (x : ℕ). get_or xs found.0 x ≡ x) same found.3)

-- all members, group after group
abbrev joined : List (List ℕ) → List ℕ
joined gs = flat_map (λ members. members) gs

joined-contains : (place : ℕ) (gs : List (List ℕ)) (g : ℕ) → g < length gs → contains place (get_or gs g []) ≡ true → contains place (joined gs) ≡ true
joined-contains place [] g h e = absurd (omega arith)
joined-contains place (members ∷ gs) zero h e = contains-append place members (joined gs) ∙ or_left (contains place members) (contains place (joined gs)) e
joined-contains place (members ∷ gs) (suc g) h e =
    contains-append place members (joined gs) ∙ or_right (contains place members) (contains place (joined gs)) (joined-contains place gs g (omega arith) e)

-- a place is in one group at most
one-group : (place : ℕ) (gs : List (List ℕ)) (k g : ℕ) → k < g → g < length gs → has_repeated (joined gs) ≡ false → contains place (get_or gs g []) ≡ true → contains place (get_or gs k []) ≡ false
one-group place [] k g below h distinct e = absurd (omega arith)
one-group place (members ∷ gs) k zero below h distinct e = absurd (omega arith)
one-group place (members ∷ gs) zero (suc g) below h distinct e =
    let parts = distinct-parts members (joined gs) distinct in
    let later = joined-contains place gs g (omega arith) e in
    false_from_ne_true (contains place members) (λ here. true≢false (sym later ∙ parts.apart place here))
one-group place (members ∷ gs) (suc k) (suc g) below h distinct e =
    let parts = distinct-parts members (joined gs) distinct in
    one-group place gs k g (omega arith) (omega arith) parts.right e

-- the group that names a place is its first
named-group : (place : ℕ) (gs : List (List ℕ)) (g : ℕ) → position (contains place) gs ≡ Some g → Contains (unwrap_or (slice_get gs g) []) place
named-group place gs g e =
    let found = position-Some (contains place) gs g [] e in
    subst (λ (members : List ℕ). Contains members place) (sym (unwrap_or-slice_get gs g [])) (at-contains place (get_or gs g []) found.1)

group-within : (place : ℕ) (gs : List (List ℕ)) (g : ℕ) → Contains (get_or gs g []) place → g < length gs
group-within place gs g h = elim (cases_lt g (length gs)) [
  | inl below ↦ below
  | inr past ↦
      let empty : get_or gs g [] ≡ [] = get_or_past gs g [] past in
      let held : Contains [] place = subst (λ (members : List ℕ). Contains members place) empty h in
      let none : held.0 < 0 = held.1 in
      absurd (omega arith)
]

only-group : (place : ℕ) (gs : List (List ℕ)) (g : ℕ) → has_repeated (joined gs) ≡ false → Contains (unwrap_or (slice_get gs g) []) place → position (contains place) gs ≡ Some g
only-group place gs g distinct h =
    let held : Contains (get_or gs g []) place = subst (λ (members : List ℕ). Contains members place) (unwrap_or-slice_get gs g []) h in
    let within : g < length gs = group-within place gs g held in
    let here : contains place (get_or gs g []) ≡ true = contains-at place (get_or gs g []) held in
    let first : position_or_len (contains place) gs ≡ g =
    position_or_len_is (contains place) gs g [] (omega (arith, within)) (λ k below. one-group place gs k g below within distinct here) (λ _. here) in
    let below : nat_lt (position_or_len (contains place) gs) (length gs) ≡ true = lt-ltb _ _ (omega (arith, first, within)) in
    cond-true _ _ _ below ∙ ap (λ k. Some k) first

-- the members of the rows' groups
abbrev members_of : List ℤ → List ℕ
members_of row = map place_of (nodes_of (drop 1 row))

abbrev IsGroupRow : ℕ → List ℤ → Type 0
IsGroupRow n row = (2 ≤ length row) × All (IsBetween 1 n) (drop 1 row)

members-nodes : (n : ℕ) (row : List ℤ) → IsGroupRow n row → AllByRecursion (IsNode n) (nodes_of (drop 1 row))
members-nodes n row h = nodes-are n (drop 1 row) (recursion_from_All (IsBetween 1 n) (drop 1 row) h.1)

nodes-join : (n : ℕ) (ms ks : List ℕ) → AllByRecursion (IsNode n) ms → AllByRecursion (IsNode n) ks → AllByRecursion (IsNode n) (ms ++ ks)
nodes-join n [] ks h rest = rest
nodes-join n (m ∷ ms) ks h rest = (h.0, nodes-join n ms ks h.1 rest)

all-nodes : (n : ℕ) (rows : List (List ℤ)) → AllByRecursion (IsGroupRow n) rows → AllByRecursion (IsNode n) (flat_map (nodes_named group_section) rows)
all-nodes n [] all = tt
all-nodes n (row ∷ rows) all = nodes-join n (nodes_of (drop 1 row)) (flat_map (nodes_named group_section) rows) (members-nodes n row all.0) (all-nodes n rows all.1)

joined-places : (rows : List (List ℤ)) → joined (map members_of rows) ≡ map place_of (flat_map (nodes_named group_section) rows)
joined-places [] = refl
joined-places (row ∷ rows) =
    ap (λ rest. map place_of (nodes_of (drop 1 row)) ++ rest) (joined-places rows) ∙ sym (map-append place_of (nodes_of (drop 1 row)) (flat_map (nodes_named group_section) rows))

groups-differ : (n : ℕ) (rows : List (List ℤ)) → AllByRecursion (IsGroupRow n) rows → has_repeated (flat_map (nodes_named group_section) rows) ≡ false → has_repeated (joined (map members_of rows)) ≡ false
groups-differ n rows all e =
    ap has_repeated (joined-places rows) ∙ places-differ n (flat_map (nodes_named group_section) rows) (all-nodes n rows all) e

-- where clients are
depots-count : (mode : Rounding) (all : List Line) → length (map (depot mode all) (depot_nodes mode all)) ≡ depot_count mode all
depots-count mode all = length-map (depot_nodes mode all) (depot mode all)

clients-count : (mode : Rounding) (all : List Line) → length (map (client mode all) (client_nodes mode all)) ≡ client_count mode all
clients-count mode all =
    length-map (client_nodes mode all) (client mode all) ∙ length-counted (depot_count mode all + 1) (client_count mode all)

pub count-places : (mode : Rounding) (all : List Line) → PassesWhole mode all → place_count (problem_of mode all) ≡ node_count mode all
unfolding problem_of
count-places mode all passes = omega (arith, depots-count mode all, clients-count mode all, passes.some_client)

pub count-depots : (mode : Rounding) (all : List Line) → length (problem_of mode all).depots ≡ depot_count mode all
unfolding problem_of
count-depots mode all = depots-count mode all

pub count-clients : (mode : Rounding) (all : List Line) → length (problem_of mode all).clients ≡ client_count mode all
unfolding problem_of
count-clients mode all = clients-count mode all

client-place : (mode : Rounding) (all : List Line) → PassesWhole mode all → (place : ℕ) → depot_count mode all ≤ place → place < node_count mode all → is_client_place (problem_of mode all) place ≡ true
client-place mode all passes place least most =
    let p = problem_of mode all in
    and_from (nat_le (length p.depots) place) (nat_lt place (place_count p)) (le-leb _ _ (omega (arith, count-depots mode all, least)))
    (lt-ltb _ _ (omega (arith, count-places mode all passes, most)))

client-bounds : (mode : Rounding) (all : List Line) → PassesWhole mode all → (place : ℕ) → is_client_place (problem_of mode all) place ≡ true → (depot_count mode all ≤ place) × (place < node_count mode all)
client-bounds mode all passes place e =
    let p = problem_of mode all in
    let parts = and_parts (nat_le (length p.depots) place) (nat_lt place (place_count p)) e in
    let least : length p.depots ≤ place = leb-true _ _ parts.0 in
    let most : place < place_count p = ltb-true _ _ parts.1 in
    (omega (arith, count-depots mode all, least), omega (arith, count-places mode all passes, most))

-- each group is valid
members-clients : (mode : Rounding) (all : List Line) → PassesWhole mode all → (ms : List ℕ) → AllByRecursion (IsNode (node_count mode all)) ms
    → AllByRecursion (λ place. is_depot_place (depot_count mode all) place ≡ false) (map place_of ms)
    → AllByRecursion (λ place. IsTrue (is_client_place (problem_of mode all) place)) (map place_of ms)
members-clients mode all passes [] nodes away = tt
members-clients mode all passes (m ∷ ms) nodes away = (
  client-place mode all passes (place_of m) (ltb-false (place_of m) (depot_count mode all) away.0) (omega (arith, nodes.0.0, nodes.0.1)),
  members-clients mode all passes ms nodes.1 away.1,
)

group-valid : (mode : Rounding) (all : List Line) → PassesWhole mode all → (row : List ℤ) → IsGroupRow (node_count mode all) row → has_repeated (nodes_of (drop 1 row)) ≡ false
    → list_any (is_depot_place (depot_count mode all)) (members_of row) ≡ false → IsValidGroup (problem_of mode all) (members_of row)
group-valid mode all passes row h distinct away =
    let n = node_count mode all in
    let ms = nodes_of (drop 1 row) in
    let stops = recursion_from_All (IsBetween 1 n) (drop 1 row) h.1 in
    let nodes = members-nodes n row h in
    record {
      some = omega (arith, length-map ms place_of, length-nodes n (drop 1 row) stops, length-drop 1 row, h.0);
      clients = All-from_recursion (λ place. IsTrue (is_client_place (problem_of mode all) place)) (map place_of ms)
          (members-clients mode all passes ms nodes (none-pass (is_depot_place (depot_count mode all)) (map place_of ms) away));
      distinct = distinct-is (map place_of ms) (places-differ n ms nodes distinct);
    }

each-valid : (mode : Rounding) (all : List Line) → PassesWhole mode all → (rows : List (List ℤ)) → AllByRecursion (IsGroupRow (node_count mode all)) rows
    → has_repeated (flat_map (nodes_named group_section) rows) ≡ false → AllByRecursion (λ members. list_any (is_depot_place (depot_count mode all)) members ≡ false) (map members_of rows)
    → AllByRecursion (IsValidGroup (problem_of mode all)) (map members_of rows)
each-valid mode all passes [] h distinct away = tt
each-valid mode all passes (row ∷ rows) h distinct away =
    let parts = distinct-parts (nodes_of (drop 1 row)) (flat_map (nodes_named group_section) rows) distinct in
    (group-valid mode all passes row h.0 parts.left away.0, each-valid mode all passes rows h.1 parts.right away.1)

pub groups-valid : (mode : Rounding) (all : List Line) → AreRead mode all → PassesWhole mode all → All (IsValidGroup (problem_of mode all)) (groups mode all)
groups-valid mode all read passes =
    let rows = rows_of mode group_section all in
    let sound = read.rows group_section in
    All-from_recursion (IsValidGroup (problem_of mode all)) (groups mode all)
    (each-valid mode all passes rows (recursion_from_All (IsGroupRow (node_count mode all)) rows sound.each) sound.together.1 passes.members)

pub few-groups : (mode : Rounding) (all : List Line) → AreRead mode all → length (groups mode all) ≤ 1024
few-groups mode all read =
    let rows = rows_of mode group_section all in
    omega (arith, length-map rows members_of, (read.rows group_section).together.0)

-- each client's group
client-found : (mode : Rounding) (all : List Line) → (place : ℕ) → depot_count mode all ≤ place → place < node_count mode all → client_at (problem_of mode all) place ≡ client mode all (place + 1)
unfolding problem_of
client-found mode all place least most =
    let d = depot_count mode all in
    let other : Client = record { delivery = 0; pickup = 0; window = record { early = 0; late = 0 }; service = 0; release = 0; prize = 0; group = None } in
    let at : place - length (map (depot mode all) (depot_nodes mode all)) ≡ place - d = ap (λ k. place - k) (depots-count mode all) in
    ap (λ k. unwrap_or (slice_get (map (client mode all) (client_nodes mode all)) k) other) at
    ∙ (made-at (client mode all) (d + 1) (client_count mode all) (place - d) other (omega arith) ∙ ap (client mode all) (omega arith))

group-found : (mode : Rounding) (all : List Line) (place : ℕ) → (client mode all (place + 1)).group ≡ position (contains place) (groups mode all)
group-found mode all place =
    let same : place_of (place + 1) ≡ place = omega arith in
    ap (λ k. position (contains k) (groups mode all)) same

pub grouped : (mode : Rounding) (all : List Line) → AreRead mode all → PassesWhole mode all → IsGroupedAsListed (problem_of mode all)
unfolding problem_of
grouped mode all read passes place g is_client =
    let rows = rows_of mode group_section all in
    let sound = read.rows group_section in
    let differ = groups-differ (node_count mode all) rows (recursion_from_All (IsGroupRow (node_count mode all)) rows sound.each) sound.together.1 in
    let bounds = client-bounds mode all passes place is_client in
    let found : (client_at (problem_of mode all) place).group ≡ position (contains place) (groups mode all) =
    ap (λ (c : Client). c.group) (client-found mode all place bounds.0 bounds.1) ∙ group-found mode all place in
    (λ e. named-group place (groups mode all) g (sym found ∙ e), λ held. found ∙ only-group place (groups mode all) g differ held)
