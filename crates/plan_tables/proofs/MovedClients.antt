-- Where clients stand once those of a gain's vehicles have left their places and entered the new ones.
use Rattle.std.proofs.Common.{◌≡◌, ◌≢◌, ℕ, ◌+◌, ◌<◌, ◌≤◌, List, [], length, get_or, set, sym, ◌∙◌, ap, arith, subst, cond, Option, Some, None, IfSome}
use Rattle.std.proofs.lemmas.List.{length-map, map-set, set-set, set_comm}
use Rattle.std.proofs.Math.ListN.{length-set}
use Rattle.std.proofs.lemmas.List.Sums.{sum_by-set}
use Rattle.problem_data.specs.declared.visit.Visit.{Visit}
use Rattle.routing_model.specs.Routes.{Routes, has_client, list_at, visit_count}
use Rattle.search_model.proofs.ClientPlaces.{times_in}
use Rattle.gain_model.proofs.ListsOfPlans.{list_at-set, list_at-set_other}
use Rattle.route_cache.specs.Routes.{RouteState}
use Rattle.plan_tables.specs.declared.spots.Spot.{Spot}
use Rattle.plan_tables.specs.Routes.{lists_of, placed}
use Rattle.plan_tables.specs.inside.Moving.{Enters, Leaves}
use Rattle.plan_tables.specs.Spots.{AreOnce, AreSpots}
use Rattle.plan_tables.specs.inside.Marks.{FreesList, MarksList, first_of_two, position_among, position_in}
use Rattle.plan_tables.proofs.PositionsAmong.{entered-among, left-among, position-among}
use Rattle.plan_tables.proofs.RouteFigures.{list-there}

-- no client stands twice where a list is taken out
fewer : (routes : Routes) (v : ℕ) → v < length routes → AreOnce routes → AreOnce (set routes v [])
fewer routes v near once client = let sum = sum_by-set (times_in client) routes v [] [] near in let least : visit_count routes client ≤ 1 = once client in omega arith

module _ (places : ℕ) (routes : Routes) (v : ℕ) (before now : List Spot) where
  -- the clients of one list leave
  left : AreOnce routes → AreSpots places routes before → FreesList (list_at routes v) before now → AreSpots places (set routes v []) now
  left once are frees = record {
    count = frees.count ∙ are.count;
    each = λ client none h.
        frees.each client none (omega (arith, are.count, h))
        ∙ ap (cond (has_client client (list_at routes v)) None) (are.each client none h ∙ position-among client routes)
        ∙ sym (left-among client 0 routes v (once client))
        ∙ sym (position-among client (set routes v []));
  }

  -- clients enter an empty one
  entered : (visits : List Visit) → v < length routes → list_at routes v ≡ [] → AreOnce (set routes v visits) → AreSpots places routes before → MarksList v 0 visits before now → AreSpots places (set routes v visits) now
  entered visits near empty once are marks =
      let same : 0 + v ≡ v = omega arith in
      record {
        count = marks.count ∙ are.count;
        each = λ client none h.
            marks.each client none (omega (arith, are.count, h))
            ∙ ap (first_of_two (position_in v client 0 visits)) (are.each client none h ∙ position-among client routes)
            ∙ sym (entered-among client 0 routes v visits near empty (once client) ∙ ap (λ (n : ℕ). first_of_two (position_in n client 0 visits) (position_among client 0 routes)) same)
            ∙ sym (position-among client (set routes v visits));
      }

module _ (places : ℕ) (routes : Routes) (first : ℕ) (list : List Visit) (near : first < length routes) (once : AreOnce routes) where
  abbrev rest : Routes
  rest = set routes first []

  -- one list in another's place
  one : (s0 s1 s2 : List Spot) → AreOnce (set routes first list) → AreSpots places routes s0 → FreesList (list_at routes first) s0 s1 → MarksList first 0 list s1 s2 → AreSpots places (set routes first list) s2
  one s0 s1 s2 after are frees marks =
      let same : set rest first list ≡ set routes first list = set-set routes first [] list in
      subst (λ (plan : Routes). AreSpots places plan s2) same
      (entered places rest first s1 s2 list (omega (arith, length-set routes first [], near)) (list_at-set routes first [] near) (subst AreOnce (sym same) after) (left places routes first s0 s1 once are frees) marks)

  -- two lists in those of others
  two : (second : ℕ) (other : List Visit) (s0 s1 s2 s3 s4 : List Spot) → second < length routes → second ≢ first → AreOnce (set (set routes first list) second other) → AreSpots places routes s0 →
      FreesList (list_at routes first) s0 s1 → FreesList (list_at routes second) s1 s2 → MarksList first 0 list s2 s3 → MarksList second 0 other s3 s4 → AreSpots places (set (set routes first list) second other) s4
  two second other s0 s1 s2 s3 s4 inside apart after are frees frees' marks marks' =
      let none : Routes = set rest second [] in
      let changed : Routes = set routes first list in
      let half : Routes = set changed second [] in
      let whole : Routes = set changed second other in
      let long_changed : length changed ≡ length routes = length-set routes first list in
      let long_rest : length rest ≡ length routes = length-set routes first [] in
      let long_none : length none ≡ length rest = length-set rest second [] in
      let long_half : length half ≡ length changed = length-set changed second [] in
      let long_whole : length whole ≡ length changed = length-set changed second other in
      let is_half : set none first list ≡ half = set_comm rest second first [] list apart ∙ ap (λ (plan : Routes). set plan second []) (set-set routes first [] list) in
      let is_whole : set half second other ≡ whole = set-set changed second [] other in
      let half_once : AreOnce half = subst AreOnce (set-set changed second other []) (fewer whole second (omega arith) after) in
      let at1 : AreSpots places rest s1 = left places routes first s0 s1 once are frees in
      let at2 : AreSpots places none s2 =
      left places rest second s1 s2 (fewer routes first near once) at1 (subst (λ (xs : List Visit). FreesList xs s1 s2) (sym (list_at-set_other routes first second [] (λ e. apart (sym e)))) frees') in
      let at3 : AreSpots places half s3 =
      subst (λ (plan : Routes). AreSpots places plan s3) is_half
      (entered places none first s2 s3 list (omega arith) (list_at-set_other rest second first [] apart ∙ list_at-set routes first [] near) (subst AreOnce (sym is_half) half_once) at2 marks) in
      subst (λ (plan : Routes). AreSpots places plan s4) is_whole
      (entered places half second s3 s4 other (omega arith) (list_at-set changed second [] (omega arith)) (subst AreOnce (sym is_whole) after) at3 marks')

-- the same by routes
abbrev visits_in : RouteState → List Visit
visits_in state = state.visits

pub moved : (places : ℕ) (states : List RouteState) (route : RouteState) (other : Option RouteState) (s0 s1 s2 s3 s4 : List Spot) → route.vehicle < length states → IfSome other (λ r. r.vehicle < length states) →
    IfSome other (λ r. r.vehicle ≢ route.vehicle) → AreOnce (lists_of states) → AreOnce (lists_of (placed other (placed (Some route) states))) → AreSpots places (lists_of states) s0 →
    FreesList (list_at (lists_of states) route.vehicle) s0 s1 → Leaves (lists_of states) other s1 s2 → MarksList route.vehicle 0 route.visits s2 s3 → Enters other s3 s4 →
    AreSpots places (lists_of (placed other (placed (Some route) states))) s4
moved places states route None s0 s1 s2 s3 s4 near inside apart once after are frees leaves marks enters =
    let lists : Routes = lists_of states in
    let same : lists_of (set states route.vehicle route) ≡ set lists route.vehicle route.visits = map-set visits_in states route.vehicle route in
    subst (λ (plan : Routes). AreSpots places plan s4) (sym same)
    (one places lists route.vehicle route.visits (omega (arith, length-map states visits_in, near)) once s0 s1 s4 (subst AreOnce same after) are frees
    (subst (λ (spots : List Spot). MarksList route.vehicle 0 route.visits spots s4) leaves (subst (λ (spots : List Spot). MarksList route.vehicle 0 route.visits s2 spots) (sym enters) marks)))
moved places states route (Some other) s0 s1 s2 s3 s4 near inside apart once after are frees leaves marks enters =
    let lists : Routes = lists_of states in
    let same : lists_of (set (set states route.vehicle route) other.vehicle other) ≡ set (set lists route.vehicle route.visits) other.vehicle other.visits =
    map-set visits_in (set states route.vehicle route) other.vehicle other ∙ ap (λ (plan : Routes). set plan other.vehicle other.visits) (map-set visits_in states route.vehicle route) in
    subst (λ (plan : Routes). AreSpots places plan s4) (sym same)
    (two places lists route.vehicle route.visits (omega (arith, length-map states visits_in, near)) once other.vehicle other.visits s0 s1 s2 s3 s4 (omega (arith, length-map states visits_in, inside)) apart
    (subst AreOnce same after) are frees leaves marks enters)

-- the list of a vehicle, by its route that was read
pub list-read : (states : List RouteState) (v at : ℕ) (state : RouteState) (visits : List Visit) → at ≡ v → v < length states → state ≡ get_or states at state → visits ≡ state.visits → visits ≡ list_at (lists_of states) v
list-read states v at state visits e near is same =
    same ∙ ap visits_in (is ∙ ap (λ (n : ℕ). get_or states n state) e) ∙ list-there states v state near

-- the same spots of the same plan
pub same-spots : (count places : ℕ) (plan after : Routes) (spots now : List Spot) → count ≡ places → plan ≡ after → now ≡ spots → AreSpots count plan spots → AreSpots places after now
same-spots count places plan after spots now a b e are =
    subst (λ (n : ℕ). AreSpots n after now) a (subst (λ (lists : Routes). AreSpots count lists now) b (subst (AreSpots count plan) (sym e) are))
