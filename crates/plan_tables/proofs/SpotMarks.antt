-- Where the clients of a plan stand, marked from the last list on.
use Rattle.std.proofs.Common.{◌≡◌, ℕ, ◌+◌, ◌-◌, ◌<◌, ◌≤◌, Bool, true, false, cond, List, [], ◌∷◌, length, drop, drop-cons, add-one, get_or, refl, sym, ◌∙◌, ap, arith, subst, Option, Some}
use Rattle.std.proofs.lemmas.List.{drop_all, length-map}
use Rattle.std.proofs.Math.ListN.{get_or-map}
use Rattle.std.specs.Prelude.{option_map}
use Rattle.std.specs.List.{position_from}
use Rattle.problem_data.specs.declared.visit.Visit.{Visit}
use Rattle.routing_model.specs.Routes.{Routes, is_visit_of}
use Rattle.route_cache.specs.Routes.{RouteState}
use Rattle.plan_tables.specs.Routes.{lists_of}
use Rattle.plan_tables.specs.declared.spots.Spot.{Spot}
use Rattle.plan_tables.specs.inside.Marks.{AreFree, AreMarkedFrom, MarksList, MarksVisit, first_of_two, position_in}
use Rattle.plan_tables.specs.Spots.{AreSpots, position_at}
use Rattle.plan_tables.proofs.PositionsAmong.{position-among}
use Rattle.plan_tables.proofs.Positions.{named}

-- one visit more, before the others
marked_by : (b : Bool) (vehicle start : ℕ) (q : Option ℕ) (other : Option (ℕ × ℕ)) →
    cond b (Some (vehicle, start + 1)) (first_of_two (option_map (λ place. (vehicle, place + 1)) q) other) ≡ first_of_two (option_map (λ place. (vehicle, place + 1)) (cond b (Some start) q)) other
marked_by true vehicle start q other = refl
marked_by false vehicle start q other = refl

pub marks-more : (vehicle start : ℕ) (visit : Visit) (rest : List Visit) (before mid now : List Spot) → MarksList vehicle (start + 1) rest before mid →
    MarksVisit (record { vehicle = vehicle; place = start + 1 }) visit mid now →
    MarksList vehicle start (visit ∷ rest) before now
marks-more vehicle start visit rest before mid now m v = record {
  count = v.count ∙ m.count;
  each = λ client none h.
      v.each client none (omega (arith, m.count))
      ∙ (λ i. cond (is_visit_of client visit) (named vehicle (start + 1) (λ e. omega (arith, e)) i) (m.each client none h i))
      ∙ marked_by (is_visit_of client visit) vehicle start (position_from (is_visit_of client) (start + 1) rest) (position_at (get_or before client none));
}

pub marks-none : (vehicle start : ℕ) (spots : List Spot) → MarksList vehicle start [] spots spots
marks-none vehicle start spots = record { count = refl; each = λ client none h. refl }

-- one list more, before the others
pub marked-more : (places vehicle : ℕ) (visits : List Visit) (rest : Routes) (mid now : List Spot) → AreMarkedFrom places (vehicle + 1) rest mid → MarksList vehicle 0 visits mid now →
    AreMarkedFrom places vehicle (visits ∷ rest) now
marked-more places vehicle visits rest mid now m v = record {
  count = v.count ∙ m.count;
  each = λ client none h.
      v.each client none (omega (arith, m.count))
      ∙ ap (λ (o : Option (ℕ × ℕ)). first_of_two (position_in vehicle client 0 visits) o) (m.each client none h);
}

pub marked-none : (places vehicle : ℕ) (spots : List Spot) → AreFree places spots → AreMarkedFrom places vehicle [] spots
marked-none places vehicle spots f = record { count = f.count; each = f.each }

pub spots-are : (places : ℕ) (routes : Routes) (spots : List Spot) → AreMarkedFrom places 0 routes spots → AreSpots places routes spots
spots-are places routes spots m = record {
  count = m.count;
  each = λ client none h. m.each client none h ∙ sym (position-among client routes);
}

-- the same by positions: behind the last visit, one position less, and from the first visit on
pub marks-end : (vehicle : ℕ) (visits : List Visit) (spots : List Spot) → MarksList vehicle (length visits) (drop (length visits) visits) spots spots
marks-end vehicle visits spots = subst (λ (xs : List Visit). MarksList vehicle (length visits) xs spots spots) (sym (drop_all (length visits) visits (omega arith))) (marks-none vehicle (length visits) spots)

pub marks-at : (vehicle left : ℕ) (none : Visit) (visits : List Visit) (before mid now : List Spot) → 0 < left → left ≤ length visits → MarksList vehicle left (drop left visits) before mid →
    MarksVisit (record { vehicle = vehicle; place = left - 1 + 1 }) (get_or visits (left - 1) none) mid now → MarksList vehicle (left - 1) (drop (left - 1) visits) before now
marks-at vehicle left none visits before mid now some there m v =
    let n : ℕ = left - 1 in
    let next : left ≡ n + 1 = omega arith in
    let near : n < length visits = omega arith in
    subst (λ (xs : List Visit). MarksList vehicle n xs before now) (sym (drop-cons visits n none near ∙ ap (λ (k : ℕ). get_or visits n none ∷ drop k visits) (sym (add-one n))))
    (marks-more vehicle n (get_or visits n none) (drop (n + 1) visits) before mid now (subst (λ (k : ℕ). MarksList vehicle k (drop k visits) before mid) next m) v)

pub marks-all : (vehicle left : ℕ) (visits : List Visit) (before now : List Spot) → left ≡ 0 → MarksList vehicle left (drop left visits) before now → MarksList vehicle 0 visits before now
marks-all vehicle left visits before now e m = subst (λ (n : ℕ). MarksList vehicle n (drop n visits) before now) e m

-- and of vehicles
pub marked-end : (places n : ℕ) (routes : Routes) (spots : List Spot) → length routes ≤ n → AreFree places spots → AreMarkedFrom places n (drop n routes) spots
marked-end places n routes spots h f = subst (λ (xs : Routes). AreMarkedFrom places n xs spots) (sym (drop_all n routes h)) (marked-none places n spots f)

pub marked-at : (places left : ℕ) (none : List Visit) (routes : Routes) (mid now : List Spot) → 0 < left → left ≤ length routes → AreMarkedFrom places left (drop left routes) mid →
    MarksList (left - 1) 0 (get_or routes (left - 1) none) mid now → AreMarkedFrom places (left - 1) (drop (left - 1) routes) now
marked-at places left none routes mid now some there m v =
    let n : ℕ = left - 1 in
    let next : left ≡ n + 1 = omega arith in
    let near : n < length routes = omega arith in
    subst (λ (xs : Routes). AreMarkedFrom places n xs now) (sym (drop-cons routes n none near ∙ ap (λ (k : ℕ). get_or routes n none ∷ drop k routes) (sym (add-one n))))
    (marked-more places n (get_or routes n none) (drop (n + 1) routes) mid now (subst (λ (k : ℕ). AreMarkedFrom places k (drop k routes) mid) next m) v)

pub marked-all : (places left : ℕ) (routes : Routes) (spots : List Spot) → left ≡ 0 → AreMarkedFrom places left (drop left routes) spots → AreSpots places routes spots
marked-all places left routes spots e m = spots-are places routes spots (subst (λ (n : ℕ). AreMarkedFrom places n (drop n routes) spots) e m)

-- the list of a route that was read
pub lists-at : (states : List RouteState) (n : ℕ) (state : RouteState) (xs : List Visit) → xs ≡ state.visits → state ≡ get_or states n state → xs ≡ get_or (lists_of states) n state.visits
lists-at states n state xs e is = e ∙ ap (λ (s : RouteState). s.visits) is ∙ sym (get_or-map (λ (s : RouteState). s.visits) states n state)

pub lists-count : (states : List RouteState) → length (lists_of states) ≡ length states
lists-count states = length-map states (λ (s : RouteState). s.visits)
