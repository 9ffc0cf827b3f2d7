-- What stands beside the clients of a plan's first lists, one visit after the other.
use Rattle.std.proofs.Common.{◌≡◌, ◌≢◌, ℕ, suc, ◌+◌, ◌-◌, ◌<◌, ◌≤◌, ◌⊎◌, inl, inr, Bool, true, false, ◌||◌, List, [], ◌∷◌, ◌++◌, length, get_or, set, take, drop, refl, sym, ◌∙◌, ap, ap₂, subst, arith, Some}
use Rattle.std.specs.Prelude.{nat_eq, replicate}
use Rattle.std.specs.List.{list_all}
use Rattle.std.proofs.Math.Seq.{split_at}
use Rattle.std.proofs.lemmas.Bool.Decides.{nat_tests}
use Rattle.std.proofs.lemmas.Bool.{cases_lt}
use Rattle.std.proofs.lemmas.List.{get_or-replicate, get_or-set_other, get_or-set_same, get_or-take, get_or_default, get_or_past, length-replicate, length-set, length-take, take_all, take_more, take_rest}
use Rattle.std.proofs.lemmas.List.Elements.{All-drop, All-take}
use Rattle.std.proofs.lemmas.List.Folds.{list_any_more, list_any_none}
use Rattle.std.proofs.lemmas.List.Sums.{AllPass-from_list_all, list_all-from_AllPass}
use Rattle.std.proofs.lemmas.Option.{slice_get-get_or}
use Rattle.problem_data.specs.declared.problem.Problem.{Problem}
use Rattle.problem_data.specs.declared.visit.Visit.{Visit}
use Rattle.problem_data.specs.declared.visit.Visit.TheVariants.{Client, Reload}
use Rattle.problem_data.specs.Places.{place_count}
use Rattle.problem_data.specs.Visits.{place_of}
use Rattle.routing_model.specs.Lawful.{is_lawful, names_place}
use Rattle.routing_model.specs.Routes.{Routes, has_client, is_visit_of, is_visited, list_at}
use Rattle.routing_model.proofs.LawfulFacts.{lawful-facts}
use Rattle.search_model.proofs.ClientPlaces.{Once, StandsAt, cut-about, elsewhere-not, list-read, not-before, times-here, vehicle-there}
use Rattle.search_model.proofs.RunMoves.{lawful-once}
use Rattle.genetic_model.specs.BrokenPairs.{Neighbour, as_neighbour, back_of, depot, front_of, left, neighbour_of, right, triples}
use Rattle.genetic_model.proofs.Beside.{set-tells_neighbours, set-tells_unvisited}
use Rattle.plan_differences.specs.declared.flanks.Flanks.{Flanks}
use Rattle.plan_differences.specs.declared.flanks.TheConstants.{NONE}
use Rattle.plan_differences.specs.Beside.{AreFlanks, SaysBeside, beside_of, flanks_at}
use Rattle.plan_differences.specs.inside.Filling.{AreFilled, flanked}

abbrev unvisited : Flanks
unvisited = record { left = NONE; right = NONE }

-- the same clients were met
pub filled-same : (p : Problem) (routes : Routes) (met other : ℕ → Bool) (entries : List Flanks) → ((c : ℕ) → other c ≡ met c) → AreFilled p routes met entries → AreFilled p routes other entries
filled-same p routes met other entries same is = record {
  places = is.places;
  told = λ c h. is.told c (sym (same c) ∙ h);
  others = λ c h. is.others c (sym (same c) ∙ h);
}

or-nothing : (b : Bool) → (b || false) ≡ b
or-nothing true = refl
or-nothing false = refl

or-third : (a b c : Bool) → (a || (b || c)) ≡ ((a || b) || c)
or-third true b c = refl
or-third false b c = refl

first-false : (a b : Bool) → (a || b) ≡ false → a ≡ false
first-false true b h = h
first-false false b h = refl

second-false : (a b : Bool) → (a || b) ≡ false → b ≡ false
second-false true b h = cc
second-false false b h = h

either : (a b : Bool) → (a || b) ≡ true → b ≡ false → a ≡ true
either true b h k = refl
either false b h k = cc

-- what a client behind the list has on its left, with one visit more
back-more : (n : Neighbour) (xs : List Visit) (v : Visit) → back_of n (xs ++ v ∷ []) ≡ as_neighbour v
back-more n [] v = refl
back-more n (x ∷ xs) v = back-more (as_neighbour x) xs v

pub back-next : (visits : List Visit) (k : ℕ) (d : Visit) → k < length visits → back_of depot (take (k + 1) visits) ≡ as_neighbour (get_or visits k d)
back-next visits k d inside = ap (back_of depot) (take_more visits k d inside) ∙ back-more depot (take k visits) (get_or visits k d)

module _ (p : Problem) (routes : Routes) (v : ℕ) where
  -- the clients that were met before a place of a vehicle's list
  abbrev pub met : ℕ → ℕ → Bool
  met k c = is_visited (take v routes) c || has_client c (take k (list_at routes v))

  pub begin : (entries : List Flanks) → AreFilled p routes (is_visited (take v routes)) entries → AreFilled p routes (met 0) entries
  begin entries is = filled-same p routes (is_visited (take v routes)) (met 0) entries (λ c. or-nothing (is_visited (take v routes) c)) is

  pub end : (k : ℕ) (entries : List Flanks) → v < length routes → length (list_at routes v) ≤ k → AreFilled p routes (met k) entries → AreFilled p routes (is_visited (take (v + 1) routes)) entries
  end k entries inside done is = filled-same p routes (met k) (is_visited (take (v + 1) routes)) entries (λ c.
      list_any_more (has_client c) routes v [] inside
      ∙ ap (λ (visits : List Visit). is_visited (take v routes) c || has_client c visits) (sym (list-read routes v) ∙ sym (take_all k (list_at routes v) done))) is

  met-more : (k c : ℕ) (d : Visit) → k < length (list_at routes v) → met (k + 1) c ≡ (met k c || is_visit_of c (get_or (list_at routes v) k d))
  met-more k c d inside =
      ap (λ (b : Bool). is_visited (take v routes) c || b) (list_any_more (is_visit_of c) (list_at routes v) k d inside)
      ∙ or-third (is_visited (take v routes) c) (has_client c (take k (list_at routes v))) (is_visit_of c (get_or (list_at routes v) k d))

  pub with-reload : (k d : ℕ) (entries : List Flanks) → k < length (list_at routes v) → get_or (list_at routes v) k (Client 0) ≡ Reload d → AreFilled p routes (met k) entries → AreFilled p routes (met (k + 1)) entries
  with-reload k d entries inside is_reload is =
      filled-same p routes (met k) (met (k + 1)) entries (λ c.
      met-more k c (Client 0) inside ∙ (ap (λ (visit : Visit). met k c || is_visit_of c visit) is_reload ∙ or-nothing (met k c))) is

  module _ (once : Once routes) (k q : ℕ) (at : StandsAt routes q v k) where
    L : List Visit
    L = list_at routes v

    not-earlier : is_visited (take v routes) q ≡ false
    not-earlier = list_any_none (has_client q) (take v routes) (λ i d low.
        let long = length-take v routes in
        let below : i < v = omega arith in
        let inside : i < length routes = omega arith in
        ap (has_client q) (get_or-take v routes i d below ∙ get_or_default routes i d [] inside) ∙ elsewhere-not routes q v k (once q) at i (λ e. omega arith))

    cut : list_at routes v ≡ take k (list_at routes v) ++ Client q ∷ drop (suc k) (list_at routes v)
    cut = cut-about (list_at routes v) q k at

    whole : routes ≡ take v routes ++ (take k (list_at routes v) ++ Client q ∷ drop (suc k) (list_at routes v)) ∷ drop (suc v) routes
    whole =
        split_at routes v [] (vehicle-there routes q v k at)
        ∙ ap (λ (visits : List Visit). take v routes ++ visits ∷ drop (suc v) routes) (sym (list-read routes v) ∙ cut)

    -- the law of triples, for this client
    says : (f : Flanks) → beside_of f.left ≡ back_of depot (take k (list_at routes v)) → beside_of f.right ≡ front_of (drop (suc k) (list_at routes v)) → SaysBeside routes q f
    says f on_left on_right =
        let law = set-tells_neighbours (take v routes) (drop (suc v) routes) (take k (list_at routes v)) (drop (suc k) (list_at routes v)) q not-earlier
        (not-before q (list_at routes v) (take k (list_at routes v)) (drop (suc k) (list_at routes v)) (times-here routes q v k (once q) at) cut) in
        record {
          on_left = on_left ∙ (sym law.0 ∙ ap (λ (rs : Routes). neighbour_of (triples rs) left q) (sym whole));
          on_right = on_right ∙ (sym law.1 ∙ ap (λ (rs : Routes). neighbour_of (triples rs) right q) (sym whole));
        }

    same : (m n : ℕ) → nat_eq m n ≡ true → m ≡ n
    same m n h = grind (arith, nat_tests)

    other : (m n : ℕ) → nat_eq m n ≡ false → n ≢ m
    other m n h e = grind (arith, nat_tests)

    pub with-client : (f : Flanks) (entries : List Flanks) → q < length entries → k < length (list_at routes v) → get_or (list_at routes v) k (Client 0) ≡ Client q →
        beside_of f.left ≡ back_of depot (take k (list_at routes v)) → beside_of f.right ≡ front_of (drop (suc k) (list_at routes v)) →
        AreFilled p routes (met k) entries → AreFilled p routes (met (k + 1)) (set entries q f)
    with-client f entries long inside here on_left on_right is = record {
      places = subst (λ (n : ℕ). place_count p ≤ n) (sym (length-set entries q f)) is.places;
      told = λ c h. told c (nat_eq q c) refl h;
      others = λ c h. others c (nat_eq q c) refl h;
    }
      where
        more : (c : ℕ) → met (k + 1) c ≡ (met k c || nat_eq q c)
        more c = met-more k c (Client 0) inside ∙ ap (λ (visit : Visit). met k c || is_visit_of c visit) here

        told : (c : ℕ) (b : Bool) → nat_eq q c ≡ b → met (k + 1) c ≡ true → SaysBeside routes c (flanks_at (set entries q f) c)
        told c true e h =
            subst (λ (n : ℕ). SaysBeside routes n (flanks_at (set entries q f) n)) (same q c e)
            (subst (λ (g : Flanks). SaysBeside routes q g) (sym (get_or-set_same entries q f unvisited long)) (says f on_left on_right))
        told c false e h =
            subst (λ (g : Flanks). SaysBeside routes c g) (sym (get_or-set_other entries q c f unvisited (other q c e))) (is.told c (either (met k c) (nat_eq q c) (sym (more c) ∙ h) e))

        others : (c : ℕ) (b : Bool) → nat_eq q c ≡ b → met (k + 1) c ≡ false → flanks_at (set entries q f) c ≡ unvisited
        others c true e h = absurd (contradiction (nat_eq q c) e (second-false (met k c) (nat_eq q c) (sym (more c) ∙ h)))
          where
            contradiction : (b : Bool) → b ≡ true → b ≡ false → ⊥
            contradiction b t g = cc
        others c false e h = get_or-set_other entries q c f unvisited (other q c e) ∙ is.others c (first-false (met k c) (nat_eq q c) (sym (more c) ∙ h))

-- the visits of a list name existing places, and so do those of a part of it
pub list-named : (p : Problem) (routes : Routes) (v : ℕ) → is_lawful p routes ≡ true → v < length routes → list_all (names_place p) (list_at routes v) ≡ true
list-named p routes v lawful inside =
    ap (list_all (names_place p)) (list-read routes v)
    ∙ AllPass-from_list_all (list_all (names_place p)) routes (lawful-facts p routes lawful).names_places v [] inside

pub part-named : (p : Problem) (visits : List Visit) (m n : ℕ) → list_all (names_place p) visits ≡ true → list_all (names_place p) (take m (drop n visits)) ≡ true
part-named p visits m n all =
    list_all-from_AllPass (names_place p) (take m (drop n visits))
    (All-take (λ (visit : Visit). names_place p visit ≡ true) m (drop n visits) (All-drop (λ (visit : Visit). names_place p visit ≡ true) n visits (AllPass-from_list_all (names_place p) visits all)))

pub visit-named : (p : Problem) (visits : List Visit) (k : ℕ) → list_all (names_place p) visits ≡ true → k < length visits → names_place p (get_or visits k (Client 0)) ≡ true
visit-named p visits k all inside = AllPass-from_list_all (names_place p) visits all k (Client 0) inside

pub named-there : (p : Problem) (visit : Visit) → names_place p visit ≡ true → place_of visit < place_count p
named-there p (Client c) h = grind (arith, nat_tests)
named-there p (Reload d) h = grind (arith, nat_tests)

-- one visit more, as the code has it
pub filled-next : (p : Problem) (routes : Routes) (v : ℕ) (visits : List Visit) (k : ℕ) (entries made : List Flanks) (before after : ℕ) → is_lawful p routes ≡ true → visits ≡ list_at routes v → k < length visits →
    made ≡ flanked entries (get_or visits k (Client 0)) (record { left = before; right = after }) → names_place p (get_or visits k (Client 0)) ≡ true →
    beside_of before ≡ back_of depot (take k (list_at routes v)) → beside_of after ≡ front_of (take (length visits - (k + 1)) (drop (k + 1) visits)) →
    AreFilled p routes (met p routes v k) entries → AreFilled p routes (met p routes v (k + 1)) made
filled-next p routes v visits k entries made before after lawful list inside is named on_left on_right filled =
    subst (AreFilled p routes (met p routes v (k + 1))) (sym is) (by (get_or visits k (Client 0)) (ap (λ (xs : List Visit). get_or xs k (Client 0)) (sym list)) named)
  where
    within : k < length (list_at routes v)
    within = subst (λ (xs : List Visit). k < length xs) list inside

    next : suc k ≡ k + 1
    next = omega arith

    behind : take (length visits - (k + 1)) (drop (k + 1) visits) ≡ drop (suc k) (list_at routes v)
    behind = take_rest visits (k + 1) ∙ ap₂ (λ (n : ℕ) (xs : List Visit). drop n xs) (sym next) list

    by : (x : Visit) → get_or (list_at routes v) k (Client 0) ≡ x → names_place p x ≡ true → AreFilled p routes (met p routes v (k + 1)) (flanked entries x (record { left = before; right = after }))
    by (Client q) e n =
        with-client p routes v (lawful-once p routes lawful) k q (slice_get-get_or (list_at routes v) k (Client 0) within ∙ ap (λ (x : Visit). Some x) e)
        (record { left = before; right = after }) entries (let t = named-there p (Client q) n in let l = filled.places in omega arith) within e on_left (on_right ∙ ap front_of behind) filled
    by (Reload d) e n = with-reload p routes v k d entries within e filled

-- no client was met
pub filled-none : (p : Problem) (routes : Routes) (n : ℕ) → place_count p ≤ n → AreFilled p routes (is_visited []) (replicate n unvisited)
filled-none p routes n long = record {
  places = subst (λ (m : ℕ). place_count p ≤ m) (sym (length-replicate n unvisited)) long;
  told = λ c h. absurd (no h);
  others = λ c h. by c (cases_lt c n);
}
  where
    no : false ≡ true → ⊥
    no e = cc

    by : (c : ℕ) → (c < n) ⊎ (n ≤ c) → get_or (replicate n unvisited) c unvisited ≡ unvisited
    by c (inl h) = get_or-replicate n c unvisited unvisited h
    by c (inr h) = get_or_past (replicate n unvisited) c unvisited (subst (λ (m : ℕ). m ≤ c) (sym (length-replicate n unvisited)) h)

-- all clients were met that the plan visits
pub filled-all : (p : Problem) (routes : Routes) (entries : List Flanks) → AreFilled p routes (is_visited routes) entries → AreFlanks p routes entries
filled-all p routes entries is = record {
  places = is.places;
  clients = λ c h. by c (is_visited routes c) refl;
}
  where
    by : (c : ℕ) (b : Bool) → is_visited routes c ≡ b → SaysBeside routes c (flanks_at entries c)
    by c true e = is.told c e
    by c false e = subst (SaysBeside routes c) (sym (is.others c e)) (record { on_left = sym (set-tells_unvisited routes left c e); on_right = sym (set-tells_unvisited routes right c e) })
