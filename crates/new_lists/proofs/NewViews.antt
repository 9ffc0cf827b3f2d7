-- What the views of a new list lend, which routes lend them, and how many legs they cost.
use Rattle.std.proofs.Common.{◌≡◌, ℕ, ◌+◌, ◌-◌, ◌≤◌, Bool, true, false, cond, not, List, [], ◌∷◌, ◌++◌, length, map, refl, sym, ◌∙◌, ap, arith, append_assoc, slice_range, Option, Some}
use Rattle.std.specs.Prelude.{All, flat_map, nat_eq, option_map, sum_by}
use Rattle.std.specs.List.{list_any}
use Rattle.std.proofs.lemmas.Bool.Decides.{nat_tests}
use Rattle.std.proofs.lemmas.Grind.{flat_map-append}
use Rattle.std.proofs.lemmas.List.{append-nil, length-append, length-map, map-append}
use Rattle.std.proofs.lemmas.List.Elements.{All-append, All-cons, All-head, All-nil, All-tail}
use Rattle.std.proofs.lemmas.List.Sums.{sum_by-append, sum_by-cons}
use Rattle.problem_data.specs.declared.visit.Visit.{Visit}
use Rattle.problem_data.specs.declared.visit.Visit.TheVariants as visit
use Rattle.routing_model.specs.Routes.{Routes, list_at}
use Rattle.gain_model.specs.declared.part.Part.{Part}
use Rattle.gain_model.specs.declared.part.Part.TheVariants.{Client, Reload, Run}
use Rattle.gain_model.specs.GainReads.{SeenView, anew_reads, is_other_profile, joint_reads, own_stop, side_reads}
use Rattle.gain_model.specs.Gains.{part_visits}
use Rattle.gain_model.specs.MoveReads.{profile_of}
use Rattle.gain_model.specs.Proposals.{IsListedIn}
use Rattle.gain_model.proofs.StandsOnce.{same_test}
use Rattle.penalty_cost.specs.Proposals.{lender_of, seen_side}
use Rattle.route_cache.specs.Routes.{RouteState, ViewState, lent}
use Rattle.route_cache.proofs.Slices.{slice-none}
use Rattle.joined_views.specs.Views.{seen_view}
use Rattle.move_core.specs.Searches.{SearchState}
use Rattle.new_lists.specs.declared.new_list.NewList.{NewList}
use Rattle.new_lists.specs.NewLists.{list_of}
use Rattle.new_lists.specs.Reads.{foreign_visits, list_reads}
use Rattle.new_lists.specs.Views.{back_view, back_views, front_view, front_views, list_views, part_views, route_at, run_view, run_views, side_of, visit_view}

same : (a b : ℕ) → nat_eq a b ≡ true → a ≡ b
same a b h = grind (arith, nat_tests)

-- an empty run is lent by no view, and another one by one
lent-run : (route : RouteState) (first end : ℕ) → flat_map lent (run_views route first end) ≡ slice_range route.visits first end
lent-run route first end = by (nat_eq first end) refl
  where
    by : (b : Bool) → nat_eq first end ≡ b → flat_map lent (cond b [] (run_view route first end ∷ [])) ≡ slice_range route.visits first end
    by true none = sym (ap (slice_range route.visits first) (sym (same first end none)) ∙ slice-none route.visits first)
    by false some = append-nil (slice_range route.visits first end)

lent-part : (s : SearchState) (part : Part) → flat_map lent (part_views s part) ≡ part_visits s.routes part
lent-part s (Run vehicle first end) = lent-run (route_at s vehicle) first end
lent-part s (Client place) = refl
lent-part s (Reload depot) = refl

five : (a b c d e : List Visit) → (((a ++ b) ++ c) ++ d) ++ e ≡ a ++ (b ++ (c ++ (d ++ e)))
five a b c d e = append_assoc ((a ++ b) ++ c) d e ∙ (append_assoc (a ++ b) c (d ++ e) ∙ append_assoc a b (c ++ (d ++ e)))

-- what the views lend is the new list
pub lent-list : (s : SearchState) (list : NewList) → flat_map lent (list_views s list) ≡ list_of s.routes list
lent-list s list =
    let own : List Visit = list_at s.routes list.vehicle in
    let front : List ViewState = front_views s list in
    let one : List ViewState = part_views s list.one in
    let two : List ViewState = part_views s list.two in
    let three : List ViewState = part_views s list.three in
    let back : List ViewState = back_views s list in
    flat_map-append lent (((front ++ one) ++ two) ++ three) back
    ∙ (ap (λ (xs : List Visit). xs ++ flat_map lent back) (flat_map-append lent ((front ++ one) ++ two) three)
    ∙ (ap (λ (xs : List Visit). (xs ++ flat_map lent three) ++ flat_map lent back) (flat_map-append lent (front ++ one) two)
    ∙ (ap (λ (xs : List Visit). ((xs ++ flat_map lent two) ++ flat_map lent three) ++ flat_map lent back) (flat_map-append lent front one)
    ∙ ((λ i. (((append-nil (slice_range own 0 list.left) i ++ lent-part s list.one i) ++ lent-part s list.two i) ++ lent-part s list.three i) ++ append-nil (slice_range own list.right (length own)) i)
    ∙ five (slice_range own 0 list.left) (part_visits s.routes list.one) (part_visits s.routes list.two) (part_visits s.routes list.three) (slice_range own list.right (length own))))))

-- a fact of each view
module _ (P : ViewState → Type 0) (s : SearchState) where
  pub all-run : (vehicle first end : ℕ) → P (run_view (route_at s vehicle) first end) → All P (run_views (route_at s vehicle) first end)
  all-run vehicle first end h = by (nat_eq first end)
    where
      by : (b : Bool) → All P (cond b [] (run_view (route_at s vehicle) first end ∷ []))
      by true = All-nil P
      by false = All-cons P (run_view (route_at s vehicle) first end) [] h (All-nil P)

  pub all-part : (part : Part) → ((vehicle first end : ℕ) → P (run_view (route_at s vehicle) first end)) → ((visit : Visit) → P (visit_view s.problem visit)) → All P (part_views s part)
  all-part (Run vehicle first end) run alone = all-run vehicle first end (run vehicle first end)
  all-part (Client place) run alone = All-cons P (visit_view s.problem (visit.Client place)) [] (alone (visit.Client place)) (All-nil P)
  all-part (Reload depot) run alone = All-cons P (visit_view s.problem (visit.Reload depot)) [] (alone (visit.Reload depot)) (All-nil P)

  module _ (list : NewList) (front : P (front_view (route_at s list.vehicle) list.left)) (one : All P (part_views s list.one)) (two : All P (part_views s list.two)) (three : All P (part_views s list.three)) where
    pub all-front : All P (front_views s list)
    all-front = All-cons P (front_view (route_at s list.vehicle) list.left) [] front (All-nil P)

    pub all-one : All P (front_views s list ++ part_views s list.one)
    all-one = All-append P (front_views s list) (part_views s list.one) all-front one

    pub all-two : All P ((front_views s list ++ part_views s list.one) ++ part_views s list.two)
    all-two = All-append P (front_views s list ++ part_views s list.one) (part_views s list.two) all-one two

    pub all-three : All P (((front_views s list ++ part_views s list.one) ++ part_views s list.two) ++ part_views s list.three)
    all-three = All-append P ((front_views s list ++ part_views s list.one) ++ part_views s list.two) (part_views s list.three) all-two three

    pub all-views : P (back_view (route_at s list.vehicle) list.right) → All P (list_views s list)
    all-views back =
        All-append P (((front_views s list ++ part_views s list.one) ++ part_views s list.two) ++ part_views s list.three) (back_views s list) all-three
        (All-cons P (back_view (route_at s list.vehicle) list.right) [] back (All-nil P))

-- the routes that lend views are listed where those of all views are
pub lenders-listed : (routes : Routes) (views : List ViewState) → All (λ (view : ViewState). All (IsListedIn routes) (lender_of view)) views → All (IsListedIn routes) (flat_map lender_of views)
lenders-listed routes [] all = All-nil (IsListedIn routes)
lenders-listed routes (view ∷ views) all =
    All-append (IsListedIn routes) (lender_of view) (flat_map lender_of views) (All-head (λ (view : ViewState). All (IsListedIn routes) (lender_of view)) view views all)
    (lenders-listed routes views (All-tail (λ (view : ViewState). All (IsListedIn routes) (lender_of view)) view views all))

-- there are few views
few-part : (s : SearchState) (part : Part) → length (part_views s part) ≤ 1
few-part s (Run vehicle first end) = by (nat_eq first end)
  where
    by : (b : Bool) → length (cond b [] (run_view (route_at s vehicle) first end ∷ [])) ≤ 1
    by true = omega arith
    by false = omega arith
few-part s (Client place) = omega arith
few-part s (Reload depot) = omega arith

module _ (s : SearchState) (list : NewList) where
  pub few-one : length (front_views s list ++ part_views s list.one) ≤ 2
  few-one =
      let sum = length-append (front_views s list) (part_views s list.one) in
      let run = few-part s list.one in
      omega arith

  pub few-two : length ((front_views s list ++ part_views s list.one) ++ part_views s list.two) ≤ 3
  few-two =
      let sum = length-append (front_views s list ++ part_views s list.one) (part_views s list.two) in
      let run = few-part s list.two in
      let before = few-one in
      omega arith

  pub few-three : length (((front_views s list ++ part_views s list.one) ++ part_views s list.two) ++ part_views s list.three) ≤ 4
  few-three =
      let sum = length-append ((front_views s list ++ part_views s list.one) ++ part_views s list.two) (part_views s list.three) in
      let run = few-part s list.three in
      let before = few-two in
      omega arith

  few-views : length (list_views s list) ≤ 5
  few-views =
      let sum = length-append (((front_views s list ++ part_views s list.one) ++ part_views s list.two) ++ part_views s list.three) (back_views s list) in
      let before = few-three in
      omega arith

-- a joint is one leg
joints-most : (views : List SeenView) → joint_reads views ≤ length views + 1
joints-most views = by (own_stop (list_any (λ (v : SeenView). v.starts) views)) (own_stop (list_any (λ (v : SeenView). v.ends) views)) (length views) (stop _) (stop _)
  where
    stop : (b : Bool) → own_stop b ≤ 1
    stop true = omega arith
    stop false = omega arith

    by : (a b n : ℕ) → a ≤ 1 → b ≤ 1 → a + n + b - 1 ≤ n + 1
    by a b n h k = omega arith

-- the legs inside of views
module _ (s : SearchState) (v : ℕ) where
  abbrev profile : ℕ
  profile = profile_of s.problem v

  abbrev anew : List ViewState → ℕ
  anew views = sum_by (anew_reads profile) (map (seen_view s.problem) views)

  anew-append : (xs ys : List ViewState) → anew (xs ++ ys) ≡ anew xs + anew ys
  anew-append xs ys = ap (sum_by (anew_reads profile)) (map-append (seen_view s.problem) xs ys) ∙ sum_by-append (anew_reads profile) (map (seen_view s.problem) xs) (map (seen_view s.problem) ys)

  anew-one : (view : ViewState) → anew (view ∷ []) ≡ anew_reads profile (seen_view s.problem view)
  anew-one view = let sum = sum_by-cons (anew_reads profile) (seen_view s.problem view) [] in let none : sum_by (anew_reads profile) [] ≡ 0 = refl in omega (arith, sum, none)

  -- none of a view that a route of the profile lends, and of another one no more than its visits
  anew-own : (view : ViewState) (vehicle : ℕ) → view.vehicle ≡ Some vehicle → profile_of s.problem vehicle ≡ profile → anew_reads profile (seen_view s.problem view) ≡ 0
  anew-own view vehicle is own =
      ap (λ (o : Option ℕ). cond (is_other_profile profile (option_map (profile_of s.problem) o)) (length (lent view)) 0) is
      ∙ ap (λ (b : Bool). cond (not b) (length (lent view)) 0) (same_test (profile_of s.problem vehicle) profile own)

  anew-most : (view : ViewState) → anew_reads profile (seen_view s.problem view) ≤ length (lent view)
  anew-most view = by (is_other_profile profile (option_map (profile_of s.problem) view.vehicle)) (length (lent view))
    where
      by : (b : Bool) (n : ℕ) → cond b n 0 ≤ n
      by true n = omega arith
      by false n = omega arith

  anew-part : (part : Part) → anew (part_views s part) ≤ foreign_visits s v part
  anew-part (Run lender first end) = by (nat_eq first end) (nat_eq (profile_of s.problem lender) profile) refl
    where
      view : ViewState
      view = run_view (route_at s lender) first end

      by : (empty alike : Bool) → nat_eq (profile_of s.problem lender) profile ≡ alike →
          anew (cond empty [] (run_view (route_at s lender) first end ∷ [])) ≤ cond alike 0 (length (slice_range (list_at s.routes lender) first end))
      by true alike _ = omega arith
      by false true alike =
          let one = anew-one (run_view (route_at s lender) first end) in
          let none = anew-own (run_view (route_at s lender) first end) lender refl (same (profile_of s.problem lender) profile alike) in
          omega (arith, one, none)
      by false false _ =
          let one = anew-one (run_view (route_at s lender) first end) in
          let most = anew-most (run_view (route_at s lender) first end) in
          omega (arith, one, most)
  anew-part (Client place) = let one = anew-one (visit_view s.problem (visit.Client place)) in omega (arith, one)
  anew-part (Reload depot) = let one = anew-one (visit_view s.problem (visit.Reload depot)) in omega (arith, one)

module _ (s : SearchState) (list : NewList) where
  joints : joint_reads (map (seen_view s.problem) (list_views s list)) ≤ 6
  joints =
      let most = joints-most (map (seen_view s.problem) (list_views s list)) in
      let long = length-map (list_views s list) (seen_view s.problem) in
      let few = few-views s list in
      omega (arith, most, long, few)

  -- all legs of a side
  pub reads-most : side_reads (seen_side s.problem (side_of s list)) ≤ list_reads s list
  reads-most =
      let v : ℕ = list.vehicle in
      let a = anew-append s v (front_views s list) (part_views s list.one) in
      let b = anew-append s v (front_views s list ++ part_views s list.one) (part_views s list.two) in
      let c = anew-append s v ((front_views s list ++ part_views s list.one) ++ part_views s list.two) (part_views s list.three) in
      let d = anew-append s v (((front_views s list ++ part_views s list.one) ++ part_views s list.two) ++ part_views s list.three) (back_views s list) in
      let front : anew s v (front_views s list) ≡ 0 = anew-one s v (front_view (route_at s v) list.left) ∙ anew-own s v (front_view (route_at s v) list.left) v refl refl in
      let back : anew s v (back_views s list) ≡ 0 = anew-one s v (back_view (route_at s v) list.right) ∙ anew-own s v (back_view (route_at s v) list.right) v refl refl in
      let one = anew-part s v list.one in
      let two = anew-part s v list.two in
      let three = anew-part s v list.three in
      omega (arith, a, b, c, d, front, back, one, two, three, joints)
