-- What improving the proposal of new lists finds.
use Rattle.std.proofs.Common.{◌≡◌, ℕ, ◌<◌, ◌≤◌, true, List, [], ◌∷◌, ◌++◌, length, map, refl, sym, ◌∙◌, ap, subst, arith, Option, Some, None}
use Rattle.std.specs.Prelude.{All, flat_map}
use Rattle.std.proofs.lemmas.List.Elements.{All-append, All-cons, All-nil}
use Rattle.std.proofs.lemmas.List.Sums.{sum_by-cons}
use Rattle.problem_data.specs.declared.problem.Problem.{Problem}
use Rattle.problem_data.specs.declared.visit.Visit.{Visit}
use Rattle.problem_data.specs.declared.visit.Visit.TheVariants as visit
use Rattle.problem_data.specs.Places.{vehicle_count}
use Rattle.routing_model.specs.Cost.{solution_cost}
use Rattle.routing_model.specs.Lawful.{is_lawful}
use Rattle.routing_model.specs.Listed.{IsListed}
use Rattle.routing_model.specs.Routes.{Routes, list_at, visit_count}
use Rattle.gain_model.specs.declared.part.Part.{Part}
use Rattle.gain_model.specs.declared.part.Part.TheVariants.{Client, Reload, Run}
use Rattle.gain_model.specs.GainReads.{gain_reads, side_reads}
use Rattle.gain_model.specs.Gains.{GainSide, GainState, HasAmount, sides_of, sides_with}
use Rattle.gain_model.specs.Proposals.{IsListedIn, Lender, Proposed, SpeaksOf, with_lists}
use Rattle.gain_model.proofs.NewLists.{once-one, once-two}
use Rattle.gain_model.proofs.ProposedMoves.{lender_at, listed-at, proposed_one, proposed_two, speaks-one, speaks-two}
use Rattle.penalty_cost.specs.Proposals.{CanBeCosted, HasSides, IsImproving, SideState, lender_of, new_lists, proposed_of, seen_side, seen_sides, sides_in}
use Rattle.route_cache.specs.Routes.{RouteState, ViewState}
use Rattle.move_core.specs.Searches.{IsSound, SearchState}
use Rattle.new_lists.specs.declared.new_list.NewList.{NewList}
use Rattle.new_lists.specs.declared.new_list.NewLists.{NewLists}
use Rattle.new_lists.specs.declared.new_list.NewLists.TheVariants.{One, Two}
use Rattle.new_lists.specs.Improvements.{IsImprovement}
use Rattle.new_lists.specs.NewLists.{AreApart, AreNewLists, IsNewList, IsPart, list_of, plan_of, vehicles_in}
use Rattle.new_lists.specs.Reads.{improve_reads}
use Rattle.new_lists.specs.Views.{list_views, part_views, proposal_of, route_at, side_of, visit_view}
use Rattle.new_lists.proofs.NewViews.{all-run, all-views, lenders-listed, lent-list, reads-most}

module _ (s : SearchState) (sound : IsSound s) where
  in_plan : (vehicle : ℕ) → vehicle < vehicle_count s.problem → vehicle < length s.routes
  in_plan vehicle there = let each = sound.one_list_each in omega (arith, each)

  -- the routes that lend a side's views are listed in the plan
  abbrev AreListed : ViewState → Type 0
  AreListed view = All (IsListedIn s.routes) (lender_of view)

  route-listed : (v : ℕ) → v < vehicle_count s.problem → All (IsListedIn s.routes) (lender_at s.routes v ∷ [])
  route-listed v in_v = All-cons (IsListedIn s.routes) (lender_at s.routes v) [] (listed-at s.routes v (in_plan v in_v)) (All-nil (IsListedIn s.routes))

  part-listed : (part : Part) → IsPart s part → All AreListed (part_views s part)
  part-listed (Run v first end) is = all-run AreListed s v first end (route-listed v is.in_range)
  part-listed (Client place) is = All-cons AreListed (visit_view s.problem (visit.Client place)) [] (All-nil (IsListedIn s.routes)) (All-nil AreListed)
  part-listed (Reload depot) is = All-cons AreListed (visit_view s.problem (visit.Reload depot)) [] (All-nil (IsListedIn s.routes)) (All-nil AreListed)

  side-listed : (list : NewList) → IsNewList s list → All (IsListedIn s.routes) (flat_map lender_of (side_of s list).views)
  side-listed list is =
      lenders-listed s.routes (list_views s list)
      (all-views AreListed s list (route-listed list.vehicle is.in_range) (part-listed list.one is.one) (part-listed list.two is.two) (part-listed list.three is.three) (route-listed list.vehicle is.in_range))

  abbrev lenders_in : NewLists → List Lender
  lenders_in lists = flat_map (λ (side : SideState). flat_map lender_of side.views) (sides_in (proposal_of s lists))

  -- one new list
  module _ (list : NewList) (is : IsNewList s list) (lawful : is_lawful s.problem (plan_of s.routes (One list)) ≡ true) where
    abbrev v : ℕ
    v = list.vehicle

    abbrev xs : List Visit
    xs = list_of s.routes list

    lists-one : new_lists (proposal_of s (One list)) ≡ xs ∷ []
    lists-one = ap (λ (visits : List Visit). visits ∷ []) (lent-list s list)

    costed-one : CanBeCosted (proposal_of s (One list))
    costed-one = record {
      listed = subst (All (IsListed s.problem)) (sym lists-one) (All-cons (IsListed s.problem) xs [] is.listed (All-nil (IsListed s.problem)));
      at_most_once = λ client. subst (λ (lists : List (List Visit)). visit_count lists client ≤ 1) (sym lists-one) (once-one s.problem s.routes v xs (in_plan v is.in_range) lawful client);
    }

    proposed-one : proposed_of (proposal_of s (One list)) ≡ proposed_one s.routes v xs (lenders_in (One list))
    proposed-one = ap (λ (lists : List (List Visit)). record { sides = lender_at s.routes v ∷ []; lenders = lenders_in (One list); lists = lists }) lists-one

    lent-one : All (IsListedIn s.routes) (lenders_in (One list))
    lent-one = All-append (IsListedIn s.routes) (flat_map lender_of (side_of s list).views) [] (side-listed list is) (All-nil (IsListedIn s.routes))

    speaks-of_one : SpeaksOf (proposed_of (proposal_of s (One list))) s.routes
    speaks-of_one = subst (λ (q : Proposed). SpeaksOf q s.routes) (sym proposed-one) (speaks-one s.problem s.routes sound.lawful v xs (lenders_in (One list)) (in_plan v is.in_range) lawful lent-one)

    reads-one : gain_reads (seen_sides (proposal_of s (One list))) ≤ improve_reads s (One list)
    reads-one =
        let sum = sum_by-cons side_reads (seen_side s.problem (side_of s list)) [] in
        let most = reads-most s list in
        omega (arith, sum, most)

    plan-one : with_lists (proposed_of (proposal_of s (One list))) s.routes ≡ plan_of s.routes (One list)
    plan-one = ap (λ (q : Proposed). with_lists q s.routes) proposed-one

  -- two new lists
  module _ (one two : NewList) (are : AreApart s one two) (lawful : is_lawful s.problem (plan_of s.routes (Two one two)) ≡ true) where
    abbrev a : ℕ
    a = one.vehicle

    abbrev b : ℕ
    b = two.vehicle

    abbrev first_list : List Visit
    first_list = list_of s.routes one

    abbrev second_list : List Visit
    second_list = list_of s.routes two

    lists-two : new_lists (proposal_of s (Two one two)) ≡ first_list ∷ second_list ∷ []
    lists-two = λ i. lent-list s one i ∷ lent-list s two i ∷ []

    costed-two : CanBeCosted (proposal_of s (Two one two))
    costed-two = record {
      listed = subst (All (IsListed s.problem)) (sym lists-two)
          (All-cons (IsListed s.problem) first_list (second_list ∷ []) are.first.listed (All-cons (IsListed s.problem) second_list [] are.second.listed (All-nil (IsListed s.problem))));
      at_most_once = λ client. subst (λ (lists : List (List Visit)). visit_count lists client ≤ 1) (sym lists-two)
          (once-two s.problem s.routes a b first_list second_list (in_plan a are.first.in_range) (in_plan b are.second.in_range) are.apart lawful client);
    }

    proposed-two : proposed_of (proposal_of s (Two one two)) ≡ proposed_two s.routes a b first_list second_list (lenders_in (Two one two))
    proposed-two =
        ap (λ (lists : List (List Visit)). record { sides = lender_at s.routes a ∷ lender_at s.routes b ∷ []; lenders = lenders_in (Two one two); lists = lists }) lists-two

    lent-two : All (IsListedIn s.routes) (lenders_in (Two one two))
    lent-two =
        All-append (IsListedIn s.routes) (flat_map lender_of (side_of s one).views) (flat_map lender_of (side_of s two).views ++ []) (side-listed one are.first)
        (All-append (IsListedIn s.routes) (flat_map lender_of (side_of s two).views) [] (side-listed two are.second) (All-nil (IsListedIn s.routes)))

    speaks-of_two : SpeaksOf (proposed_of (proposal_of s (Two one two))) s.routes
    speaks-of_two =
        subst (λ (q : Proposed). SpeaksOf q s.routes) (sym proposed-two)
        (speaks-two s.problem s.routes sound.lawful a b first_list second_list (lenders_in (Two one two)) (in_plan a are.first.in_range) (in_plan b are.second.in_range) are.apart lawful lent-two)

    reads-two : gain_reads (seen_sides (proposal_of s (Two one two))) ≤ improve_reads s (Two one two)
    reads-two =
        let sum = sum_by-cons side_reads (seen_side s.problem (side_of s one)) (seen_side s.problem (side_of s two) ∷ []) in
        let last = sum_by-cons side_reads (seen_side s.problem (side_of s two)) [] in
        let most = reads-most s one in
        let most' = reads-most s two in
        omega (arith, sum, last, most, most')

    plan-two : with_lists (proposed_of (proposal_of s (Two one two))) s.routes ≡ plan_of s.routes (Two one two)
    plan-two = ap (λ (q : Proposed). with_lists q s.routes) proposed-two

-- the proposals, as they are made
same-route : (s : SearchState) (v : ℕ) (route : RouteState) → route.problem ≡ s.problem → route.vehicle ≡ v → route.visits ≡ list_at s.routes v → route ≡ route_at s v
same-route s v route problem vehicle visits = λ i. record { problem = problem i; vehicle = vehicle i; visits = visits i }

-- the sides of a proposal's gain
sides-named : (s : SearchState) (lists : NewLists) (gain : GainState) → HasSides (proposal_of s lists) gain → map (λ (side : GainSide). side.vehicle) (sides_of gain) ≡ vehicles_in lists
sides-named s (One list) gain has = λ i. map (λ (side : GainSide). side.vehicle) (sides_with (has.first i) (has.second i))
sides-named s (Two one two) gain has = λ i. map (λ (side : GainSide). side.vehicle) (sides_with (has.first i) (has.second i))

-- What is found for the proposal of new lists is found for these.
module _ (s : SearchState) (sound : IsSound s) where
  abbrev IsLawfulWith : NewLists → Type 0
  IsLawfulWith lists = is_lawful s.problem (plan_of s.routes lists) ≡ true

  pub costed : (lists : NewLists) → AreNewLists s lists → IsLawfulWith lists → CanBeCosted (proposal_of s lists)
  costed (One list) are lawful = costed-one s sound list are lawful
  costed (Two one two) are lawful = costed-two s sound one two are lawful

  pub few-reads : (lists : NewLists) → AreNewLists s lists → IsLawfulWith lists → gain_reads (seen_sides (proposal_of s lists)) ≤ improve_reads s lists
  few-reads (One list) are lawful = reads-one s sound list are lawful
  few-reads (Two one two) are lawful = reads-two s sound one two are lawful

  speaks : (lists : NewLists) → AreNewLists s lists → IsLawfulWith lists → SpeaksOf (proposed_of (proposal_of s lists)) s.routes
  speaks (One list) are lawful = speaks-of_one s sound list are lawful
  speaks (Two one two) are lawful = speaks-of_two s sound one two are lawful

  plan : (lists : NewLists) → AreNewLists s lists → IsLawfulWith lists → with_lists (proposed_of (proposal_of s lists)) s.routes ≡ plan_of s.routes lists
  plan (One list) are lawful = plan-one s sound list are lawful
  plan (Two one two) are lawful = plan-two s sound one two are lawful

  same-problem : (lists : NewLists) → (proposal_of s lists).problem ≡ s.problem
  same-problem (One list) = refl
  same-problem (Two one two) = refl

  pub improvement : (lists : NewLists) → AreNewLists s lists → IsLawfulWith lists → (found : Option GainState) → IsImproving s.weights (proposal_of s lists) found → IsImprovement s lists found
  improvement lists are lawful None dear =
      subst (λ (p : Problem). solution_cost p s.weights s.routes ≤ solution_cost p s.weights (plan_of s.routes lists)) (same-problem lists)
      (subst (λ (rs : Routes). solution_cost (proposal_of s lists).problem s.weights s.routes ≤ solution_cost (proposal_of s lists).problem s.weights rs) (plan lists are lawful)
      (dear s.routes (speaks lists are lawful)))
  improvement lists are lawful (Some gain) found =
      let right = found.0.right s.routes (speaks lists are lawful) in
      record {
        within = right.within;
        makes = right.makes ∙ plan lists are lawful;
        amount = subst (λ (p : Problem). HasAmount p s.weights s.routes gain) (same-problem lists) right.amount;
        lowers = found.1;
        sides = sides-named s lists gain found.0.sides;
      }
