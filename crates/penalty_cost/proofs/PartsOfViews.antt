-- Views as parts of a plan's lists.
use Rattle.std.proofs.Common.{◌≡◌, ℕ, ◌+◌, ◌≤◌, List, [], ◌∷◌, ◌++◌, length, get_or, refl, sym, ◌∙◌, ap, subst, arith, slice_range, Option, Some, None}
use Rattle.std.specs.Prelude.{All, flat_map, map, slice_get, unwrap_or}
use Rattle.std.proofs.lemmas.List.Elements.{All-cons, All-head, All-nil, All-tail}
use Rattle.std.proofs.lemmas.Option.{slice_get_within}
use Rattle.problem_data.specs.declared.visit.Visit.{Visit}
use Rattle.problem_data.specs.declared.visit.Visit.TheVariants.{Client, Reload}
use Rattle.routing_model.specs.Routes.{Routes, list_at}
use Rattle.gain_model.specs.Gains.{IsPartWithin, IsSideWithin, part_visits, side_visits}
use Rattle.gain_model.specs.Proposals.{IsListedIn}
use Rattle.trips.specs.Runs.{Run}
use Rattle.trips.proofs.RunSteps.{part-one}
use Rattle.route_cache.specs.Lending.{IsLendable}
use Rattle.route_cache.specs.Routes.{ViewState, lent}
use Rattle.joined_views.proofs.BothLists.{All-left, All-right}
use Rattle.penalty_cost.specs.Proposals.{SideState, gain_side, lender_of, lender_with, new_list, part_of, part_of_visit, part_with, route_of}

-- the list of a vehicle that has it
pub listed-at : (routes : Routes) (vehicle : ℕ) (list : List Visit) → slice_get routes vehicle ≡ Some list → list_at routes vehicle ≡ list
listed-at routes vehicle list h = ap (λ (o : Option (List Visit)). unwrap_or o []) h

one-visit : (routes : Routes) (visit : Visit) → part_visits routes (part_of_visit visit) ≡ visit ∷ []
one-visit routes (Client place) = refl
one-visit routes (Reload depot) = refl

one-within : (routes : Routes) (visit : Visit) → IsPartWithin routes (part_of_visit visit)
one-within routes (Client place) = tt
one-within routes (Reload depot) = tt

module _ (routes : Routes) where
  part-with : (view : ViewState) (vehicle : Option ℕ) → (vehicle ≡ None → view.end ≡ view.first + 1) → view.end ≤ length view.list → All (IsListedIn routes) (lender_with view.list vehicle) →
      part_visits routes (part_with vehicle view) ≡ lent view
  part-with view None one inside listed =
      let single : slice_range view.list view.first (view.first + 1) ≡ get_or view.list view.first (Client 0) ∷ [] =
      ap (λ (run : Run). run.visits) (part-one view.list view.first (Client 0) (let e = one refl in omega arith)) in
      one-visit routes (get_or view.list view.first (Client 0)) ∙ sym (ap (slice_range view.list view.first) (one refl) ∙ single)
  part-with view (Some vehicle) one inside listed =
      ap (λ (xs : List Visit). slice_range xs view.first view.end)
      (listed-at routes vehicle view.list (All-head (IsListedIn routes) (record { vehicle = vehicle; list = view.list }) [] listed))

  within-with : (view : ViewState) (vehicle : Option ℕ) → view.first ≤ view.end → view.end ≤ length view.list → All (IsListedIn routes) (lender_with view.list vehicle) →
      IsPartWithin routes (part_with vehicle view)
  within-with view None in_order inside listed = one-within routes (get_or view.list view.first (Client 0))
  within-with view (Some vehicle) in_order inside listed =
      let here = All-head (IsListedIn routes) (record { vehicle = vehicle; list = view.list }) [] listed in
      record {
        vehicle_there = slice_get_within routes vehicle view.list here;
        in_order = in_order;
        in_list = subst (λ (xs : List Visit). view.end ≤ length xs) (sym (listed-at routes vehicle view.list here)) inside;
      }

  pub parts-lent : (views : List ViewState) → All IsLendable views → All (IsListedIn routes) (flat_map lender_of views) → flat_map (part_visits routes) (map part_of views) ≡ flat_map lent views
  parts-lent [] lendable listed = refl
  parts-lent (view ∷ rest) lendable listed =
      let here = All-head IsLendable view rest lendable in
      let first = part-with view view.vehicle here.one here.in_list (All-left (IsListedIn routes) (lender_of view) (flat_map lender_of rest) listed) in
      let others = parts-lent rest (All-tail IsLendable view rest lendable) (All-right (IsListedIn routes) (lender_of view) (flat_map lender_of rest) listed) in
      λ i. first i ++ others i

  parts-within : (views : List ViewState) → All IsLendable views → All (IsListedIn routes) (flat_map lender_of views) → All (IsPartWithin routes) (map part_of views)
  parts-within [] lendable listed = All-nil (IsPartWithin routes)
  parts-within (view ∷ rest) lendable listed =
      let here = All-head IsLendable view rest lendable in
      All-cons (IsPartWithin routes) (part_of view) (map part_of rest)
      (within-with view view.vehicle here.in_order here.in_list (All-left (IsListedIn routes) (lender_of view) (flat_map lender_of rest) listed))
      (parts-within rest (All-tail IsLendable view rest lendable) (All-right (IsListedIn routes) (lender_of view) (flat_map lender_of rest) listed))

  -- a side whose route and views are a plan's
  pub side-within : (side : SideState) → All IsLendable side.views → IsListedIn routes (route_of side) → All (IsListedIn routes) (flat_map lender_of side.views) → IsSideWithin routes (gain_side side)
  side-within side lendable own listed = record {
    vehicle_there = slice_get_within routes side.vehicle side.list own;
    parts_within = parts-within side.views lendable listed;
  }

  pub side-makes : (side : SideState) → All IsLendable side.views → All (IsListedIn routes) (flat_map lender_of side.views) → side_visits routes (gain_side side) ≡ new_list side
  side-makes side lendable listed = parts-lent side.views lendable listed
