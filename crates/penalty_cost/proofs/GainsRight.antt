-- A proposal's gain is right for each plan of which the proposal speaks.
use Rattle.std.proofs.Common.{◌≡◌, ◌≢◌, ℕ, ◌<◌, ◌≤◌, List, [], ◌∷◌, ◌++◌, length, get_or, set, sym, ◌∙◌, ap, subst, arith, length-set, Some, None, ℤ, ◌+ℤ◌}
use Rattle.std.specs.Prelude.{All, flat_map}
use Rattle.std.proofs.lemmas.Int.{ints}
use Rattle.std.proofs.lemmas.List.{append-nil, get_or-set_other}
use Rattle.std.proofs.lemmas.List.Elements.{All-cons, All-head, All-nil, All-tail}
use Rattle.std.proofs.lemmas.Option.{get_or_from_slice_get, slice_get_within}
use Rattle.problem_data.specs.declared.problem.Problem.{Problem}
use Rattle.problem_data.specs.declared.visit.Visit.{Visit}
use Rattle.problem_data.specs.Places.{vehicle_count}
use Rattle.routing_model.specs.declared.weights.Weights.{Weights}
use Rattle.routing_model.specs.Listed.{IsListed}
use Rattle.routing_model.specs.Routes.{Routes, visit_count}
use Rattle.gain_model.specs.Gains.{IsSideWithin, cost_difference, side_visits}
use Rattle.gain_model.specs.Proposals.{IsListedIn, IsRightFor, SpeaksOf}
use Rattle.route_cache.specs.Lending.{IsLendable}
use Rattle.penalty_cost.specs.Proposals.{SideState, gain_side, lender_of, new_list, proposed_of, route_of}
use Rattle.penalty_cost.specs.inside.Sides.{side_change}
use Rattle.penalty_cost.proofs.CostChanges.{costs-changed}
use Rattle.penalty_cost.proofs.CountChanges.{once-one, once-two}
use Rattle.penalty_cost.proofs.PartsOfViews.{side-makes, side-within}
use Rattle.joined_views.proofs.BothLists.{All-left, All-right}
use Rattle.penalty_cost.proofs.PrizeChanges.{missed-one, missed-two}

-- a side of a problem: its vehicle, its list, and its views' list
pub record IsCosted (p : Problem) (side : SideState) : Type 0 where
  pub in_range : side.vehicle < vehicle_count p
  pub listed : IsListed p side.list
  pub listed_new : IsListed p (new_list side)
  pub lendable : All IsLendable side.views

module _ (p : Problem) (w : Weights) (routes : Routes) (first : SideState) (costed : IsCosted p first) where
  module _ (speaks : SpeaksOf (proposed_of (record { problem = p; first = first; second = None })) routes) (once_new : (client : ℕ) → visit_count (new_list first ∷ []) client ≤ 1) where
    own : IsListedIn routes (route_of first)
    own = All-head (IsListedIn routes) (route_of first) ((proposed_of (record { problem = p; first = first; second = None })).lenders) speaks.listed

    lending : All (IsListedIn routes) (flat_map lender_of first.views)
    lending =
        subst (All (IsListedIn routes)) (append-nil (flat_map lender_of first.views)) (All-tail (IsListedIn routes) (route_of first) ((proposed_of (record { problem = p; first = first; second = None })).lenders) speaks.listed)

    inside : first.vehicle < length routes
    inside = slice_get_within routes first.vehicle first.list own

    was : get_or routes first.vehicle [] ≡ first.list
    was = get_or_from_slice_get routes first.vehicle first.list [] own

    amount-one : cost_difference p w routes (set routes first.vehicle (new_list first)) ≡ side_change p w first
    amount-one =
        let costs = costs-changed p w routes first.vehicle first.list (new_list first) costed.in_range inside was in
        let prizes = missed-one p routes speaks.once first.vehicle first.list (new_list first) inside was costed.listed.named costed.listed_new.named
        (once-one routes speaks.once first.vehicle (new_list first) inside once_new speaks.not_elsewhere) in
        omega (arith, ints)

    pub right-one : (amount : ℤ) → amount ≡ side_change p w first →
        IsRightFor p w (proposed_of (record { problem = p; first = first; second = None })) (record { first = gain_side first; second = None; amount = amount }) routes
    right-one amount is =
        let makes : side_visits routes (gain_side first) ≡ new_list first = side-makes routes first costed.lendable lending in
        record {
          within = All-cons (IsSideWithin routes) (gain_side first) [] (side-within routes first costed.lendable own lending) (All-nil (IsSideWithin routes));
          makes = ap (set routes first.vehicle) makes;
          amount = is ∙ sym amount-one ∙ ap (λ (xs : List Visit). cost_difference p w routes (set routes first.vehicle xs)) (sym makes);
        }

  module _ (second : SideState) (costed_second : IsCosted p second) (apart : second.vehicle ≢ first.vehicle) (speaks : SpeaksOf (proposed_of (record { problem = p; first = first; second = Some second })) routes)
      (once_new : (client : ℕ) → visit_count (new_list first ∷ new_list second ∷ []) client ≤ 1) where
    own_first : IsListedIn routes (route_of first)
    own_first = All-head (IsListedIn routes) (route_of first) (route_of second ∷ (proposed_of (record { problem = p; first = first; second = Some second })).lenders) speaks.listed

    own_second : IsListedIn routes (route_of second)
    own_second = All-head (IsListedIn routes) (route_of second) ((proposed_of (record { problem = p; first = first; second = Some second })).lenders) (All-tail (IsListedIn routes) (route_of first) (route_of second ∷ (proposed_of (record { problem = p; first = first; second = Some second })).lenders) speaks.listed)

    lending_both : All (IsListedIn routes) (flat_map lender_of first.views ++ (flat_map lender_of second.views ++ []))
    lending_both = All-tail (IsListedIn routes) (route_of second) ((proposed_of (record { problem = p; first = first; second = Some second })).lenders) (All-tail (IsListedIn routes) (route_of first) (route_of second ∷ (proposed_of (record { problem = p; first = first; second = Some second })).lenders) speaks.listed)

    lending_first : All (IsListedIn routes) (flat_map lender_of first.views)
    lending_first = All-left (IsListedIn routes) (flat_map lender_of first.views) (flat_map lender_of second.views ++ []) lending_both

    lending_second : All (IsListedIn routes) (flat_map lender_of second.views)
    lending_second =
        subst (All (IsListedIn routes)) (append-nil (flat_map lender_of second.views)) (All-right (IsListedIn routes) (flat_map lender_of first.views) (flat_map lender_of second.views ++ []) lending_both)

    inside_first : first.vehicle < length routes
    inside_first = slice_get_within routes first.vehicle first.list own_first

    inside_second : second.vehicle < length routes
    inside_second = slice_get_within routes second.vehicle second.list own_second

    was_first : get_or routes first.vehicle [] ≡ first.list
    was_first = get_or_from_slice_get routes first.vehicle first.list [] own_first

    was_second : get_or routes second.vehicle [] ≡ second.list
    was_second = get_or_from_slice_get routes second.vehicle second.list [] own_second

    abbrev both : Routes
    both = set (set routes first.vehicle (new_list first)) second.vehicle (new_list second)

    amount-two : cost_difference p w routes both ≡ side_change p w first +ℤ side_change p w second
    amount-two =
        let long = length-set routes first.vehicle (new_list first) in
        let costs = costs-changed p w routes first.vehicle first.list (new_list first) costed.in_range inside_first was_first in
        let costs_second = costs-changed p w (set routes first.vehicle (new_list first)) second.vehicle second.list (new_list second) costed_second.in_range (omega (arith, inside_second))
        (get_or-set_other routes first.vehicle second.vehicle (new_list first) [] apart ∙ was_second) in
        let prizes = missed-two p routes speaks.once first.vehicle first.list (new_list first) inside_first was_first costed.listed.named costed.listed_new.named
        second.vehicle second.list (new_list second) inside_second apart was_second costed_second.listed.named costed_second.listed_new.named
        (once-two routes speaks.once first.vehicle (new_list first) inside_first second.vehicle (new_list second) inside_second apart once_new speaks.not_elsewhere) in
        omega (arith, ints)

    pub right-two : (amount : ℤ) → amount ≡ side_change p w first +ℤ side_change p w second →
        IsRightFor p w (proposed_of (record { problem = p; first = first; second = Some second })) (record { first = gain_side first; second = Some (gain_side second); amount = amount }) routes
    right-two amount is =
        let makes_first : side_visits routes (gain_side first) ≡ new_list first = side-makes routes first costed.lendable lending_first in
        let makes_second : side_visits routes (gain_side second) ≡ new_list second = side-makes routes second costed_second.lendable lending_second in
        let makes : set (set routes first.vehicle (side_visits routes (gain_side first))) second.vehicle (side_visits routes (gain_side second)) ≡ both =
        λ i. set (set routes first.vehicle (makes_first i)) second.vehicle (makes_second i) in
        record {
          within = All-cons (IsSideWithin routes) (gain_side first) (gain_side second ∷ []) (side-within routes first costed.lendable own_first lending_first)
              (All-cons (IsSideWithin routes) (gain_side second) [] (side-within routes second costed_second.lendable own_second lending_second) (All-nil (IsSideWithin routes)));
          makes = makes;
          amount = is ∙ sym amount-two ∙ ap (cost_difference p w routes) (sym makes);
        }
