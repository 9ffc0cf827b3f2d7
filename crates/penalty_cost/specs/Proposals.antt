-- Proposals of new lists for one vehicle or two, by views.
use Rattle.std.specs.Prelude.{◌≡◌, ℕ, ◌≤◌, pos, ◌<ℤ◌, All, true, false, Option, Some, None, List, [], ◌∷◌, ◌++◌, map, flat_map, option_map, slice_index_or, unwrap_or}
use Rattle.problem_data.specs.declared.problem.Problem.{Problem}
use Rattle.problem_data.specs.declared.visit.Visit.{Visit}
use Rattle.problem_data.specs.declared.visit.Visit.TheVariants as visit
use Rattle.routing_model.specs.declared.weights.Weights.{Weights}
use Rattle.routing_model.specs.Cost.{solution_cost}
use Rattle.routing_model.specs.Listed.{IsListed}
use Rattle.routing_model.specs.Routes.{Routes, visit_count}
use Rattle.gain_model.specs.declared.part.Part.{Part}
use Rattle.gain_model.specs.declared.part.Part.TheVariants.{Run, Client, Reload}
use Rattle.gain_model.specs.declared.part.Side.{Side}
use Rattle.gain_model.specs.declared.part.Side.TheVariants.{First, Second}
use Rattle.gain_model.specs.Gains.{GainSide, GainState}
use Rattle.gain_model.specs.GainReads.{SeenSide}
use Rattle.gain_model.specs.MoveReads.{profile_of}
use Rattle.gain_model.specs.Proposals.{IsGainOf, Lender, Proposed, SpeaksOf, with_lists}
use Rattle.route_cache.specs.Routes.{ViewState, lent}
use Rattle.joined_views.specs.Views.{seen_view}

-- a side: the vehicle and the list of its route, and the views that are to be its new list
pub record SideState : Type 0 where
  pub vehicle : ℕ
  pub list : List Visit
  pub views : List ViewState

-- one side or two, of a problem
pub record ProposalState : Type 0 where
  pub problem : Problem
  pub first : SideState
  pub second : Option SideState

-- the sides in order
abbrev pub with_second : SideState → Option SideState → List SideState
with_second first None = first ∷ []
with_second first (Some second) = first ∷ second ∷ []

abbrev pub sides_in : ProposalState → List SideState
sides_in proposal = with_second proposal.first proposal.second

-- a side by its name
abbrev pub side_at : ProposalState → Side → Option SideState
side_at proposal First = Some proposal.first
side_at proposal Second = proposal.second

abbrev pub views_at : ProposalState → Side → List ViewState
views_at proposal side = unwrap_or (option_map (λ (s : SideState). s.views) (side_at proposal side)) []

-- with one view more
abbrev pub with_view : ViewState → SideState → SideState
with_view view side = record side { views = side.views ++ view ∷ [] }

abbrev pub pushed : ProposalState → Side → ViewState → ProposalState
pushed proposal First view = record proposal { first = with_view view proposal.first }
pushed proposal Second view = record proposal { second = option_map (with_view view) proposal.second }

-- A view may come next: it is of the sides' problem, nothing follows a view with the end, and one with the start or the end is lent by the
-- side's own route, one with the start as the first.
pub record MayComeNext (p : Problem) (side : SideState) (view : ViewState) : Type 0 where
  pub problem : view.problem ≡ p
  pub goes_on : All (λ (v : ViewState). v.ends ≡ false) side.views
  pub first : view.starts ≡ true → side.views ≡ []
  pub own_start : view.starts ≡ true → view.vehicle ≡ Some side.vehicle
  pub own_end : view.ends ≡ true → view.vehicle ≡ Some side.vehicle

-- the side is there, and the view may come next
abbrev pub MayFollow : Problem → Option SideState → ViewState → Type 0
MayFollow p None view = ⊥
MayFollow p (Some side) view = MayComeNext p side view

abbrev pub CanPush : ProposalState → Side → ViewState → Type 0
CanPush proposal side view = MayFollow proposal.problem (side_at proposal side) view

-- what the views of a side lend, in order
abbrev pub new_list : SideState → List Visit
new_list side = flat_map lent side.views

abbrev pub new_lists : ProposalState → List (List Visit)
new_lists proposal = map new_list (sides_in proposal)

-- the route of a side
abbrev pub route_of : SideState → Lender
route_of side = record { vehicle = side.vehicle; list = side.list }

-- the route that lends a view, if one does
abbrev pub lender_with : List Visit → Option ℕ → List Lender
lender_with list None = []
lender_with list (Some vehicle) = record { vehicle = vehicle; list = list } ∷ []

abbrev pub lender_of : ViewState → List Lender
lender_of view = lender_with view.list view.vehicle

-- what is proposed
abbrev pub proposed_of : ProposalState → Proposed
proposed_of proposal = record {
  sides = map route_of (sides_in proposal);
  lenders = flat_map (λ (s : SideState). flat_map lender_of s.views) (sides_in proposal);
  lists = new_lists proposal;
}

-- what the legs that are read depend on
abbrev pub seen_side : Problem → SideState → SeenSide
seen_side p side = record { profile = profile_of p side.vehicle; views = map (seen_view p) side.views }

abbrev pub seen_sides : ProposalState → List SeenSide
seen_sides proposal = map (seen_side proposal.problem) (sides_in proposal)

-- A proposal can be costed: a vehicle can have each new list, and no client stands twice in them.
pub record CanBeCosted (proposal : ProposalState) : Type 0 where
  pub listed : All (IsListed proposal.problem) (new_lists proposal)
  pub at_most_once : (client : ℕ) → visit_count (new_lists proposal) client ≤ 1

-- the part that a view is: a run of a list, or one visit
abbrev pub part_of_visit : Visit → Part
part_of_visit (visit.Client place) = Client place
part_of_visit (visit.Reload depot) = Reload depot

abbrev pub part_with : Option ℕ → ViewState → Part
part_with None view = part_of_visit (slice_index_or view.list view.first (visit.Client 0))
part_with (Some vehicle) view = Run vehicle view.first view.end

abbrev pub part_of : ViewState → Part
part_of view = part_with view.vehicle view

-- the side of a gain that a side makes
abbrev pub gain_side : SideState → GainSide
gain_side side = record { vehicle = side.vehicle; parts = map part_of side.views }

-- a gain has the sides of a proposal
pub record HasSides (proposal : ProposalState) (gain : GainState) : Type 0 where
  pub first : gain.first ≡ gain_side proposal.first
  pub second : gain.second ≡ option_map gain_side proposal.second

-- a proposal's gain: it has its sides, and is right for each plan of which the proposal speaks
pub record IsItsGain (w : Weights) (proposal : ProposalState) (gain : GainState) : Type 0 where
  pub sides : HasSides proposal gain
  pub right : IsGainOf proposal.problem w (proposed_of proposal) gain

-- each plan of which the proposal speaks costs no less with the new lists
abbrev pub IsNoGain : Weights → ProposalState → Type 0
IsNoGain w proposal = (routes : Routes) → SpeaksOf (proposed_of proposal) routes →
    solution_cost proposal.problem w routes ≤ solution_cost proposal.problem w (with_lists (proposed_of proposal) routes)

-- a gain that lowers the cost, or none where the proposal doesn't lower it
abbrev pub IsImproving : Weights → ProposalState → Option GainState → Type 0
IsImproving w proposal None = IsNoGain w proposal
IsImproving w proposal (Some gain) = IsItsGain w proposal gain × (gain.amount <ℤ pos 0)

-- the parts of a side of a gain, none where it has no such side
abbrev pub parts_at : GainState → Side → List Part
parts_at gain First = gain.first.parts
parts_at gain Second = unwrap_or (option_map (λ (s : GainSide). s.parts) gain.second) []
