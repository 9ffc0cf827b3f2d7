-- The sides of a proposal.
use Rattle.std.specs.Prelude.{◌≢◌, ◌≤◌, ⊤, Option, Some, None, length, option_map}
use Rattle.problem_data.specs.declared.problem.Problem.{Problem}
use Rattle.penalty_cost.specs.declared.proposed_side.ProposedSide.{ProposedSide}
use Rattle.penalty_cost.specs.Proposals.{ProposalState, SideState}
use Rattle.penalty_cost.specs.inside.Sides.{IsSide}

-- a side without what is kept of its route
abbrev pub state_of : ProposedSide → SideState
state_of side = record { vehicle = side.vehicle; list = side.visits.now; views = side.views.items }

-- a side of a problem, with at most eight views
pub record IsProposedSide (p : Problem) (side : ProposedSide) : Type 0 where
  pub is_side : IsSide p side.vehicle side.vehicle_type.now side.whole side.visits.now side.views.items
  pub room : length side.views.items ≤ 8

-- one side, or two of different vehicles
abbrev pub IsSecond : Problem → ProposedSide → Option ProposedSide → Type 0
IsSecond p first None = ⊤
IsSecond p first (Some second) = IsProposedSide p second × (second.vehicle ≢ first.vehicle)

abbrev pub AreSides : Problem → ProposedSide → Option ProposedSide → Type 0
AreSides p first second = IsProposedSide p first × IsSecond p first second

-- the state of a proposal of these sides
abbrev pub proposal_of : Problem → ProposedSide → Option ProposedSide → ProposalState
proposal_of p first second = record { problem = p; first = state_of first; second = option_map state_of second }
