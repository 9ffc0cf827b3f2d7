-- The gain of a proposal, by the changes of its sides.
use Rattle.std.proofs.Common.{◌≡◌, ℕ, ◌≤◌, [], ◌∷◌, refl, sym, ◌∙◌, ap, subst, arith, Option, Some, None, ℤ, pos, ◌+ℤ◌, ◌-ℤ◌, ◌≤ℤ◌}
use Rattle.std.specs.Prelude.{option_map}
use Rattle.std.proofs.lemmas.Int.{ints}
use Rattle.std.proofs.lemmas.List.Elements.{All-head, All-tail}
use Rattle.problem_data.specs.declared.problem.Problem.{Problem}
use Rattle.routing_model.specs.declared.weights.Weights.{Weights}
use Rattle.routing_model.specs.Cost.{solution_cost}
use Rattle.routing_model.specs.Listed.{IsListed}
use Rattle.gain_model.specs.Gains.{GainState, cost_difference}
use Rattle.gain_model.specs.Proposals.{IsGainOf, with_lists}
use Rattle.penalty_cost.specs.declared.proposed_side.ProposedSide.{ProposedSide}
use Rattle.penalty_cost.specs.Proposals.{CanBeCosted, HasSides, IsItsGain, IsNoGain, ProposalState, gain_side, new_list, proposed_of}
use Rattle.penalty_cost.specs.inside.ProposedSides.{AreSides, IsProposedSide, proposal_of, state_of}
use Rattle.penalty_cost.specs.inside.Sides.{side_change, whole_change}
use Rattle.penalty_cost.proofs.GainsRight.{IsCosted, right-one, right-two}

costed-side : (p : Problem) (side : ProposedSide) → IsProposedSide p side → IsListed p (new_list (state_of side)) → IsCosted p (state_of side)
costed-side p side is listed = record {
  in_range = is.is_side.in_range;
  listed = is.is_side.listed;
  listed_new = listed;
  lendable = is.is_side.placed.lendable;
}

-- the gain of the sides, with an amount
abbrev pub gain_of : ProposalState → ℤ → GainState
gain_of proposal amount = record { first = gain_side proposal.first; second = option_map gain_side proposal.second; amount = amount }

-- with the sum of the changes it is right
pub gain-right : (p : Problem) (w : Weights) (first : ProposedSide) (second : Option ProposedSide) (amount : ℤ) → AreSides p first second → CanBeCosted (proposal_of p first second) →
    amount ≡ whole_change w (proposal_of p first second) → IsGainOf p w (proposed_of (proposal_of p first second)) (gain_of (proposal_of p first second) amount)
gain-right p w first None amount are costed is routes speaks =
    right-one p w routes (state_of first) (costed-side p first are.0 (All-head (IsListed p) (new_list (state_of first)) [] costed.listed)) speaks costed.at_most_once amount (is ∙ alone (side_change p w (state_of first)))
  where
    alone : (z : ℤ) → z +ℤ pos 0 ≡ z
    alone z = omega (arith, ints)
gain-right p w first (Some second) amount are costed is routes speaks =
    right-two p w routes (state_of first) (costed-side p first are.0 (All-head (IsListed p) (new_list (state_of first)) (new_list (state_of second) ∷ []) costed.listed))
    (state_of second)
    (costed-side p second are.1.0 (All-head (IsListed p) (new_list (state_of second)) [] (All-tail (IsListed p) (new_list (state_of first)) (new_list (state_of second) ∷ []) costed.listed)))
    are.1.1 speaks costed.at_most_once amount is

-- a gain of these sides, and of that amount
gain-is : (proposal : ProposalState) (gain : GainState) → HasSides proposal gain → gain_of proposal gain.amount ≡ gain
gain-is proposal gain has = λ i. record { first = sym has.first i; second = sym has.second i; amount = gain.amount }

pub its-gain : (p : Problem) (w : Weights) (first : ProposedSide) (second : Option ProposedSide) (gain : GainState) → AreSides p first second → CanBeCosted (proposal_of p first second) →
    HasSides (proposal_of p first second) gain → gain.amount ≡ whole_change w (proposal_of p first second) → IsItsGain w (proposal_of p first second) gain
its-gain p w first second gain are costed has amount = record {
  sides = has;
  right = subst (IsGainOf p w (proposed_of (proposal_of p first second))) (gain-is (proposal_of p first second) gain has) (gain-right p w first second gain.amount are costed amount);
}

-- where the changes together aren't below 0, there is no gain
pub no-gain : (p : Problem) (w : Weights) (first : ProposedSide) (second : Option ProposedSide) → AreSides p first second → CanBeCosted (proposal_of p first second) →
    pos 0 ≤ℤ whole_change w (proposal_of p first second) → IsNoGain w (proposal_of p first second)
no-gain p w first second are costed rises routes speaks =
    let right = gain-right p w first second (whole_change w (proposal_of p first second)) are costed refl routes speaks in
    let difference : whole_change w (proposal_of p first second) ≡ cost_difference p w routes (with_lists (proposed_of (proposal_of p first second)) routes) =
    right.amount ∙ ap (cost_difference p w routes) right.makes in
    dearer (solution_cost p w routes) (solution_cost p w (with_lists (proposed_of (proposal_of p first second)) routes)) (whole_change w (proposal_of p first second)) difference rises
  where
    dearer : (before after : ℕ) (change : ℤ) → change ≡ pos after -ℤ pos before → pos 0 ≤ℤ change → before ≤ after
    dearer before after change e h = omega (arith, ints)

pub first-listed : (p : Problem) (first : ProposedSide) (second : Option ProposedSide) → CanBeCosted (proposal_of p first second) → IsListed p (new_list (state_of first))
first-listed p first None costed = All-head (IsListed p) (new_list (state_of first)) [] costed.listed
first-listed p first (Some second) costed = All-head (IsListed p) (new_list (state_of first)) (new_list (state_of second) ∷ []) costed.listed

pub second-listed : (p : Problem) (first second : ProposedSide) → CanBeCosted (proposal_of p first (Some second)) → IsListed p (new_list (state_of second))
second-listed p first second costed =
    All-head (IsListed p) (new_list (state_of second)) [] (All-tail (IsListed p) (new_list (state_of first)) (new_list (state_of second) ∷ []) costed.listed)
