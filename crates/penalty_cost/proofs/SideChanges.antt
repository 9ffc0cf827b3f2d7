-- The changes of a proposal's sides, and the legs that are read for them.
use Rattle.std.proofs.Common.{◌≡◌, ℕ, ◌+◌, [], ◌∷◌, sym, ◌∙◌, ap, ap₂, arith, of_z, to_z, Option, Some, None, ℤ, pos, ◌+ℤ◌, ◌≤ℤ◌}
use Rattle.std.specs.Prelude.{map, option_map}
use Rattle.std.specs.Int.{w128}
use Rattle.std.proofs.lemmas.Int.{ints}
use Rattle.std.proofs.lemmas.List.Sums.{sum_by-cons}
use Rattle.problem_data.specs.declared.problem.Problem.{Problem}
use Rattle.problem_data.specs.declared.problem.VehicleType.{VehicleType}
use Rattle.problem_data.specs.Reads.{RoseAtMost}
use Rattle.routing_model.specs.declared.weights.Weights.{Weights}
use Rattle.gain_model.specs.GainReads.{gain_reads, side_reads}
use Rattle.joined_views.specs.Views.{lent_by, seen_view, views_reads}
use Rattle.penalty_cost.specs.declared.proposed_side.ProposedSide.{ProposedSide}
use Rattle.penalty_cost.specs.Proposals.{seen_side, seen_sides}
use Rattle.penalty_cost.specs.inside.ProposedSides.{AreSides, IsProposedSide, IsSecond, proposal_of, state_of}
use Rattle.penalty_cost.specs.inside.Sides.{change_of, most_change, second_change, second_reads, side_change, whole_change}

-- a change as the code hands it on
pub same-change : (z : ℤ) → pos 0 ≤ℤ (pos most_change +ℤ z) → z ≤ℤ pos most_change → to_z w128 (of_z w128 z) ≡ z
same-change z not_small not_large = omega (arith, ints)

-- the change of a side by the type that is kept
abbrev pub kept_change : Problem → Weights → ProposedSide → ℤ
kept_change p w side = change_of p w side.vehicle_type.now side.visits.now (lent_by side.views.items)

pub change-is : (p : Problem) (w : Weights) (side : ProposedSide) → IsProposedSide p side → kept_change p w side ≡ side_change p w (state_of side)
change-is p w side is = ap (λ (t : VehicleType). change_of p w t side.visits.now (lent_by side.views.items)) is.is_side.is_type

-- likewise the legs that are read of it
abbrev pub kept_reads : Problem → ProposedSide → ℕ
kept_reads p side = views_reads p side.vehicle_type.now side.views.items

pub reads-are : (p : Problem) (side : ProposedSide) → IsProposedSide p side → kept_reads p side ≡ side_reads (seen_side p (state_of side))
reads-are p side is = ap (λ (t : VehicleType). side_reads (record { profile = t.profile; views = map (seen_view p) side.views.items })) is.is_side.is_type

-- a second side's change, and its legs
pub second-is : (p : Problem) (w : Weights) (second : Option ProposedSide) (side : ProposedSide) → second ≡ Some side → IsProposedSide p side →
    kept_change p w side ≡ second_change p w (option_map state_of second)
second-is p w second side there is = change-is p w side is ∙ ap (λ (s : Option ProposedSide). second_change p w (option_map state_of s)) (sym there)

pub second-reads-are : (p : Problem) (second : Option ProposedSide) (side : ProposedSide) → second ≡ Some side → IsProposedSide p side →
    kept_reads p side ≡ second_reads p (option_map state_of second)
second-reads-are p second side there is = reads-are p side is ∙ ap (λ (s : Option ProposedSide). second_reads p (option_map state_of s)) (sym there)

pub second-side : (p : Problem) (first : ProposedSide) (second : Option ProposedSide) (side : ProposedSide) → second ≡ Some side → AreSides p first second → IsProposedSide p side
second-side p first second side there are = typed (rw there at are.1)
  where
    typed : IsSecond p first (Some side) → IsProposedSide p side
    typed h = h.0

-- the legs of both sides
both-reads : (p : Problem) (first : ProposedSide) (second : Option ProposedSide) →
    gain_reads (seen_sides (proposal_of p first second)) ≡ side_reads (seen_side p (state_of first)) + second_reads p (option_map state_of second)
both-reads p first None = sum_by-cons side_reads (seen_side p (state_of first)) []
both-reads p first (Some second) =
    let one = sum_by-cons side_reads (seen_side p (state_of first)) (seen_side p (state_of second) ∷ []) in
    let two = sum_by-cons side_reads (seen_side p (state_of second)) [] in
    omega arith

pub all-read : (p : Problem) (first : ProposedSide) (second : Option ProposedSide) (before between after : ℕ) → IsProposedSide p first → RoseAtMost (kept_reads p first) before between →
    RoseAtMost (second_reads p (option_map state_of second)) between after → RoseAtMost (gain_reads (seen_sides (proposal_of p first second))) before after
all-read p first second before between after is one two =
    let both = both-reads p first second in
    let own = reads-are p first is in
    record { kept = omega (arith, one.kept, two.kept); most = omega (arith, one.most, two.most) }

-- a sum of both changes is the change of the proposal
pub whole-is : (p : Problem) (w : Weights) (first : ProposedSide) (second : Option ProposedSide) (one two both : ℤ) → IsProposedSide p first → one ≡ kept_change p w first →
    two ≡ second_change p w (option_map state_of second) → both ≡ one +ℤ two → both ≡ whole_change w (proposal_of p first second)
whole-is p w first second one two both is is_one is_two sum = sum ∙ ap₂ (λ (x y : ℤ). x +ℤ y) (is_one ∙ change-is p w first is) is_two

-- where the first change and the least that the second can be aren't below 0 together, the change of the proposal isn't either
pub whole-rises : (p : Problem) (w : Weights) (first : ProposedSide) (second : Option ProposedSide) (one least : ℤ) → IsProposedSide p first → one ≡ kept_change p w first →
    least ≤ℤ second_change p w (option_map state_of second) → pos 0 ≤ℤ (one +ℤ least) → pos 0 ≤ℤ whole_change w (proposal_of p first second)
whole-rises p w first second one least is is_one small h = let own = change-is p w first is in omega (arith, ints)
