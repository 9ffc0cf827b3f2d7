use Rattle.std.proofs.Common.{subst}
use Rattle.std.specs.Prelude.{◌≤ℤ◌}
use Rattle.penalty_cost.specs.Proposals.{ProposalState}
use Rattle.penalty_cost.specs.inside.Sides.{second_change}
use Rattle.penalty_cost.proofs.SideChanges.{same-change, second-is, second-side}
use Rattle.penalty_cost.proofs.WholeGains.{second-listed}
use Rattle.penalty_cost.proofs.proposal.Proposal.second_least_change.Goals as goal

pub least_change-requires-clause-listed : goal.least_change-requires-clause-listed
least_change-requires-clause-listed c =
    second-listed c.self.inside.given.now c.self.inside.first c.in-Some.side (rw (← c.self.view_is, c.in-Some.is) at c.requires.costed)

pub returns-in-Some-clause-least : goal.returns-in-Some-clause-least
returns-in-Some-clause-least c =
    let p = c.self.inside.given.now in
    let is = second-side p c.self.inside.first c.self.inside.second c.in-Some.side c.in-Some.is c.self.invariant in
    let own = second-is p c.args.weights c.self.inside.second c.in-Some.side c.in-Some.is is in
    rw (same-change c.least_change.result c.least_change.ensures.not_small c.least_change.ensures.not_large)
    (subst (λ (s : ProposalState). c.least_change.result ≤ℤ second_change s.problem c.args.weights s.second) c.self.view_is
    (subst (λ z. c.least_change.result ≤ℤ z) own c.least_change.ensures.least))
