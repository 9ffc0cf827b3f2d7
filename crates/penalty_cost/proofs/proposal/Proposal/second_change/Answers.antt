use Rattle.std.proofs.Common.{◌≡◌, ◌∙◌, subst}
use Rattle.problem_data.specs.Reads.{RoseAtMost}
use Rattle.penalty_cost.specs.Proposals.{ProposalState}
use Rattle.penalty_cost.specs.inside.Sides.{second_change, second_reads}
use Rattle.penalty_cost.proofs.SideChanges.{same-change, second-is, second-reads-are, second-side}
use Rattle.penalty_cost.proofs.WholeGains.{second-listed}
use Rattle.penalty_cost.proofs.proposal.Proposal.second_change.Goals as goal

pub change-requires-clause-listed : goal.change-requires-clause-listed
change-requires-clause-listed c =
    second-listed c.self.inside.given.now c.self.inside.first c.in-Some.side (rw (← c.self.view_is, c.in-Some.is) at c.requires.costed)

pub returns-in-Some-clause-value : goal.returns-in-Some-clause-value
returns-in-Some-clause-value c =
    let p = c.self.inside.given.now in
    let is = second-side p c.self.inside.first c.self.inside.second c.in-Some.side c.in-Some.is c.self.invariant in
    let value = c.change.ensures.value ∙ second-is p c.args.weights c.self.inside.second c.in-Some.side c.in-Some.is is in
    same-change c.change.result c.change.ensures.not_small c.change.ensures.not_large
    ∙ subst (λ (s : ProposalState). c.change.result ≡ second_change s.problem c.args.weights s.second) c.self.view_is value

pub returns-in-Some-clause-reads : goal.returns-in-Some-clause-reads
returns-in-Some-clause-reads c =
    let p = c.self.inside.given.now in
    let is = second-side p c.self.inside.first c.self.inside.second c.in-Some.side c.in-Some.is c.self.invariant in
    let own = second-reads-are p c.self.inside.second c.in-Some.side c.in-Some.is is in
    subst (λ (s : ProposalState). RoseAtMost (second_reads s.problem s.second) c.args.reads.now c.change.new.reads) c.self.view_is
    (subst (λ n. RoseAtMost n c.args.reads.now c.change.new.reads) own c.change.ensures.reads)
