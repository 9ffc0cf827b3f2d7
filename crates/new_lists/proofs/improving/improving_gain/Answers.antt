use Rattle.std.proofs.Common.{◌≤◌, sym, subst, arith}
use Rattle.gain_model.specs.GainReads.{gain_reads}
use Rattle.penalty_cost.specs.Proposals.{CanBeCosted, IsImproving, ProposalState, seen_sides}
use Rattle.routing_model.specs.declared.weights.Weights.{Weights}
use Rattle.new_lists.specs.Reads.{improve_reads}
use Rattle.new_lists.proofs.ImprovedLists.{costed, few-reads, improvement}
use Rattle.new_lists.proofs.improving.improving_gain.Goals as goal

pub improving-requires-clause-costed : goal.improving-requires-clause-costed
improving-requires-clause-costed c =
    subst CanBeCosted (sym c.proposed-proposal.ensures.proposal) (costed c.args.search.now c.weights.ensures.sound c.args.lists c.requires.lists c.requires.lawful)

pub returns-clause-gain : goal.returns-clause-gain
returns-clause-gain c =
    let s = c.args.search.now in
    improvement s c.weights.ensures.sound c.args.lists c.requires.lists c.requires.lawful c.improving.result
    (subst (λ (q : ProposalState). IsImproving s.weights q c.improving.result) c.proposed-proposal.ensures.proposal
    (subst (λ (w : Weights). IsImproving w c.proposed-proposal.result c.improving.result) c.weights.ensures.weights c.improving.ensures.gain))

pub returns-clause-reads : goal.returns-clause-reads
returns-clause-reads c =
    let few = few-reads c.args.search.now c.weights.ensures.sound c.args.lists c.requires.lists c.requires.lawful in
    let most = subst (λ (q : ProposalState). gain_reads (seen_sides q) ≤ improve_reads c.args.search.now c.args.lists) (sym c.proposed-proposal.ensures.proposal) few in
    let laid = c.proposed-proposal.ensures.reads in
    let read = c.improving.ensures.reads in
    record { kept = omega (arith, laid.kept, read.kept); most = omega (arith, laid.most, read.most, most) }
