use Rattle.std.proofs.Common.{◌≡◌, arith, subst}
use Rattle.std.specs.Prelude.{◌+ℤ◌}
use Rattle.std.proofs.lemmas.Int.{ints}
use Rattle.problem_data.specs.Reads.{RoseAtMost}
use Rattle.gain_model.specs.GainReads.{gain_reads}
use Rattle.penalty_cost.specs.Proposals.{IsItsGain, ProposalState, seen_sides}
use Rattle.penalty_cost.proofs.SideChanges.{all-read, whole-is}
use Rattle.penalty_cost.proofs.WholeGains.{first-listed, its-gain}
use Rattle.penalty_cost.proofs.proposal.Proposal.gain.Goals as goal

pub change-first-requires-clause-listed : goal.change-first-requires-clause-listed
change-first-requires-clause-listed c = first-listed c.self.inside.given.now c.self.inside.first c.self.inside.second (rw (← c.self.view_is) at c.requires.costed)

pub returns-clause-gain : goal.returns-clause-gain
returns-clause-gain c =
    let p = c.self.inside.given.now in
    let first = c.self.inside.first in
    let second = c.self.inside.second in
    let not_small = c.change-first.ensures.not_small in
    let not_large = c.change-first.ensures.not_large in
    let not_small_second = c.second_change-second.ensures.not_small in
    let not_large_second = c.second_change-second.ensures.not_large in
    let sum : c.gain_of.result.amount ≡ c.change-first.result +ℤ c.second_change-second.result = omega (arith, ints, c.gain_of.ensures.amount) in
    let amount = whole-is p c.args.weights first second c.change-first.result c.second_change-second.result c.gain_of.result.amount c.self.invariant.0 c.change-first.ensures.value
    (rw (← c.self.view_is) at c.second_change-second.ensures.value) sum in
    subst (λ (s : ProposalState). IsItsGain c.args.weights s c.gain_of.result) c.self.view_is
    (its-gain p c.args.weights first second c.gain_of.result c.self.invariant (rw (← c.self.view_is) at c.requires.costed) (rw (← c.self.view_is) at c.gain_of.ensures.sides) amount)

pub returns-clause-reads : goal.returns-clause-reads
returns-clause-reads c =
    subst (λ (s : ProposalState). RoseAtMost (gain_reads (seen_sides s)) c.args.reads.now c.second_change-second.new.reads) c.self.view_is
    (all-read c.self.inside.given.now c.self.inside.first c.self.inside.second c.args.reads.now c.change-first.new.reads c.second_change-second.new.reads c.self.invariant.0
    c.change-first.ensures.reads (rw (← c.self.view_is) at c.second_change-second.ensures.reads))
