use Rattle.std.proofs.Common.{◌≡◌, arith, refl, subst}
use Rattle.std.specs.Prelude.{◌+ℤ◌, ◌≤ℤ◌, pos}
use Rattle.std.proofs.lemmas.Int.{ints}
use Rattle.problem_data.specs.Reads.{RoseAtMost}
use Rattle.gain_model.specs.GainReads.{gain_reads}
use Rattle.penalty_cost.specs.Proposals.{IsItsGain, IsNoGain, ProposalState, seen_sides}
use Rattle.penalty_cost.proofs.SideChanges.{all-read, whole-is, whole-rises}
use Rattle.penalty_cost.proofs.WholeGains.{first-listed, its-gain, no-gain}
use Rattle.penalty_cost.proofs.proposal.Proposal.improving.Goals as goal

pub change-first-requires-clause-listed : goal.change-first-requires-clause-listed
change-first-requires-clause-listed c = first-listed c.self.inside.given.now c.self.inside.first c.self.inside.second (rw (← c.self.view_is) at c.requires.costed)

pub returns-then-first-second_least_change-ge0-clause-gain : goal.returns-then-first-second_least_change-ge0-clause-gain
returns-then-first-second_least_change-ge0-clause-gain c =
    let p = c.self.inside.given.now in
    let first = c.self.inside.first in
    let second = c.self.inside.second in
    let one = c.change-first.ensures in
    let least = c.second_least_change.ensures in
    let sum : pos 0 ≤ℤ (c.change-first.result +ℤ c.second_least_change.result) = omega (arith, ints, c.if-first-second_least_change-ge0.true, one.not_small, one.not_large, least.not_small, least.not_large) in
    subst (λ (s : ProposalState). IsNoGain c.args.weights s) c.self.view_is
    (no-gain p c.args.weights first second c.self.invariant (rw (← c.self.view_is) at c.requires.costed)
    (whole-rises p c.args.weights first second c.change-first.result c.second_least_change.result c.self.invariant.0 one.value (rw (← c.self.view_is) at least.least) sum))

pub returns-then-amount-ge0-clause-gain : goal.returns-then-amount-ge0-clause-gain
returns-then-amount-ge0-clause-gain c =
    let p = c.self.inside.given.now in
    let first = c.self.inside.first in
    let second = c.self.inside.second in
    let one = c.change-first.ensures in
    let two = c.second_change.ensures in
    let sum : pos 0 ≤ℤ (c.change-first.result +ℤ c.second_change.result) = omega (arith, ints, c.if-amount-ge0.true, one.not_small, one.not_large, two.not_small, two.not_large) in
    let amount = whole-is p c.args.weights first second c.change-first.result c.second_change.result _ c.self.invariant.0 one.value (rw (← c.self.view_is) at two.value) refl in
    subst (λ (s : ProposalState). IsNoGain c.args.weights s) c.self.view_is
    (no-gain p c.args.weights first second c.self.invariant (rw (← c.self.view_is) at c.requires.costed) (subst (λ z. pos 0 ≤ℤ z) amount sum))

pub returns-then-amount-ge0-clause-reads : goal.returns-then-amount-ge0-clause-reads
returns-then-amount-ge0-clause-reads c =
    subst (λ (s : ProposalState). RoseAtMost (gain_reads (seen_sides s)) c.args.reads.now c.second_change.new.reads) c.self.view_is
    (all-read c.self.inside.given.now c.self.inside.first c.self.inside.second c.args.reads.now c.change-first.new.reads c.second_change.new.reads c.self.invariant.0
    c.change-first.ensures.reads (rw (← c.self.view_is) at c.second_change.ensures.reads))

pub returns-clause-gain : goal.returns-clause-gain
returns-clause-gain c =
    let p = c.self.inside.given.now in
    let first = c.self.inside.first in
    let second = c.self.inside.second in
    let one = c.change-first.ensures in
    let two = c.second_change.ensures in
    let sum : c.gain_of.result.amount ≡ c.change-first.result +ℤ c.second_change.result = omega (arith, ints, c.gain_of.ensures.amount, one.not_small, one.not_large, two.not_small, two.not_large) in
    let amount = whole-is p c.args.weights first second c.change-first.result c.second_change.result c.gain_of.result.amount c.self.invariant.0 one.value (rw (← c.self.view_is) at two.value) sum in (
      subst (λ (s : ProposalState). IsItsGain c.args.weights s c.gain_of.result) c.self.view_is
          (its-gain p c.args.weights first second c.gain_of.result c.self.invariant (rw (← c.self.view_is) at c.requires.costed) (rw (← c.self.view_is) at c.gain_of.ensures.sides) amount),
      omega (arith, ints, c.gain_of.ensures.amount, c.if-amount-ge0.false),
    )

pub returns-clause-reads : goal.returns-clause-reads
returns-clause-reads c =
    subst (λ (s : ProposalState). RoseAtMost (gain_reads (seen_sides s)) c.args.reads.now c.second_change.new.reads) c.self.view_is
    (all-read c.self.inside.given.now c.self.inside.first c.self.inside.second c.args.reads.now c.change-first.new.reads c.second_change.new.reads c.self.invariant.0
    c.change-first.ensures.reads (rw (← c.self.view_is) at c.second_change.ensures.reads))
