use Rattle.std.proofs.Common.{arith}
use Rattle.exchange_screens.specs.Trials.{candidate_of}
use Rattle.exchange_screens.proofs.DearTrials.{dear-answer}
use Rattle.list_changes.proofs.DearMoves.{lawful-plan}
use Rattle.list_changes.proofs.MoveAnswers.{improved-answer}
use Rattle.node_moves.proofs.FewReads.{few-improve}
use Rattle.node_moves.proofs.exchange.answer.Goals as goal

pub returns-then-is_dear-clause-answer : goal.returns-then-is_dear-clause-answer
returns-then-is_dear-clause-answer c = dear-answer c.args.search.now c.args.trial c.in_ok-change.change c.in_ok-change.ensures (c.is_dear.ensures.dear c.if-is_dear.true)

pub improving_gain-requires-clause-lawful : goal.improving_gain-requires-clause-lawful
improving_gain-requires-clause-lawful c = lawful-plan c.args.search.now (candidate_of c.args.trial) c.in_ok-change.change c.in_ok-change.ensures.move

pub returns-clause-answer : goal.returns-clause-answer
returns-clause-answer c = improved-answer c.args.search.now (candidate_of c.args.trial) c.in_ok-change.change c.in_ok-change.ensures.move c.improving_gain.result c.improving_gain.ensures.gain

pub returns-clause-reads : goal.returns-clause-reads
returns-clause-reads c =
    let few = few-improve c.args.search.now c.in_ok-change.change c.in_ok-change.ensures.few in
    let screened = c.is_dear.ensures.reads in
    let read = c.improving_gain.ensures.reads in
    record { kept = omega (arith, screened.kept, read.kept); most = omega (arith, screened.most, read.most, few) }
