use Rattle.std.proofs.Common.{arith}
use Rattle.list_changes.proofs.DearMoves.{dear-move, lawful-plan}
use Rattle.list_changes.proofs.MoveAnswers.{improved-answer}
use Rattle.tail_changes.specs.Tails.{tail_candidate}
use Rattle.node_moves.proofs.swap_tails.answer.Goals as goal

pub returns-then-is_dear-clause-answer : goal.returns-then-is_dear-clause-answer
returns-then-is_dear-clause-answer c =
    dear-move c.args.search.now (tail_candidate c.args.client c.args.target) c.in_ok-change.change c.in_ok-change.ensures.move (c.is_dear.ensures.dear c.if-is_dear.true)

pub returns-then-is_dear-clause-reads : goal.returns-then-is_dear-clause-reads
returns-then-is_dear-clause-reads c =
    let few = c.in_ok-change.ensures.few in
    let screened = c.is_dear.ensures.reads in
    record { kept = screened.kept; most = omega (arith, screened.most, few) }

pub improving_gain-requires-clause-lawful : goal.improving_gain-requires-clause-lawful
improving_gain-requires-clause-lawful c = lawful-plan c.args.search.now (tail_candidate c.args.client c.args.target) c.in_ok-change.change c.in_ok-change.ensures.move

pub returns-clause-answer : goal.returns-clause-answer
returns-clause-answer c =
    improved-answer c.args.search.now (tail_candidate c.args.client c.args.target) c.in_ok-change.change c.in_ok-change.ensures.move c.improving_gain.result c.improving_gain.ensures.gain

pub returns-clause-reads : goal.returns-clause-reads
returns-clause-reads c =
    let few = c.in_ok-change.ensures.few in
    let screened = c.is_dear.ensures.reads in
    let read = c.improving_gain.ensures.reads in
    record { kept = omega (arith, screened.kept, read.kept); most = omega (arith, screened.most, read.most, few) }
