use Rattle.std.proofs.Common.{◌≡◌, true, sym, ap, subst, arith}
use Rattle.routing_model.specs.Lawful.{is_lawful}
use Rattle.new_lists.specs.declared.new_list.NewLists.{NewLists}
use Rattle.new_lists.specs.Improvements.{IsImprovement}
use Rattle.new_lists.specs.NewLists.{AreNewLists, plan_of}
use Rattle.new_lists.specs.Reads.{improve_reads}
use Rattle.new_lists.proofs.ListAnswers.{lists-answer}
use Rattle.route_moves.specs.inside.Stars.{star_candidate, star_lists}
use Rattle.route_moves.proofs.StarMoves.{star-makes}
use Rattle.route_moves.proofs.StarReads.{star-improves, star-room}
use Rattle.route_moves.proofs.swap_star.answer.Goals as goal

pub improving_gain-requires-clause-lists : goal.improving_gain-requires-clause-lists
improving_gain-requires-clause-lists c =
    let is = c.in_ok-pair.ensures.pair in
    subst (AreNewLists c.args.search.now) (sym c.lists_of.ensures) (star-makes c.args.search.now c.soundness.ensures c.args.first c.args.second is.may c.in_ok-pair.pair is).new

pub improving_gain-requires-clause-lawful : goal.improving_gain-requires-clause-lawful
improving_gain-requires-clause-lawful c =
    let s = c.args.search.now in
    let is = c.in_ok-pair.ensures.pair in
    subst (λ (lists : NewLists). is_lawful s.problem (plan_of s.routes lists) ≡ true) (sym c.lists_of.ensures) (star-makes s c.soundness.ensures c.args.first c.args.second is.may c.in_ok-pair.pair is).lawful

pub returns-clause-answer : goal.returns-clause-answer
returns-clause-answer c =
    let s = c.args.search.now in
    let is = c.in_ok-pair.ensures.pair in
    lists-answer s (star_candidate c.args.first c.args.second) (star_lists c.args.first c.args.second c.in_ok-pair.pair)
    (star-makes s c.soundness.ensures c.args.first c.args.second is.may c.in_ok-pair.pair is) c.improving_gain.result
    (subst (λ (lists : NewLists). IsImprovement s lists c.improving_gain.result) c.lists_of.ensures c.improving_gain.ensures.gain)

pub returns-clause-reads : goal.returns-clause-reads
returns-clause-reads c =
    let s = c.args.search.now in
    let few = star-improves s c.args.first c.args.second c.in_ok-pair.pair in
    let same : improve_reads s c.lists_of.result ≡ improve_reads s (star_lists c.args.first c.args.second c.in_ok-pair.pair) = ap (improve_reads s) c.lists_of.ensures in
    let room = star-room s c.args.first c.args.second in
    let found = c.in_ok-pair.ensures.reads in
    let read = c.improving_gain.ensures.reads in
    record { kept = omega (arith, found.kept, read.kept); most = omega (arith, found.most, read.most, few, same, room) }
