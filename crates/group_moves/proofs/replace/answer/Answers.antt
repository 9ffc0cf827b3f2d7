use Rattle.std.proofs.Common.{arith}
use Rattle.search_model.specs.declared.candidate.Candidate.TheVariants.{Node}
use Rattle.search_model.specs.declared.candidate.Target.TheVariants.{After}
use Rattle.search_model.specs.declared.kind.Kind.TheVariants as kind
use Rattle.new_lists.specs.declared.new_list.NewLists.TheVariants.{One}
use Rattle.new_lists.proofs.ListAnswers.{lists-answer}
use Rattle.group_moves.proofs.replace.answer.Goals as goal

pub returns-clause-answer : goal.returns-clause-answer
returns-clause-answer c =
    lists-answer c.args.search.now (Node kind.Replace c.args.client (After c.args.other)) (One c.in_ok-list.list) c.in_ok-list.ensures.makes c.improving_gain.result c.improving_gain.ensures.gain

pub returns-clause-reads : goal.returns-clause-reads
returns-clause-reads c =
    let few = c.in_ok-list.ensures.few in
    let read = c.improving_gain.ensures.reads in
    record { kept = read.kept; most = omega (arith, read.most, few) }
