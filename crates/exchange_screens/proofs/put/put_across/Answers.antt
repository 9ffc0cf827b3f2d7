use Rattle.std.proofs.Common.{List, subst}
use Rattle.problem_data.specs.declared.visit.Visit.{Visit}
use Rattle.list_changes.specs.Gaps.{IsGap}
use Rattle.exchange_screens.proofs.Changes.{across-change}
use Rattle.exchange_screens.proofs.put.put_across.Goals as goal

pub returns : goal.returns
returns c =
    rw c.span.ensures (across-change c.args.search.now c.route.ensures.sound c.args.trial c.requires.some c.requires.few c.args.piece c.requires.piece c.requires.alone c.args.aim c.requires.aim c.gap_of-gap.result
    (subst (λ (xs : List Visit). IsGap xs c.args.piece.first c.args.piece.end c.gap_of-gap.result) c.route.ensures.visits c.gap_of-gap.ensures) c.requires.apart)
